use Rattle.std.proofs.Common.{sym, ◌∙◌}
use Rattle.std.specs.Mem.{type_size}
use Rattle.arc_block.specs.LayoutFacts.{layout_facts}
use Rattle.arc_commands.specs.Changes.{Setting, setting_of}
use Rattle.arc_commands.proofs.Lists.{an_error}
use Rattle.arc_slots.specs.Writing.{seen_writing}
use Rattle.arc_slots.proofs.Answered.{no-pass, unwrote-by, wrote-by}
use Rattle.arc_slots.proofs.Same.{after-same, before-same}
use Rattle.arc_slots.proofs.slot.Slot.fill.Given.{Over}
use Rattle.arc_slots.proofs.slot.Slot.fill.Goals as goal

-- (named, since antt's search for it outgrows memory)
abbrev setting : (g : Over) → Setting g.row.S-Item.Denot
setting g =
    setting_of (layout_facts g.L.Layout) g.L.Writable.Layout.ANY g.L.Layout.clone_wants
    g.S.Slice.DROPS g.S.Subsliceable.boundary
    (type_size g.row.S-Item) g.S.Zero.ZeroOf.zero g.S.Calls.CallsOf.calls

pub returns-then-is_err : goal.returns-then-is_err
returns-then-is_err g c next i =
    after-same c.reserve_for.ensures.items
    (no-pass (setting g) next _ _ (sym c.is_written.ensures.answer ∙ c.if-not-is_written.false) i
    (seen_writing c.args.what) (sym c.may_write.ensures ∙ c.if-not-may_write.false)
    c.additional.result c.additional.ensures (sym c.wants_block-begins.ensures
    ∙ an_error c.reserve_for.result (sym c.is_err.ensures.value ∙ c.if-is_err.true)
    c.reserve_for.ensures.refused))

pub returns-in-Err : goal.returns-in-Err
returns-in-Err g c next i =
    before-same {setting = setting g} c.reserve_for.ensures.items
    (unwrote-by (setting g) next c.args.self.now c.reserve_for.new.self.of_blocks.items
    (sym c.is_written.ensures.answer ∙ c.if-not-is_written.false) i (seen_writing c.args.what)
    (sym c.may_write.ensures ∙ c.if-not-may_write.false) c.in-Err.e c.write.new.self
    c.write.new.passes.of_blocks.items c.write.result c.in-Err.is c.write.ensures)

pub returns : goal.returns
returns g c next i =
    before-same {setting = setting g} c.reserve_for.ensures.items
    (wrote-by (setting g) next c.args.self.now c.reserve_for.new.self.of_blocks.items
    (sym c.is_written.ensures.answer ∙ c.if-not-is_written.false) i (seen_writing c.args.what)
    (sym c.may_write.ensures ∙ c.if-not-may_write.false) c.write.new.self
    c.write.new.passes.of_blocks.items c.write.result c.in_default.is c.write.ensures)
