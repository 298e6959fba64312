-- The range is handed out beside the window.
use Rattle.std.proofs.Common.{refl, sym, ◌∙◌}
use Rattle.std.specs.Mem.{type_size}
use Rattle.arc_block.specs.LayoutFacts.{layout_facts}
use Rattle.arc_commands.specs.Changes.{Setting, setting_of}
use Rattle.arc_slots.proofs.HandedOut.{hand-alloc, hand-beside, hand-refused, no-range}
use Rattle.arc_slots.proofs.HandedOut.{range-kind, ranges}
use Rattle.arc_slots.proofs.slot.Slot.hand_out_range.Given.{Over}
use Rattle.arc_slots.proofs.slot.Slot.hand_out_range.Goals as goal

abbrev setting : (g : Over) → Setting g.row.S-Item.Denot
setting g =
    setting_of (layout_facts g.L.Layout) g.L.Writable.Layout.ANY g.L.Layout.clone_wants
    g.S.Slice.DROPS g.S.Subsliceable.boundary
    (type_size g.row.S-Item) g.S.Zero.ZeroOf.zero g.S.Calls.CallsOf.calls

pub returns-then-is_writer-clause-refused : goal.returns-then-is_writer-clause-refused
returns-then-is_writer-clause-refused g c next i =
    range-kind (setting g) next c.args.self.now c.args.passes.now.of_blocks.items i c.args.start
    c.args.end (sym c.is_writer.ensures ∙ c.if-is_writer.true)

pub returns-in-Ok-clause-made : goal.returns-in-Ok-clause-made
returns-in-Ok-clause-made g c next i =
    let s = c.args.self.now in
    let passes = c.args.passes.now.of_blocks.items in
    hand-beside (setting g) next s passes
    (ranges (setting g) next s passes c.known_role.ensures
    (sym c.is_writer.ensures ∙ c.if-is_writer.false) i c.args.start c.args.end
    (sym c.check_range.ensures.answer ∙ c.in_default.is)) c.requires
    c.try_subslice.new.passes.of_blocks.items c.in-Ok.slot s refl
    record {
      same_is = refl;
      made_is = c.in-Ok.ensures.row;
      owner = refl;
      added = c.in-Ok.ensures.stand;
    }

pub returns-in-Err-try_subslice-clause-refused : goal.returns-in-Err-try_subslice-clause-refused
returns-in-Err-try_subslice-clause-refused g c next i =
    let s = c.args.self.now in
    let passes = c.args.passes.now.of_blocks.items in
    hand-refused (setting g) next s passes
    (ranges (setting g) next s passes c.known_role.ensures
    (sym c.is_writer.ensures ∙ c.if-is_writer.false) i c.args.start c.args.end
    (sym c.check_range.ensures.answer ∙ c.in_default.is)) c.requires
    c.try_subslice.new.passes.of_blocks.items c.in-Err-try_subslice.e
    c.in-Err-try_subslice.ensures.refused

pub returns-then-not-has_room-clause-refused : goal.returns-then-not-has_room-clause-refused
returns-then-not-has_room-clause-refused g c next i =
    let s = c.args.self.now in
    let passes = c.args.passes.now.of_blocks.items in
    hand-alloc (setting g) next s passes
    (ranges (setting g) next s passes c.known_role.ensures
    (sym c.is_writer.ensures ∙ c.if-is_writer.false) i c.args.start c.args.end
    (sym c.check_range.ensures.answer ∙ c.in_default.is))

pub returns-in-Err-clause-refused : goal.returns-in-Err-clause-refused
returns-in-Err-clause-refused g c next i =
    no-range (setting g) next c.args.self.now c.args.passes.now.of_blocks.items
    c.known_role.ensures (sym c.is_writer.ensures ∙ c.if-is_writer.false) i c.args.start c.args.end
    c.in-Err.e (sym c.check_range.ensures.answer ∙ c.in-Err.is)
