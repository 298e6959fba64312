-- A part of a reader is handed out; or the window itself, and the part stays under its number.
use Rattle.std.specs.Mem.{type_size}
use Rattle.arc_block.specs.LayoutFacts.{layout_facts}
use Rattle.arc_commands.specs.Changes.{Setting, setting_of}
use Rattle.std.proofs.Common.{inl, inr, sym, ap, ◌∙◌}
use Rattle.std.proofs.lemmas.Bool.{cases_Bool}
use Rattle.arc_buffer.specs.Slice.{edge_answer}
use Rattle.arc_slots.specs.Parts.{is_itself}
use Rattle.arc_slots.specs.Slots.{row_of}
use Rattle.arc_slots.proofs.HandedOut.{hand-alloc, hand-beside, hand-itself, hand-refused}
use Rattle.arc_slots.proofs.HandedOut.{no-split, split-kind, splits}
use Rattle.arc_slots.proofs.Same.{window-same}
use Rattle.arc_slots.proofs.slot.Slot.hand_out_split.Given.{Over}
use Rattle.arc_slots.proofs.slot.Slot.hand_out_split.Goals as goal

abbrev setting : (g : Over) → Setting g.row.S-Item.Denot
setting g =
    setting_of (layout_facts g.L.Layout) g.L.Writable.Layout.ANY g.L.Layout.clone_wants
    g.S.Slice.DROPS g.S.Subsliceable.boundary
    (type_size g.row.S-Item) g.S.Zero.ZeroOf.zero g.S.Calls.CallsOf.calls

pub returns-then-not-is_read-clause-refused : goal.returns-then-not-is_read-clause-refused
returns-then-not-is_read-clause-refused g c next i =
    split-kind (setting g) next c.args.self.now c.args.passes.now.of_blocks.items i c.args.part
    c.known_role.ensures (sym c.is_several.ensures.answer ∙ c.if-is_several.false)
    (sym c.is_read.ensures.answer ∙ c.if-not-is_read.true)

pub returns-in-Err-clause-refused : goal.returns-in-Err-clause-refused
returns-in-Err-clause-refused g c next i =
    let s = c.args.self.now in
    no-split (setting g) next s c.args.passes.now.of_blocks.items
    (c.is_read.ensures.reads c.if-not-is_read.false) i c.args.part c.in-Err.e
    (ap (edge_answer g.S.Subsliceable.boundary s.window.items) (sym c.at.ensures)
    ∙ sym c.check_at.ensures.answer ∙ c.in-Err.is)

pub returns-then-not-has_room-clause-refused : goal.returns-then-not-has_room-clause-refused
returns-then-not-has_room-clause-refused g c next i =
    let s = c.args.self.now in
    let passes = c.args.passes.now.of_blocks.items in
    hand-alloc (setting g) next s passes
    (splits (setting g) next s passes (c.is_read.ensures.reads c.if-not-is_read.false) i c.args.part
    (ap (edge_answer g.S.Subsliceable.boundary s.window.items) (sym c.at.ensures)
    ∙ sym c.check_at.ensures.answer ∙ c.in_default.is))

pub returns-in-Ok-clause-made : goal.returns-in-Ok-clause-made
returns-in-Ok-clause-made g c next i =
    let s = c.args.self.now in
    let passes = c.args.passes.now.of_blocks.items in
    let after = c.try_part.new.passes.of_blocks.items in
    let hands =
    splits (setting g) next s passes (c.is_read.ensures.reads c.if-not-is_read.false) i c.args.part
    (ap (edge_answer g.S.Subsliceable.boundary s.window.items) (sym c.at.ensures)
    ∙ sym c.check_at.ensures.answer ∙ c.in_default.is) in
    elim (cases_Bool (is_itself (row_of s) c.args.part)) [
      | inl all ↦
          hand-itself (setting g) next s passes hands c.requires after c.in-Ok.slot
          c.try_part.new.self all (c.in-Ok.ensures.itself all)
      | inr other ↦
          hand-beside (setting g) next s passes hands c.requires after c.in-Ok.slot
          c.try_part.new.self other (c.in-Ok.ensures.beside other)
    ]

pub returns-in-Err-try_part-clause-refused : goal.returns-in-Err-try_part-clause-refused
returns-in-Err-try_part-clause-refused g c next i =
    let s = c.args.self.now in
    let passes = c.args.passes.now.of_blocks.items in
    window-same c.in-Err-try_part.ensures.kept
    (hand-refused (setting g) next s passes
    (splits (setting g) next s passes (c.is_read.ensures.reads c.if-not-is_read.false) i c.args.part
    (ap (edge_answer g.S.Subsliceable.boundary s.window.items) (sym c.at.ensures)
    ∙ sym c.check_at.ensures.answer ∙ c.in_default.is)) c.requires
    c.try_part.new.passes.of_blocks.items c.in-Err-try_part.e c.in-Err-try_part.ensures.refused)
