-- The clone is handed out beside the window.
use Rattle.std.proofs.Common.{refl, sym, ◌∙◌}
use Rattle.std.specs.Mem.{type_size}
use Rattle.arc_block.specs.LayoutFacts.{layout_facts}
use Rattle.arc_commands.specs.Changes.{Setting, setting_of}
use Rattle.arc_slots.proofs.HandedOut.{clone-kind, clones, hand-alloc, hand-beside, hand-refused}
use Rattle.arc_slots.proofs.slot.Slot.hand_out_clone.Given.{Over}
use Rattle.arc_slots.proofs.slot.Slot.hand_out_clone.Goals as goal

abbrev setting : (g : Over) → Setting g.row.S-Item.Denot
setting g =
    setting_of (layout_facts g.L.Layout) g.L.Writable.Layout.ANY g.L.Layout.clone_wants
    g.S.Slice.DROPS g.S.Subsliceable.boundary
    (type_size g.row.S-Item) g.S.Zero.ZeroOf.zero g.S.Calls.CallsOf.calls

pub returns-then-is_writer-clause-refused : goal.returns-then-is_writer-clause-refused
returns-then-is_writer-clause-refused g c next i =
    clone-kind (setting g) next c.args.self.now c.args.passes.now.of_blocks.items i
    (sym c.is_writer.ensures ∙ c.if-is_writer.true)

pub returns-in-Ok-clause-made : goal.returns-in-Ok-clause-made
returns-in-Ok-clause-made g c next i =
    let s = c.args.self.now in
    let passes = c.args.passes.now.of_blocks.items in
    hand-beside (setting g) next s passes
    (clones (setting g) next s passes c.known_role.ensures
    (sym c.is_writer.ensures ∙ c.if-is_writer.false) i) c.requires
    c.try_clone.new.passes.of_blocks.items c.in-Ok.slot s refl
    record {
      same_is = refl;
      made_is = c.in-Ok.ensures.row;
      owner = refl;
      added = c.in-Ok.ensures.stand;
    }

pub returns-in-Err-clause-refused : goal.returns-in-Err-clause-refused
returns-in-Err-clause-refused g c next i =
    let s = c.args.self.now in
    let passes = c.args.passes.now.of_blocks.items in
    hand-refused (setting g) next s passes
    (clones (setting g) next s passes c.known_role.ensures
    (sym c.is_writer.ensures ∙ c.if-is_writer.false) i) c.requires
    c.try_clone.new.passes.of_blocks.items c.in-Err.e c.in-Err.ensures.refused

pub returns-then-not-has_room-clause-refused : goal.returns-then-not-has_room-clause-refused
returns-then-not-has_room-clause-refused g c next i =
    let s = c.args.self.now in
    let passes = c.args.passes.now.of_blocks.items in
    hand-alloc (setting g) next s passes
    (clones (setting g) next s passes c.known_role.ensures
    (sym c.is_writer.ensures ∙ c.if-is_writer.false) i)
