-- A window of either role is shown, and it takes no memory.
use Rattle.arc_block.specs.LayoutFacts.{layout_facts}
use Rattle.std.specs.Mem.{type_size}
use Rattle.std.proofs.Common.{refl, sym, ◌∙◌, subst}
use Rattle.arc_commands.specs.Changes.{Setting, setting_of}
use Rattle.arc_commands.specs.declared.command.Cmd.TheVariants as command
use Rattle.arc_commands.specs.declared.command.Reply.TheVariants as reply
use Rattle.arc_slots.specs.Slots.{state_of}
use Rattle.arc_slots.specs.Index.{windows_of}
use Rattle.arc_table.proofs.Done.{Done, still-carried}
use Rattle.arc_table.proofs.Stepped.{shown-there, unanswered, unshown-there}
use Rattle.arc_table.proofs.table.Table.show_in_place.Given.{Over}
use Rattle.arc_table.proofs.table.Table.show_in_place.Goals as goal

abbrev setting : (g : Over) → Setting g.row.S-Item.Denot
setting g =
    setting_of (layout_facts g.L.Layout) g.L.Writable.Layout.ANY g.L.Layout.clone_wants
    g.S.Slice.DROPS g.S.Subsliceable.boundary
    (type_size g.row.S-Item) g.S.Zero.ZeroOf.zero g.S.Calls.CallsOf.calls

pub returns-else-not-copies-clause-carried : goal.returns-else-not-copies-clause-carried
returns-else-not-copies-clause-carried g c =
    let s = c.self.inside.slots in
    let slots = windows_of s.index.items s.numbers.items s.places.items in
    let passes = c.self.inside.passes.of_blocks.items in
    still-carried
    (subst (λ xs. Done (setting g) (state_of slots passes) (command.Show c.args.i) (reply.Items xs)
    slots passes) (sym c.as_slice.ensures)
    (shown-there (setting g) slots passes c.self.invariant.0 c.args.i c.in-Some.slot.now
    c.in-Some.ensures c.known_role.ensures (sym c.copies.ensures ∙ c.if-not-copies.false)))
    c.self.view_is c.agree.ensures.stands

pub returns-then-not-copies-clause-carried : goal.returns-then-not-copies-clause-carried
returns-then-not-copies-clause-carried g c =
    let s = c.self.inside.slots in
    still-carried
    (unshown-there (setting g) (windows_of s.index.items s.numbers.items s.places.items)
    c.self.inside.passes.of_blocks.items c.self.invariant.0 c.args.i c.in-Some.slot.now
    c.in-Some.ensures c.known_role.ensures (sym c.copies.ensures ∙ c.if-not-copies.true))
    c.self.view_is c.agree.ensures.stands

pub returns-in-None-clause-carried : goal.returns-in-None-clause-carried
returns-in-None-clause-carried g c =
    let s = c.self.inside.slots in
    still-carried
    (unanswered (setting g) (windows_of s.index.items s.numbers.items s.places.items)
    c.self.inside.passes.of_blocks.items c.self.invariant.0 c.args.i c.in-None.ensures
    (command.Show c.args.i) refl refl)
    c.self.view_is c.agree.ensures.stands
