-- The window under the number ends, if there is one.
use Rattle.arc_block.specs.LayoutFacts.{layout_facts}
use Rattle.std.specs.Mem.{type_size}
use Rattle.std.proofs.Common.{◌≡◌, None, Some, is_some, map, slice_get, slice_set, refl, sym, ap}
use Rattle.std.proofs.Common.{◌∙◌, subst}
use Rattle.std.proofs.lemmas.Bool.{false≢true}
use Rattle.std.specs.Option.{option_flatten, option_map}
use Rattle.arc_commands.specs.State.{State}
use Rattle.arc_commands.specs.Changes.{Setting, setting_of}
use Rattle.arc_commands.specs.declared.command.Cmd.TheVariants as command
use Rattle.arc_commands.specs.declared.command.Reply.TheVariants as reply
use Rattle.arc_slots.specs.Slots.{row_of, stand_of, state_of}
use Rattle.arc_slots.specs.Index.{windows_of}
use Rattle.arc_slots.specs.Stands.{HasPassFor}
use Rattle.arc_slots.proofs.Index.{same-indexed, same-parts, set-indexed, set-window, unset}
use Rattle.arc_slots.proofs.Index.{window-there}
use Rattle.arc_slots.proofs.Taken.{has_block, has_life}
use Rattle.arc_table.proofs.Done.{Done, still-passes, still-rows}
use Rattle.arc_table.proofs.Stepped.{at-place, carried, ended, gone-rows, known, seen-so}
use Rattle.arc_table.proofs.Stepped.{unanswered}
use Rattle.arc_table.proofs.table.Table.release.Given.{Over}
use Rattle.arc_table.proofs.table.Table.release.Goals.{After-index_mut-window, After-settle}
use Rattle.arc_table.proofs.table.Table.release.Goals.{In_default}
use Rattle.arc_table.proofs.table.Table.release.Goals as goal

abbrev setting : (g : Over) → Setting g.row.S-Item.Denot
setting g =
    setting_of (layout_facts g.L.Layout) g.L.Writable.Layout.ANY g.L.Layout.clone_wants
    g.S.Slice.DROPS g.S.Subsliceable.boundary
    (type_size g.row.S-Item) g.S.Zero.ZeroOf.zero g.S.Calls.CallsOf.calls

-- the window under the number stands at its place
module _ (g : Over) (c : After-index_mut-window g) where
  stands : slice_get c.self.inside.slots.places.items c.in-Some.place
      ≡ Some c.index_mut-window.result.now
  stands =
      at-place c.self.inside.slots.places.items c.in-Some.place c.index_mut-window.result.now
      c.in-Some.ensures.within c.index_mut-window.ensures.value

  stood : slice_get (windows_of c.self.inside.slots.index.items
      c.self.inside.slots.numbers.items c.self.inside.slots.places.items) c.args.i
      ≡ Some c.index_mut-window.result.now
  stood =
      let s = c.self.inside.slots in
      window-there s.index.items s.numbers.items s.places.items c.args.i c.in-Some.place
      c.in-Some.ensures.told c.in-Some.ensures.whose c.index_mut-window.result.now stands

  passed : HasPassFor c.self.inside.passes.of_blocks.items (stand_of c.index_mut-window.result.now)
  passed =
      let s = c.self.inside.slots in
      known (setting g) (windows_of s.index.items s.numbers.items s.places.items)
      c.self.inside.passes.of_blocks.items c.self.invariant.0 c.args.i
      c.index_mut-window.result.now stood

-- what was put at its place stands under the number
module _ (g : Over) (c : After-settle g) where
  abbrev found : After-index_mut-window g
  found = (goal.at.invariant_of-self g c).After-index_mut-window

  ends : windows_of c.settle.new.self.index.items c.settle.new.self.numbers.items
      c.settle.new.self.places.items
      ≡ slice_set (windows_of c.self.inside.slots.index.items
      c.self.inside.slots.numbers.items c.self.inside.slots.places.items) c.args.i
      c.drop_at.new.place
  ends =
      let s = c.self.inside.slots in
      let end = c.settle.new.self in
      same-parts end.index.items s.index.items end.numbers.items s.numbers.items end.places.items
      (slice_set s.places.items c.in-Some.place c.drop_at.new.place) c.settle.ensures.index
      c.settle.ensures.numbers c.settle.ensures.places
      ∙ set-window s.index.items s.numbers.items s.places.items c.args.i c.in-Some.place
      c.in-Some.ensures.told c.in-Some.ensures.whose c.index_mut-window.result.now
      (stands g found) c.drop_at.new.place

  did : Done (setting g) c.args.self.now (command.Drop c.args.i) reply.Ok
      (windows_of c.settle.new.self.index.items c.settle.new.self.numbers.items
      c.settle.new.self.places.items) c.drop_at.new.passes.of_blocks.items
  did =
      let s = c.self.inside.slots in
      let slots = windows_of s.index.items s.numbers.items s.places.items in
      let passes = c.self.inside.passes.of_blocks.items in
      let i = c.args.i in
      let old = c.index_mut-window.result.now in
      let end = c.settle.new.self in
      let new = c.drop_at.new.place in
      let after = c.drop_at.new.passes.of_blocks.items in
      subst (λ (o : State g.row.S-Item.Denot g.row.M.Denot). Done (setting g) o (command.Drop i)
      reply.Ok
      (windows_of end.index.items end.numbers.items end.places.items) after) c.self.view_is
      (subst (λ ss. Done (setting g) (state_of slots passes) (command.Drop i) reply.Ok ss after)
      (sym ends)
      (carried (setting g) slots passes c.self.invariant.0 i old (stood g found)
      (command.Drop i) refl refl reply.Ok new
      None after (ended (setting g) slots passes c.self.invariant.0 i old reply.Ok new after
      c.drop_at.ensures.dropped
      (seen-so (λ _. reply.Ok) c.drop_at.result reply.Ok old c.drop_at.ensures.some))
      (λ none. absurd (false≢true (ap is_some (sym none)
      ∙ ap (λ o. is_some (option_flatten o)) (sym (stands g found)) ∙ c.in-Some.ensures.there)))))

pub place_of-requires : goal.place_of-requires
place_of-requires g c = c.self.invariant.1

pub drop_at-requires-clause-pass : goal.drop_at-requires-clause-pass
drop_at-requires-clause-pass g c =
    has_block c.self.inside.passes.of_blocks.items (stand_of c.index_mut-window.result.now)
    (passed g (goal.at.drop_at-requires-clause-pass g c).After-index_mut-window)

pub drop_at-requires-clause-lives : goal.drop_at-requires-clause-lives
drop_at-requires-clause-lives g c =
    has_life c.self.inside.passes.of_blocks.items (stand_of c.index_mut-window.result.now)
    (passed g (goal.at.drop_at-requires-clause-lives g c).After-index_mut-window)

pub invariant_of-self : goal.invariant_of-self
invariant_of-self g c =
    let s = c.self.inside.slots in
    let end = c.settle.new.self in
    let new = c.drop_at.new.place in
    let at = goal.at.invariant_of-self g c in (
      (did g at.After-settle).kept,
      same-indexed end.index.items s.index.items end.numbers.items s.numbers.items
          end.places.items (slice_set s.places.items c.in-Some.place new) c.settle.ensures.index
          c.settle.ensures.numbers c.settle.ensures.places
          (set-indexed s.index.items s.numbers.items s.places.items c.args.i c.in-Some.place
          c.in-Some.ensures.told c.in-Some.ensures.whose c.index_mut-window.result.now
          (stands g at.After-index_mut-window) new c.self.invariant.1),
    )

pub returns-clause-rows : goal.returns-clause-rows
returns-clause-rows g c = (did g (goal.at.returns-clause-rows g c).After-settle).rows

pub returns-clause-passes : goal.returns-clause-passes
returns-clause-passes g c = (did g (goal.at.returns-clause-passes g c).After-settle).passes_are

pub returns-clause-gone : goal.returns-clause-gone
returns-clause-gone g c =
    let s = c.self.inside.slots in
    let slots = windows_of s.index.items s.numbers.items s.places.items in
    let end = c.settle.new.self in
    subst (λ (o : State g.row.S-Item.Denot g.row.M.Denot).
    map (option_map row_of) (windows_of end.index.items end.numbers.items end.places.items)
    ≡ slice_set o.table.rows c.args.i None) c.self.view_is
    (ap (map (option_map row_of)) (ends g (goal.at.returns-clause-gone g c).After-settle)
    ∙ gone-rows slots c.args.i c.drop_at.new.place c.drop_at.ensures.gone)

-- no window has the number
none : (g : Over) (c : In_default g)
    → Done (setting g) (state_of (windows_of c.self.inside.slots.index.items
    c.self.inside.slots.numbers.items c.self.inside.slots.places.items)
    c.self.inside.passes.of_blocks.items) (command.Drop c.args.i) reply.NoWindow
    (windows_of c.self.inside.slots.index.items c.self.inside.slots.numbers.items
    c.self.inside.slots.places.items) c.self.inside.passes.of_blocks.items
none g c =
    let s = c.self.inside.slots in
    unanswered (setting g) (windows_of s.index.items s.numbers.items s.places.items)
    c.self.inside.passes.of_blocks.items c.self.invariant.0 c.args.i
    (c.place_of.ensures.none c.in_default.is) (command.Drop c.args.i) refl refl

pub returns-in_default-clause-rows : goal.returns-in_default-clause-rows
returns-in_default-clause-rows g c =
    still-rows (none g (goal.at.returns-in_default-clause-rows g c).In_default) c.self.view_is

pub returns-in_default-clause-passes : goal.returns-in_default-clause-passes
returns-in_default-clause-passes g c =
    still-passes (none g (goal.at.returns-in_default-clause-passes g c).In_default)
    c.self.view_is

pub returns-in_default-clause-gone : goal.returns-in_default-clause-gone
returns-in_default-clause-gone g c =
    let s = c.self.inside.slots in
    let slots = windows_of s.index.items s.numbers.items s.places.items in
    subst (λ (o : State g.row.S-Item.Denot g.row.M.Denot). o.table.rows
    ≡ slice_set o.table.rows c.args.i None) c.self.view_is
    (sym (sym (gone-rows slots c.args.i None refl)
    ∙ ap (map (option_map row_of))
    (unset slots c.args.i (c.place_of.ensures.none c.in_default.is))))
