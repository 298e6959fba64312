-- Each row is gone, so no slot has a window, and no block has a live owner.
use Rattle.std.proofs.Common.{◌≡◌, ℕ, None, ap, sym, subst}
use Rattle.arc_block.specs.declared.block.TheConstants.{MAX_OWNERS}
use Rattle.arc_block.specs.Table.{row_at}
use Rattle.arc_commands.specs.State.{State}
use Rattle.arc_slots.proofs.Index.{places-gone}
use Rattle.arc_slots.specs.Index.{windows_of}
use Rattle.arc_slots.proofs.Ended.{slots-gone, kept-gone-all}
use Rattle.arc_table.proofs.table.Table.end.Goals as goal

pub end_slots-requires : goal.end_slots-requires
end_slots-requires g c =
    let none =
    subst (λ (o : State g.row.S-Item.Denot g.row.M.Denot). (i : ℕ) → row_at o.table i ≡ None)
    (sym c.self.view_is)
    c.release_all.ensures.passes.none_left in
    places-gone c.self.inside.slots.index.items c.self.inside.slots.numbers.items
    c.self.inside.slots.places.items c.self.invariant.1
    (slots-gone (windows_of c.self.inside.slots.index.items c.self.inside.slots.numbers.items
    c.self.inside.slots.places.items) none)

pub returns-clause-ended : goal.returns-clause-ended
returns-clause-ended g c =
    let none =
    subst (λ (o : State g.row.S-Item.Denot g.row.M.Denot). (i : ℕ) → row_at o.table i ≡ None)
    (sym c.self.view_is)
    c.release_all.ensures.passes.none_left in
    kept-gone-all MAX_OWNERS (windows_of c.self.inside.slots.index.items
    c.self.inside.slots.numbers.items
    c.self.inside.slots.places.items) c.self.inside.passes.of_blocks.items
    c.self.invariant.0.0
    (slots-gone (windows_of c.self.inside.slots.index.items c.self.inside.slots.numbers.items
    c.self.inside.slots.places.items) none)

pub returns-clause-passes : goal.returns-clause-passes
returns-clause-passes g c = (
  c.release_all.new.self,
  c.release_all.ensures.passes,
  sym (ap (λ (o : State g.row.S-Item.Denot g.row.M.Denot). o.standing.passes) c.self.view_is),
)
