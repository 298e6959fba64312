use Rattle.std.proofs.Common.{subst}
use Rattle.arc_commands.specs.Apart.{IsLawful}
use Rattle.arc_commands.specs.State.{State, Agrees}
use Rattle.arc_slots.specs.Index.{windows_of}
use Rattle.arc_table.proofs.Places.{state-agrees}
use Rattle.arc_table.proofs.table.Table.agree.Goals as goal

pub returns-clause-stands : goal.returns-clause-stands
returns-clause-stands g c =
    subst (λ (o : State g.row.S-Item.Denot g.row.M.Denot). Agrees o) c.self.view_is
    (state-agrees (windows_of c.self.inside.slots.index.items c.self.inside.slots.numbers.items
    c.self.inside.slots.places.items) c.self.inside.passes.of_blocks.items)

pub returns-clause-rows : goal.returns-clause-rows
returns-clause-rows g c =
    subst (λ (o : State g.row.S-Item.Denot g.row.M.Denot).
    IsLawful g.S.Slice.DROPS o.table) c.self.view_is c.self.invariant.0.1
