-- What is taken out of the window that was in the place has the places of its row's block.
use Rattle.std.proofs.Common.{Option, sym, ◌∙◌, subst}
use Rattle.std.specs.Option.{option_map}
use Rattle.arc_slots.specs.Places.{TakesPlaces, WrapsPlaces}
use Rattle.arc_slots.specs.Slots.{SlotView, row_of}
use Rattle.arc_slots.proofs.command.answer.Goals as goal

pub returns-then-is_turning-clause-places : goal.returns-then-is_turning-clause-places
returns-then-is_turning-clause-places g c =
    subst (λ (place : Option (SlotView g.row.S-Item.Denot g.row.M.Denot)).
    TakesPlaces (WrapsPlaces g.S.Items.Wraps.wraps) g.B.Buffer.places (λ _. option_map row_of place)
    c.args.command c.turn-reply.result.0) (sym c.in-Some.is ∙ c.replace.ensures.value)
    c.turn-reply.ensures.places
