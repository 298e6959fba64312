use Rattle.std.proofs.Common.{Some, sym, subst, ◌∙◌}
use Rattle.arc_commands.proofs.Lists.{an_error}
use Rattle.arc_slots.specs.Slots.{stand_of}
use Rattle.arc_slots.specs.Stands.{HasPassFor}
use Rattle.arc_slots.proofs.HandedBeside.{no-places, split-alloc, split-made, split-memory}
use Rattle.arc_slots.proofs.HandedBeside.{split-refused}
use Rattle.arc_slots.proofs.Same.{before-same, window-same}
use Rattle.arc_slots.proofs.slot.Slot.hand_out_places.Goals as goal

pub returns-then-is_err-clause-refused : goal.returns-then-is_err-clause-refused
returns-then-is_err-clause-refused g c next i =
    before-same c.reserve_for.ensures.items
    (split-memory _ next _ _ c.requires.role i c.args.part
    (sym c.check_places.ensures.answer ∙ c.in_default.is)
    (sym c.is_on_vector.ensures
    ∙ an_error c.reserve_for.result (sym c.is_err.ensures.value ∙ c.if-is_err.true)
    c.reserve_for.ensures.refused) _ c.adds_nothing.ensures)

pub returns-in-Ok-clause-made : goal.returns-in-Ok-clause-made
returns-in-Ok-clause-made g c next i =
    before-same c.reserve_for.ensures.items
    (split-made _ next _ _ c.requires.role i c.args.part
    (sym c.check_places.ensures.answer ∙ c.in_default.is)
    (subst (λ ps. HasPassFor ps (stand_of (Some c.args.self.now)))
    (sym c.reserve_for.ensures.items) c.requires.pass) _ c.try_split_beside.new.self c.in-Ok.slot
    c.known_undropped.ensures c.in-Ok.ensures.made)

pub returns-in-Err-try_split_beside-clause-refused :
    goal.returns-in-Err-try_split_beside-clause-refused
returns-in-Err-try_split_beside-clause-refused g c next i =
    window-same c.in-Err-try_split_beside.ensures.kept
    (before-same c.reserve_for.ensures.items
    (split-refused _ next _ _ c.requires.role i c.args.part
    (sym c.check_places.ensures.answer ∙ c.in_default.is)
    (subst (λ ps. HasPassFor ps (stand_of (Some c.args.self.now)))
    (sym c.reserve_for.ensures.items) c.requires.pass) _ c.in-Err-try_split_beside.e
    c.in-Err-try_split_beside.ensures.refused))

pub returns-in-Err-clause-refused : goal.returns-in-Err-clause-refused
returns-in-Err-clause-refused g c next i =
    no-places _ next _ _ c.requires.role i c.args.part c.in-Err.e
    (sym c.check_places.ensures.answer ∙ c.in-Err.is)

pub returns-then-not-has_room-clause-refused : goal.returns-then-not-has_room-clause-refused
returns-then-not-has_room-clause-refused g c next i =
    split-alloc _ next _ _ c.requires.role i c.args.part
    (sym c.check_places.ensures.answer ∙ c.in_default.is)
