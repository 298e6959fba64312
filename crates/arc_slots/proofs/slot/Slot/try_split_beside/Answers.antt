-- A window of a vector is the first owner of its new block, which has room for another.
use Rattle.std.proofs.Common.{◌∙◌, Some, sym, subst}
use Rattle.std.specs.Prelude.{IfErr, IfOk}
use Rattle.arc_slots.specs.Several.{RefusesIf, SplitsIf}
use Rattle.arc_slots.specs.Slots.{row_of, stand_of}
use Rattle.arc_slots.proofs.Parted.{founded-has, founded-splits}
use Rattle.arc_slots.proofs.slot.Slot.try_split_beside.Goals as goal

pub returns-then-not-is_on_vector-clause-made : goal.returns-then-not-is_on_vector-clause-made
returns-then-not-is_on_vector-clause-made g c =
    subst (λ v. IfOk c.split_places.result (λ handed. SplitsIf v c.args.part c.args.self.now
    c.split_places.new.self handed c.args.passes.now.of_blocks.items
    c.split_places.new.passes.of_blocks.items))
    (sym (sym c.is_on_vector.ensures ∙ c.if-not-is_on_vector.true)) c.split_places.ensures.made

pub returns-then-not-is_on_vector-clause-refused : goal.returns-then-not-is_on_vector-clause-refused
returns-then-not-is_on_vector-clause-refused g c =
    let s = c.args.self.now in
    subst (λ v. IfErr c.split_places.result (RefusesIf v (row_of s).place (stand_of (Some s))
    c.args.passes.now.of_blocks.items c.split_places.new.passes.of_blocks.items))
    (sym (sym c.is_on_vector.ensures ∙ c.if-not-is_on_vector.true)) c.split_places.ensures.refused

pub returns-in-Err-clause-refused : goal.returns-in-Err-clause-refused
returns-in-Err-clause-refused g c =
    let s = c.args.self.now in
    subst (λ v. RefusesIf v (row_of s).place (stand_of (Some s)) c.args.passes.now.of_blocks.items
    c.leave_vector.new.passes.of_blocks.items c.in-Err.e)
    (sym (sym c.is_on_vector.ensures ∙ c.if-not-is_on_vector.false))
    (c.in-Err.ensures.refused, c.in-Err.ensures.passes, c.in-Err.ensures.nothing)

pub split_places-requires-2-clause-pass : goal.split_places-requires-2-clause-pass
split_places-requires-2-clause-pass g c =
    let moved = c.in-Ok.ensures.moved in
    founded-has moved.between c.leave_vector.new.passes.of_blocks.items
    (stand_of (Some c.leave_vector.new.self)) moved.begins

pub unreachable-requires : goal.unreachable-requires
unreachable-requires g c =
    let moved = c.in-Ok.ensures.moved in
    let new = c.leave_vector.new.self in
    founded-splits moved.between c.leave_vector.new.passes.of_blocks.items (row_of new).place
    (stand_of (Some new)) c.split_places-2.new.passes.of_blocks.items
    c.in-Err-split_places.field-0 moved.begins c.in-Err-split_places.ensures.refused
