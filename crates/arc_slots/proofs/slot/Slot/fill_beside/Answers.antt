-- What is written is answered as the row answers it, by what the window says.
use Rattle.std.proofs.Common.{Some, subst, sym, ◌∙◌}
use Rattle.arc_commands.proofs.Lists.{an_error}
use Rattle.arc_slots.specs.Slots.{stand_of}
use Rattle.arc_slots.specs.Stands.{HasPassFor}
use Rattle.arc_slots.specs.Writing.{seen_writing}
use Rattle.arc_slots.proofs.Roomed.{no-pass-beside, unwrote-beside, wrote-beside}
use Rattle.arc_slots.proofs.Same.{after-same, before-same}
use Rattle.arc_slots.proofs.slot.Slot.fill_beside.Goals as goal

pub returns-then-is_err : goal.returns-then-is_err
returns-then-is_err g c next i =
    after-same c.reserve_for.ensures.items
    (no-pass-beside _ next _ _ c.requires.role i (seen_writing c.args.what)
    (sym c.may_write.ensures ∙ c.if-not-may_write.false) c.known_undropped.ensures
    c.additional.result c.additional.ensures (sym c.wants_block-begins.ensures
    ∙ an_error c.reserve_for.result (sym c.is_err.ensures.value ∙ c.if-is_err.true)
    c.reserve_for.ensures.refused))

pub returns-in-Err : goal.returns-in-Err
returns-in-Err g c next i =
    let has = subst (λ ps. HasPassFor ps (stand_of (Some c.args.self.now)))
    (sym c.reserve_for.ensures.items) c.requires.pass in
    before-same c.reserve_for.ensures.items
    (unwrote-beside _ next _ _ c.requires.role i (seen_writing c.args.what)
    (sym c.may_write.ensures ∙ c.if-not-may_write.false) c.known_undropped.ensures has c.in-Err.e
    c.write_beside.new.self _ c.write_beside.result c.in-Err.is c.write_beside.ensures)

pub returns : goal.returns
returns g c next i =
    let has = subst (λ ps. HasPassFor ps (stand_of (Some c.args.self.now)))
    (sym c.reserve_for.ensures.items) c.requires.pass in
    before-same c.reserve_for.ensures.items
    (wrote-beside _ next _ _ c.requires.role i (seen_writing c.args.what)
    (sym c.may_write.ensures ∙ c.if-not-may_write.false) c.known_undropped.ensures has
    c.write_beside.new.self _ c.write_beside.result c.in_default.is c.write_beside.ensures)
