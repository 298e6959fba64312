use Rattle.std.proofs.Common.{sym, ◌∙◌}
use Rattle.arc_slots.proofs.Answered.{share-kind, share-none}
use Rattle.arc_slots.proofs.Same.{window-same}
use Rattle.arc_slots.proofs.Turned.{shared, unshared}
use Rattle.arc_slots.proofs.slot.Slot.share.Goals as goal

pub returns-then-not-is_written : goal.returns-then-not-is_written
returns-then-not-is_written g c next i =
    share-kind _ next _ _ i c.known_role.ensures
    (sym c.is_written.ensures.answer ∙ c.if-not-is_written.true)

pub returns-then-not-shares : goal.returns-then-not-shares
returns-then-not-shares g c next i =
    share-none _ next _ _ i c.known_role.ensures (sym c.shares.ensures ∙ c.if-not-shares.true)

pub returns-in-Ok : goal.returns-in-Ok
returns-in-Ok g c next i =
    shared _ next _ _ i (sym c.is_written.ensures.answer ∙ c.if-not-is_written.false)
    (sym c.shares.ensures ∙ c.if-not-shares.false) c.in-Ok.ensures.may c.in-Ok.slot
    c.in-Ok.ensures.stand c.in-Ok.ensures.row

pub returns-in-Err : goal.returns-in-Err
returns-in-Err g c next i =
    window-same c.in-Err.ensures.back
    (unshared _ next _ _ i (sym c.is_written.ensures.answer ∙ c.if-not-is_written.false)
    (sym c.shares.ensures ∙ c.if-not-shares.false) c.in-Err.ensures.may_not)
