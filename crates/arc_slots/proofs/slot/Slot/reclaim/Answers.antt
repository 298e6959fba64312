-- Room is there, as the window says, or isn't.
use Rattle.std.proofs.Common.{sym, ◌∙◌}
use Rattle.arc_slots.proofs.Reclaimed.{has-room, no-room}
use Rattle.arc_slots.proofs.Same.{window-same}
use Rattle.arc_slots.proofs.slot.Slot.reclaim.Goals as goal

pub returns-then-try_reclaim : goal.returns-then-try_reclaim
returns-then-try_reclaim g c next i =
    has-room _ next _ _ (sym c.is_written.ensures.answer ∙ c.if-not-is_written.false) i
    c.args.additional c.try_reclaim.new.self c.try_reclaim.result c.if-try_reclaim.true
    c.try_reclaim.ensures.row c.try_reclaim.ensures.stand

pub returns : goal.returns
returns g c next i =
    window-same (c.try_reclaim.ensures.kept c.if-try_reclaim.false)
    (no-room _ next _ _ (sym c.is_written.ensures.answer ∙ c.if-not-is_written.false) i
    c.args.additional c.try_reclaim.new.self c.try_reclaim.result c.if-try_reclaim.false
    c.try_reclaim.ensures.row)
