use Rattle.std.proofs.Common.{sym, ◌∙◌}
use Rattle.arc_slots.proofs.Asked.{took, took-sole, untook, untook-sole}
use Rattle.arc_slots.proofs.Same.{after-same, reply-same, window-same}
use Rattle.arc_slots.proofs.slot.Slot.take.Goals as goal

pub returns-in-Ok-clause-answers : goal.returns-in-Ok-clause-answers
returns-in-Ok-clause-answers g c next i =
    reply-same c.in-Ok.ensures.reply
    (took _ next _ _ c.requires (c.is_read.ensures.reads c.if-is_read.true) i c.args.what _
    c.in-Ok.ensures.taken)

pub returns-in-Err-clause-answers : goal.returns-in-Err-clause-answers
returns-in-Err-clause-answers g c next i =
    window-same c.in-Err.ensures.back
    (untook _ next _ _ c.requires (c.is_read.ensures.reads c.if-is_read.true) i c.args.what _
    c.in-Err.ensures.refused)

pub returns-in-Ok-try_take_written-clause-answers :
    goal.returns-in-Ok-try_take_written-clause-answers
returns-in-Ok-try_take_written-clause-answers g c next i =
    reply-same c.in-Ok-try_take_written.ensures.reply
    (took-sole _ next _ _ (sym c.is_written.ensures.answer ∙ c.if-not-is_written.false) i
    c.args.what (sym c.for_writers.ensures ∙ c.if-not-for_writers.false) _
    c.in-Ok-try_take_written.ensures.taken c.in-Ok-try_take_written.ensures.left)

pub returns-in-Err-try_take_written-clause-answers :
    goal.returns-in-Err-try_take_written-clause-answers
returns-in-Err-try_take_written-clause-answers g c next i =
    window-same c.in-Err-try_take_written.ensures.back.0
    (after-same c.in-Err-try_take_written.ensures.back.1
    (untook-sole _ next _ _ (sym c.is_written.ensures.answer ∙ c.if-not-is_written.false) i
    c.args.what (sym c.for_writers.ensures ∙ c.if-not-for_writers.false)
    c.in-Err-try_take_written.ensures.refused))
