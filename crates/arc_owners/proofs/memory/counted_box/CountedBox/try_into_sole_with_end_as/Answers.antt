-- The same owner has the memory, or is as it was.
use Rattle.std.proofs.Common.{true, false, ap, subst, ◌∙◌}
use Rattle.arc_owners.specs.count.Calls.{Asks}
use Rattle.arc_owners.proofs.memory.counted_box.CountedBox.try_into_sole_with_end_as.Goals as goal

pub returns-in-Ok-clause-entry : goal.returns-in-Ok-clause-entry
returns-in-Ok-clause-entry g c =
    subst (λ o. Asks o c.args.pass.now c.claim_raw.new.pass true) c.parted-share.ensures.owner
    c.in-Ok.ensures.entry

pub returns-in-Err-clause-entry : goal.returns-in-Err-clause-entry
returns-in-Err-clause-entry g c =
    subst (λ o. Asks o c.args.pass.now c.claim_raw.new.pass false) c.parted-share.ensures.owner
    c.in-Err.ensures.entry

pub returns-in-Ok-clause-sole : goal.returns-in-Ok-clause-sole
returns-in-Ok-clause-sole g c = (
  c.settled.ensures.0 ∙ (c.in-Ok.ensures.alone.0 ∙ c.parted-share.ensures.owner),
  c.settled.ensures.1 ∙ ap (λ i. i.value.value) (c.take_back_parts-memory.ensures.memory.0
      ∙ ap (λ m. m.borrow.value) c.parted-share.ensures.parts.2),
)
