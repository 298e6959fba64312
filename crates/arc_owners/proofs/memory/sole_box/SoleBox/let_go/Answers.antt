-- Under a mark that steps it ended with a new pass; under the other it was forgotten.
use Rattle.std.proofs.Common.{true, refl, sym, ◌∙◌}
use Rattle.std.proofs.lemmas.Bool.{false≢true}
use Rattle.arc_owners.proofs.count.Calls.{ended_by_itself}
use Rattle.arc_owners.proofs.memory.sole_box.SoleBox.let_go.Goals as goal

pub returns-clause-ended : goal.returns-clause-ended
returns-clause-ended g c many = (
  refl,
  ended_by_itself c.args.self.sole.right _ true (c.let_go_sole-ended.ensures.ended many).1,
)

pub returns-clause-forgotten : goal.returns-clause-forgotten
returns-clause-forgotten g c whole =
    absurd (false≢true (sym (c.let_go_sole-ended.ensures.forgotten whole).0 ∙ c.if-not-ended.false))

pub returns-then-not-ended-clause-ended : goal.returns-then-not-ended-clause-ended
returns-then-not-ended-clause-ended g c many =
    absurd (false≢true (sym c.if-not-ended.true ∙ (c.let_go_sole-ended.ensures.ended many).0))

pub returns-then-not-ended-clause-forgotten : goal.returns-then-not-ended-clause-forgotten
returns-then-not-ended-clause-forgotten g c whole =
    (refl, (c.let_go_sole-ended.ensures.forgotten whole).1)
