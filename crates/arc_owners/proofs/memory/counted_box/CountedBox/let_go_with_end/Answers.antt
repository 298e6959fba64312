-- Under a mark that steps it ended with a new pass; under the other it was forgotten.
use Rattle.std.proofs.Common.{true, false, refl, sym, ◌∙◌}
use Rattle.std.proofs.lemmas.Bool.{false≢true}
use Rattle.arc_owners.specs.memory.Boxes.{owner_in}
use Rattle.arc_owners.proofs.count.Calls.{ended_at}
use Rattle.arc_owners.proofs.memory.counted_box.CountedBox.let_go_with_end.Goals as goal

pub returns-then-last-clause-ended : goal.returns-then-last-clause-ended
returns-then-last-clause-ended g c many =
    ended_at (owner_in c.args.self) c.parted-share.result.0.right _ _ true
    c.parted-share.ensures.owner c.if-last.true (c.let_go.ensures.ended many)

pub returns-else-last-clause-ended : goal.returns-else-last-clause-ended
returns-else-last-clause-ended g c many =
    ended_at (owner_in c.args.self) c.parted-share.result.0.right _ _ false
    c.parted-share.ensures.owner c.if-last.false (c.let_go.ensures.ended many)

pub returns-then-last-clause-forgotten : goal.returns-then-last-clause-forgotten
returns-then-last-clause-forgotten g c whole =
    absurd (false≢true (sym (c.let_go.ensures.forgotten whole).0 ∙ c.if-last.true))

pub returns-else-last-clause-forgotten : goal.returns-else-last-clause-forgotten
returns-else-last-clause-forgotten g c whole = (refl, (c.let_go.ensures.forgotten whole).1)
