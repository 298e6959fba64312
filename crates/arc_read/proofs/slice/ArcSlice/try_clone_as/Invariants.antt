-- Attempts that other threads disturbed are no more than one that was lost.
use Rattle.std.proofs.Common.{◌≡◌}
use Rattle.arc_parts.specs.Steps.{MayJoinAt}
use Rattle.arc_read.proofs.slice.ArcSlice.try_clone_as.Given as goal

abbrev pub invariant-loop : goal.invariant-loop
invariant-loop g l =
    (goal.iterator-loop g).can_next l.iterator' × (goal.iterator-loop g).is_finite l.iterator'
    × (l.self ≡ l.fn.self) × MayJoinAt l.fn.self.place l.fn.pass l.pass
