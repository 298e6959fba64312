-- An attempt that another thread disturbed leaves the pass as it was.
use Rattle.std.proofs.Common.{◌≡◌}
use Rattle.arc_owners.proofs.count.counted.up.Given as goal

abbrev pub invariant-loop : goal.invariant-loop
invariant-loop g l =
    (goal.iterator-loop g).can_next l.iterator' × (goal.iterator-loop g).is_finite l.iterator'
    × (l.word ≡ l.fn.word) × (l.by ≡ l.fn.by) × (l.pass ≡ l.fn.pass)
