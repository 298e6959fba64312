-- It was the last one exactly where the writer gave out what the block keeps.
use Rattle.std.proofs.Common.{subst, rules}
use Rattle.arc_memory.specs.SharedWriters.{writer_value, writer_range}
use Rattle.arc_sort_writers.proofs.Takes.{kept_until}
use Rattle.std.specs.Option.{is_some}
use Rattle.arc_owners.specs.count.Calls.{EndsByItself}
use Rattle.arc_sort_writers.proofs.shared.SharedNative.let_go.Goals as goal

pub returns-in-Some-clause-ended : goal.returns-in-Some-clause-ended
returns-in-Some-clause-ended g c many = let found = c.let_go-last in (
  is_some found.result.0,
  subst (λ w. EndsByItself w.owner found.result.1 (is_some found.result.0)) c.self.view_is
      (found.ensures.ended many),
)

pub returns-in_default-clause-ended : goal.returns-in_default-clause-ended
returns-in_default-clause-ended g c many = let found = c.let_go-last in (
  is_some found.result.0,
  subst (λ w. EndsByItself w.owner found.result.1 (is_some found.result.0)) c.self.view_is
      (found.ensures.ended many),
)

pub free-requires-clause-ended : goal.free-requires-clause-ended
free-requires-clause-ended g c = let w = c.self.inside.writer in
    kept_until (writer_value w) c.in-Some.kept (search rules) (writer_range w).memory
    c.in-Some.ended.lifetime c.self.invariant.1 (search rules)

pub returns-in-Some-clause-forgotten : goal.returns-in-Some-clause-forgotten
returns-in-Some-clause-forgotten g c whole = (c.let_go-last.ensures.forgotten whole).1

pub returns-in_default-clause-forgotten : goal.returns-in_default-clause-forgotten
returns-in_default-clause-forgotten g c whole = (c.let_go-last.ensures.forgotten whole).1
