-- By search.
use Rattle.std.proofs.Common.{rules, arith}
use Rattle.std.proofs.lemmas.Grind.{common_steps}
use Rattle.arc_write.proofs.adapters.io.WriteWindowPlainU8Write.write.Goals as goal

pub returns-clause-count : goal.returns-clause-count
returns-clause-count g c = search rules

pub returns-clause-window : goal.returns-clause-window
returns-clause-window g c = search rules

pub slice_bounds-try_extend_within-end : goal.slice_bounds-try_extend_within-end
slice_bounds-try_extend_within-end g c = grind (arith, common_steps) steps 20000000

pub unreachable-requires : goal.unreachable-requires
unreachable-requires g c = grind (arith, common_steps) steps 20000000
