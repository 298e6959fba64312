-- What is kept for one reader is kept for another one of the same places.
use Rattle.std.proofs.Common.{arith}
use Rattle.std.proofs.lemmas.Grind.{common_steps}
use Rattle.arc_block.proofs.Natives.{kept_alike, laid_alike}
use Rattle.arc_block.proofs.block.native.NativeBlock.try_into_memory_as.Goals as goal

pub invariant_of-result : goal.invariant_of-result
invariant_of-result g c = grind (arith, common_steps, kept_alike, laid_alike)

pub regain-requires-clause-kept : goal.regain-requires-clause-kept
regain-requires-clause-kept g c = grind (arith, common_steps, kept_alike, laid_alike)
