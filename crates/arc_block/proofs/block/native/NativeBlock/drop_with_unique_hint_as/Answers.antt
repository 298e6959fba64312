-- The lifetime has ended for which the block's memory was lent.
use Rattle.std.proofs.Common.{◌∙◌, arith}
use Rattle.std.proofs.lemmas.Grind.{common_steps}
use Rattle.arc_owners.specs.memory.Boxes.{value_of}
use Rattle.arc_block.proofs.Natives.{kept_ended, kept_alike, laid_alike}
use Rattle.arc_block.proofs.block.native.NativeBlock.drop_with_unique_hint_as.Goals as goal

pub free-requires-clause-ended : goal.free-requires-clause-ended
free-requires-clause-ended g c = let reader = c.self.inside.reader in
    kept_ended g.S.Slice.DROPS reader.range c.in-Ok.ended.lifetime c.in-Ok.ensures.ended
    (value_of reader.owner) c.take_up-count.result.2
    (c.take_up-count.ensures.same.1 ∙ c.in-Ok.ensures.sole.1) c.self.invariant.2

pub invariant_of-release_as : goal.invariant_of-release_as
invariant_of-release_as g c = grind (arith, common_steps, kept_alike, laid_alike)
