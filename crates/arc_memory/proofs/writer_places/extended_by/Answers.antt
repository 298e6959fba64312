-- Arithmetic at once, without a search before it.
use Rattle.std.proofs.Common.{arith}
use Rattle.std.proofs.lemmas.Grind.{common_steps}
use Rattle.arc_memory.proofs.writer_places.extended_by.Goals as goal

pub house-requires-2-clause-sizes : goal.house-requires-2-clause-sizes
house-requires-2-clause-sizes g c = grind (arith, common_steps)

pub house-requires-clause-sizes : goal.house-requires-clause-sizes
house-requires-clause-sizes g c = grind (arith, common_steps)

pub filled_with-own-requires-clause-sizes : goal.filled_with-own-requires-clause-sizes
filled_with-own-requires-clause-sizes g c = grind (arith, common_steps)

pub returns-clause-items : goal.returns-clause-items
returns-clause-items g c = grind (arith, common_steps)

pub join-places-requires-clause-full : goal.join-places-requires-clause-full
join-places-requires-clause-full g c = grind (arith, common_steps)
