-- Arithmetic at once, without a search before it.
use Rattle.std.proofs.Common.{arith}
use Rattle.std.proofs.lemmas.Grind.{common_steps}
use Rattle.arc_memory.proofs.writer_places.WriterPlaces.with_copies.Goals as goal

pub of-requires-clause-sizes : goal.of-requires-clause-sizes
of-requires-clause-sizes g c = grind (arith, common_steps)

pub returns-clause-items : goal.returns-clause-items
returns-clause-items g c = grind (arith, common_steps)

pub fill-requires-clause-full : goal.fill-requires-clause-full
fill-requires-clause-full g c = grind (arith, common_steps)
