-- By search.
use Rattle.std.proofs.Common.{rules}
use Rattle.arc_parts.proofs.parts.Parts.try_into_static.Goals as goal

pub returns-in-Native-clause-taken : goal.returns-in-Native-clause-taken
returns-in-Native-clause-taken g c = search rules
