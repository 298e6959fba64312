-- By search.
use Rattle.std.proofs.Common.{rules}
use Rattle.arc_script.proofs.io.CountedSink.write.Goals as goal

pub returns-clause-bytes : goal.returns-clause-bytes
returns-clause-bytes g c = search rules
