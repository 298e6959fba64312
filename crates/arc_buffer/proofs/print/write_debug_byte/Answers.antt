-- By search.
use Rattle.std.proofs.Common.{rules}
use Rattle.arc_buffer.proofs.print.write_debug_byte.Goals as goal

pub returns-in-39 : goal.returns-in-39
returns-in-39 g c = search rules
