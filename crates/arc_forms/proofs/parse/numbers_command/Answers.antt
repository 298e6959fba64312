-- By search.
use Rattle.std.proofs.Common.{rules}
use Rattle.arc_forms.proofs.parse.numbers_command.Goals as goal

pub returns-in-Trunc : goal.returns-in-Trunc
returns-in-Trunc g c = search rules
