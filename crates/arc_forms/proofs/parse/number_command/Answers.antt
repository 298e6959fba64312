-- By search.
use Rattle.std.proofs.Common.{rules}
use Rattle.arc_forms.proofs.parse.number_command.Goals as goal

pub returns-in-Uniq : goal.returns-in-Uniq
returns-in-Uniq g c = search rules
