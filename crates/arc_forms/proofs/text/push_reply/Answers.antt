-- By search.
use Rattle.std.proofs.Common.{rules}
use Rattle.arc_forms.proofs.text.push_reply.Goals as goal

pub returns-clause-ok : goal.returns-clause-ok
returns-clause-ok g c = search rules
