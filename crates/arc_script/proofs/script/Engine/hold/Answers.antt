-- By search.
use Rattle.std.proofs.Common.{rules}
use Rattle.arc_script.proofs.script.Engine.hold.Goals as goal

pub returns-in_ok-extend_from_slice-clause-ok : goal.returns-in_ok-extend_from_slice-clause-ok
returns-in_ok-extend_from_slice-clause-ok g c = search rules
