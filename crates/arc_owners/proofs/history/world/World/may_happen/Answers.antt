-- By search.
use Rattle.std.proofs.Common.{rules}
use Rattle.arc_owners.proofs.history.world.World.may_happen.Goals as goal

pub returns-in-CountDown : goal.returns-in-CountDown
returns-in-CountDown g c = search rules
