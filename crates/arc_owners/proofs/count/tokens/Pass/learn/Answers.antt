-- By search.
use Rattle.std.proofs.Common.{rules}
use Rattle.arc_owners.proofs.count.tokens.Pass.learn.Goals as goal

pub returns : goal.returns
returns g c = search rules
