-- The word begins with a count.
use Rattle.arc_owners.proofs.count.Calls.{begins_counted}
use Rattle.arc_owners.proofs.count.tokens.Owners.new.Goals as goal

pub returns-clause-counted : goal.returns-clause-counted
returns-clause-counted g c = begins_counted c.open-word.result.0 c.open-word.ensures.1
