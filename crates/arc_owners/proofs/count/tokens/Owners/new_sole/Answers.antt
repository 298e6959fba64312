use Rattle.std.proofs.Common.{false}
use Rattle.arc_owners.proofs.count.Calls.{first_of, alone_first}
use Rattle.arc_owners.proofs.count.tokens.Owners.new_sole.Goals as goal

pub returns-clause-first : goal.returns-clause-first
returns-clause-first g c = first_of _ _ _ false c.open-word.result.0 c.open-word.result.1
    c.open-word.result.2 c.open-word.ensures

pub returns-clause-alone : goal.returns-clause-alone
returns-clause-alone g c = alone_first _ _ _ false c.open-word.result.0 c.open-word.result.1
    c.open-word.result.2 c.open-word.ensures
