-- Of each step.
use Rattle.arc_commands.proofs.Had.{makes-had, step-had}
use Rattle.arc_commands.proofs.laws.lacks_not.Goals as goal

pub returns-clause-kind : goal.returns-clause-kind
returns-clause-kind g c setting old command answer new is step =
    step-had setting old command answer new is step

pub returns-clause-makes : goal.returns-clause-makes
returns-clause-makes g c setting places block command makes =
    makes-had setting places block command makes
