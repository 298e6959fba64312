-- Of each step.
use Rattle.arc_commands.proofs.Unshared.{step-kind, step-unshared}
use Rattle.arc_commands.proofs.laws.shares_not.Goals as goal

pub returns-clause-rows : goal.returns-clause-rows
returns-clause-rows g c setting old command reply new none step =
    step-unshared setting none old command reply new step

pub returns-clause-kind : goal.returns-clause-kind
returns-clause-kind g c setting old command answer new none is step =
    step-kind setting none old command answer new is step
