-- Under a mark that steps it ended with a new pass.
use Rattle.std.proofs.Common.{true}
use Rattle.arc_owners.proofs.count.Calls.{ended_by_itself}
use Rattle.arc_owners.proofs.memory.sole_count.SoleCount.let_go.Goals as goal

pub returns-clause-ended : goal.returns-clause-ended
returns-clause-ended g c many =
    let did = c.let_go_sole-ended.ensures.ended many in
    (did.0, ended_by_itself c.args.self.sole.right _ true did.1)
