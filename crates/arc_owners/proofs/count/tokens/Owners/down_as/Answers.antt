use Rattle.arc_owners.specs.count.Calls.{owner_of}
use Rattle.arc_owners.proofs.count.Calls.{leaves_at, ended_step}
use Rattle.arc_owners.proofs.count.tokens.Owners.down_as.Goals as goal

pub returns-clause-step : goal.returns-clause-step
returns-clause-step g c = ended_step c.args.self.now.word c.args.pass.now
    (record { trace = c.subtract-found.new.pass; mark = c.args.pass.now.mark }) _ _
    c.subtract-found.ensures.1

pub returns-clause-entry : goal.returns-clause-entry
returns-clause-entry g c =
    let did = c.subtract-found.ensures in
    leaves_at (owner_of c.args.share) c.requires.share c.args.pass.now c.subtract-found.new.pass
    c.released.ensures.last did.0 did.1
