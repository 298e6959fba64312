use Rattle.arc_owners.specs.count.Calls.{owner_of}
use Rattle.arc_owners.proofs.count.Calls.{asks_at, wrote_step}
use Rattle.arc_owners.proofs.count.tokens.Owners.claim_as.Goals as goal

pub returns-clause-step : goal.returns-clause-step
returns-clause-step g c = wrote_step c.args.self.now.word c.args.pass.now
    (record { trace = c.claim-found.new.pass; mark = c.args.pass.now.mark }) _
    (c.claim-found.ensures.0, c.claim-found.ensures.1)

pub returns-clause-entry : goal.returns-clause-entry
returns-clause-entry g c =
    let did = c.claim-found.ensures in
    asks_at (owner_of c.args.share) c.requires.share c.args.pass.now c.claim-found.new.pass
    c.claimed.ensures.found did.0 did.1
