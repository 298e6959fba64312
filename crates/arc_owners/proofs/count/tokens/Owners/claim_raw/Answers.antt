-- What the step of the word leaves.
use Rattle.arc_owners.specs.count.Calls.{owner_of}
use Rattle.arc_owners.proofs.count.Calls.{asks_at}
use Rattle.arc_owners.proofs.count.tokens.Owners.claim_raw.Goals as goal

pub returns-clause-entry : goal.returns-clause-entry
returns-clause-entry g c =
    let did = c.claim_raw-found.ensures in
    asks_at (owner_of c.args.share) c.requires.share c.args.pass.now c.claim_raw-found.new.pass
    c.claimed.ensures.found did.0 did.1
