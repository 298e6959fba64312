-- What the step of the word leaves.
use Rattle.arc_owners.specs.count.Calls.{owner_of}
use Rattle.arc_owners.proofs.count.Calls.{leaves_at}
use Rattle.arc_owners.proofs.count.tokens.Owners.down_raw.Goals as goal

pub returns-clause-entry : goal.returns-clause-entry
returns-clause-entry g c =
    let did = c.subtract_raw-found.ensures in
    leaves_at (owner_of c.args.share) c.requires.share c.args.pass.now c.subtract_raw-found.new.pass
    c.released.ensures.last did.0 did.1
