-- The last owner leaves without a step.
use Rattle.arc_owners.specs.declared.count.tokens.Pass.{Pass}
use Rattle.std.proofs.Common.{true}
use Rattle.arc_owners.specs.count.Calls.{sole_owner}
use Rattle.arc_owners.proofs.count.Calls.{leaves_of, ended_without}
use Rattle.arc_owners.proofs.count.tokens.Sole.end_as.Goals as goal

pub returns-clause-entry : goal.returns-clause-entry
returns-clause-entry g c =
    let new : Pass g.row.H.Denot =
    record { trace = c.finish.new.pass; mark = c.args.pass.now.mark } in
    let did = c.finish.ensures in
    leaves_of (sole_owner c.args.self) c.args.pass.now new true did.0 did.1

pub returns-clause-step : goal.returns-clause-step
returns-clause-step g c =
    let new : Pass g.row.H.Denot =
    record { trace = c.finish.new.pass; mark = c.args.pass.now.mark } in
    ended_without c.args.self.right.block c.args.pass.now new c.args.self.right.owner
    c.finish.ensures.1
