use Rattle.arc_owners.proofs.count.Calls.{wrote_step}
use Rattle.arc_owners.proofs.count.tokens.Owners.alone_as.Goals as goal

pub returns-clause-step : goal.returns-clause-step
returns-clause-step g c = wrote_step c.args.self.now.word c.args.pass.now
    (record { trace = c.load.new.pass; mark = c.args.pass.now.mark }) _ c.load.ensures
