use Rattle.std.proofs.Common.{inl}
use Rattle.arc_owners.proofs.history.Realized.{realized}
use Rattle.arc_owners.proofs.history.laws.is_run.Goals as goal

pub returns : goal.returns
returns g c = let run = realized g.row.MAX c.args.history.now c.requires in (run.0, inl run.1)
