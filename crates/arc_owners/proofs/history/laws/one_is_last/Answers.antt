use Rattle.arc_owners.proofs.history.Told.{one_is_last}
use Rattle.arc_owners.proofs.history.laws.one_is_last.Goals as goal

pub returns : goal.returns
returns g c = one_is_last g.row.MAX c.requires.legal.0 c.args.history.now c.requires.legal.1
    c.requires.ended
