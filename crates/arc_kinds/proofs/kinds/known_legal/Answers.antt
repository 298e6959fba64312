-- Its law says so.
use Rattle.arc_kinds.proofs.kinds.known_legal.Goals as goal

pub returns : goal.returns
returns g c xs = ∣ g.met.S.Commands.any_is_legal c.requires xs ∣₁
