use Rattle.std.proofs.Common.{ap}
use Rattle.arc_read.proofs.Kept.{kept_advanced}
use Rattle.arc_read.proofs.adapters.buf.ArcSlicePlainU8Buf.advance.Goals as goal

pub returns-clause-kept : goal.returns-clause-kept
returns-clause-kept g c = kept_advanced c.args.count c.args.self.now.place _ c.args.self.now.items _
    c.requires (ap (λ w. w.place) c.advance.ensures) (ap (λ w. w.items) c.advance.ensures)
