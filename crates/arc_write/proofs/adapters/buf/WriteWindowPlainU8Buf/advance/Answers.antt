use Rattle.arc_write.proofs.Kept.{written_advanced}
use Rattle.arc_write.proofs.adapters.buf.WriteWindowPlainU8Buf.advance.Goals as goal

pub returns-clause-kept : goal.returns-clause-kept
returns-clause-kept g c = written_advanced c.args.count c.args.self.now _ c.requires
    c.advance.ensures
