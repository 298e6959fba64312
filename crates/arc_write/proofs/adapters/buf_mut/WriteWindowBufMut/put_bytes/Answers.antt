use Rattle.std.proofs.Common.{Some, ap, arith}
use Rattle.arc_block.specs.Table.{bare}
use Rattle.arc_write.proofs.ReadParts.{spare_more}
use Rattle.arc_write.proofs.adapters.buf_mut.WriteWindowBufMut.put_bytes.Goals as goal

pub returns-clause-spare : goal.returns-clause-spare
returns-clause-spare g c =
    omega (arith, spare_more c.args.count c.args.byte (bare c.args.self.now) _ c.fill.ensures)

pub returns-clause-max_spare : goal.returns-clause-max_spare
returns-clause-max_spare g c = (
  omega (arith, c.if-count-spare.false, c.spare.ensures.value),
  ap (λ n. Some n)
      (spare_more c.args.count c.args.byte (bare c.args.self.now) _ c.fill.ensures),
)
