use Rattle.std.proofs.Common.{Some, ap, arith}
use Rattle.arc_block.specs.Table.{bare}
use Rattle.arc_write.specs.Within.{spare_places}
use Rattle.arc_write.proofs.ReadParts.{spare_after}
use Rattle.arc_write.proofs.adapters.buf_mut.WriteWindowBufMut.put_slice.Goals as goal

pub returns-in-Ok-clause-spare : goal.returns-in-Ok-clause-spare
returns-in-Ok-clause-spare g c =
    let done = c.in-Ok.ensures.done in
    omega (arith, spare_after c.args.source.now (bare c.args.self.now) _ done.1)

pub returns-in-Ok-clause-max_spare : goal.returns-in-Ok-clause-max_spare
returns-in-Ok-clause-max_spare g c =
    let done = c.in-Ok.ensures.done in
    (done.0, ap (λ n. Some n) (spare_after c.args.source.now (bare c.args.self.now) _ done.1))

pub returns-in-Err-clause-spare : goal.returns-in-Err-clause-spare
returns-in-Err-clause-spare g c =
    let full = c.in-Err.ensures.full in
    (full.0, omega (arith, ap (λ s. spare_places s) full.1))
