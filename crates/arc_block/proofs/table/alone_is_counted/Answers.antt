-- Being alone can be told by counting.
use Rattle.arc_block.proofs.Alone.{is_alone-means}
use Rattle.arc_block.proofs.table.alone_is_counted.Goals as goal

pub returns : goal.returns
returns g c = is_alone-means
