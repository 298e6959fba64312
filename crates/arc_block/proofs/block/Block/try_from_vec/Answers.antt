-- The vector that comes back is the one that came in.
use Rattle.arc_block.proofs.Contents.{vector_back}
use Rattle.arc_block.proofs.block.Block.try_from_vec.Goals as goal

pub returns-in-Err-clause-refused : goal.returns-in-Err-clause-refused
returns-in-Err-clause-refused g c =
    vector_back c.in-Err.content c.of-memory.result.1 c.args.items c.into_vec.result
    c.in-Err.ensures.refused c.into_vec.ensures c.of-memory.ensures.items
    c.of-memory.ensures.allocation
