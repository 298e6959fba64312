-- The block keeps the vector's memory.
use Rattle.std.proofs.Common.{ap, ◌∙◌}
use Rattle.arc_owners.specs.memory.Boxes.{value_of}
use Rattle.arc_owners.specs.memory.SoleBoxes.{sole_in}
use Rattle.arc_block.specs.Contents.{held_in}
use Rattle.arc_block.proofs.Contents.{vector_seen}
use Rattle.arc_block.proofs.block.Block.of_sole.Goals as goal

pub returns : goal.returns
returns g c =
    let list = g.B.Buffer.list in let places = g.B.Buffer.places in
    let drops = g.S.Slice.DROPS in let o = sole_in c.args.count in
    let value = c.lend.ensures.same.1 ∙ c.replace.ensures.after in
    c.over.ensures
    ∙ ap (λ x. held_in list places drops x (value_of c.lend.result)) c.lend.ensures.same.0
    ∙ ap (held_in list places drops o) value
    ∙ vector_seen list places drops o c.of-memory.result.1 c.args.items c.of-memory.ensures.items
    c.of-memory.ensures.allocation
