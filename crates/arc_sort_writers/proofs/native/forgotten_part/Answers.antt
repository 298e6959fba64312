-- What lies before and behind the part is forgotten.
use Rattle.arc_sort_writers.proofs.CutKeeps.{part_forgotten}
use Rattle.arc_sort_writers.proofs.native.forgotten_part.Goals as goal

pub returns : goal.returns
returns g c =
    part_forgotten c.args.memory c.args.start c.args.end c.of-part.result
    c.forget_front.new.self c.truncate.new.self c.capacity-capacity.result c.requires.range.0
    c.requires.range.1 c.capacity-capacity.ensures c.of-part.ensures.items c.of-part.ensures.memory
    c.forget_front.ensures.items c.forget_front.ensures.memory c.forget_front.ensures.own
    c.truncate.ensures.items c.truncate.ensures.memory
