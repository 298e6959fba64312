-- What lies before and behind the part stays there.
use Rattle.std.proofs.Common.{arith}
use Rattle.arc_sort_writers.proofs.CutKeeps.{part_kept, part_kept_short}
use Rattle.arc_sort_writers.proofs.native.kept_part.Goals as goal

pub returns : goal.returns
returns g c =
    part_kept c.args.memory c.args.start c.args.end c.of-part.result c.keep_front.new.self
    c.capacity-capacity.result c.requires.range.0 c.requires.range.1
    (omega (arith, c.len-len.ensures, c.if-end-len.false, c.requires.range.1))
    c.capacity-capacity.ensures c.of-part.ensures.items c.of-part.ensures.memory
    c.of-part.ensures.own c.keep_front.ensures.items c.keep_front.ensures.memory
    c.keep_front.ensures.all

pub returns-then-end-len : goal.returns-then-end-len
returns-then-end-len g c =
    part_kept_short c.args.memory c.args.start c.args.end c.of-part.result
    c.keep_front.new.self c.keep_back.new.self c.capacity-capacity.result c.requires.range.0
    c.requires.range.1 (omega (arith, c.len-len.ensures, c.if-end-len.true))
    c.capacity-capacity.ensures c.of-part.ensures.items c.of-part.ensures.memory
    c.of-part.ensures.own c.keep_front.ensures.items c.keep_front.ensures.memory
    c.keep_back.ensures.items c.keep_back.ensures.memory c.keep_back.ensures.all
