-- What was pushed so far is one item more.
use Rattle.std.proofs.Common.{◌++◌, ap, ◌∙◌, arith}
use Rattle.std.proofs.lemmas.List.{take_all}
use Rattle.arc_block.proofs.Lists.{one_more}
use Rattle.arc_sort_writers.proofs.vector.write.with_all.Goals as goal

pub loop-item-preserved : goal.loop-item-preserved
loop-item-preserved g c =
    let before = c.loop-item.invariant in
    let more = c.push_reserved.ensures in (
      more.capacity ∙ before.0,
      omega (arith, more.len, before.1),
      one_more c.args.vec.items c.args.items.now c.loop-item.vec.items
          c.push_reserved.new.self.items c.loop-item.item-index c.item-item.result c.item-item.is
          c.loop-item-test.true before.2 more.items,
    )

pub returns-clause-items : goal.returns-clause-items
returns-clause-items g c =
    c.loop-item.invariant.2
    ∙ ap (λ xs. c.args.vec.items ++ xs)
    (take_all c.loop-item.item-index c.args.items.now c.loop-item-test.false)
