-- What is still to be moved gets shorter by what was moved.
use Rattle.std.proofs.Common.{◌≡◌, length, ap, ◌∙◌, sym, arith}
use Rattle.std.specs.Vec.Iter.{into_iter_items}
use Rattle.arc_block.proofs.Lists.{handed_over, all_over}
use Rattle.arc_block.proofs.block.exact.Goals as goal

pub loop-item-preserved : goal.loop-item-preserved
loop-item-preserved g c =
    let before = c.loop-item.invariant in
    let rest = into_iter_items c.loop-item.item-iterator in
    let left = into_iter_items c.next.new.self in
    let more = c.push_reserved.ensures in
    let is = c.in-Some.ensures.steps.0 in
    let fewer = ap (λ xs. length xs) is in (
      handed_over c.loop-item.exact.items c.push_reserved.new.self.items rest left
          c.args.items.items
          c.in-Some.item more.items is before.0,
      omega (arith, more.len, more.capacity, fewer, before.1),
    )

pub returns-clause-exact : goal.returns-clause-exact
returns-clause-exact g c =
    let before = c.loop-item.invariant in
    let rest = into_iter_items c.loop-item.item-iterator in
    let none : length rest ≡ 0 =
    sym c.loop-item.item-iterator.rest.ok.0 ∙ c.in-None.ensures.steps.0 in
    let long = c.loop-item.exact.ok.0 in (
      all_over c.loop-item.exact.items rest c.args.items.items none before.0,
      omega (arith, before.1, none, long),
    )
