-- A part of a part is a part of the window.
use Rattle.std.proofs.Common.{arith}
use Rattle.arc_buffer.proofs.Sub.{length-sub}
use Rattle.arc_read.proofs.Cuts.{cut-cut}
use Rattle.std.proofs.lemmas.Grind.{common_steps}
use Rattle.arc_read.proofs.borrow.ArcSliceBorrow.reborrow.Goals as goal

pub returns : goal.returns
returns g c =
    let b = c.args.self.now in
    let long = length-sub b.window.now.items b.start b.end b.ordered b.within in
    cut-cut b.window.now b.start b.end c.args.start c.args.end
    (omega (arith, c.requires.within, long, b.ordered))

pub overflow_add-result-2 : goal.overflow_add-result-2
overflow_add-result-2 g c = grind (arith, common_steps)

pub overflow_add-result : goal.overflow_add-result
overflow_add-result g c = grind (arith, common_steps)

pub invariant_of-result : goal.invariant_of-result
invariant_of-result g c = grind (arith, common_steps)
