-- The buffer has the same items in another order.
use Rattle.std.proofs.Common.{length, take, drop, ◌++◌, sym, ap, ◌∙◌, arith}
use Rattle.std.proofs.lemmas.Grind.{common_steps}
use Rattle.arc_owners.specs.memory.SoleBoxes.{sole_in, sole_value}
use Rattle.arc_sort_writers.proofs.SoleBuffers.{front_seen}
use Rattle.arc_sort_writers.proofs.buffer.SoleBuffer.to_front.Goals as goal

pub returns-clause-shifted : goal.returns-clause-shifted
returns-clause-shifted g c =
    let held = c.in-Buffer.held in
    let was = c.as_mut_slice.ensures.value in
    let long = c.rotate_left.ensures.len ∙ ap (λ xs. length xs) was in
    let kept = g.met.B.BufferMut.keeps held.buffer c.rotate_left.new.self long in
    let start = c.self.inside.start in
    front_seen g.B.Buffer.list g.B.Buffer.places g.S.Slice.DROPS g.H.Mark.whole
    (sole_in c.self.inside.count) (sole_value c.self.inside.count) held
    (sym c.get_mut.ensures.value ∙ c.in-Buffer.is) start
    c.self.inside.end c.args.self.now c.self.view_is c.self.invariant
    (g.B.BufferMut.with_list held.buffer c.rotate_left.new.self) c.requires
    (kept.0 ∙ c.rotate_left.ensures.after ∙ ap (λ xs. drop start xs ++ take start xs) was)
    (ap (λ xs. length xs) kept.0 ∙ long) kept.1

pub returns-clause-room : goal.returns-clause-room
returns-clause-room g c = grind (arith, common_steps)
