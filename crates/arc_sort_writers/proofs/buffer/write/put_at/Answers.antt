-- An item is written over another one.
use Rattle.std.proofs.Common.{length, take, drop, ◌+◌, ◌<◌, ◌++◌, ◌∷◌, ap, ◌∙◌, rules, arith}
use Rattle.std.proofs.lemmas.Grind.{common_steps}
use Rattle.std.specs.Prelude.{slice_set}
use Rattle.std.proofs.lemmas.List.{length-set}
use Rattle.arc_sort_writers.proofs.SoleBuffers.{set_at}
use Rattle.arc_sort_writers.proofs.buffer.write.put_at.Goals as goal

pub returns-then-at-as_slice-clause-list : goal.returns-then-at-as_slice-clause-list
returns-then-at-as_slice-clause-list g c =
    let xs = c.as_mut_slice.result.now in
    let at = c.args.at in let x = c.args.item in
    let was = c.as_mut_slice.ensures.value in
    let long = length-set xs at x ∙ ap (λ ys. length ys) was in
    let inside : at < length xs = search rules in
    (g.met.B.BufferMut.keeps c.args.buffer.now (slice_set xs at x) long).0
    ∙ set_at xs at x inside ∙ ap (λ ys. take at ys ++ x ∷ drop (at + 1) ys) was

pub returns-clause-next : goal.returns-clause-next
returns-clause-next g c = grind (arith, common_steps)

pub returns-clause-list : goal.returns-clause-list
returns-clause-list g c = grind (arith, common_steps)
