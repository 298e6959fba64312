-- All of the memory's places are lent, and the first of them are his, with all items.
use Rattle.std.proofs.Common.{length, take, drop, sym, ap, ◌∙◌}
use Rattle.std.proofs.lemmas.List.{take_all, drop_all}
use Rattle.arc_sort_writers.proofs.shared.SharedNative.of_sole.Goals as goal

pub give_up-requires : goal.give_up-requires
give_up-requires g c =
    c.split-part.ensures.back.2 ∙ ap (drop c.args.capacity) c.lend-part.ensures.part.2
    ∙ drop_all c.args.capacity c.args.memory.places.vec.items c.requires.places.0

pub writer_of-writer-requires-clause-sizes : goal.writer_of-writer-requires-clause-sizes
writer_of-writer-requires-clause-sizes g c =
    let is = c.lend-part-2.ensures.part in let at = c.args.capacity in
    let front = c.split-part.ensures.front in
    let items = ap (λ p. p.items) is ∙ front.2 ∙ ap (take at) c.lend-part.ensures.part.2
    ∙ take_all at c.args.memory.places.vec.items c.requires.places.0 in (
      c.len-len.ensures ∙ sym (ap (λ xs. length xs) items),
      sym (ap (λ p. p.count) is ∙ front.1),
    )

pub returns : goal.returns
returns g c =
    let is = c.lend-part-2.ensures.part in let lent = c.lend-part.ensures in
    let got = c.writer_of-writer.ensures in let at = c.args.capacity in
    let front = c.split-part.ensures.front in let range = got.range in
    let owner = got.owner.0 ∙ c.lend-part-2.ensures.same.0 ∙ c.lay-sole.ensures.same.0 in
    let items = got.items ∙ ap (λ p. p.items) is ∙ front.2 ∙ ap (take at) lent.part.2
    ∙ take_all at c.args.memory.places.vec.items c.requires.places.0 in
    let start = ap (λ r. r.start) range ∙ ap (λ p. p.start) is ∙ front.0 ∙ lent.part.0 in
    let count = ap (λ r. r.count) range ∙ ap (λ p. p.count) is ∙ front.1 in
    let size = ap (λ r. r.memory.whole) range ∙ ap (λ p. p.memory.whole) is
    ∙ ap (λ m. m.whole) c.split-part.ensures.memory.0 ∙ lent.whole.1 in
    λ i. record {
      owner = owner i;
      items = items i;
      start = start i;
      capacity = count i;
      size = size i;
    }
