-- The block keeps as many places as the memory has in which these lie.
use Rattle.std.proofs.Common.{rules, nat_eq, ◌≡◌, ap, ◌∙◌, subst}
use Rattle.std.specs.Prelude.{IsTrue}
use Rattle.arc_memory.specs.SharedWriters.{writer_value, writer_range}
use Rattle.arc_sort_writers.proofs.Takes.{kept_size}
use Rattle.arc_sort_writers.proofs.shared.SharedNative.is_of_places.Goals as goal

pub returns-clause-answer : goal.returns-clause-answer
returns-clause-answer g c =
    let w = c.self.inside.writer in let told = c.count.result in let size = c.args.size in
    let same : told ≡ c.args.self.size =
    kept_size (writer_value w) c.get.result.now (writer_range w).memory told c.self.invariant.1
    (c.get.ensures ∙ c.into_part-part.ensures.owner.1) c.count.ensures
    ∙ ap (λ s. s.size) c.self.view_is in
    subst (λ n. (IsTrue (nat_eq told size) → n ≡ size) × (n ≡ size → IsTrue (nat_eq told size)))
    same (search rules)
