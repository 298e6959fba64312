-- So many items as places are asked for lie there.
use Rattle.std.proofs.Common.{◌≡◌, ℕ, ◌+◌, ◌-◌, ◌≤◌, List, length, sym, ap, ◌∙◌, arith}
use Rattle.arc_buffer.specs.Slice.{sub}
use Rattle.arc_buffer.proofs.Sub.{length-sub}
use Rattle.arc_block.proofs.block.native.regain.Goals as goal

sized : {X : Type 0} (xs : List X) (first start end : ℕ) → first ≤ start → start ≤ end
    → end ≤ first + length xs → end - start ≡ length (sub xs (start - first) (end - first))
sized xs first start end from ordered to =
    let long : length (sub xs (start - first) (end - first)) ≡ (end - first) - (start - first) =
    length-sub xs (start - first) (end - first) (omega (arith, ordered)) (omega (arith, to)) in
    omega (arith, long, from, ordered)

pub regain_frozen_writer-requires-clause-len : goal.regain_frozen_writer-requires-clause-len
regain_frozen_writer-requires-clause-len g c =
    let range = c.args.range.now in let asked = c.requires.range in
    sized range.items range.start c.args.start c.args.end asked.0 asked.1 asked.2
    ∙ ap length (sym c.part-part.ensures.items)
