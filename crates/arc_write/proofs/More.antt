-- Items written behind others, one after the other.
use Rattle.std.proofs.Common.{◌≡◌, ◌∷◌, [], ℕ, ◌+◌, List, replicate, ap, ◌∙◌}
use Rattle.std.proofs.lemmas.List.{replicate-append-replicate}
use Rattle.arc_block.specs.Table.{RowOf}
use Rattle.arc_parts.specs.Writers.{with_more}
use Rattle.arc_parts.proofs.More as more

module _ {N T M : Type 0} where
  -- no items more leave all as it is
  pub more_none : (w : RowOf N T M) → with_more [] w ≡ w
  more_none w = more.more_none w

  -- one item more of so many that are alike
  pub one_more_alike : (n : ℕ) (x : T) (w : RowOf N T M)
      → with_more (x ∷ []) (with_more (replicate n x) w) ≡ with_more (replicate (n + 1) x) w
  one_more_alike n x w = more.more_twice (replicate n x) (x ∷ []) w
      ∙ ap (λ xs. with_more xs w) (replicate-append-replicate n 1 x)
