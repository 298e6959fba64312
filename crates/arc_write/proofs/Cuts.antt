-- What a window's parts hold once items were taken off an end.
use Rattle.std.proofs.Common.{◌≡◌, ℕ, ◌<◌, Bool, List, length, subst}
use Rattle.arc_buffer.specs.Slice.{sub, IsEdge, IsRange}
use Rattle.arc_block.specs.Layouts.{LayoutFacts}
use Rattle.arc_parts.specs.Window.{PartsView}
use Rattle.arc_parts.specs.Writers.{after_advance, after_truncate}
use Rattle.arc_write.proofs.Held.{advanced_held, truncated_held}
use Rattle.arc_write.proofs.Legal.{advanced_legal, truncated_legal}
use Rattle.arc_write.proofs.Parts.{HoldsLegal}

module _ {T M : Type 0} (layout : LayoutFacts) (legal : List T → Type 0)
    (boundary : List T → ℕ → Bool)
    (part : (xs : List T) (s e : ℕ) → legal xs → IsRange boundary xs s e → legal (sub xs s e))
    (ends : (xs : List T) → legal xs → IsEdge boundary xs 0 × IsEdge boundary xs (length xs))
    (n : ℕ) (old new seen : PartsView T M) (is : seen ≡ old) where
  pub advanced : IsEdge boundary seen.items n → HoldsLegal layout legal old
      → new ≡ after_advance n old → HoldsLegal layout legal new
  advanced edge held cut = (
    advanced_held layout n old new cut held.0,
    advanced_legal legal boundary part ends n old new cut
        (subst (λ (w : PartsView T M). IsEdge boundary w.items n) is edge) held.1,
  )

  pub truncated : (drops : Bool) → (n < length seen.items → IsEdge boundary seen.items n)
      → HoldsLegal layout legal old → new ≡ after_truncate drops n old → HoldsLegal layout legal new
  truncated drops edge held cut = (
    truncated_held layout drops n old new cut held.0,
    truncated_legal legal boundary part ends drops n old new cut
        (subst (λ (w : PartsView T M). n < length w.items → IsEdge boundary w.items n) is edge)
        held.1,
  )
