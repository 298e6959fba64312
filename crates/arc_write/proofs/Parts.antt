-- What a window's invariant says of its parts, and what keeps it.
use Rattle.std.proofs.Common.{◌≡◌, ℕ, List, sym, ap, ◌∙◌, subst}
use Rattle.arc_block.specs.Given.{Given}
use Rattle.arc_block.specs.Layouts.{LayoutFacts}
use Rattle.arc_parts.specs.Window.{PartsView, IsBlockHeld}
use Rattle.arc_parts.specs.Writers.{with_written}
use Rattle.arc_write.proofs.Held.{written_held}

module _ {T M : Type 0} (layout : LayoutFacts) (legal : List T → Type 0) where
  -- a block that the layout holds, and a legal list
  abbrev pub HoldsLegal : PartsView T M → Type 0
  HoldsLegal w = IsBlockHeld layout w.place × ∥ legal w.items ∥₁

module _ {T B M : Type 0} (layout : LayoutFacts) (legal : List T → Type 0)
    (with_part : B → ℕ → List T → B) where
  -- other items in the same places, where any are legal
  pub lent_held : (old new : PartsView T (Given B M)) (items : List T)
      → new ≡ with_written with_part old items
      → ((xs : List T) → legal xs) → HoldsLegal layout legal old → HoldsLegal layout legal new
  lent_held old new items is any held = (
    subst (λ (w : PartsView T (Given B M)). IsBlockHeld layout w.place) (sym is)
        (written_held layout with_part old.place items held.0),
    ∣ any _ ∣₁,
  )

-- what is seen of the window then
pub lent_seen : {T B M : Type 0} (with_part : B → ℕ → List T → B)
    (parts lent seen : PartsView T (Given B M)) (items : List T)
    → lent ≡ with_written with_part parts items → parts ≡ seen
    → lent ≡ with_written with_part seen items
lent_seen with_part parts lent seen items is view =
    is ∙ ap (λ w. with_written with_part w items) view
