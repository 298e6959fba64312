-- A borrow of a count has the word, whether it is the word's own or that of the cell whose pointer
-- leads there. Assumes `Logic`.
use Rattle.std.proofs.Common.{◌≡◌, ℕ, [], ◌∷◌, refl, sym, ap}
use mathlib.Core.Option.{Option, none, some}
use seplogic.Ra.Ura.{Ura}
use base.Share.{quarter}
use base.Logic.{all}
use base.Growing.{at_least, once}
use types.Logic.{Logic}
use types.Growing.{latest_bounds}
use types.Kit.{‵, ◌⊛◌, given, ◌$◌, ◌∵◌, !, qed, move, keep, drop, split, fsplit3, fjoin, fpick}
use types.Kit.{fpack, learn, frame, each, assume, done, use2, rewrite}
use Rattle.core.specs.Sync.RawAtomic.Pointer.{cell}
use Rattle.arc_owners.specs.count.Invariant.{BlockId, places, lies, counting, placed, pointer}
use Rattle.arc_owners.specs.count.Invariant.{pointed, cell_lies, cell_at, borrowed, leads}
use Rattle.arc_owners.proofs.count.Signs.{signs}

-- whoever knows the place of the count finds it there
pub placed-is : (x : ℕ × ℕ) (y : Option (ℕ × ℕ)) → places.le (some x) y → y ≡ some x
unfolding once
placed-is x none h = absurd h
placed-is x (some y) h = ap (λ (z : ℕ × ℕ). some z) (sym h)

module _ {M : Type 1} {𝓤 : Ura M} (𝓛 : Logic 𝓤) (t : BlockId) (b o : ℕ) where
  open signs 𝓛 use {Pr, ◌⊢◌, ◌∗◌, ◌-∗◌, ⟦◌⟧}

  infix 26 ◌⊢◌
  infixr 35 ◌∗◌
  infixr 30 ◌-∗◌
  -- what is borrowed is whole again with this number in the word
  abbrev pub Whole : Option (ℕ × ℕ) → ℕ → Pr
  Whole w n = ⟦ lies t b o n ⟧ -∗ ⟦ borrowed t b o w ⟧

  pub has_word : (w : Option (ℕ × ℕ)) → ⟦ leads t b o w ⟧ ∗ ⟦ borrowed t b o w ⟧
      ⊢ ⟦ counting t b o ⟧ ∗ all 𝓤 (Whole w)
  has_word none = qed 𝓛 (‵ (leads t b o none) ∷ ‵ (counting t b o) ∷ []) ∵ drop ! $ frame ! $
      each ! (Whole none) (λ n. assume ! (‵ (lies t b o n)) $ fpack ! ℕ (lies t b o) n $ done !)
  has_word (some c) = let here : Option (ℕ × ℕ) = some (b, o) in
      qed 𝓛 (‵ (at_least places t.place here) ∷ ‵ (cell_at t c.0 c.1) ∷ []) ∵ move ! (1 ∷ []) $
      fpick ! (λ y. fsplit3 ! $
      -- [the cell; where the pointer leads; what lies there; what is known of it]
      move ! (1 ∷ 3 ∷ []) $ use2 𝓛 (given (places.le here y) (‵ (placed t quarter y)
      ⊛ ‵ (at_least places t.place here))) (latest_bounds places 𝓛 quarter t.place y here) $
      learn ! (λ le. split ! $ let is : y ≡ here = placed-is (b, o) y le in
      -- [where the pointer leads; what is known; the cell; what lies there]
      rewrite ! 0 (λ (z : Option (ℕ × ℕ)). ‵ (placed t quarter z)) is refl $
      rewrite ! 2 (λ (z : Option (ℕ × ℕ)). ‵ (cell c.0 c.1 (pointer z))) is refl $
      rewrite ! 3 (λ (z : Option (ℕ × ℕ)). ‵ (pointed t z)) is refl $
      move ! (3 ∷ []) $ fsplit3 ! $ move ! (2 ∷ []) $ frame ! $
      -- [that it can be compared; the receipt; where the pointer leads; what is known; the cell]
      each ! (Whole (some c)) (λ n. assume ! (‵ (lies t b o n)) $ fpack ! ℕ (lies t b o) n $
      move ! (2 ∷ 0 ∷ []) $ fjoin ! $ move ! (1 ∷ 0 ∷ []) $ fjoin ! $ move ! (1 ∷ 0 ∷ []) $
      fjoin ! $ move ! (2 ∷ 0 ∷ []) $ fjoin ! $
      fpack ! (Option (ℕ × ℕ)) (cell_lies t c.0 c.1) here $ keep ! (0 ∷ []) $ done !)))
