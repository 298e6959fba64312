-- Elements of lists, at their places.
use Rattle.std.proofs.Common.{inl, inr, ◌⊎◌, ◌≡◌, ℕ, ◌+◌, ◌<◌, ◌≤◌, zero, suc, List, [], ◌∷◌}
use Rattle.std.proofs.Common.{length, true, false, Result, Ok, Err}
use Rattle.std.proofs.Common.{Option, Some, None, slice_get, slice_set, refl, sym}
use Rattle.std.proofs.Common.{ap}
use Rattle.std.proofs.Common.{◌∙◌, subst, arith}
use Rattle.std.specs.Option.{option_flatten}
use Rattle.std.proofs.lemmas.Bool.{cases_eq, false≢true}
use Rattle.std.specs.Result.{is_err, OnErr}
use Rattle.std.proofs.lemmas.Option.{none-some, same_Some, slice_get_cases}
use Rattle.arc_block.proofs.Lists.{get-set_other}

cleared : {X : Type 0} (xs : List (Option X)) (i : ℕ)
    → option_flatten (slice_get (slice_set xs i None) i) ≡ None
cleared [] i = refl
cleared (x ∷ xs) zero = refl
cleared (x ∷ xs) (suc i) = cleared xs i

-- one row more is gone
pub gone-below : {X : Type 0} (xs ys : List (Option X)) (i : ℕ) → ys ≡ slice_set xs i None
    → ((j : ℕ) → j < i → option_flatten (slice_get xs j) ≡ None) → (j : ℕ) → j < i + 1
    → option_flatten (slice_get ys j) ≡ None
gone-below xs ys i set below j within =
    ap (λ zs. option_flatten (slice_get zs j)) set
    ∙ elim (cases_eq i j) [
      | inl e ↦ subst (λ k. option_flatten (slice_get (slice_set xs i None) k) ≡ None) e
          (cleared xs i)
      | inr apart ↦ ap option_flatten (get-set_other xs i j None apart)
          ∙ below j (omega (arith, within, λ (e : j ≡ i). apart (sym e)))
    ]

-- all are gone
pub all-gone : {X : Type 0} (xs : List (Option X)) (n : ℕ) → length xs ≤ n
    → ((j : ℕ) → j < n → option_flatten (slice_get xs j) ≡ None) → (j : ℕ)
    → option_flatten (slice_get xs j) ≡ None
all-gone xs n long below j =
    elim (slice_get_cases xs j).1 [
      | inl there ↦ below j (omega (arith, long, there.1))
      | inr past ↦ ap option_flatten past.1
    ]

-- and what holds of an error where there is one
pub an_error : {X E P : Type 0} (r : Result X E) → is_err r ≡ true → OnErr r P → P
an_error (Ok x) bad p = absurd (false≢true bad)
an_error (Err e) bad p = p

-- no items are as many as none
pub none-of : {X : Type 0} (xs : List X) → length xs ≡ 0 → xs ≡ []
none-of [] is = refl
none-of (x ∷ xs) is = absurd (omega (arith, is))

-- a number is none, or at least one
pub none-or-some : (n : ℕ) → (n ≡ 0) ⊎ (1 ≤ n)
none-or-some zero = inl refl
none-or-some (suc n) = inr (omega arith)

-- an element that is there, and one that is put where it stands
pub there : {X : Type 0} (x : Option (Option X)) (y : X) → option_flatten x ≡ Some y
    → x ≡ Some (Some y)
there None y is = absurd (none-some y is)
there (Some None) y is = absurd (none-some y is)
there (Some (Some z)) y is = ap Some is

pub set-there : {X : Type 0} (xs : List X) (i : ℕ) (x : X) → slice_get xs i ≡ Some x
    → slice_set xs i x ≡ xs
set-there [] i x at = refl
set-there (y ∷ xs) zero x at = ap (λ z. z ∷ xs) (sym (same_Some y x at))
set-there (y ∷ xs) (suc i) x at = ap (λ zs. y ∷ zs) (set-there xs i x at)

-- the place that is set last
pub set-twice : {X : Type 0} (xs : List X) (i : ℕ) (x y : X)
    → slice_set (slice_set xs i x) i y ≡ slice_set xs i y
set-twice [] i x y = refl
set-twice (z ∷ xs) zero x y = refl
set-twice (z ∷ xs) (suc i) x y = ap (λ zs. z ∷ zs) (set-twice xs i x y)
