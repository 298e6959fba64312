-- Lists of owners' numbers: which stand in one, and how often.
use Rattle.std.proofs.Common.{inl, inr, ◌≡◌, ℕ, ◌+◌, ◌≤◌, ◌<◌, Bool, true, false, eqb, List, []}
use Rattle.std.proofs.Common.{◌∷◌, ◌++◌, length, refl, sym, ◌∙◌, ap, arith, length-append, not}
use Rattle.std.proofs.Common.{◌&&◌}
use Rattle.std.specs.List.{filter}
use Rattle.std.proofs.lemmas.Bool.{eqb-true, eqb-false, eq-eqb, ne_eqb, cases_Bool, or_parts}
use Rattle.std.proofs.lemmas.Bool.{false≢true}
use Rattle.std.proofs.lemmas.List.Elements.{filter-append}
use Rattle.std.proofs.lemmas.List.Filters.{length-filter_both}
use Rattle.arc_owners.specs.history.Histories.{is_in}
use Rattle.arc_owners.specs.history.Machine.{without_number}

-- how often a number stands in a list
unfoldable pub times : ℕ → List ℕ → ℕ
times n xs = length (filter (λ x. eqb x n) xs)

pub eqb_sym : (a b : ℕ) → eqb a b ≡ eqb b a
eqb_sym a b = elim (cases_Bool (eqb a b)) [
  | inl h ↦ h ∙ sym (eq-eqb b a (sym (eqb-true a b h)))
  | inr h ↦ h ∙ sym (ne_eqb b a (λ e. eqb-false a b h (sym e)))
]

pub not_not : (b : Bool) → b ≡ not (not b)
not_not true = refl
not_not false = refl

-- a second filter keeps what both tests pass
pub filter-filter : {X : Type 0} (p q : X → Bool) (xs : List X) → filter q (filter p xs) ≡ filter
    (λ x. p x && q x) xs
filter-filter p q [] = refl
filter-filter p q (x ∷ xs) = elim (cases_Bool (p x)) [
  | inl h ↦ rw h (elim (cases_Bool (q x)) [
    | inl k ↦ rw k (ap (λ ys. x ∷ ys) (filter-filter p q xs))
    | inr k ↦ rw k (filter-filter p q xs)
  ])
  | inr h ↦ rw h (filter-filter p q xs)
]

-- the numbers but for one, and that one as often as it stands
pub length-without : (n : ℕ) (xs : List ℕ) → length (without_number n xs) + times n xs ≡ length xs
unfolding times
length-without n xs =
    length-filter_both (λ x. not (eqb x n)) (λ x. eqb x n) (λ x. not_not (eqb x n)) xs

pub times-append : (n : ℕ) (xs ys : List ℕ) → times n (xs ++ ys) ≡ times n xs + times n ys
unfolding times
times-append n xs ys = ap length (filter-append (λ x. eqb x n) xs ys)
    ∙ length-append (filter (λ x. eqb x n) xs) (filter (λ x. eqb x n) ys)

pub times-in : (n : ℕ) (xs : List ℕ) → is_in n xs ≡ true → 0 < times n xs
unfolding times
times-in n [] h = absurd (false≢true h)
times-in n (x ∷ xs) h = elim (cases_Bool (eqb x n)) [
  | inl k ↦ rw k (omega arith)
  | inr k ↦ rw k (times-in n xs (rw k at h))
]

pub times-not_in : (n : ℕ) (xs : List ℕ) → is_in n xs ≡ false → times n xs ≡ 0
unfolding times
times-not_in n [] h = refl
times-not_in n (x ∷ xs) h = let parts = or_parts (eqb x n) (is_in n xs) h in
    rw (parts.0) (times-not_in n xs parts.1)

pub times-one : (n m : ℕ) → times n (m ∷ []) ≤ 1
unfolding times
times-one n m = elim (cases_Bool (eqb m n)) [
  | inl k ↦ rw k (omega arith)
  | inr k ↦
      rw k (omega arith)
]

pub times-other : (n m : ℕ) → eqb m n ≡ false → times n (m ∷ []) ≡ 0
unfolding times
times-other n m h = rw h refl

-- a filter keeps no number more often
pub times-filter : (n : ℕ) (p : ℕ → Bool) (xs : List ℕ) → times n (filter p xs) ≤ times n xs
unfolding times
times-filter n p [] = omega arith
times-filter n p (x ∷ xs) = elim (cases_Bool (p x)) [
  | inl h ↦ rw h (elim (cases_Bool (eqb x n)) [
    | inl k ↦ rw k (omega (arith, times-filter n p xs))
    | inr k ↦ rw k (times-filter n p xs)
  ])
  | inr h ↦ rw h (elim (cases_Bool (eqb x n)) [
    | inl k ↦ rw k (omega (arith, times-filter n p xs))
    | inr k ↦ rw k (times-filter n p xs)
  ])
]

-- a number stands after a filter where it stood and passes
pub in-filter : (n : ℕ) (p : ℕ → Bool) (xs : List ℕ) → is_in n xs ≡ true → p n ≡ true
    → is_in n (filter p xs) ≡ true
in-filter n p [] h k = h
in-filter n p (x ∷ xs) h k = elim (cases_Bool (eqb x n)) [
  | inl same ↦ (let e : p x ≡ true = ap p (eqb-true x n same) ∙ k in rw e (rw same refl))
  | inr other ↦ (let rest = in-filter n p xs (rw other at h) k in
      elim (cases_Bool (p x)) [ inl e ↦ rw e (rw other rest) | inr e ↦ rw e rest ])
]

-- what a filter keeps stood there before
pub in-unfiltered : (n : ℕ) (p : ℕ → Bool) (xs : List ℕ) → is_in n (filter p xs) ≡ true
    → is_in n xs ≡ true
in-unfiltered n p [] h = h
in-unfiltered n p (x ∷ xs) h = elim (cases_Bool (eqb x n)) [
  | inl same ↦ rw same refl
  | inr other ↦ rw other (elim (cases_Bool (p x)) [
    | inl e ↦ in-unfiltered n p xs (rw other at (rw e at h))
    | inr e ↦ in-unfiltered n p xs (rw e at h)
  ])
]

-- one more number, that is not there, stands once
pub times-made : (xs : List ℕ) (new : ℕ) → is_in new xs ≡ false → ((n : ℕ) → times n xs ≤ 1)
    → (n : ℕ) → times n (xs ++ new ∷ []) ≤ 1
times-made xs new fresh once n =
    elim (cases_Bool (eqb new n)) [
      | inl same ↦ (let none : times n xs ≡ 0 = times-not_in n xs
          (ap (λ x. is_in x xs) (sym (eqb-true new n same)) ∙ fresh) in
          omega (arith, times-append n xs (new ∷ []), times-one n new))
      | inr other ↦ omega (arith, times-append n xs (new ∷ []), times-other n new other, once n)
    ]
