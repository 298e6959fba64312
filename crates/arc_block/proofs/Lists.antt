-- Lists by their places: one element more, one place set anew, and how many pass a test.
use Rattle.std.proofs.Common.{inl, inr, ◌≡◌, ◌⊎◌, ℕ, zero, suc, ◌+◌, ◌<◌, ◌≤◌, Bool, true, false}
use Rattle.std.proofs.Common.{cond, eqb, List, [], ◌∷◌, ◌++◌, length, Option, Some, None, is_some}
use Rattle.std.proofs.Common.{filter, filter_map, slice_get, slice_set, take, get_or, refl, sym}
use Rattle.std.proofs.Common.{◌∙◌, append_assoc, ap, arith, not}
use Rattle.std.specs.List.{cons_option}
use Rattle.std.proofs.lemmas.Bool.{cases_Bool, eq-eqb, false_from_ne_true, or_right}
use Rattle.std.proofs.lemmas.List.{append-nil, nil_from_length, take_more}
use Rattle.std.proofs.lemmas.List.Folds.{list_any-append}
use Rattle.arc_owners.specs.history.Histories.{is_in}
use Rattle.std.proofs.lemmas.Option.{none-some, same_Some}
use Rattle.std.proofs.lemmas.List.Elements.{filter-append, filter_map-append}
use Rattle.arc_owners.specs.history.Machine.{without_number}
use Rattle.arc_owners.proofs.Numbers.{times, times-append}

-- one element more stands at the end, and each other one where it stood
pub get-push : {X : Type 0} (xs : List X) (y : X) → slice_get (xs ++ y ∷ []) (length xs) ≡ Some y
get-push [] y = refl
get-push (x ∷ xs) y = get-push xs y

pub get-front : {X : Type 0} (xs : List X) (i : ℕ) (x y : X) → slice_get xs i ≡ Some x
    → slice_get (xs ++ y ∷ []) i ≡ Some x
get-front [] i x y here = absurd (none-some x here)
get-front (z ∷ xs) zero x y here = here
get-front (z ∷ xs) (suc i) x y here = get-front xs i x y here

pub push-cases : {X : Type 0} (xs : List X) (i : ℕ) (x y : X) → slice_get (xs ++ y ∷ []) i ≡ Some x
    → (slice_get xs i ≡ Some x) ⊎ ((i ≡ length xs) × (y ≡ x))
push-cases [] zero x y here = inr (refl, same_Some y x here)
push-cases [] (suc i) x y here = absurd (none-some x here)
push-cases (z ∷ xs) zero x y here = inl here
push-cases (z ∷ xs) (suc i) x y here =
    elim (push-cases xs i x y here) [
      | inl front ↦ inl front
      | inr last ↦ inr (ap suc last.0, last.1)
    ]

-- a place that was set, and the others
pub get-set : {X : Type 0} (xs : List X) (i : ℕ) (x y : X) → slice_get xs i ≡ Some x
    → slice_get (slice_set xs i y) i ≡ Some y
get-set [] i x y here = absurd (none-some x here)
get-set (z ∷ xs) zero x y here = refl
get-set (z ∷ xs) (suc i) x y here = get-set xs i x y here

pub get-set_other : {X : Type 0} (xs : List X) (i j : ℕ) (y : X) → ¬ (i ≡ j)
    → slice_get (slice_set xs i y) j ≡ slice_get xs j
get-set_other [] i j y apart = refl
get-set_other (z ∷ xs) zero zero y apart = absurd (apart refl)
get-set_other (z ∷ xs) zero (suc j) y apart = refl
get-set_other (z ∷ xs) (suc i) zero y apart = refl
get-set_other (z ∷ xs) (suc i) (suc j) y apart = get-set_other xs i j y (λ e. apart (ap suc e))

pub set-cases : {X : Type 0} (xs : List X) (i j : ℕ) (x y : X)
    → slice_get (slice_set xs i y) j ≡ Some x → (¬ (i ≡ j) × (slice_get xs j ≡ Some x))
    ⊎ ((i ≡ j) × (y ≡ x))
set-cases [] i j x y here = absurd (none-some x here)
set-cases (z ∷ xs) zero zero x y here = inr (refl, same_Some y x here)
set-cases (z ∷ xs) zero (suc j) x y here = inl (λ e. absurd (omega arith), here)
set-cases (z ∷ xs) (suc i) zero x y here = inl (λ e. absurd (omega arith), here)
set-cases (z ∷ xs) (suc i) (suc j) x y here =
    elim (set-cases xs i j x y here) [
      | inl other ↦ inl (λ e. other.0 (omega arith), other.1)
      | inr same ↦ inr (ap suc same.0, same.1)
    ]

-- a list around one of its places
pub record Around {X : Type 0} (xs : List X) (i : ℕ) (x : X) : Type 0 where
  pub front : List X
  pub rest : List X
  pub whole : xs ≡ front ++ x ∷ rest
  pub set : (y : X) → slice_set xs i y ≡ front ++ y ∷ rest

pub around : {X : Type 0} (xs : List X) (i : ℕ) (x : X) → slice_get xs i ≡ Some x → Around xs i x
around [] i x here = absurd (none-some x here)
around (z ∷ xs) zero x here =
    record { front = []; rest = xs; whole = ap (λ y. y ∷ xs) (same_Some z x here); set = λ y. refl }
around (z ∷ xs) (suc i) x here =
    let a = around xs i x here in
    record {
      front = z ∷ a.front;
      rest = a.rest;
      whole = ap (λ ys. z ∷ ys) a.whole;
      set =
          λ y. ap (λ ys. z ∷ ys) (a.set y);
    }

-- where nothing is made of any element, nothing is made of the list
pub filter_map-none : {X Y : Type 0} (f : X → Option Y) (xs : List X)
    → ((i : ℕ) (x : X) → slice_get xs i ≡ Some x → f x ≡ None) → filter_map f xs ≡ []
filter_map-none f [] none = refl
filter_map-none f (x ∷ xs) none = rw (none 0 x refl) (filter_map-none f xs (λ i. none (suc i)))

-- of the element that is set is made what was made before
pub filter_map-set : {X Y : Type 0} (f : X → Option Y) (xs : List X) (i : ℕ) (x y : X)
    → slice_get xs i ≡ Some x → f y ≡ f x → filter_map f (slice_set xs i y) ≡ filter_map f xs
filter_map-set f xs i x y here same =
    let a = around xs i x here in
    ap (filter_map f) (a.set y) ∙ filter_map-append f a.front (y ∷ a.rest)
    ∙ ap (λ o. filter_map f a.front ++ cons_option o (filter_map f a.rest)) same
    ∙ sym (ap (filter_map f) a.whole ∙ filter_map-append f a.front (x ∷ a.rest))

-- what f gives of an element that stands in the list stands in what it gives of the list
pub filter_map-in : {X : Type 0} (f : X → Option ℕ) (xs : List X) (i : ℕ) (x : X) (n : ℕ)
    → slice_get xs i ≡ Some x → f x ≡ Some n → is_in n (filter_map f xs) ≡ true
filter_map-in f xs i x n here is =
    let a = around xs i x here in
    let fs : List ℕ = filter_map f a.front in
    let rs : List ℕ = filter_map f a.rest in
    let whole : filter_map f xs ≡ fs ++ n ∷ rs = ap (filter_map f) a.whole
    ∙ filter_map-append f a.front (x ∷ a.rest) ∙ ap (λ o. fs ++ cons_option o rs) is in
    let self : eqb n n ≡ true = eq-eqb n n refl in
    ap (is_in n) whole ∙ list_any-append (λ m. eqb m n) fs (n ∷ rs)
    ∙ or_right (is_in n fs) (is_in n (n ∷ rs)) (rw self refl)

without-absent : (n : ℕ) (xs : List ℕ) → times n xs ≡ 0 → without_number n xs ≡ xs
unfolding times
without-absent n [] none = refl
without-absent n (x ∷ xs) none = elim (cases_Bool (eqb x n)) [
  | inl same ↦ absurd (omega (arith, rw same at none))
  | inr other ↦ rw other (ap (λ ys. x ∷ ys) (without-absent n xs (rw other at none)))
]

times-own : (n : ℕ) (xs : List ℕ) → times n (n ∷ xs) ≡ suc (times n xs)
unfolding times
times-own n xs = rw (eq-eqb n n refl) refl

-- of the element that is set nothing is made now, where a number was that is made of no other
pub filter_map-gone : {X : Type 0} (f : X → Option ℕ) (xs : List X) (i : ℕ) (x y : X) (n : ℕ)
    → slice_get xs i ≡ Some x → f x ≡ Some n → f y ≡ None → times n (filter_map f xs) ≤ 1
    → filter_map f (slice_set xs i y) ≡ without_number n (filter_map f xs)
filter_map-gone f xs i x y n here is none once =
    let a = around xs i x here in
    let fs : List ℕ = filter_map f a.front in
    let rs : List ℕ = filter_map f a.rest in
    let before : filter_map f xs ≡ fs ++ n ∷ rs = ap (filter_map f) a.whole
    ∙ filter_map-append f a.front (x ∷ a.rest) ∙ ap (λ o. fs ++ cons_option o rs) is in
    let after : filter_map f (slice_set xs i y) ≡ fs ++ rs = ap (filter_map f) (a.set y)
    ∙ filter_map-append f a.front (y ∷ a.rest) ∙ ap (λ o. fs ++ cons_option o rs) none in
    let self : eqb n n ≡ true = eq-eqb n n refl in
    let many : times n fs + suc (times n rs) ≡ times n (filter_map f xs) = sym (ap (times n) before
    ∙ times-append n fs (n ∷ rs) ∙ ap (λ m. times n fs + m) (times-own n rs)) in
    let none_before : without_number n fs ≡ fs = without-absent n fs (omega arith) in
    let none_after : without_number n rs ≡ rs = without-absent n rs (omega arith) in
    after ∙ sym (ap (without_number n) before ∙ filter-append (λ k. not (eqb k n)) fs (n ∷ rs)
    ∙ rw (self, none_before, none_after) refl)

-- how many pass a test: none, some, and one alone
pub passes-some : {X : Type 0} (p : X → Bool) (xs : List X) (i : ℕ) (x : X)
    → slice_get xs i ≡ Some x → p x ≡ true → 0 < length (filter p xs)
passes-some p [] i x here holds = absurd (none-some x here)
passes-some p (z ∷ xs) zero x here holds = let e : p z ≡ true = ap p (same_Some z x here) ∙ holds in
    rw e (omega arith)
passes-some p (z ∷ xs) (suc i) x here holds = let more = passes-some p xs i x here holds in
    elim (cases_Bool (p z)) [ inl e ↦ rw e (omega arith) | inr e ↦ rw e more ]

passes-none : {X : Type 0} (p : X → Bool) (xs : List X) → ((i : ℕ) (x : X) → slice_get xs i ≡ Some x
    → ¬ (p x ≡ true)) → length (filter p xs) ≡ 0
passes-none p [] none = refl
passes-none p (x ∷ xs) none =
    rw (false_from_ne_true (p x) (none 0 x refl)) (passes-none p xs (λ i. none (suc i)))

pub only-one : {X : Type 0} (p : X → Bool) (xs : List X) (i : ℕ) (x : X) → slice_get xs i ≡ Some x
    → p x ≡ true → ((j : ℕ) (y : X) → slice_get xs j ≡ Some y → p y ≡ true → j ≡ i)
    → length (filter p xs) ≡ 1
only-one p [] i x here holds only = absurd (none-some x here)
only-one p (z ∷ xs) zero x here holds only =
    let e : p z ≡ true = ap p (same_Some z x here) ∙ holds in
    rw e (ap suc (passes-none p xs (λ j y there too. let past : suc j ≡ 0 = only (suc j) y there too
    in absurd (omega arith))))
only-one p (z ∷ xs) (suc i) x here holds only =
    let e : p z ≡ false = false_from_ne_true (p z) (λ too. let past : 0 ≡ suc i = only 0 z refl too
    in absurd (omega arith)) in
    rw e (only-one p xs i x here holds (λ j y there too. let same : suc j ≡ suc i = only (suc j) y
    there too in omega arith))

pub one-only : {X : Type 0} (p : X → Bool) (xs : List X) (i j : ℕ) (x y : X)
    → length (filter p xs) ≡ 1 → slice_get xs i ≡ Some x → p x ≡ true → slice_get xs j ≡ Some y
    → p y ≡ true → j ≡ i
one-only p [] i j x y one here holds there too = absurd (none-some x here)
one-only p (z ∷ xs) zero zero x y one here holds there too = refl
one-only p (z ∷ xs) zero (suc j) x y one here holds there too =
    let e : p z ≡ true = ap p (same_Some z x here) ∙ holds in
    absurd (omega (arith, rw e at one, passes-some p xs j y there too))
one-only p (z ∷ xs) (suc i) zero x y one here holds there too =
    let e : p z ≡ true = ap p (same_Some z y there) ∙ too in
    absurd (omega (arith, rw e at one, passes-some p xs i x here holds))
one-only p (z ∷ xs) (suc i) (suc j) x y one here holds there too = elim (cases_Bool (p z)) [
  | inl e ↦ absurd (omega (arith, rw e at one, passes-some p xs i x here holds))
  | inr e ↦ ap suc (one-only p xs i j x y (rw e at one) here holds there too)
]

-- as many pass a test as numbers are made, where both are of the same elements
pub counts-more : {X Y : Type 0} (b : Bool) (o : Option Y) (x : X) (xs : List X) (ys : List Y)
    → b ≡ is_some o → length xs ≡ length ys → length (cond b (x ∷ xs) xs) ≡ length
    (cons_option o ys)
counts-more b None x xs ys is same = rw is same
counts-more b (Some y) x xs ys is same = rw is (ap suc same)

-- an item goes from the front of one list to the end of another
pub handed_over : {T : Type 0} (xs ys rest left all : List T) (x : T) → ys ≡ xs ++ x ∷ []
    → rest ≡ x ∷ left → xs ++ rest ≡ all → ys ++ left ≡ all
handed_over xs ys rest left all x more is before =
    ap (λ zs. zs ++ left) more ∙ append_assoc xs (x ∷ []) left ∙ ap (λ zs. xs ++ zs) (sym is)
    ∙ before

-- and all have gone where none is left
pub all_over : {T : Type 0} (xs rest all : List T) → length rest ≡ 0 → xs ++ rest ≡ all → xs ≡ all
all_over xs rest all none before =
    sym (append-nil xs) ∙ ap (λ zs. xs ++ zs) (sym (nil_from_length rest none)) ∙ before

-- an item more of a list follows those that are there
pub one_more : {T : Type 0} (front xs ys zs : List T) (i : ℕ) (x : T) → x ≡ get_or xs i x
    → i < length xs → ys ≡ front ++ take i xs → zs ≡ ys ++ x ∷ [] → zs ≡ front ++ take (i + 1) xs
one_more front xs ys zs i x is inside before more =
    more ∙ ap (λ l. l ++ x ∷ []) before ∙ append_assoc front (take i xs) (x ∷ [])
    ∙ ap (λ l. front ++ l)
    (ap (λ y. take i xs ++ y ∷ []) is ∙ sym (take_more xs i x inside))
