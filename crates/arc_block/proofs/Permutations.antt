-- Lists with the same elements in another order.
use Rattle.std.proofs.Common.{inl, inr, ◌≡◌, ℕ, ◌+◌, ◌<◌, Bool, eqb, List, [], ◌∷◌, ◌++◌, length}
use Rattle.std.proofs.Common.{Option, Some, None, filter, filter_map, slice_get, slice_set, refl}
use Rattle.std.proofs.Common.{sym, ◌∙◌, ap, subst, arith, append-nil, append_assoc}
use Rattle.std.specs.List.{cons_option}
use Rattle.std.specs.List.Sorted.{IsPermutation}
use Rattle.std.proofs.lemmas.Bool.{cases_Bool, eqb-true, eq-eqb}
use Rattle.std.proofs.lemmas.List.Elements.{filter_map-append}
use Rattle.std.proofs.lemmas.List.Sums.{length-filter}
use Rattle.std.proofs.lemmas.List.Sorted.{IsPermutation-refl, IsPermutation-sym}
use Rattle.std.proofs.lemmas.List.Sorted.{IsPermutation-trans, IsPermutation-cons}
use Rattle.std.proofs.lemmas.List.Sorted.{IsPermutation-middle, IsPermutation-to_front}
use Rattle.std.proofs.lemmas.List.Sorted.{IsPermutation-append_left, IsPermutation-append_right}
use Rattle.std.proofs.lemmas.List.Sorted.{IsPermutation-append_comm}
use Rattle.std.proofs.lemmas.List.Sorted.{sum_by-IsPermutation}
use Rattle.arc_owners.specs.history.Machine.{without_number}
use Rattle.arc_owners.proofs.Numbers.{times, times-append, filter-filter}
use Rattle.arc_block.proofs.Lists.{around}

module _ {X : Type 0} where
  pub permuted-same : {xs ys : List X} → xs ≡ ys → IsPermutation xs ys
  permuted-same {xs = xs} same = subst (IsPermutation xs) same (IsPermutation-refl xs)

  pub permuted-then : {xs ys zs : List X} → IsPermutation xs ys → ys ≡ zs → IsPermutation xs zs
  permuted-then {xs = xs} p same = subst (IsPermutation xs) same p

  pub then-permuted : {xs ys zs : List X} → xs ≡ ys → IsPermutation ys zs → IsPermutation xs zs
  then-permuted {zs = zs} same p = subst (λ l. IsPermutation l zs) (sym same) p

  -- as many pass a test
  filtered-permuted : (p : X → Bool) {xs ys : List X} → IsPermutation xs ys
      → length (filter p xs) ≡ length (filter p ys)
  filtered-permuted p {xs = xs} {ys = ys} same =
      length-filter p xs ∙ sym (sum_by-IsPermutation _ xs ys same) ∙ sym (length-filter p ys)

  -- what is made of one element goes to the end
  to_end : (xs ys : List X) (o : Option X) → IsPermutation (xs ++ cons_option o ys)
      ((xs ++ ys) ++ cons_option o [])
  to_end xs ys None = permuted-same (sym (append-nil (xs ++ ys)))
  to_end xs ys (Some z) = IsPermutation-trans _ _ _ (IsPermutation-middle xs z ys)
      (IsPermutation-sym _ _ (IsPermutation-to_front (xs ++ ys) z))

  ends-turned : (xs us vs : List X) → IsPermutation ((xs ++ us) ++ vs) ((xs ++ vs) ++ us)
  ends-turned xs us vs =
      then-permuted (append_assoc xs us vs)
      (permuted-then (IsPermutation-append_right xs (us ++ vs) (vs ++ us)
      (IsPermutation-append_comm us vs)) (sym (append_assoc xs vs us)))

-- the last element and one before it, each in the other's place
pub filter_map-turned : {X Y : Type 0} (f : X → Option Y) (xs : List X) (i : ℕ) (x y : X)
    → slice_get xs i ≡ Some x
    → IsPermutation (filter_map f (xs ++ y ∷ [])) (filter_map f (slice_set xs i y ++ x ∷ []))
filter_map-turned {Y = Y} f xs i x y here =
    let a = around xs i x here in
    let fs : List Y = filter_map f a.front in
    let rs : List Y = filter_map f a.rest in
    let us : List Y = cons_option (f x) [] in
    let vs : List Y = cons_option (f y) [] in
    let before : filter_map f (xs ++ y ∷ []) ≡ (fs ++ cons_option (f x) rs) ++ vs =
    filter_map-append f xs (y ∷ []) ∙ ap (λ l. l ++ vs) (ap (filter_map f) a.whole
    ∙ filter_map-append f a.front (x ∷ a.rest)) in
    let after : filter_map f (slice_set xs i y ++ x ∷ []) ≡ (fs ++ cons_option (f y) rs) ++ us =
    filter_map-append f (slice_set xs i y) (x ∷ []) ∙ ap (λ l. l ++ us) (ap (filter_map f) (a.set y)
    ∙ filter_map-append f a.front (y ∷ a.rest)) in
    then-permuted before (permuted-then
    (IsPermutation-trans _ _ _ (IsPermutation-append_left vs _ _ (to_end fs rs (f x)))
    (IsPermutation-trans _ _ _ (ends-turned (fs ++ rs) us vs)
    (IsPermutation-append_left us _ _ (IsPermutation-sym _ _ (to_end fs rs (f y))))))
    (sym after))

-- a number stands as often
pub times-permuted : (n : ℕ) {xs ys : List ℕ} → IsPermutation xs ys → times n xs ≡ times n ys
unfolding times
times-permuted n p = filtered-permuted (λ x. eqb x n) p

times-first : (n : ℕ) (xs : List ℕ) → 0 < times n (n ∷ xs)
unfolding times
times-first n xs = rw (eq-eqb n n refl) (omega arith)

times-nil : (n : ℕ) → times n [] ≡ 0
unfolding times
times-nil n = refl

split-at : (n : ℕ) (xs : List ℕ) → 0 < times n xs → (front : List ℕ) × (rest : List ℕ)
    × (xs ≡ front ++ n ∷ rest)
unfolding times
split-at n [] some = absurd (omega (arith, some))
split-at n (x ∷ xs) some = elim (cases_Bool (eqb x n)) [
  | inl same ↦ ([], xs, ap (λ y. y ∷ xs) (eqb-true x n same))
  | inr other ↦ (let s = split-at n xs (rw other at some) in (x ∷ s.0, s.1, ap (λ ys. x ∷ ys) s.2))
]

-- lists of numbers in which each number stands as often differ only in their order
permuted-times : (xs ys : List ℕ) → ((n : ℕ) → times n xs ≡ times n ys) → IsPermutation xs ys
permuted-times [] [] same = IsPermutation-refl []
permuted-times [] (y ∷ ys) same = absurd (omega (arith, same y, times-nil y, times-first y ys))
permuted-times (x ∷ xs) ys same =
    let s = split-at x ys (omega (arith, same x, times-first x xs)) in
    let left = permuted-times xs (s.0 ++ s.1) (λ n.
    let whole : times n ys ≡ times n s.0 + times n (x ∷ s.1) = ap (times n) s.2
    ∙ times-append n s.0 (x ∷ s.1) in
    let rest : times n (x ∷ s.1) ≡ times n (x ∷ []) + times n s.1 = times-append n (x ∷ []) s.1 in
    let first : times n (x ∷ xs) ≡ times n (x ∷ []) + times n xs = times-append n (x ∷ []) xs in
    let both : times n (s.0 ++ s.1) ≡ times n s.0 + times n s.1 = times-append n s.0 s.1 in
    omega (arith, same n)) in
    permuted-then (IsPermutation-trans _ _ _ (IsPermutation-cons x _ _ left)
    (IsPermutation-sym _ _ (IsPermutation-middle s.0 x s.1))) (sym s.2)

-- what a test keeps of each
filter-permuted : (p : ℕ → Bool) {xs ys : List ℕ} → IsPermutation xs ys
    → IsPermutation (filter p xs) (filter p ys)
unfolding times
filter-permuted p {xs = xs} {ys = ys} same = permuted-times (filter p xs) (filter p ys)
    (λ n. ap length (filter-filter p (λ x. eqb x n) xs) ∙ filtered-permuted _ same
    ∙ sym (ap length (filter-filter p (λ x. eqb x n) ys)))

pub without-permuted : (n : ℕ) {xs ys : List ℕ} → IsPermutation xs ys
    → IsPermutation (without_number n xs) (without_number n ys)
without-permuted n same = filter-permuted _ same
