-- What lies in places side by side, as a list of what each holds.
--     length-contents, take-contents, drop-contents      their number, the first and the others
--     contents-append      two ranges as one, where the front is full or the back holds nothing
use Rattle.std.proofs.Common.{◌≡◌, ℕ, zero, suc, ◌+◌, ◌≤◌, ◌⊎◌, inl, inr, List, [], ◌∷◌, ◌++◌}
use Rattle.std.proofs.Common.{length, take, drop, Some, None, Option, refl, sym, ap, ◌∙◌, arith}
use Rattle.std.proofs.Common.{append-nil}
use Rattle.arc_memory.specs.LentMemory.{contents}

module _ {T : Type 0} where
  pub length-contents : (n : ℕ) (xs : List T) → length (contents n xs) ≡ n
  length-contents zero xs = refl
  length-contents (suc n) [] = ap suc (length-contents n [])
  length-contents (suc n) (x ∷ xs) = ap suc (length-contents n xs)

  abbrev nil : List T
  nil = []

  take-none : (k : ℕ) → take k nil ≡ []
  take-none zero = refl
  take-none (suc k) = refl

  drop-none : (k : ℕ) → drop k nil ≡ []
  drop-none zero = refl
  drop-none (suc k) = refl

  pub take-contents : (k n : ℕ) (xs : List T) → k ≤ n → take k (contents n xs) ≡ contents k
      (take k xs)
  take-contents zero n xs h = refl
  take-contents (suc k) zero xs h = absurd (omega arith)
  take-contents (suc k) (suc n) [] h = ap (λ (ys : List (Option T)). None ∷ ys)
      (take-contents k n [] (omega arith) ∙ ap (contents k) (take-none k))
  take-contents (suc k) (suc n) (x ∷ xs) h =
      ap (λ (ys : List (Option T)). Some x ∷ ys) (take-contents k n xs (omega arith))

  pub drop-contents : (k n m : ℕ) (xs : List T) → n ≡ k + m → drop k (contents n xs) ≡ contents m
      (drop k xs)
  drop-contents zero n m xs e = let same : n ≡ m = omega arith in ap (λ (j : ℕ). contents j xs) same
  drop-contents (suc k) zero m xs e = absurd (omega arith)
  drop-contents (suc k) (suc n) m [] e =
      drop-contents k n m [] (omega arith) ∙ ap (contents m) (drop-none k)
  drop-contents (suc k) (suc n) m (x ∷ xs) e = drop-contents k n m xs (omega arith)

  append-full : (c k n : ℕ) (ys zs : List T) → n ≡ c + k → length ys ≡ c
      → contents n (ys ++ zs) ≡ contents c ys ++ contents k zs
  append-full zero k n [] zs e full =
      let same : n ≡ k = omega arith in ap (λ (j : ℕ). contents j zs) same
  append-full zero k n (y ∷ ys) zs e full = absurd (omega arith)
  append-full (suc c) k n [] zs e full = absurd (omega arith)
  append-full (suc c) k zero (y ∷ ys) zs e full = absurd (omega arith)
  append-full (suc c) k (suc n) (y ∷ ys) zs e full = ap (λ (ws : List (Option T)). Some y ∷ ws)
      (append-full c k n ys zs (omega arith) (omega arith))

  append-empty : (c k n : ℕ) (ys : List T) → n ≡ c + k → length ys ≤ c
      → contents n ys ≡ contents c ys ++ contents k []
  append-empty zero k n [] e held =
      let same : n ≡ k = omega arith in ap (λ (j : ℕ). contents j []) same
  append-empty zero k n (y ∷ ys) e held = absurd (omega arith)
  append-empty (suc c) k zero ys e held = absurd (omega arith)
  append-empty (suc c) k (suc n) [] e held =
      ap (λ (ws : List (Option T)). None ∷ ws) (append-empty c k n [] (omega arith) (omega arith))
  append-empty (suc c) k (suc n) (y ∷ ys) e held =
      ap (λ (ws : List (Option T)). Some y ∷ ws) (append-empty c k n ys (omega arith) (omega arith))

  pub contents-append : (c k n : ℕ) (ys zs : List T) → (length ys ≡ c) ⊎ (zs ≡ []) → n ≡ c + k
      → length ys ≤ c → contents n (ys ++ zs) ≡ contents c ys ++ contents k zs
  contents-append c k n ys zs (inl full) e held = append-full c k n ys zs e full
  contents-append c k n ys zs (inr none) e held = ap (λ (ws : List T). contents n (ys ++ ws)) none
      ∙ ap (contents n) (append-nil ys) ∙ append-empty c k n ys e held
      ∙ ap (λ (ws : List T). contents c ys ++ contents k ws) (sym none)
