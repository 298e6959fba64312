-- Places side by side are cut at a place, and put together again. Assumes `Logic`.
--     opened, shut      what lies side by side is the items and the room behind them
--     cut        the first places, and the others
--     glued_on   both ranges as one, where the front is full or the back holds nothing
use Rattle.std.proofs.Common.{◌≡◌, ℕ, ◌+◌, ◌-◌, ◌*◌, ◌≤◌, ◌<◌, ◌⊎◌, inl, inr, List, [], ◌∷◌, ◌++◌}
use Rattle.std.proofs.Common.{length, take, drop, refl, sym, ap, ◌∙◌, subst, arith, add_assoc}
use Rattle.std.proofs.Common.{add_comm, add-mul, le_of_lt, length-append, length-take-le}
use Rattle.std.proofs.Common.{length-drop, take-append-drop, drop_of_length-le, append-nil}
use seplogic.Ra.Ura.{Ura}
use mir.Syntax.{ty_array}
use base.Fraction.{full_share}
use base.Logic.{ent, sep, emp, id⊢}
use base.Fml.{Fml, froom}
use types.Logic.{Logic, sem}
use types.Kit.{‵, ◌⊛◌, given, ◌$◌, ◌∵◌, !, qed, by, move, drop as drop_entry, learn, split, fsplit}
use types.Kit.{fjoin, use0, use1, use2, rewrite, done}
use denote.Memory.{part_at}
use denote.Array.{Array}
use denote.Index.{row, place, place_is}
use denote.RawPtr.{block_ptr}
use Rattle.std_alloc.proofs.RawLayout.{as_raw, as_written}
use Rattle.std_alloc.proofs.VecSteps.El.{El, R, el_x, elτ, sz}
use Rattle.std_alloc.proofs.VecSteps.Rows.{apart, whole, row_cut, row_glue, room_split, glued}
use Rattle.arc_memory.specs.Memory.{side_by_side}

-- so many more places of s bytes
pub further : (o m k s : ℕ) → o + (m + k) * s ≡ o + m * s + k * s
further o m k s = ap (λ (j : ℕ). o + j) (add-mul m k s) ∙ sym (add_assoc o (m * s) (k * s))

module _ (E : El) {M : Type 1} {𝓤 : Ura M} (𝓛 : Logic 𝓤) (b : ℕ) where
  abbrev s : ℕ
  s = sz E

  abbrev pub Side : ℕ → ℕ → List (el_x E) → Fml
  Side o c xs = side_by_side (R E) (block_ptr b o) c xs

  abbrev pub items : List (el_x E) → ℕ → Fml
  items xs o = row (R E) full_share xs b o

  abbrev pub bare : ℕ → ℕ → Fml
  bare n o = froom (ty_array (elτ E) n) b o

  pub opened : (o c : ℕ) (xs : List (el_x E))
      → ent 𝓤 (sem 𝓛 (Side o c xs))
      (sep 𝓤 (sem 𝓛 (items xs o)) (sem 𝓛 (bare (c - length xs) (o + length xs * s))))
  opened o c xs = let n = length xs in qed 𝓛 (‵ (Side o c xs) ∷ []) ∵ fsplit ! $
      use1 𝓛 (given (length xs ≡ n) (‵ (items xs o))) (apart E 𝓛 full_share n xs b o) $
      learn ! (λ _.
      move ! (1 ∷ []) $ as_written ! (ty_array (elτ E) (c - n)) b (o + n * s) $
      move ! (1 ∷ 0 ∷ []) $ done !)

  pub shut : (o c : ℕ) (xs : List (el_x E))
      → ent 𝓤 (sep 𝓤 (sem 𝓛 (items xs o)) (sem 𝓛 (bare (c - length xs) (o + length xs * s))))
      (sem 𝓛 (Side o c xs))
  shut o c xs = let n = length xs in qed 𝓛 (‵ (items xs o) ∷ ‵ (bare (c - n) (o + n * s)) ∷ [])
      ∵ use1 𝓛 (‵ (part_at (Array (R E) n) full_share xs b o)) (whole E 𝓛 full_share n xs b o refl)
      $
      move ! (1 ∷ []) $ as_raw ! (ty_array (elτ E) (c - n)) b (o + n * s) $ move ! (1 ∷ 0 ∷ []) $
      fjoin ! $ done !

  -- a list that ends where another begins
  joint : (o at : ℕ) (ys : List (el_x E)) → length ys ≡ at → place s o (length ys) ≡ o + at * s
  joint o at ys long = ap (place s o) long ∙ place_is s o at ∙ add_comm (at * s) o

  -- a cut among the items
  cut_within : (o at c : ℕ) (ys zs : List (el_x E)) → length ys ≡ at → at + length zs ≤ c
      → ent 𝓤 (sem 𝓛 (Side o c (ys ++ zs)))
      (sep 𝓤 (sem 𝓛 (Side o at ys)) (sem 𝓛 (Side (o + at * s) (c - at) zs)))
  cut_within o at c ys zs long fits =
      let m = length ys in let k = length zs in
      let all : length (ys ++ zs) ≡ at + k = length-append ys zs ∙ ap (λ (j : ℕ). j + k) long in
      let left : c - length (ys ++ zs) ≡ c - at - k = omega (arith, all) in
      let end : o + length (ys ++ zs) * s ≡ o + at * s + k * s = ap (λ (j : ℕ). o + j * s) all
      ∙ further o at k s in
      let none : 0 ≡ at - m = omega (arith, long) in
      qed 𝓛 (‵ (Side o c (ys ++ zs)) ∷ [])
      ∵ use1 𝓛 (‵ (items (ys ++ zs) o) ⊛ ‵
      (bare (c - length (ys ++ zs)) (o + length (ys ++ zs) * s))) (opened o c (ys ++ zs)) $
      split ! $
      use1 𝓛 (‵ (items ys o) ⊛ ‵ (items zs (place s o m))) (row_cut E 𝓛 full_share ys zs b o) $
      split ! $
      rewrite ! 1 (λ (j : ℕ). ‵ (items zs j)) (joint o at ys long) refl $
      rewrite ! 2 (λ (j : ℕ × ℕ). ‵ (bare j.0 j.1)) (λ i. (left i, end i)) refl $
      move ! (1 ∷ 2 ∷ []) $ use2 𝓛 (‵ (Side (o + at * s) (c - at) zs))
      (shut (o + at * s) (c - at) zs) $ move ! (1 ∷ []) $
      use0 𝓛 (‵ (bare 0 (o + m * s))) (𝓛.laws.room_nil (elτ E) b (o + m * s)) $
      rewrite ! 0 (λ (j : ℕ). ‵ (bare j (o + m * s))) none refl $ move ! (1 ∷ 0 ∷ []) $
      use2 𝓛 (‵ (Side o at ys)) (shut o at ys) $ done !

  -- a cut past them
  cut_past : (o at c : ℕ) (xs : List (el_x E)) → length xs ≤ at → at ≤ c
      → ent 𝓤 (sem 𝓛 (Side o c xs))
      (sep 𝓤 (sem 𝓛 (Side o at xs)) (sem 𝓛 (Side (o + at * s) (c - at) [])))
  cut_past o at c xs low fits =
      let n = length xs in let there = o + n * s in
      let left : c - n - (at - n) ≡ c - at - 0 = omega (arith, low, fits) in
      let up : n + (at - n) ≡ at + 0 = omega (arith, low) in
      let end : there + (at - n) * s ≡ o + at * s + 0 * s = sym (further o n (at - n) s)
      ∙ ap (λ (j : ℕ). o + j * s) up ∙ further o at 0 s in
      qed 𝓛 (‵ (Side o c xs) ∷ []) ∵ use1 𝓛 (‵ (items xs o) ⊛ ‵ (bare (c - n) there))
      (opened o c xs) $ split ! $ move ! (1 ∷ []) $
      use1 𝓛 (‵ (bare (at - n) there) ⊛ ‵ (bare (c - n - (at - n)) (there + (at - n) * s)))
      (room_split E 𝓛 (at - n) (c - n) b there (omega (arith, low, fits))) $ split ! $
      rewrite ! 1 (λ (j : ℕ × ℕ). ‵ (bare j.0 j.1)) (λ i. (left i, end i)) refl $ move ! (1 ∷ []) $
      use0 𝓛 (‵ (items [] (o + at * s))) (id⊢ 𝓤 (emp 𝓤)) $
      use2 𝓛 (‵ (Side (o + at * s) (c - at) [])) (shut (o + at * s) (c - at) []) $
      move ! (2 ∷ 1 ∷ []) $ use2 𝓛 (‵ (Side o at xs)) (shut o at xs) $ done !

  pub cut : (o at c : ℕ) (xs : List (el_x E)) → (at < length xs) ⊎ (length xs ≤ at) → at ≤ c
      → length xs ≤ c → ent 𝓤 (sem 𝓛 (Side o c xs))
      (sep 𝓤 (sem 𝓛 (Side o at (take at xs))) (sem 𝓛 (Side (o + at * s) (c - at) (drop at xs))))
  cut o at c xs (inl among) fits held =
      let same : take at xs ++ drop at xs ≡ xs = take-append-drop at xs in
      let rest : at + length (drop at xs) ≤ c = omega (arith, length-drop at xs, among, held) in
      subst (λ (ys : List (el_x E)). ent 𝓤 (sem 𝓛 (Side o c ys))
      (sep 𝓤 (sem 𝓛 (Side o at (take at xs)))
      (sem 𝓛 (Side (o + at * s) (c - at) (drop at xs))))) same
      (cut_within o at c (take at xs) (drop at xs) (length-take-le at xs (le_of_lt among)) rest)
  cut o at c xs (inr past) fits held =
      let none : drop at xs ≡ [] = drop_of_length-le xs past in
      let all : take at xs ≡ xs = sym (append-nil (take at xs))
      ∙ ap (λ (ys : List (el_x E)). take at xs ++ ys) (sym none) ∙ take-append-drop at xs in
      subst (λ (z : List (el_x E) × List (el_x E)). ent 𝓤 (sem 𝓛 (Side o c xs))
      (sep 𝓤 (sem 𝓛 (Side o at z.0)) (sem 𝓛 (Side (o + at * s) (c - at) z.1))))
      (λ i. (sym all i, sym none i)) (cut_past o at c xs past fits)

  -- the front is full
  glue_full : (o c k : ℕ) (ys zs : List (el_x E)) → length ys ≡ c → length zs ≤ k
      → ent 𝓤 (sep 𝓤 (sem 𝓛 (Side o c ys)) (sem 𝓛 (Side (o + c * s) k zs)))
      (sem 𝓛 (Side o (c + k) (ys ++ zs)))
  glue_full o c k ys zs long fits =
      let m = length ys in let n = length zs in let back = o + c * s in
      let all : length (ys ++ zs) ≡ c + n = length-append ys zs ∙ ap (λ (j : ℕ). j + n) long in
      let left : k - n ≡ c + k - length (ys ++ zs) = omega (arith, all, fits) in
      let end : back + n * s ≡ o + length (ys ++ zs) * s = sym (further o c n s)
      ∙ ap (λ (j : ℕ). o + j * s) (sym all) in
      qed 𝓛 (‵ (Side o c ys) ∷ ‵ (Side back k zs) ∷ [])
      ∵ use1 𝓛 (‵ (items ys o) ⊛ ‵ (bare (c - m) (o + m * s))) (opened o c ys) $ split ! $
      move ! (1 ∷ []) $ drop_entry ! $ move ! (1 ∷ []) $
      use1 𝓛 (‵ (items zs back) ⊛ ‵ (bare (k - n) (back + n * s))) (opened back k zs) $ split ! $
      rewrite ! 0 (λ (j : ℕ). ‵ (items zs j)) (sym (joint o c ys long)) refl $
      move ! (2 ∷ 0 ∷ []) $
      use2 𝓛 (‵ (items (ys ++ zs) o)) (row_glue E 𝓛 full_share ys zs b o) $
      rewrite ! 1 (λ (j : ℕ × ℕ). ‵ (bare j.0 j.1)) (λ i. (left i, end i)) refl $
      by ! (shut o (c + k) (ys ++ zs))

  -- the back holds nothing
  glue_empty : (o c k : ℕ) (ys : List (el_x E)) → length ys ≤ c
      → ent 𝓤 (sep 𝓤 (sem 𝓛 (Side o c ys)) (sem 𝓛 (Side (o + c * s) k [])))
      (sem 𝓛 (Side o (c + k) ys))
  glue_empty o c k ys held =
      let m = length ys in let there = o + m * s in let back = o + c * s in
      let left : k - 0 ≡ k = omega arith in
      let up : c + 0 ≡ m + (c - m) = omega (arith, held) in
      let end : back + 0 * s ≡ there + (c - m) * s = sym (further o c 0 s)
      ∙ ap (λ (j : ℕ). o + j * s) up ∙ further o m (c - m) s in
      qed 𝓛 (‵ (Side o c ys) ∷ ‵ (Side back k []) ∷ [])
      ∵ use1 𝓛 (‵ (items ys o) ⊛ ‵ (bare (c - m) there)) (opened o c ys) $ split ! $
      move ! (2 ∷ []) $
      use1 𝓛 (‵ (items [] back) ⊛ ‵ (bare (k - 0) (back + 0 * s))) (opened back k []) $ split ! $
      drop_entry ! $ rewrite ! 0 (λ (j : ℕ × ℕ). ‵ (bare j.0 j.1)) (λ i. (left i, end i)) refl $
      move ! (2 ∷ 0 ∷ []) $ use2 𝓛 (‵ (bare (c + k - m) there))
      (glued E 𝓛 (c - m) k (c + k - m) b there (omega (arith, held))) $ move ! (1 ∷ 0 ∷ []) $
      by ! (shut o (c + k) ys)

  pub glued_on : (o c k : ℕ) (ys zs : List (el_x E)) → (length ys ≡ c) ⊎ (zs ≡ []) → length ys ≤ c
      → length zs ≤ k → ent 𝓤 (sep 𝓤 (sem 𝓛 (Side o c ys)) (sem 𝓛 (Side (o + c * s) k zs)))
      (sem 𝓛 (Side o (c + k) (ys ++ zs)))
  glued_on o c k ys zs (inl full) held fits = glue_full o c k ys zs full fits
  glued_on o c k ys zs (inr none) held fits =
      subst (λ (ws : List (el_x E)). ent 𝓤
      (sep 𝓤 (sem 𝓛 (Side o c ys)) (sem 𝓛 (Side (o + c * s) k ws)))
      (sem 𝓛 (Side o (c + k) (ys ++ ws)))) (sym none)
      (subst (λ (ws : List (el_x E)). ent 𝓤
      (sep 𝓤 (sem 𝓛 (Side o c ys)) (sem 𝓛 (Side (o + c * s) k []))) (sem 𝓛 (Side o (c + k) ws)))
      (sym (append-nil ys)) (glue_empty o c k ys held))
