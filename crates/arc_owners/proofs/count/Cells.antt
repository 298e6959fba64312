-- Cells under one ghost name, one at a time. Assumes `Logic`.
use Rattle.std.proofs.Common.{◌≡◌, ℕ, zero, suc, ◌+◌, ◌<◌, Bool, true, false, List, [], ◌∷◌, ◌++◌}
use Rattle.std.proofs.Common.{length, get_or, set, sym, refl, ap, subst, arith}
use mathlib.Mathlib.Data.Part.{◌∈◌, mem_unique}
use seplogic.Ra.Pcs.{OpDef, OpDef-comm}
use seplogic.Ra.Ura.{Ura}
use seplogic.Ra.Constructions.Prod
use seplogic.Ra.Instances.Ag
use base.Fraction.{full_share}
use base.FractionLaws.{not-OpDef-full_share}
use base.Share
use base.Share.{quarter, three_quarters}
use base.Stored.{Coded}
use base.SetCodes.{coded, SetCoded-set}
use base.Algebras.{pcs, shares}
use base.Shift.{Keyless}
use base.Logic.{ex, all, guard, upd, emp, id⊢, via, apply∗, all_e, ex_e}
use base.Logic.{guard_e, guard_i, upd_mono, upd_i}
use base.Fml.{Fml, Share}
use types.Logic.{Logic, sem}
use types.Keyed.{entry, entries_new, entries_take, entries_beside, entry_cut, entry_glue, entry_set}
use types.Keyed.{entry_keyless, entries_keyless}
use types.Kit.{‵, raw, ◌⊛◌, given, ◌$◌, ◌∵◌, !, qed, by, move, split, join, learn, check, frame}
use types.Kit.{each, assume, done, use1, use2, rewrite, suffices, settle}
use Rattle.arc_owners.specs.count.Invariant.{halved, ghost_var, kept, row}
use Rattle.arc_owners.proofs.count.Signs.{signs}

module _ {X : Type 0} (c : Coded X) where
  kept_keyless : (δ k : ℕ) (x : Bool × X) → Keyless (kept c δ k x)
  kept_keyless δ k (true, x) = entry_keyless (halved c) δ k _
  kept_keyless δ k (false, x) = entry_keyless (halved c) δ k _

  pub row_keyless : (first : X) (δ k : ℕ) (xs : List (Bool × X)) → Keyless (row c first δ k xs)
  row_keyless first δ k [] = entries_keyless (halved c) δ k _
  row_keyless first δ k (x ∷ xs) = (kept_keyless δ k x, row_keyless first δ (suc k) xs)

  summed : (r e f : Share) (x : X) → r ∈ Share.op e f
      → ◌∈◌ {α = Share × X} (r, x) ((halved c).op (e, x) (f, x))
  summed r e f x m = Prod.mk-mem-op Share.op (Ag.op (SetCoded-set (coded c))) {a = e} {a' = f} {x =
      r} {b = x} {b' = x} {y = x} m (Ag.idem (SetCoded-set (coded c)) x)

  module _ {M : Type 1} {𝓤 : Ura M} (𝓛 : Logic 𝓤) (δ : ℕ) where
    open signs 𝓛 use {Pr, ◌⊢◌, ◌∗◌, ◌-∗◌, ⟦◌⟧}

    infix 26 ◌⊢◌
    infixr 35 ◌∗◌
    infixr 30 ◌-∗◌
    abbrev C : ℕ → Share → X → Fml
    C k q x = ghost_var c δ k q x

    abbrev K : ℕ → Bool × X → Fml
    K k x = kept c δ k x

    pub cell_cut : (k : ℕ) (r e f : Share) (x : X) → r ∈ Share.op e f → ⟦ C k r x ⟧
        ⊢ ⟦ C k e x ⟧ ∗ ⟦ C k f x ⟧
    cell_cut k r e f x m = entry_cut (halved c) 𝓛 δ k (e, x) (f, x) (r, x) (summed r e f x m)

    -- two shares of one cell agree on what it holds
    pub cell_agrees : (k : ℕ) (e f : Share) (x y : X) → ⟦ C k e x ⟧ ∗ ⟦ C k f y ⟧
        ⊢ guard 𝓤 ((x ≡ y) × OpDef Share.op e f) (⟦ C k e x ⟧ ∗ ⟦ C k f y ⟧)
    cell_agrees k e f x y = let F : Share × X → Pr = λ z. guard 𝓤
        (z ∈ (halved c).op (e, x) (f, y)) ⟦ entry (halved c) δ k z ⟧ in
        let Z : Pr = ⟦ C k e x ⟧ ∗ ⟦ C k f y ⟧ in
        via 𝓤 (ex 𝓤 F) (entry_glue (halved c) 𝓛 δ k (e, x) (f, y))
        (ex_e 𝓤 F (λ z. guard_e 𝓤 (z ∈ (halved c).op (e, x) (f, y)) ⟦ entry (halved c) δ k z ⟧ (λ m.
        via 𝓤 Z (entry_cut (halved c) 𝓛 δ k (e, x) (f, y) z m)
        (guard_i 𝓤 ((x ≡ y) × OpDef Share.op e f) Z (m.0.1, m.0.0)))))

    pub cell_joins : (k : ℕ) (r e f : Share) (x : X) → r ∈ Share.op e f → ⟦ C k e x ⟧ ∗ ⟦ C k f x ⟧
        ⊢ ⟦ C k r x ⟧
    cell_joins k r e f x s = let F : Share × X → Pr = λ z. guard 𝓤
        (z ∈ (halved c).op (e, x) (f, x)) ⟦ entry (halved c) δ k z ⟧ in
        via 𝓤 (ex 𝓤 F) (entry_glue (halved c) 𝓛 δ k (e, x) (f, x))
        (ex_e 𝓤 F (λ z. guard_e 𝓤 (z ∈ (halved c).op (e, x) (f, x)) ⟦ entry (halved c) δ k z ⟧ (λ m.
        subst (λ (u : Share × X). ⟦ entry (halved c) δ k u ⟧ ⊢ ⟦ C k r x ⟧)
        (mem_unique ((halved c).op (e, x) (f, x)) (summed r e f x s) m) (id⊢ 𝓤 ⟦ C k r x ⟧))))

    -- whoever has the whole of a cell sets it
    pub cell_set : (k : ℕ) (x y : X) → ⟦ C k full_share x ⟧ ⊢ upd 𝓤 ⟦ C k full_share y ⟧
    cell_set k x y = let B : Share × X → Type 0 = λ z. z ≡ (full_share, y) in let F : Share × X
        → Pr = λ z. guard 𝓤 (B z) ⟦ entry (halved c) δ k z ⟧ in let Z : Pr = ⟦ C k full_share y ⟧ in
        via 𝓤 (upd 𝓤 (ex 𝓤 F)) (entry_set (halved c) 𝓛 δ k (full_share, x) B ∣
        ((full_share, y), refl) ∣₁ (λ f d. absurd (not-OpDef-full_share f.0 d.0)))
        (upd_mono 𝓤 {P = ex 𝓤 F} {Q = Z} (ex_e 𝓤 F (λ z. guard_e 𝓤 (B z) ⟦ entry (halved c) δ k z ⟧
        (λ e. subst (λ (u : Share × X). ⟦ entry (halved c) δ k u ⟧ ⊢ Z) (sym e) (id⊢ 𝓤 Z)))))

    pub cell_parts : (k : ℕ) (x y : X) → ⟦ C k full_share x ⟧
        ⊢ upd 𝓤 (⟦ C k quarter y ⟧ ∗ ⟦ C k three_quarters y ⟧)
    cell_parts k x y = let Z : Pr = ⟦ C k quarter y ⟧ ∗ ⟦ C k three_quarters y ⟧ in
        via 𝓤 (upd 𝓤 ⟦ C k full_share y ⟧) (cell_set k x y)
        (upd_mono 𝓤 {P = ⟦ C k full_share y ⟧} {Q = Z}
        (cell_cut k full_share quarter three_quarters y Share.quarters))

    pub cell_whole : (k : ℕ) (x y : X) → ⟦ C k quarter x ⟧ ∗ ⟦ C k three_quarters y ⟧
        ⊢ guard 𝓤 (x ≡ y) ⟦ C k full_share y ⟧
    cell_whole k x y = qed 𝓛 (‵ (C k quarter x) ∷ ‵ (C k three_quarters y) ∷ []) ∵
        use2 𝓛 (given ((x ≡ y) × OpDef Share.op quarter three_quarters)
        (‵ (C k quarter x) ⊛ ‵ (C k three_quarters y))) (cell_agrees k quarter three_quarters x y) $
        learn ! (λ e. check ! e.0 $ split ! $ rewrite ! 0 (λ (z : X). ‵ (C k quarter z)) e.0 refl $
        by ! (cell_joins k full_share quarter three_quarters y Share.quarters))

    module _ (first : X) where
      abbrev R : ℕ → List (Bool × X) → Fml
      R k xs = row c first δ k xs

      abbrev at : List (Bool × X) → ℕ → Bool × X
      at xs i = get_or xs i (false, first)

      here : (k : ℕ) (q : Share) (w : X) (x : Bool × X) → ⟦ K k x ⟧ ∗ ⟦ C k q w ⟧
          ⊢ guard 𝓤 (x ≡ (true, w)) (⟦ K k x ⟧ ∗ ⟦ C k q w ⟧)
      here k q w (true, v) = qed 𝓛 (‵ (C k three_quarters v) ∷ ‵ (C k q w) ∷ []) ∵
          use2 𝓛 (given ((v ≡ w) × OpDef Share.op three_quarters q) (‵ (C k three_quarters v)
          ⊛ ‵ (C k q w))) (cell_agrees k three_quarters q v w) $
          learn ! (λ e. check ! (ap (λ (z : X). (true, z)) e.0) $ split ! $ done !)
      here k q w (false, v) = qed 𝓛 (‵ (C k full_share v) ∷ ‵ (C k q w) ∷ []) ∵
          use2 𝓛 (given ((v ≡ w) × OpDef Share.op full_share q)
          (‵ (C k full_share v) ⊛ ‵ (C k q w))) (cell_agrees k full_share q v w) $
          learn ! (λ e. absurd (not-OpDef-full_share q e.1))

      -- any share of a cell shows that the rest of it is in the invariant
      pub row_finds : (xs : List (Bool × X)) (k i j : ℕ) (q : Share) (w : X) → j ≡ k + i
          → ⟦ R k xs ⟧ ∗ ⟦ C j q w ⟧ ⊢ guard 𝓤 ((i < length xs) × (at xs i ≡ (true, w)))
          (⟦ R k xs ⟧ ∗ ⟦ C j q w ⟧)
      row_finds [] k i j q w e = qed 𝓛 (‵ (R k []) ∷ ‵ (C j q w) ∷ []) ∵ move ! (1 ∷ 0 ∷ []) $
          use2 𝓛 (given (OpDef (halved c).op (q, w) (full_share, first)) (‵ (C j q w) ⊛ ‵ (R k [])))
          (entries_beside (halved c) 𝓛 δ k j (λ _. (full_share, first)) (q, w) (omega arith)) $
          learn ! (λ x. absurd (not-OpDef-full_share q
          ((OpDef-comm (pcs shares) {a = q} {b = full_share}).0 x.0)))
      row_finds (x ∷ xs) k zero j q w e = let is : j ≡ k = omega arith in
          qed 𝓛 ((‵ (K k x) ⊛ ‵ (R (suc k) xs)) ∷ ‵ (C j q w) ∷ []) ∵ split ! $
          rewrite ! 2 (λ (m : ℕ). ‵ (C m q w)) is refl $ move ! (0 ∷ 2 ∷ []) $
          use2 𝓛 (given (x ≡ (true, w)) (‵ (K k x) ⊛ ‵ (C k q w))) (here k q w x) $
          learn ! (λ so. check ! ((let l : zero < suc (length xs) = omega arith in l), so) $
          split ! $
          rewrite ! 1 (λ (m : ℕ). ‵ (C m q w)) (sym is) refl $ move ! (0 ∷ 2 ∷ []) $ join ! $
          done !)
      row_finds (x ∷ xs) k (suc i) j q w e = qed 𝓛 ((‵ (K k x) ⊛ ‵ (R (suc k) xs)) ∷ ‵ (C j q w)
          ∷ []) ∵ split ! $ move ! (1 ∷ 2 ∷ []) $
          use2 𝓛 (given ((i < length xs) × (at xs i ≡ (true, w))) (‵ (R (suc k) xs) ⊛ ‵ (C j q w)))
          (row_finds xs (suc k) i j q w (omega arith)) $
          learn ! (λ so. let l : i < length xs = so.0 in
          check ! ((let r : suc i < suc (length xs) = omega arith in r), so.1) $ split ! $
          move ! (2 ∷ 0 ∷ []) $ join ! $ done !)

      abbrev pub Set : ℕ → List (Bool × X) → ℕ → ℕ → Bool × X → Pr
      Set k xs i j m = ⟦ K j m ⟧ -∗ ⟦ R k (set xs i m) ⟧

      pub row_takes : (xs : List (Bool × X)) (k i j : ℕ) → j ≡ k + i → i < length xs → ⟦ R k xs ⟧
          ⊢ ⟦ K j (at xs i) ⟧ ∗ all 𝓤 (Set k xs i j)
      row_takes [] k i j e l = absurd (omega arith)
      row_takes (x ∷ xs) k zero j e l = let is : j ≡ k = omega arith in
          qed 𝓛 (‵ (K k x) ∷ ‵ (R (suc k) xs) ∷ []) ∵ rewrite ! 0 (λ (m : ℕ). ‵ (K m x))
          (sym is) refl $ frame ! $
          each ! (Set k (x ∷ xs) zero j) (λ m. assume ! (‵ (K j m)) $
          rewrite ! 0 (λ (y : ℕ). ‵ (K y m)) is refl $ done !)
      row_takes (x ∷ xs) k (suc i) j e l = qed 𝓛 (‵ (K k x) ∷ ‵ (R (suc k) xs) ∷ []) ∵
          move ! (1 ∷ []) $
          use1 𝓛 (‵ (K j (at xs i)) ⊛ raw (all 𝓤 (Set (suc k) xs i j)))
          (row_takes xs (suc k) i j (omega arith) (omega arith)) $ split ! $ frame ! $
          each ! (Set k (x ∷ xs) (suc i) j) (λ m. use1 𝓛 (raw (Set (suc k) xs i j m))
          (all_e 𝓤 (Set (suc k) xs i j) m) $ assume ! (‵ (K j m)) $
          use2 𝓛 (‵ (R (suc k) (set xs i m))) (apply∗ 𝓤 ⟦ K j m ⟧ ⟦ R (suc k) (set xs i m) ⟧) $
          move ! (1 ∷ 0 ∷ []) $ done !)

      abbrev pub More : ℕ → List (Bool × X) → ℕ → Bool × X → Pr
      More k xs j m = ⟦ K j m ⟧ -∗ ⟦ R k (xs ++ m ∷ []) ⟧

      pub row_grows : (xs : List (Bool × X)) (k j : ℕ) → j ≡ k + length xs → ⟦ R k xs ⟧
          ⊢ ⟦ C j full_share first ⟧ ∗ all 𝓤 (More k xs j)
      row_grows [] k j e = let is : j ≡ k = omega arith in qed 𝓛 (‵ (R k []) ∷ []) ∵
          use1 𝓛 (‵ (C k full_share first) ⊛ ‵ (R (suc k) []))
          (entries_take (halved c) 𝓛 δ k (λ _. (full_share, first))) $ split ! $
          rewrite ! 0 (λ (x : ℕ). ‵ (C x full_share first)) (sym is) refl $ frame ! $
          each ! (More k [] j) (λ m. assume ! (‵ (K j m)) $
          rewrite ! 0 (λ (y : ℕ). ‵ (K y m)) is refl $ done !)
      row_grows (x ∷ xs) k j e = qed 𝓛 (‵ (K k x) ∷ ‵ (R (suc k) xs) ∷ []) ∵ move ! (1 ∷ []) $
          use1 𝓛 (‵ (C j full_share first) ⊛ raw (all 𝓤 (More (suc k) xs j)))
          (row_grows xs (suc k) j (omega arith)) $ split ! $ frame ! $
          each ! (More k (x ∷ xs) j) (λ m. use1 𝓛 (raw (More (suc k) xs j m))
          (all_e 𝓤 (More (suc k) xs j) m) $ assume ! (‵ (K j m)) $
          use2 𝓛 (‵ (R (suc k) (xs ++ m ∷ []))) (apply∗ 𝓤 ⟦ K j m ⟧ ⟦ R (suc k) (xs ++ m ∷ []) ⟧) $
          move ! (1 ∷ 0 ∷ []) $ done !)

      pub row_new : emp 𝓤 ⊢ upd 𝓤 (ex 𝓤 (λ (γ : ℕ). sem 𝓛 (row c first γ 0 [])))
      row_new = entries_new (halved c) 𝓛 0 (λ _. (full_share, first))

      abbrev T : List (Bool × X) → Fml
      T xs = row c first δ 0 xs

      -- the quarter of a cell sets it, with the rest in the invariant
      pub row_writes : (xs : List (Bool × X)) (j : ℕ) (v u : X) → j < length xs
          → at xs j ≡ (true, v) → ⟦ T xs ⟧ ∗ ⟦ C j quarter v ⟧
          ⊢ upd 𝓤 (⟦ T (set xs j (true, u)) ⟧ ∗ ⟦ C j quarter u ⟧)
      row_writes xs j v u l is = let Z : Pr = ⟦ T (set xs j (true, u)) ⟧ ∗ ⟦ C j quarter u ⟧ in
          qed 𝓛 (‵ (T xs) ∷ ‵ (C j quarter v) ∷ []) ∵
          use1 𝓛 (‵ (K j (at xs j)) ⊛ raw (all 𝓤 (Set 0 xs j j)))
          (row_takes xs 0 j j (omega arith) l) $ split ! $
          rewrite ! 0 (λ (x : Bool × X). ‵ (K j x)) is refl $ move ! (2 ∷ 0 ∷ []) $
          use2 𝓛 (given (v ≡ v) (‵ (C j full_share v))) (cell_whole j v v) $
          learn ! (λ _. use1 𝓛 (raw (upd 𝓤 (⟦ C j quarter u ⟧ ∗ ⟦ C j three_quarters u ⟧)))
          (cell_parts j v u) $
          settle 𝓛 Z (‵ (C j quarter u) ⊛ ‵ (C j three_quarters u)) $ split ! $ move ! (2 ∷ []) $
          use1 𝓛 (raw (Set 0 xs j j (true, u))) (all_e 𝓤 (Set 0 xs j j) (true, u)) $
          move ! (2 ∷ 0 ∷ []) $
          use2 𝓛 (‵ (T (set xs j (true, u)))) (apply∗ 𝓤 ⟦ K j (true, u) ⟧ ⟦ T
          (set xs j (true, u)) ⟧) $ suffices ! _ (upd_i 𝓤 Z) $ done !)

      -- and gives it back for good
      pub row_ends : (xs : List (Bool × X)) (j : ℕ) (v : X) → j < length xs → at xs j ≡ (true, v)
          → ⟦ T xs ⟧ ∗ ⟦ C j quarter v ⟧ ⊢ ⟦ T (set xs j (false, v)) ⟧
      row_ends xs j v l is = qed 𝓛 (‵ (T xs) ∷ ‵ (C j quarter v) ∷ []) ∵
          use1 𝓛 (‵ (K j (at xs j)) ⊛ raw (all 𝓤 (Set 0 xs j j)))
          (row_takes xs 0 j j (omega arith) l) $ split ! $
          rewrite ! 0 (λ (x : Bool × X). ‵ (K j x)) is refl $ move ! (2 ∷ 0 ∷ []) $
          use2 𝓛 (given (v ≡ v) (‵ (C j full_share v))) (cell_whole j v v) $
          learn ! (λ _. move ! (1 ∷ []) $ use1 𝓛 (raw (Set 0 xs j j (false, v)))
          (all_e 𝓤 (Set 0 xs j j) (false, v)) $ move ! (1 ∷ 0 ∷ []) $
          by ! (apply∗ 𝓤 ⟦ K j (false, v) ⟧ ⟦ T (set xs j (false, v)) ⟧))

      -- one more cell, whose quarter is handed out
      pub row_adds : (xs : List (Bool × X)) (u : X) → ⟦ T xs ⟧
          ⊢ upd 𝓤 (⟦ T (xs ++ (true, u) ∷ []) ⟧ ∗ ⟦ C (length xs) quarter u ⟧)
      row_adds xs u = let j : ℕ = length xs in let Z : Pr = ⟦ T (xs ++ (true, u) ∷ []) ⟧
          ∗ ⟦ C j quarter u ⟧ in qed 𝓛 (‵ (T xs) ∷ []) ∵
          use1 𝓛 (‵ (C j full_share first) ⊛ raw (all 𝓤 (More 0 xs j)))
          (row_grows xs 0 j (omega arith)) $ split ! $
          use1 𝓛 (raw (upd 𝓤 (⟦ C j quarter u ⟧ ∗ ⟦ C j three_quarters u ⟧)))
          (cell_parts j first u) $ settle 𝓛 Z (‵ (C j quarter u) ⊛ ‵ (C j three_quarters u)) $
          split ! $ move ! (2 ∷ []) $
          use1 𝓛 (raw (More 0 xs j (true, u))) (all_e 𝓤 (More 0 xs j) (true, u)) $
          move ! (2 ∷ 0 ∷ []) $
          use2 𝓛 (‵ (T (xs ++ (true, u) ∷ []))) (apply∗ 𝓤 ⟦ K j (true, u) ⟧ ⟦ T
          (xs ++ (true, u) ∷ []) ⟧) $ suffices ! _ (upd_i 𝓤 Z) $ done !
