-- A load of the cell by an owner that asks for its block back. By the cell's place it opens the
-- cell with the owner's own part of the lifetime: the borrow shuts before the block's invariant,
-- for which that part is wanted. Assumes `Logic`.
use Rattle.std.proofs.Common.{◌≡◌, ℕ, ◌<◌, Bool, true, false, List, [], ◌∷◌, refl, sym, arith}
use mathlib.Core.Option.{Option, none, some}
use mathlib.Core.List.{Mem, mem-cons, not-mem-nil}
use mathlib.Core.HLevel.{⊥_prop}
use mathlib.Core.Logic.Or
use seplogic.Ra.Ura.{Ura}
use base.Share.{quarter}
use base.Logic.{ex, guard, upd, upd_i, ex_i, apply∗}
use base.Fml.{Lft, Share, Fml, ftrue, fsep, flft, fbor, fnamed}
use types.Logic.{Logic}
use types.Kit.{‵, raw, ◌⊛◌, some as any, ◌$◌, ◌∵◌, !, qed, by, move, split, split3, join, group}
use types.Kit.{fsplit, fjoin, fpick, fpack, pick, frame, assume, show, check, done, use1, use2, use3}
use types.Kit.{rewrite, suffices, settle}
use denote.RawPtr.{Ptr, block_ptr}
use denote.Steps.{nothing}
use Rattle.core.specs.Sync.RawAtomic.{Shift, rests, opens, shuts, enters, leaves, along, shifted}
use Rattle.core.specs.Sync.RawAtomic.{if_none}
use Rattle.core.specs.Sync.RawAtomic.Pointer.{cell, asks_ptr, asks_by_cases, found_ptr}
use Rattle.core.proofs.raw_atomic.Asked.{PtrLiesWith, borrowed_ptr_with}
use Rattle.arc_owners.specs.count.Invariant.{BlockId, Line, Lease, right, contents, pass_holds}
use Rattle.arc_owners.specs.count.Invariant.{trace_owns, staked, stake, IsStake, claim_gain, pointer}
use Rattle.arc_owners.specs.count.Invariant.{cell_holds, cell_lies, cell_at}
use Rattle.arc_owners.proofs.count.Signs.{signs}
use Rattle.arc_owners.proofs.count.Places.{pauses}
use Rattle.arc_owners.proofs.count.Stakes.{as_stake}
use Rattle.arc_owners.proofs.count.LoneMoves.{sees, holding, claims_lone}
use Rattle.arc_owners.specs.count.Leads.{target, known_at}
use Rattle.arc_owners.proofs.count.LoneSteps.{target-pointer, knows, passed, Seeks_at, with_name}
use Rattle.arc_owners.proofs.count.LoneSteps.{as_it_was}

-- whether the word was found lone
abbrev pub lone_at : Option (ℕ × ℕ) → Bool
lone_at none = true
lone_at (some x) = false

module _ {M : Type 1} {𝓤 : Ura M} (𝓛 : Logic 𝓤) (i j b o : ℕ) (apart : ¬ (j ≡ i)) (κ : Lft)
    (e : Share) (I J : Fml) (C : Type 0) (was new : C → Ptr) (tells after : C → Fml) where
  open 𝓛 use {A as At}
  open signs 𝓛 use {Pr, ◌⊢◌, ◌∗◌, ◌-∗◌, ⟦◌⟧}

  infix 26 ◌⊢◌
  infixr 35 ◌∗◌
  infixr 30 ◌-∗◌
  abbrev P : Fml
  P = fbor κ I

  abbrev O : Pr
  O = At.obor κ e I

  -- what is still owed when the borrow shuts
  abbrev pub Owing : C → Pr
  Owing c = At.lft κ e -∗ (⟦ J ⟧ ∗ ⟦ after c ⟧)

  abbrev pub Turning : C → Pr
  Turning c = ⟦ cell b o (new c) ⟧ -∗ upd 𝓤 (⟦ I ⟧ ∗ Owing c)

  abbrev pub Spent : C → Pr
  Spent c = ⟦ cell b o (was c) ⟧ ∗ ⟦ tells c ⟧ ∗ Turning c

  abbrev open_both : List (ℕ × Fml)
  open_both = (j, J) ∷ (i, P) ∷ []

  abbrev Held : List (ℕ × Fml) → Pr
  Held L = ex 𝓤 (found_ptr 𝓛 C was new tells after L b o)

  shutting : (c : C) → upd 𝓤 (⟦ I ⟧ ∗ Owing c) ∗ O
      ⊢ shifted 𝓛 (if_none 𝓛 ⟦ after c ⟧) open_both
  shutting c = let Z : Pr = ⟦ after c ⟧ in let Rest : Pr = ⟦ J ⟧ ∗ upd 𝓤 (⟦ P ⟧ ∗ upd 𝓤 Z) in
      let Back : Pr = (At.bor κ I ∗ At.lft κ e) -∗ upd 𝓤 Rest in
      qed 𝓛 (raw (upd 𝓤 (⟦ I ⟧ ∗ Owing c)) ∷ raw O ∷ []) ∵
      suffices ! _ (ex_i 𝓤 (λ (s : Shift). along 𝓛 s (if_none 𝓛 Z) open_both)
      (shuts κ e I (leaves (leaves rests)))) $
      settle 𝓛 ((O ∗ ⟦ I ⟧) ∗ Back) (‵ I ⊛ raw (Owing c)) $
      suffices ! _ (upd_i 𝓤 ((O ∗ ⟦ I ⟧) ∗ Back)) $ split ! $ move ! (2 ∷ 0 ∷ []) $ join ! $
      frame ! $ assume ! (‵ P ⊛ ‵ (flft κ e)) $
      suffices ! _ (upd_i 𝓤 Rest) $ split ! $ move ! (1 ∷ 2 ∷ []) $
      use2 𝓛 (‵ J ⊛ raw Z) (apply∗ 𝓤 (At.lft κ e) (⟦ J ⟧ ∗ Z)) $ split ! $ frame ! $
      suffices ! _ (upd_i 𝓤 (⟦ P ⟧ ∗ upd 𝓤 Z)) $ move ! (1 ∷ []) $ frame ! $
      suffices ! _ (upd_i 𝓤 Z) $ done !

  pub spends_ptr : (X : Pr) → ⟦ I ⟧ ∗ ⟦ J ⟧ ∗ X ⊢ upd 𝓤 (ex 𝓤 Spent)
      → At.named i P ∗ At.named j J ∗ At.lft κ e ∗ X
      ⊢ asks_by_cases 𝓛 C was new tells after (block_ptr b o)
  spends_ptr X step = let Lent : Pr = (At.bor κ I ∗ At.lft κ e)
      ∗ ((O ∗ ⟦ I ⟧) -∗ upd 𝓤 (Held open_both)) in
      let Second : Pr = guard 𝓤 (¬ Mem j (i ∷ [])) (At.named j J ∗ (⟦ J ⟧ -∗ upd 𝓤 Lent)) in
      let other : ¬ Mem j (i ∷ []) = λ m. mathlib.Core.Logic.Or.elim ⊥_prop
      ((mem-cons {a = j} {b = i} {l = []}).0 m) apart (λ x. not-mem-nil x) in
      qed 𝓛 (‵ (fnamed i P) ∷ ‵ (fnamed j J) ∷ ‵ (flft κ e) ∷ raw X ∷ []) ∵
      suffices ! _ (ex_i 𝓤 (λ (s : Shift). along 𝓛 s Held [])
      (enters i P (enters j J (opens κ e I rests)))) $
      suffices ! _ (upd_i 𝓤 (guard 𝓤 (¬ Mem i []) (At.named i P ∗ (⟦ P ⟧ -∗ upd 𝓤 Second)))) $
      check ! (λ m. not-mem-nil m) $ frame ! $ assume ! (‵ P) $
      suffices ! _ (upd_i 𝓤 Second) $ check ! other $ move ! (1 ∷ []) $ frame ! $ assume ! (‵ J) $
      suffices ! _ (upd_i 𝓤 Lent) $ move ! (1 ∷ 2 ∷ []) $ join ! $ frame ! $
      assume ! (raw O ⊛ ‵ I) $ split ! $ move ! (1 ∷ 2 ∷ 3 ∷ []) $
      use3 𝓛 (raw (upd 𝓤 (ex 𝓤 Spent))) step $
      settle 𝓛 (Held open_both) (any (λ (c : C). ‵ (cell b o (was c)) ⊛ ‵ (tells c)
      ⊛ raw (Turning c))) $
      suffices ! _ (upd_i 𝓤 (Held open_both)) $ pick ! (λ c. split3 ! $
      show ! (found_ptr 𝓛 C was new tells after open_both b o) c $ frame ! $ frame ! $
      assume ! (‵ (cell b o (new c))) $
      use2 𝓛 (raw (upd 𝓤 (⟦ I ⟧ ∗ Owing c)))
      (apply∗ 𝓤 ⟦ cell b o (new c) ⟧ (upd 𝓤 (⟦ I ⟧ ∗ Owing c))) $ by ! (shutting c))

module _ {M : Type 1} {𝓤 : Ura M} (𝓛 : Logic 𝓤) (t : BlockId) (p : ℕ) (ready : Bool)
    (seen : List Line) (own : ℕ) (l : Lease) where
  open 𝓛 use {A as At}
  open signs 𝓛 use {Pr, ◌⊢◌, ◌∗◌, ◌-∗◌, ⟦◌⟧}

  infix 26 ◌⊢◌
  infixr 35 ◌∗◌
  infixr 30 ◌-∗◌
  abbrev J : Fml
  J = contents t

  abbrev N : Fml
  N = fnamed t.number J

  abbrev R : Fml
  R = right t own l quarter

  abbrev B : Fml
  B = pass_holds t p ready seen

  abbrev T : Fml
  T = trace_owns true t p ready seen

  -- what such a load leaves: the block, where the word was lone; else the owner and the pass as
  -- they were
  abbrev rest : Option (ℕ × ℕ) → Fml
  rest x = fsep (known_at t x) (passed 𝓛 t p ready seen own l (Seeks_at 𝓛 t p ready seen own l) x)

  abbrev pub claimed : Option (ℕ × ℕ) → Fml
  claimed x = fsep (claim_gain t own l (lone_at x)) (rest x)

  -- the same before the invariant shuts, for which the owner's stake is wanted
  abbrev Claims : Option (ℕ × ℕ) → Pr
  Claims x = ⟦ cell_holds t x ⟧ ∗ (⟦ stake l ⟧ -∗ (⟦ J ⟧ ∗ ⟦ claimed x ⟧))

  claims : l.is_lent ≡ true → (x : Option (ℕ × ℕ))
      → ⟦ cell_holds t x ⟧ ∗ ⟦ J ⟧ ∗ ⟦ N ⟧ ∗ ⟦ B ⟧ ∗ ⟦ R ⟧ ⊢ upd 𝓤 (Claims x)
  claims lent none = let C : Fml = cell_holds t none in
      let G : Fml = claim_gain t own l true in
      let S : Fml = sees 𝓛 t p ready seen own l (holding 𝓛 t p ready seen own l true) none in
      let W : Pr = ⟦ stake l ⟧ -∗ (⟦ J ⟧ ∗ ⟦ G ⟧ ∗ ⟦ S ⟧) in
      qed 𝓛 (‵ C ∷ ‵ J ∷ ‵ N ∷ ‵ B ∷ ‵ R ∷ []) ∵ move ! (0 ∷ 1 ∷ 3 ∷ 4 ∷ []) $ group ! 4 $
      use1 𝓛 (raw (upd 𝓤 (⟦ C ⟧ ∗ W))) (claims_lone 𝓛 t p ready seen own l lent true) $
      settle 𝓛 (Claims none) (‵ C ⊛ raw W) $ split ! $ suffices ! _ (upd_i 𝓤 (Claims none)) $
      -- [the cell's; what is owed; the invariant's name]
      frame ! $ assume ! (‵ (stake l)) $
      use2 𝓛 (‵ J ⊛ ‵ G ⊛ ‵ S) (apply∗ 𝓤 ⟦ stake l ⟧ (⟦ J ⟧ ∗ ⟦ G ⟧ ∗ ⟦ S ⟧)) $ split3 ! $
      frame ! $ move ! (2 ∷ 1 ∷ []) $
      use2 𝓛 (‵ (passed 𝓛 t p ready seen own l (Seeks_at 𝓛 t p ready seen own l) none))
      (with_name 𝓛 t p ready seen own l (Seeks_at 𝓛 t p ready seen own l) true none
      (λ ls so. (refl, so))) $ nothing ! $ fjoin ! $ move ! (1 ∷ 0 ∷ []) $ fjoin ! $ done !
  claims lent (some x) = let here : Option (ℕ × ℕ) = some x in let C : Fml = cell_holds t here in
      qed 𝓛 (‵ C ∷ ‵ J ∷ ‵ N ∷ ‵ B ∷ ‵ R ∷ []) ∵ suffices ! _ (upd_i 𝓤 (Claims here)) $
      use1 𝓛 (‵ C ⊛ ‵ (known_at t here)) (knows 𝓛 t p ready seen own l here) $ split ! $ frame ! $
      assume ! (‵ (stake l)) $
      -- [the stake; what is known; the invariant; its name; the pass; the right]
      move ! (2 ∷ []) $ frame ! $ move ! (2 ∷ 3 ∷ []) $
      use2 𝓛 (‵ (passed 𝓛 t p ready seen own l (Seeks_at 𝓛 t p ready seen own l) here))
      (as_it_was 𝓛 t p ready seen own l (Seeks_at 𝓛 t p ready seen own l) here (refl, refl)) $
      -- [the pass; the stake; what is known; the right]
      move ! (2 ∷ 0 ∷ []) $ fjoin ! $ move ! (1 ∷ []) $ nothing ! $ move ! (1 ∷ 0 ∷ []) $ fjoin ! $
      move ! (2 ∷ 0 ∷ []) $ fjoin ! $ fjoin ! $ done !

  module _ (i b o : ℕ) (past : t.number < i) where
    abbrev I : Fml
    I = cell_at t b o

    unequal : ¬ (t.number ≡ i)
    unequal x = omega arith

    abbrev after : Ptr → Fml
    after r = claimed (target r)

    -- by a borrow of the cell for a lifetime whose token comes back
    module _ (κ : Lft) (e : Share) where
      abbrev Found : Ptr → Pr
      Found = PtrLiesWith 𝓛 κ e I b o Ptr (λ r. r) (λ r. r) (λ _. ftrue) after J

      reads : l.is_lent ≡ true → (x : Option (ℕ × ℕ)) → ⟦ cell b o (pointer x) ⟧
          ∗ ⟦ cell_holds t x ⟧ ∗ ⟦ J ⟧ ∗ ⟦ N ⟧ ∗ ⟦ B ⟧ ∗ ⟦ R ⟧ ∗ ⟦ stake l ⟧
          ⊢ upd 𝓤 (ex 𝓤 Found)
      reads lent x = let r : Ptr = pointer x in let C : Fml = cell_holds t x in
          let W : Pr = ⟦ stake l ⟧ -∗ (⟦ J ⟧ ∗ ⟦ claimed x ⟧) in
          qed 𝓛 (‵ (cell b o r) ∷ ‵ C ∷ ‵ J ∷ ‵ N ∷ ‵ B ∷ ‵ R ∷ ‵ (stake l) ∷ []) ∵
          move ! (1 ∷ 2 ∷ 3 ∷ 4 ∷ 5 ∷ []) $ group ! 5 $
          use1 𝓛 (raw (upd 𝓤 (Claims x))) (claims lent x) $
          settle 𝓛 (ex 𝓤 Found) (‵ C ⊛ raw W) $ split ! $
          suffices ! _ (upd_i 𝓤 (ex 𝓤 Found)) $
          -- [the cell's; what is owed; the cell; the stake]
          show ! Found r $ move ! (2 ∷ []) $ frame ! $ nothing ! $ frame ! $
          assume ! (‵ (cell b o r)) $
          suffices ! _ (upd_i 𝓤 (⟦ I ⟧ ∗ ⟦ J ⟧ ∗ ⟦ after r ⟧)) $ fjoin ! $
          fpack ! (Option (ℕ × ℕ)) (cell_lies t b o) x $ frame ! $ move ! (1 ∷ 0 ∷ []) $
          use2 𝓛 (‵ J ⊛ ‵ (claimed x)) (apply∗ 𝓤 ⟦ stake l ⟧ (⟦ J ⟧ ∗ ⟦ claimed x ⟧)) $ split ! $
          frame ! $
          rewrite ! 0 (λ (z : Option (ℕ × ℕ)). ‵ (claimed z)) (sym (target-pointer x)) refl $ done !

      pub claims_by : l.is_lent ≡ true
          → At.named i (fbor κ I) ∗ ⟦ N ⟧ ∗ At.lft κ e ∗ ⟦ N ⟧ ∗ ⟦ B ⟧ ∗ ⟦ R ⟧ ∗ ⟦ stake l ⟧
          ⊢ asks_ptr 𝓛 (block_ptr b o) (λ r. r) (λ r. fsep (flft κ e) (claimed (target r)))
      claims_by lent = borrowed_ptr_with 𝓛 κ e I b o Ptr (λ r. r) (λ r. r) (λ _. ftrue) after i
          t.number J unequal (⟦ N ⟧ ∗ ⟦ B ⟧ ∗ ⟦ R ⟧ ∗ ⟦ stake l ⟧)
          (qed 𝓛 (‵ I ∷ ‵ J ∷ ‵ N ∷ ‵ B ∷ ‵ R ∷ ‵ (stake l) ∷ []) ∵
          fpick ! (λ x. fsplit ! $ by ! (reads lent x)))

    abbrev κ : Lft
    κ = l.lifetime ∷ []

    abbrev Turned : Share → Ptr → Pr
    Turned e = Spent 𝓛 i t.number b o unequal κ e I J Ptr (λ r. r) (λ r. r) (λ _. ftrue) after

    turns : (e : Share) → IsStake e → l.is_lent ≡ true → (x : Option (ℕ × ℕ))
        → ⟦ cell b o (pointer x) ⟧ ∗ ⟦ cell_holds t x ⟧ ∗ ⟦ J ⟧ ∗ ⟦ N ⟧ ∗ ⟦ B ⟧ ∗ ⟦ R ⟧
        ⊢ upd 𝓤 (ex 𝓤 (Turned e))
    turns e c lent x = let r : Ptr = pointer x in let C : Fml = cell_holds t x in
        let W : Pr = ⟦ stake l ⟧ -∗ (⟦ J ⟧ ∗ ⟦ claimed x ⟧) in
        let Owes : Pr = At.lft κ e -∗ (⟦ J ⟧ ∗ ⟦ after r ⟧) in
        qed 𝓛 (‵ (cell b o r) ∷ ‵ C ∷ ‵ J ∷ ‵ N ∷ ‵ B ∷ ‵ R ∷ []) ∵
        move ! (1 ∷ 2 ∷ 3 ∷ 4 ∷ 5 ∷ []) $ group ! 5 $
        use1 𝓛 (raw (upd 𝓤 (Claims x))) (claims lent x) $
        settle 𝓛 (ex 𝓤 (Turned e)) (‵ C ⊛ raw W) $ split ! $
        suffices ! _ (upd_i 𝓤 (ex 𝓤 (Turned e))) $
        -- [the cell's; what is owed; the cell]
        show ! (Turned e) r $ move ! (2 ∷ []) $ frame ! $ nothing ! $ frame ! $
        assume ! (‵ (cell b o r)) $ suffices ! _ (upd_i 𝓤 (⟦ I ⟧ ∗ Owes)) $ fjoin ! $
        fpack ! (Option (ℕ × ℕ)) (cell_lies t b o) x $ frame ! $ assume ! (‵ (flft κ e)) $
        use1 𝓛 (‵ (stake l)) (as_stake 𝓛 t p ready seen own l lent e c) $
        use2 𝓛 (‵ J ⊛ ‵ (claimed x)) (apply∗ 𝓤 ⟦ stake l ⟧ (⟦ J ⟧ ∗ ⟦ claimed x ⟧)) $ split ! $
        frame ! $
        rewrite ! 0 (λ (z : Option (ℕ × ℕ)). ‵ (claimed z)) (sym (target-pointer x)) refl $ done !

    -- by the cell's place, with the owner's own part of the lifetime
    pub claims_cell : l.is_lent ≡ true
        → At.named i (fbor κ I) ∗ ⟦ T ⟧ ∗ ⟦ R ⟧ ∗ ⟦ stake l ⟧
        ⊢ asks_ptr 𝓛 (block_ptr b o) (λ r. r) (λ r. claimed (target r))
    claims_cell lent = qed 𝓛 (‵ (fnamed i (fbor κ I)) ∷ ‵ T ∷ ‵ R ∷ ‵ (staked l.is_lent l) ∷ []) ∵
        rewrite ! 3 (λ (y : Bool). ‵ (staked y l)) lent refl $ move ! (3 ∷ []) $
        fpick ! (λ e. fpick ! (λ c. move ! (2 ∷ []) $
        use1 𝓛 (‵ N ⊛ ‵ N ⊛ ‵ B) (pauses 𝓛 t p ready seen) $ split3 ! $
        move ! (4 ∷ 0 ∷ 3 ∷ 1 ∷ 2 ∷ 5 ∷ []) $
        by ! (spends_ptr 𝓛 i t.number b o unequal κ e I J Ptr (λ r. r) (λ r. r) (λ _. ftrue) after
        (⟦ N ⟧ ∗ ⟦ B ⟧ ∗ ⟦ R ⟧) (qed 𝓛 (‵ I ∷ ‵ J ∷ ‵ N ∷ ‵ B ∷ ‵ R ∷ []) ∵
        fpick ! (λ x. fsplit ! $ by ! (turns e c lent x))))))
