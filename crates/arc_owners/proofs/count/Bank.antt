-- A block's bank: the right to free memory is laid in it for a receipt, and taken out for that.
-- Assumes `Logic`.
use Rattle.std.proofs.Common.{◌≡◌, ℕ, zero, suc, ◌≤◌, ◌<◌, Bool, true, false, List, [], ◌∷◌, ◌++◌}
use Rattle.std.proofs.Common.{length, get_or, set, refl, ap, arith}
use Rattle.std.proofs.lemmas.Bool.{false≢true}
use seplogic.Ra.Ura.{Ura}
use base.Share.{quarter}
use base.Logic.{ex, upd, emp, via, upd_i}
use base.Fml.{Fml, ftrue, fsep, finv, fnamed}
use types.Logic.{Logic}
use types.Owned.{basic, named_past}
use types.Kit.{‵, raw, ◌⊛◌, some as any, given, later, ◌$◌, ◌∵◌, !, qed, move, split, fsplit, fjoin}
use types.Kit.{fpick, fpack, pick, learn, show, assume, frame, done, use0, use1, use2, rewrite}
use types.Kit.{suffices, settle, updating, await, now}
use denote.Steps.{nothing}
use Rattle.arc_owners.specs.count.Invariant.{place_coded, row, receipt, laid, banked_as, banked}
use Rattle.arc_owners.proofs.count.Signs.{signs}
use Rattle.arc_owners.proofs.count.Cells.{row_new, row_adds, row_finds, row_ends}

abbrev Slots : Type 0
Slots = List (Bool × (ℕ × ℕ))

module _ {M : Type 1} {𝓤 : Ura M} (𝓛 : Logic 𝓤) (right : ℕ × ℕ → Fml) where
  open 𝓛 use {H}
  open signs 𝓛 use {Pr, ◌⊢◌, ◌∗◌, ⟦◌⟧}

  infix 26 ◌⊢◌
  infixr 35 ◌∗◌
  lays : (xs : Slots) (x : ℕ × ℕ) → ⟦ laid right xs ⟧ ∗ ⟦ right x ⟧
      ⊢ ⟦ laid right (xs ++ (true, x) ∷ []) ⟧
  lays [] x = qed 𝓛 (‵ ftrue ∷ ‵ (right x) ∷ []) ∵ move ! (1 ∷ 0 ∷ []) $ fjoin ! $ done !
  lays ((true, y) ∷ xs) x =
      qed 𝓛 (‵ (fsep (right y) (laid right xs)) ∷ ‵ (right x) ∷ []) ∵ fsplit ! $
      move ! (1 ∷ 2 ∷ []) $ use2 𝓛 (‵ (laid right (xs ++ (true, x) ∷ []))) (lays xs x) $
      move ! (1 ∷ 0 ∷ []) $ fjoin ! $ done !
  lays ((false, y) ∷ xs) x = lays xs x

  takes : (xs : Slots) (k : ℕ) (x : ℕ × ℕ) → get_or xs k (false, (0, 0)) ≡ (true, x)
      → ⟦ laid right xs ⟧ ⊢ ⟦ right x ⟧ ∗ ⟦ laid right (set xs k (false, x)) ⟧
  takes [] k x is = absurd (false≢true (ap (λ (y : Bool × (ℕ × ℕ)). y.0) is))
  takes ((true, y) ∷ xs) zero x is = qed 𝓛 (‵ (fsep (right y) (laid right xs)) ∷ []) ∵ fsplit ! $
      rewrite ! 0 (λ (z : ℕ × ℕ). ‵ (right z)) (ap (λ (w : Bool × (ℕ × ℕ)). w.1) is) refl $ done !
  takes ((false, y) ∷ xs) zero x is = absurd (false≢true (ap (λ (z : Bool × (ℕ × ℕ)). z.0) is))
  takes ((true, y) ∷ xs) (suc k) x is = let rest : Slots = set xs k (false, x) in
      qed 𝓛 (‵ (fsep (right y) (laid right xs)) ∷ []) ∵ fsplit ! $ move ! (1 ∷ []) $
      use1 𝓛 (‵ (right x) ⊛ ‵ (laid right rest)) (takes xs k x is) $ split ! $
      move ! (2 ∷ 1 ∷ []) $ fjoin ! $ move ! (1 ∷ 0 ∷ []) $ done !
  takes ((false, y) ∷ xs) (suc k) x is = takes xs k x is

  -- a new bank, in which nothing lies
  pub opens_bank : emp 𝓤 ⊢ H.⇛ (ex 𝓤 (λ (z : ℕ × ℕ). ⟦ fnamed z.0 (banked right z.1) ⟧))
  opens_bank = qed 𝓛 [] ∵ updating ! $
      use0 𝓛 (later (any (λ (δ : ℕ). ‵ (row place_coded (0, 0) δ 0 []))))
      (via 𝓤 _ (row_new place_coded 𝓛 0 (0, 0)) (basic 𝓛 _)) $ await ! tt $ pick ! (λ δ.
      nothing ! $ move ! (1 ∷ 0 ∷ []) $ fjoin ! $ fpack ! Slots (banked_as right δ) [] $
      use1 𝓛 (later (any (λ (j : ℕ). given (0 ≤ j) (‵ (fnamed j (banked right δ))))))
      (named_past 𝓛 0 (banked right δ)) $ await ! tt $ pick ! (λ j. learn ! (λ _. now ! $
      show ! (λ (z : ℕ × ℕ). ⟦ fnamed z.0 (banked right z.1) ⟧) (j, δ) $ done !)))

  module _ (δ : ℕ) where
    abbrev R : Slots → Fml
    R xs = row place_coded (0, 0) δ 0 xs

    abbrev J : Fml
    J = banked right δ

    pub deposits : (n : ℕ) (x : ℕ × ℕ) → ⟦ fnamed n J ⟧ ∗ ⟦ right x ⟧
        ⊢ H.⇛ (ex 𝓤 (λ (k : ℕ). ⟦ receipt δ k x ⟧))
    deposits n x = let Z : Pr = ex 𝓤 (λ (k : ℕ). ⟦ receipt δ k x ⟧) in
        qed 𝓛 (‵ (fnamed n J) ∷ ‵ (right x) ∷ []) ∵ use1 𝓛 (‵ (finv J)) (𝓛.invs.named_inv n J) $
        suffices ! _ (𝓛.invs.inv_acc J Z) $ frame ! $ assume ! (‵ J) $
        fpick ! (λ xs. fsplit ! $ let more : Slots = xs ++ (true, x) ∷ [] in
        -- [the receipts; what is laid; the right]
        use1 𝓛 (raw (upd 𝓤 (⟦ R more ⟧ ∗ ⟦ receipt δ (length xs) x ⟧)))
        (row_adds place_coded 𝓛 δ (0, 0) xs x) $
        settle 𝓛 (⟦ J ⟧ ∗ Z) (‵ (R more) ⊛ ‵ (receipt δ (length xs) x)) $ split ! $
        suffices ! _ (upd_i 𝓤 (⟦ J ⟧ ∗ Z)) $ move ! (2 ∷ 3 ∷ []) $
        use2 𝓛 (‵ (laid right more)) (lays xs x) $ move ! (1 ∷ 0 ∷ []) $ fjoin ! $
        fpack ! Slots (banked_as right δ) more $ frame ! $
        show ! (λ (k : ℕ). ⟦ receipt δ k x ⟧) (length xs) $ done !)

    pub withdraws : (n k : ℕ) (x : ℕ × ℕ) → ⟦ fnamed n J ⟧ ∗ ⟦ receipt δ k x ⟧
        ⊢ H.⇛ ⟦ right x ⟧
    withdraws n k x = let Z : Pr = ⟦ right x ⟧ in
        qed 𝓛 (‵ (fnamed n J) ∷ ‵ (receipt δ k x) ∷ []) ∵
        use1 𝓛 (‵ (finv J)) (𝓛.invs.named_inv n J) $
        suffices ! _ (𝓛.invs.inv_acc J Z) $ frame ! $ assume ! (‵ J) $
        fpick ! (λ xs. fsplit ! $ let rest : Slots = set xs k (false, x) in
        -- [the receipts; what is laid; this receipt]
        move ! (0 ∷ 2 ∷ []) $
        use2 𝓛 (given ((k < length xs) × (get_or xs k (false, (0, 0)) ≡ (true, x)))
        (‵ (R xs) ⊛ ‵ (receipt δ k x)))
        (row_finds place_coded 𝓛 δ (0, 0) xs 0 k k quarter x (omega arith)) $
        learn ! (λ found. split ! $
        use2 𝓛 (‵ (R rest)) (row_ends place_coded 𝓛 δ (0, 0) xs k x found.0 found.1) $
        move ! (1 ∷ []) $ use1 𝓛 (‵ (right x) ⊛ ‵ (laid right rest)) (takes xs k x found.1) $
        split ! $ suffices ! _ (upd_i 𝓤 (⟦ J ⟧ ∗ Z)) $
        -- [the right; what is laid; the receipts]
        move ! (2 ∷ 1 ∷ []) $ fjoin ! $ fpack ! Slots (banked_as right δ) rest $ done !))
