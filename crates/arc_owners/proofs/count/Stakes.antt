-- An operation of an owner who opens the word with its own part of the lifetime, and who may have
-- given that up once the step is done: the word may then be gone. Assumes `Logic`.
use Rattle.std.proofs.Common.{◌≡◌, ℕ, Bool, true, List, [], ◌∷◌, refl, sym}
use seplogic.Ra.Ura.{Ura}
use base.Share.{quarter}
use base.Logic.{upd, never, never_e, via, fst∗, upd_i, apply∗}
use base.Fml.{Lft, Share, Fml, flft, fnamed}
use types.Logic.{Logic}
use types.RcWeak.{part_in}
use types.Kit.{‵, raw, ◌⊛◌, ◌$◌, ◌∵◌, !, qed, by, move, split, split3, group, fpick}
use types.Kit.{frame, assume, done, use1, rewrite, suffices, settle}
use denote.RawPtr.{Ptr, block_ptr, null_ptr}
use Rattle.core.specs.Sync.RawAtomic.{asks, always}
use Rattle.arc_owners.specs.count.Invariant.{BlockId, Line, Lease, right, staked, stake, contents}
use Rattle.arc_owners.specs.count.Invariant.{IsStake}
use Rattle.arc_owners.specs.count.Invariant.{behind, word_borrow_as, word_borrow, Borrowing}
use Rattle.arc_owners.specs.count.Invariant.{pass_holds, trace_owns}
use Rattle.arc_owners.proofs.count.Signs.{signs}
use Rattle.arc_owners.proofs.count.Operations.{Operation}
use Rattle.arc_owners.proofs.count.Moves.{Steps}
use Rattle.arc_owners.proofs.count.Places as places

module _ {M : Type 1} {𝓤 : Ura M} (𝓛 : Logic 𝓤) (t : BlockId) (p : ℕ) (ready : Bool)
    (seen : List Line) (own : ℕ) (l : Lease) (lent : l.is_lent ≡ true) where
  open 𝓛 use {A as At}
  open signs 𝓛 use {Pr, ◌⊢◌, ◌∗◌, ◌-∗◌, ⟦◌⟧}

  infix 26 ◌⊢◌
  infixr 35 ◌∗◌
  infixr 30 ◌-∗◌
  abbrev J : Fml
  J = contents t

  abbrev N : Fml
  N = fnamed t.number J

  abbrev κ : Lft
  κ = l.lifetime ∷ []

  abbrev T : Fml
  T = trace_owns true t p ready seen

  abbrev B : Fml
  B = pass_holds t p ready seen

  abbrev R : Fml
  R = right t own l quarter

  pub as_stake : (e : Share) → IsStake e → At.lft κ e ⊢ ⟦ stake l ⟧
  as_stake e c = qed 𝓛 (‵ (flft κ e) ∷ []) ∵ use1 𝓛 (‵ (staked true l))
      (part_in 64 𝓛 l.lifetime e c) $
      rewrite ! 0 (λ (y : Bool). ‵ (staked y l)) (sym lent) refl $ done !

  module _ (op : Operation) (steps : Steps 𝓛 t p ready seen own l quarter (stake l) op) where
    abbrev after : ℕ → Fml
    after n = places.after 𝓛 t p ready seen op n

    at_word : (j : Borrowing) (b o : ℕ) → ⟦ word_borrow_as t b o κ j ⟧ ∗ ⟦ T ⟧ ∗ ⟦ R ⟧
        ∗ ⟦ stake l ⟧
        ⊢ asks 𝓛 (block_ptr b o) op.next always after
    at_word j b o = qed 𝓛 (‵ (word_borrow_as t b o κ j) ∷ ‵ T ∷ ‵ R
        ∷ ‵ (staked l.is_lent l) ∷ []) ∵
        rewrite ! 3 (λ (y : Bool). ‵ (staked y l)) lent refl $ move ! (3 ∷ []) $
        fpick ! (λ e. fpick ! (λ c. move ! (2 ∷ []) $
        use1 𝓛 (‵ N ⊛ ‵ N ⊛ ‵ B) (places.pauses 𝓛 t p ready seen) $ split3 ! $
        move ! (4 ∷ 0 ∷ 3 ∷ 1 ∷ 2 ∷ 5 ∷ []) $
        by ! (places.spends 𝓛 t j b o κ e op.next (⟦ N ⟧ ∗ ⟦ B ⟧ ∗ ⟦ R ⟧) after (λ n.
        let m : ℕ = op.next n in let W : Pr = ⟦ stake l ⟧ -∗ (⟦ J ⟧ ∗ ⟦ after n ⟧) in
        let Z : Pr = ⟦ behind t m ⟧ ∗ (At.lft κ e -∗ (⟦ J ⟧ ∗ ⟦ after n ⟧)) in
        qed 𝓛 (‵ (behind t n) ∷ ‵ J ∷ ‵ N ∷ ‵ B ∷ ‵ R ∷ []) ∵ group ! 5 $
        use1 𝓛 (raw (upd 𝓤 (⟦ behind t m ⟧ ∗ W))) (places.turns 𝓛 t p ready seen own l quarter
        (stake l) op steps n) $
        settle 𝓛 Z (‵ (behind t m) ⊛ raw W) $ split ! $ suffices ! _ (upd_i 𝓤 Z) $ frame ! $
        assume ! (‵ (flft κ e)) $
        use1 𝓛 (‵ (stake l)) (as_stake e c) $ by ! (apply∗ 𝓤 ⟦ stake l ⟧ (⟦ J ⟧ ∗ ⟦ after n ⟧))))))

    -- by the place of the word
    pub by_place : (place : Ptr) → ⟦ word_borrow t place l.lifetime ⟧ ∗ ⟦ T ⟧ ∗ ⟦ R ⟧ ∗ ⟦ stake l ⟧
        ⊢ asks 𝓛 place op.next always after
    by_place (block_ptr b o) = qed 𝓛 (‵ (word_borrow t (block_ptr b o) l.lifetime) ∷ ‵ T ∷ ‵ R
        ∷ ‵ (stake l) ∷ []) ∵
        fpick ! (λ j. by ! (at_word j b o))
    by_place null_ptr = via 𝓤 (never 𝓤) (fst∗ 𝓤 (never 𝓤) (⟦ T ⟧ ∗ ⟦ R ⟧ ∗ ⟦ stake l ⟧))
        (never_e 𝓤 (asks 𝓛 null_ptr op.next always after))
