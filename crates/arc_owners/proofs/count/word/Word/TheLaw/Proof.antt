-- A `&` to the word of a count is an invariant over a borrow of it, whose number is past the
-- invariant's. Assumes `Logic`.
use Rattle.std.proofs.Common.{ℕ, [], ◌∷◌}
use seplogic.Ra.Ura.{Ura}
use base.Fraction.{full_share}
use base.Fml.{Lft, Share, Fml, fex, fbor, flft, Incl-refl}
use base.Before.{before}
use types.Logic.{Logic, sem}
use types.Kit.{‵, ◌⊛◌, later, ◌$◌, ◌∵◌, !, qed, move, use0, use1, use2, split, fsplit}
use types.Kit.{fjoin, fpick, fpack, await, updating, now, done}
use types.Na.{before-Incl, before_dup}
use denote.Memory.{part_at}
use denote.SharingLaws.{ends_shr_laws}
use Rattle.core.proofs.cell.Borrows.{by_one}
use Rattle.arc_owners.specs.count.Invariant.{BlockId, lent, word_borrow_as, word_borrow_for}
use Rattle.arc_owners.specs.count.Invariant.{Borrowing}
use Rattle.arc_owners.proofs.count.Shared.{borrow_twice}
use Rattle.arc_owners.proofs.count.Signs.{signs}
use Rattle.arc_owners.proofs.count.WordBorrows.{borrows_word}
use Rattle.arc_owners.specs.contracts.count.word.Word as C
use Rattle.arc_owners.proofs.count.word.Word.TheLaw.Statement.{statement}

module _ {M : Type 1} {𝓤 : Ura M} (𝓛 : Logic 𝓤) (t : BlockId) (b o : ℕ) where
  open 𝓛 use {H, A as At}
  open signs 𝓛 use {Pr, ◌⊢◌, ◌∗◌, ⟦◌⟧}

  infix 26 ◌⊢◌
  infixr 35 ◌∗◌
  abbrev Whole : Fml
  Whole = part_at C.the_written full_share t b o

  shared : (κ : Lft) (q : Share) → At.bor κ Whole ∗ At.lft κ q ⊢ H.⇛
      (⟦ fex (Lft × Borrowing) (lent t b o κ) ⟧ ∗ At.lft κ q)
  shared κ q = qed 𝓛 (‵ (fbor κ Whole) ∷ ‵ (flft κ q) ∷ []) ∵ updating ! $
      use2 𝓛 (later (‵ (word_borrow_for t b o κ) ⊛ ‵ (flft κ q))) (borrows_word 𝓛 t b o κ q) $
      await ! tt $ split ! $
      fpick ! (λ j. use0 𝓛 (‵ (before κ κ)) (before-Incl 𝓛 κ κ (Incl-refl κ)) $ fjoin ! $
      fpack ! (Lft × Borrowing) (lent t b o κ) (κ, j) $ now ! $ done !)

  abbrev Shared : Lft → Fml
  Shared κ = fex (Lft × Borrowing) (lent t b o κ)

  twice : (κ : Lft) → ⟦ Shared κ ⟧ ⊢ ⟦ Shared κ ⟧ ∗ ⟦ Shared κ ⟧
  twice κ = qed 𝓛 (‵ (Shared κ) ∷ []) ∵ fpick ! (λ z. let B : Fml = word_borrow_as t b o z.0 z.1 in
      fsplit ! $ use1 𝓛 (‵ (before κ z.0) ⊛ ‵ (before κ z.0)) (before_dup 𝓛 κ z.0) $ split ! $
      move ! (2 ∷ []) $ use1 𝓛 (‵ B ⊛ ‵ B) (borrow_twice 𝓛 t b o z.0 z.1) $ split ! $
      -- [the borrow, twice; the lifetimes, twice]
      move ! (2 ∷ 0 ∷ []) $ fjoin ! $ fpack ! (Lft × Borrowing) (lent t b o κ) z $
      move ! (2 ∷ 1 ∷ []) $ fjoin ! $ fpack ! (Lft × Borrowing) (lent t b o κ) z $
      move ! (1 ∷ 0 ∷ []) $ done !)

  shorter : (κ' κ : Lft) → ⟦ before κ' κ ⟧ ∗ ⟦ Shared κ ⟧ ⊢ ⟦ Shared κ' ⟧
  shorter κ' κ = qed 𝓛 (‵ (before κ' κ) ∷ ‵ (Shared κ) ∷ []) ∵ move ! (1 ∷ []) $
      fpick ! (λ z. fsplit ! $ move ! (2 ∷ 0 ∷ []) $
      use2 𝓛 (‵ (before κ' z.0)) ((ends_shr_laws z.0).mono M 𝓤 𝓛 κ' κ) $ fjoin ! $
      fpack ! (Lft × Borrowing) (lent t b o κ') z $ done !)

pub shares : statement
shares = record {
  shr_laws = λ t b o. record {
    contraction = λ M 𝓤 𝓛 κ. twice 𝓛 t b o κ;
    mono =
        λ M 𝓤 𝓛 κ' κ. shorter 𝓛 t b o κ' κ;
  };
  shares = λ M 𝓤 𝓛 t κ ts b o inc sp. by_one 𝓛 κ ts sp (𝓛.A.bor κ (Whole 𝓛 t b o))
      (sem 𝓛 (Shared 𝓛 t b o κ)) (shared 𝓛 t b o κ);
}
