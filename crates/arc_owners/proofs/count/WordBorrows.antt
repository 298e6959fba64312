-- A word that is borrowed for the lifetime of a lease: the borrow stands behind an
-- invariant whose number is past the invariant's. Assumes `Logic`.
use Rattle.std.proofs.Common.{ℕ, zero, ◌+◌, ◌<◌, ◌≤◌, List, [], ◌∷◌, sym, refl, arith, add-zero}
use Rattle.std.proofs.Common.{subst}
use mathlib.Core.Option.{none}
use seplogic.Ra.Ura.{Ura}
use mir.Syntax.{ty_struct}
use mir.Val.{Val}
use base.Fraction.{full_share}
use base.Logic.{upd_i, id⊢}
use base.Fml.{Lft, Share, Fml, ftrue, fsep, fseps, fex, fwand, fupd, fdead, fbor, flft, fnamed}
use types.Logic.{Logic}
use types.Owned.{named_past}
use types.Kit.{mean, ‵, raw, ◌⊛◌, some, given, later, ◌$◌, ◌∵◌, !, qed, by, move, keep, drop, use1}
use types.Kit.{use2, split, fsplit, fsplit3, fjoin, fpick, fpack, pick, learn, show, assume}
use types.Kit.{suffices, await, updating, now, rewrite, done}
use types.Tokens.{bor_open, obor_alter}
use denote.RattleType.{RattleType}
use denote.Memory.{part_of, part_at, cell_at}
use denote.Steps.{nothing}
use denote.Struct.Struct.{Struct}
use denote.Struct.Members.{Member, Lone, row_of, raw_tys, parts_at}
use denote.Struct.Parts.{shape_of, Struct-left, left_Struct}
use Rattle.core.specs.Sync.RawAtomic.{word}
use Rattle.core.proofs.cell.Borrows.{flag}
use Rattle.core.proofs.tally.Steps.{word_in, word_out}
use Rattle.arc_owners.specs.count.Invariant.{BlockId, behind, lies, counting, word_borrow_as}
use Rattle.arc_owners.specs.count.Invariant.{word_borrow_for, Borrowing}
use Rattle.arc_owners.specs.contracts.count.word.Word as C
use Rattle.arc_owners.proofs.count.Signs.{signs}

module _ {M : Type 1} {𝓤 : Ura M} (𝓛 : Logic 𝓤) (t : BlockId) (b o : ℕ) where
  open 𝓛 use {H, A as At}
  open signs 𝓛 use {Pr, ◌⊢◌, ◌∗◌, ⟦◌⟧}

  infix 26 ◌⊢◌
  infixr 35 ◌∗◌
  abbrev ms : List Member
  ms = flag ∷ []

  abbrev Data : RattleType
  Data = Struct (shape_of [] ms)

  abbrev Whole : Fml
  Whole = part_at C.the_written full_share t b o

  abbrev inside : List Val → ℕ → Fml
  inside vs n = fsep (Data.own_val (n, tt) vs) (behind t n)

  abbrev Number : ℕ → Fml
  Number n = part_at Data full_share (n, tt) b o

  abbrev Rest : Pr
  Rest = H.left full_share (ty_struct [] (raw_tys ms)) (raw_tys ms) b o

  taken : ⟦ Whole ⟧ ⊢ mean 𝓛 (some (λ (n : ℕ). ‵ (Number n) ⊛ ‵ (behind t n)))
  unfolding part_of
  taken = qed 𝓛 (‵ Whole ∷ []) ∵ fpick ! (λ vs. fsplit ! $ move ! (1 ∷ []) $
      use1 𝓛 (‵ (fex ℕ (inside vs))) (id⊢ 𝓤 _) $ fpick ! (λ n. fsplit ! $ move ! (2 ∷ 0 ∷ []) $
      fjoin ! $
      fpack ! (List Val) (λ us. fsep (cell_at full_share Data.mir us b o)
      (Data.own_val (n, tt) us)) vs $ show ! (λ (m : ℕ). ⟦ Number m ⟧ ∗ ⟦ behind t m ⟧) n $ done !))

  put : (n : ℕ) → ⟦ Number n ⟧ ∗ ⟦ behind t n ⟧ ⊢ ⟦ Whole ⟧
  unfolding part_of
  put n = qed 𝓛 (‵ (Number n) ∷ ‵ (behind t n) ∷ []) ∵
      fpick ! (λ vs. fsplit ! $ move ! (1 ∷ 2 ∷ []) $ fjoin ! $ fpack ! ℕ (inside vs) n $
      move ! (1 ∷ 0 ∷ []) $ fjoin ! $
      fpack ! (List Val) (λ us. fsep (cell_at full_share Data.mir us b o) (fex ℕ (inside us))) vs $
      done !)

  abbrev I : Fml
  I = counting t b o

  way_back : (κ : Lft) → Rest ⊢ ⟦ fwand (fsep (fdead κ) (fseps (I ∷ []))) (fupd Whole) ⟧
  unfolding fseps
  way_back κ = qed 𝓛 (raw Rest ∷ []) ∵ assume ! (‵ (fsep (fdead κ) (fsep I ftrue))) $
      suffices ! ⟦ Whole ⟧ (upd_i 𝓤 ⟦ Whole ⟧) $ fsplit3 ! $ keep ! (1 ∷ 3 ∷ []) $
      fpick ! (λ n. fsplit ! $
      rewrite ! 0 (λ (x : ℕ). ‵ (word b x n)) (sym (add-zero o)) refl $
      use1 𝓛 (‵ (part_at (row_of flag) full_share n b (o + 0))) (word_in 𝓛 b (o + 0) n) $
      nothing ! $ move ! (1 ∷ 0 ∷ []) $ fjoin ! $ move ! (0 ∷ 2 ∷ []) $
      use2 𝓛 (‵ (Number n)) (left_Struct 𝓛 full_share [] ms (n, tt) b o) $ by ! (put n))

  pub borrows_word : (κ : Lft) (q : Share) → At.bor κ Whole ∗ At.lft κ q
      ⊢ H.⇛ (⟦ word_borrow_for t b o κ ⟧ ∗ At.lft κ q)
  unfolding fseps
  borrows_word κ q = qed 𝓛 (‵ (fbor κ Whole) ∷ ‵ (flft κ q) ∷ []) ∵ updating ! $ bor_open ! tt $
      move ! (1 ∷ []) $ use1 𝓛 (some (λ (n : ℕ). ‵ (Number n) ⊛ ‵ (behind t n))) taken $
      pick ! (λ n. split ! $
      use1 𝓛 (‵ (parts_at full_share ms zero (n, tt) b o) ⊛ raw Rest)
      (Struct-left 𝓛 full_share [] ms ((λ x vs p. subst Lone (sym p.0) tt), tt) (n, tt) b o) $
      split ! $ fsplit ! $ move ! (1 ∷ []) $ drop ! $
      use1 𝓛 (‵ (word b (o + 0) n)) (word_out 𝓛 b (o + 0) n) $
      rewrite ! 0 (λ (x : ℕ). ‵ (word b x n)) (add-zero o) refl $ move ! (0 ∷ 2 ∷ []) $ fjoin ! $
      fpack ! ℕ (lies t b o) n $
      nothing ! $ move ! (1 ∷ 0 ∷ []) $ fjoin ! $ move ! (1 ∷ []) $
      use1 𝓛 (‵ (fwand (fsep (fdead κ) (fseps (I ∷ []))) (fupd Whole))) (way_back κ) $
      move ! (2 ∷ 1 ∷ 0 ∷ []) $ obor_alter ! tt (I ∷ []) $
      use1 𝓛 (‵ (fbor κ I) ⊛ ‵ ftrue) (id⊢ 𝓤 _) $ split ! $
      use1 𝓛 (later (some (λ (j : ℕ). given (t.number + 1 ≤ j) (‵ (fnamed j (fbor κ I))))))
      (named_past 𝓛 (t.number + 1) (fbor κ I)) $ await ! tt $ pick ! (λ j. learn ! (λ past.
      nothing ! $ fjoin ! $
      nothing ! $ fpack ! (t.number < j) (λ _. ftrue) (omega arith) $ fjoin ! $
      fpack ! Borrowing (word_borrow_as t b o κ) (j, none) $ now ! $ keep ! (0 ∷ 2 ∷ []) $
      done !)))
