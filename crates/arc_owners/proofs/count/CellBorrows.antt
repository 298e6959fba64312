-- A cell that is borrowed for a lifetime: the borrow stands behind an invariant whose number is
-- past the invariant's. Assumes `Logic`.
use Rattle.std.proofs.Common.{ℕ, zero, ◌+◌, ◌<◌, ◌≤◌, List, [], ◌∷◌, sym, refl, ap, arith, add-zero}
use Rattle.std.proofs.Common.{subst}
use mathlib.Core.Option.{Option}
use seplogic.Ra.Ura.{Ura}
use mir.Syntax.{ty_struct, ty_ptr}
use mir.Val.{Val}
use base.Fraction.{full_share}
use base.Logic.{upd_i, id⊢}
use base.Fml.{Lft, Share, Fml, ftrue, fsep, fseps, fex, fwand, fupd, fdead, fbor, flft, fnamed, fat}
use types.Logic.{Logic}
use types.Owned.{named_past}
use types.Kit.{mean, ‵, raw, ◌⊛◌, some, given, later, ◌$◌, ◌∵◌, !, qed, by, move, keep, drop, use1}
use types.Kit.{use2, split, fsplit, fsplit3, fjoin, fpick, fpack, pick, learn, show, assume}
use types.Kit.{suffices, await, updating, now, rewrite, done, feq_i, feq_l}
use types.Tokens.{bor_open, obor_alter}
use denote.RattleType.{RattleType}
use denote.RawPtr.{Ptr, RawPtr, ptr_val, rawptr_Lawful}
use denote.Memory.{part_of, part_at, cell_at as cells_at}
use denote.Steps.{nothing, only}
use denote.Struct.Struct.{Struct}
use denote.Struct.Members.{Member, Lone, row_of, raw_tys, parts_at}
use denote.Struct.Parts.{shape_of, Struct-left, left_Struct}
use Rattle.core.specs.Sync.RawAtomic.Pointer.{cell}
use Rattle.core.proofs.cell.Inside.{spread, gather}
use Rattle.arc_owners.specs.count.Invariant.{BlockId, pointer, cell_holds, cell_lies, cell_at}
use Rattle.arc_owners.specs.count.Invariant.{cell_borrow_as, cell_borrow_for}
use Rattle.arc_owners.specs.contracts.count.cell.Cell as C
use Rattle.arc_owners.proofs.count.Signs.{signs}

abbrev slot : Member
slot = record { row = RawPtr; ty = ty_ptr }

module _ {M : Type 1} {𝓤 : Ura M} (𝓛 : Logic 𝓤) (b o : ℕ) (p : Ptr) where
  open signs 𝓛 use {◌⊢◌, ⟦◌⟧}

  infix 26 ◌⊢◌
  ptr_out : ⟦ part_at (row_of slot) full_share p b o ⟧ ⊢ ⟦ cell b o p ⟧
  ptr_out = qed 𝓛 (‵ (part_at (row_of slot) full_share p b o) ∷ []) ∵
      spread slot ! (rawptr_Lawful 𝓛) p b o (λ v g. move ! (1 ∷ []) $ feq_l ! (λ e.
      rewrite ! 0 (λ (u : Val). ‵ (fat full_share ty_ptr b o u)) (ap only e) refl $ done !))

  ptr_in : ⟦ cell b o p ⟧ ⊢ ⟦ part_at (row_of slot) full_share p b o ⟧
  ptr_in = qed 𝓛 (‵ (cell b o p) ∷ []) ∵ feq_i ! (List Val) (ptr_val p ∷ []) (ptr_val p ∷ []) refl $
      move ! (1 ∷ 0 ∷ []) $ gather slot ! p (ptr_val p) b o $ done !

module _ {M : Type 1} {𝓤 : Ura M} (𝓛 : Logic 𝓤) (t : BlockId) (b o : ℕ) where
  open 𝓛 use {H, A as At}
  open signs 𝓛 use {Pr, ◌⊢◌, ◌∗◌, ⟦◌⟧}

  infix 26 ◌⊢◌
  infixr 35 ◌∗◌
  abbrev ms : List Member
  ms = slot ∷ []

  abbrev Data : RattleType
  Data = Struct (shape_of [] ms)

  abbrev Whole : Fml
  Whole = part_at C.the_written full_share t b o

  abbrev inside : List Val → Option (ℕ × ℕ) → Fml
  inside vs x = fsep (Data.own_val (pointer x, tt) vs) (cell_holds t x)

  abbrev Pointer : Option (ℕ × ℕ) → Fml
  Pointer x = part_at Data full_share (pointer x, tt) b o

  abbrev Rest : Pr
  Rest = H.left full_share (ty_struct [] (raw_tys ms)) (raw_tys ms) b o

  taken : ⟦ Whole ⟧ ⊢ mean 𝓛 (some (λ (x : Option (ℕ × ℕ)). ‵ (Pointer x) ⊛ ‵ (cell_holds t x)))
  unfolding part_of
  taken = qed 𝓛 (‵ Whole ∷ []) ∵ fpick ! (λ vs. fsplit ! $ move ! (1 ∷ []) $
      use1 𝓛 (‵ (fex (Option (ℕ × ℕ)) (inside vs))) (id⊢ 𝓤 _) $ fpick ! (λ x. fsplit ! $
      move ! (2 ∷ 0 ∷ []) $ fjoin ! $
      fpack ! (List Val) (λ us. fsep (cells_at full_share Data.mir us b o)
      (Data.own_val (pointer x, tt) us)) vs $
      show ! (λ (y : Option (ℕ × ℕ)). ⟦ Pointer y ⟧ ∗ ⟦ cell_holds t y ⟧) x $ done !))

  put : (x : Option (ℕ × ℕ)) → ⟦ Pointer x ⟧ ∗ ⟦ cell_holds t x ⟧ ⊢ ⟦ Whole ⟧
  unfolding part_of
  put x = qed 𝓛 (‵ (Pointer x) ∷ ‵ (cell_holds t x) ∷ []) ∵
      fpick ! (λ vs. fsplit ! $ move ! (1 ∷ 2 ∷ []) $ fjoin ! $
      fpack ! (Option (ℕ × ℕ)) (inside vs) x $ move ! (1 ∷ 0 ∷ []) $ fjoin ! $
      fpack ! (List Val) (λ us. fsep (cells_at full_share Data.mir us b o)
      (fex (Option (ℕ × ℕ)) (inside us))) vs $ done !)

  abbrev I : Fml
  I = cell_at t b o

  way_back : (κ : Lft) → Rest ⊢ ⟦ fwand (fsep (fdead κ) (fseps (I ∷ []))) (fupd Whole) ⟧
  unfolding fseps
  way_back κ = qed 𝓛 (raw Rest ∷ []) ∵ assume ! (‵ (fsep (fdead κ) (fsep I ftrue))) $
      suffices ! ⟦ Whole ⟧ (upd_i 𝓤 ⟦ Whole ⟧) $ fsplit3 ! $ keep ! (1 ∷ 3 ∷ []) $
      fpick ! (λ x. fsplit ! $
      rewrite ! 0 (λ (y : ℕ). ‵ (cell b y (pointer x))) (sym (add-zero o)) refl $
      use1 𝓛 (‵ (part_at (row_of slot) full_share (pointer x) b (o + 0)))
      (ptr_in 𝓛 b (o + 0) (pointer x)) $
      nothing ! $ move ! (1 ∷ 0 ∷ []) $ fjoin ! $ move ! (0 ∷ 2 ∷ []) $
      use2 𝓛 (‵ (Pointer x)) (left_Struct 𝓛 full_share [] ms (pointer x, tt) b o) $
      by ! (put x))

  pub borrows_cell : (κ : Lft) (q : Share) → At.bor κ Whole ∗ At.lft κ q
      ⊢ H.⇛ (⟦ cell_borrow_for t b o κ ⟧ ∗ At.lft κ q)
  unfolding fseps
  borrows_cell κ q = qed 𝓛 (‵ (fbor κ Whole) ∷ ‵ (flft κ q) ∷ []) ∵ updating ! $ bor_open ! tt $
      move ! (1 ∷ []) $ use1 𝓛 (some (λ (x : Option (ℕ × ℕ)). ‵ (Pointer x) ⊛ ‵ (cell_holds t x)))
      taken $ pick ! (λ x. split ! $
      use1 𝓛 (‵ (parts_at full_share ms zero (pointer x, tt) b o) ⊛ raw Rest)
      (Struct-left 𝓛 full_share [] ms ((λ y vs e. subst Lone (sym e) tt), tt)
      (pointer x, tt) b o) $
      split ! $ fsplit ! $ move ! (1 ∷ []) $ drop ! $
      use1 𝓛 (‵ (cell b (o + 0) (pointer x))) (ptr_out 𝓛 b (o + 0) (pointer x)) $
      rewrite ! 0 (λ (y : ℕ). ‵ (cell b y (pointer x))) (add-zero o) refl $ move ! (0 ∷ 2 ∷ []) $
      fjoin ! $ fpack ! (Option (ℕ × ℕ)) (cell_lies t b o) x $
      nothing ! $ move ! (1 ∷ 0 ∷ []) $ fjoin ! $ move ! (1 ∷ []) $
      use1 𝓛 (‵ (fwand (fsep (fdead κ) (fseps (I ∷ []))) (fupd Whole))) (way_back κ) $
      move ! (2 ∷ 1 ∷ 0 ∷ []) $ obor_alter ! tt (I ∷ []) $
      use1 𝓛 (‵ (fbor κ I) ⊛ ‵ ftrue) (id⊢ 𝓤 _) $ split ! $
      use1 𝓛 (later (some (λ (j : ℕ). given (t.number + 1 ≤ j) (‵ (fnamed j (fbor κ I))))))
      (named_past 𝓛 (t.number + 1) (fbor κ I)) $ await ! tt $ pick ! (λ j. learn ! (λ past.
      nothing ! $ fpack ! (t.number < j) (λ _. ftrue) (omega arith) $ fjoin ! $
      fpack ! ℕ (cell_borrow_as t b o κ) j $ now ! $ keep ! (0 ∷ 2 ∷ []) $ done !)))
