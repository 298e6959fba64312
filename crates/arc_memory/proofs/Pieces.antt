-- A whole block is the room for a header and, behind it, places for items. Assumes `Logic`.
--     cuts      the block is cut into both, with the way back
--     whole     and made of both again
use Rattle.std.proofs.Common.{◌≡◌, ℕ, zero, suc, ◌+◌, ◌-◌, ◌*◌, ◌/◌, [], ◌∷◌, refl, sym, ap, ◌∙◌}
use Rattle.std.proofs.Common.{subst, arith, zero-mul, add-zero}
use seplogic.Ra.Ura.{Ura}
use mir.Raw.{raw as bare}
use mir.Syntax.{Ty, w128, ty_int, ty_array}
use base.Logic.{ent, sep, emp, wand, apply∗, all_e, id⊢}
use base.Fml.{Fml, fsep, feq, fwand, froom}
use prog.Align.{Dv, dv_self}
use prog.Memory.{size, align}
use prog.RawLaws.{size-raw, align-raw}
use types.Logic.{Logic, sem}
use types.Kit.{‵, raw, ◌⊛◌, ◌$◌, ◌∵◌, !, qed, by, move, keep, drop, frame, each, assume, use0, use1}
use types.Kit.{use2, split, rewrite, fsplit, fjoin, feq_l, feq_i, done}
use denote.Param.{layout}
use denote.RattleType.{RattleType}
use denote.RawPtr.{Ptr, block_ptr, room_for}
use denote.RawPtr.Room.{room_cut, room_glue, past}
use Rattle.core.specs.Allocator.{array_of, owned_block}
use Rattle.core.proofs.slots.Carves.{carve}
use Rattle.std_alloc.proofs.RawLayout.{as_raw, as_written}
use Rattle.std_alloc.proofs.VecSteps.El.{El, R, elτ, sz}
use Rattle.arc_memory.specs.Pieces.{in_units, units_of, head_size, piece_bytes, behind, makes_piece}
use Rattle.arc_memory.specs.Pieces.{frees_piece}
use Rattle.arc_memory.proofs.Cuts.{Side, items, bare as bare_places, opened, shut}

abbrev row : ℕ → Ty
row k = ty_array (ty_int w128) k

-- so many units further
further : (k o : ℕ) → past (ty_int w128) k o ≡ o + k * 16
further zero o = omega arith
further (suc k) o = further k (o + 16) ∙ omega arith

module _ (E : El) {M : Type 1} {𝓤 : Ura M} (𝓛 : Logic 𝓤) (X : RattleType) (count b o : ℕ) where
  open 𝓛 use {H}

  abbrev head : ℕ × ℕ
  head = head_size X

  abbrev σ : Ty
  σ = layout X

  abbrev τ : Ty
  τ = array_of (R E) count

  abbrev p : Ptr
  p = block_ptr b o

  abbrev u : ℕ
  u = (size σ + 15) / 16

  abbrev v : ℕ
  v = (count * sz E + 15) / 16

  abbrev at : ℕ
  at = o + in_units (size σ)

  abbrev Bytes : ℕ
  Bytes = piece_bytes (R E) head count

  abbrev One : Fml
  One = froom (units_of Bytes) b o

  same : Bytes / 16 ≡ u + v
  same = omega arith

  abbrev Head : Ty → Fml
  Head ρ = fsep (feq (ℕ × ℕ) (size ρ, align ρ) head)
      (fsep (room_for ρ p) (room_for τ (behind head p)))

  -- the way back, for a header of any type of this size
  back : (ρ : Ty) → ent 𝓤
      (sep 𝓤 (sem 𝓛 (Head ρ)) (sep 𝓤 (wand 𝓤 (H.room σ b o) (H.room (row u) b o))
      (wand 𝓤 (H.room τ b at) (H.room (row v) b at)))) (sem 𝓛 One)
  back ρ =
      let Front = wand 𝓤 (H.room σ b o) (H.room (row u) b o) in
      let Back = wand 𝓤 (H.room τ b at) (H.room (row v) b at) in
      qed 𝓛 (‵ (Head ρ) ∷ raw Front ∷ raw Back ∷ []) ∵ fsplit ! $ feq_l ! (λ e. fsplit ! $
      use1 𝓛 (‵ (froom σ b o) ⊛ raw (wand 𝓤 (H.room σ b o) (H.room ρ b o)))
      (𝓛.laws.room_as ρ σ b o (λ i. (sym e i).0)
      (subst (λ (k : ℕ). Dv (align σ) k) (λ i. (sym e i).1) (dv_self (align σ)))) $ split ! $
      move ! (0 ∷ 3 ∷ 2 ∷ 4 ∷ []) $
      use2 𝓛 (‵ (froom (row u) b o)) (apply∗ 𝓤 (H.room σ b o) (H.room (row u) b o)) $
      move ! (1 ∷ 2 ∷ 0 ∷ []) $
      use2 𝓛 (‵ (froom (row v) b at)) (apply∗ 𝓤 (H.room τ b at) (H.room (row v) b at)) $
      move ! (1 ∷ 0 ∷ []) $
      rewrite ! 1 (λ (k : ℕ). ‵ (froom (row v) b k)) (sym (further u o)) refl $
      use2 𝓛 (‵ (froom (row (u + v)) b o)) (room_glue 𝓛 (ty_int w128) u v b o) $
      rewrite ! 0 (λ (k : ℕ). ‵ (froom (row k) b o)) (sym same) refl $ keep ! (0 ∷ []) $ done !)

  parts : ent 𝓤 (sem 𝓛 One)
      (sep 𝓤 (H.room σ b o) (sep 𝓤 (H.room τ b at) (sem 𝓛 (makes_piece (R E) head count p))))
  parts =
      let Front = wand 𝓤 (H.room σ b o) (H.room (row u) b o) in
      let Back = wand 𝓤 (H.room τ b at) (H.room (row v) b at) in
      let tall : size τ ≡ count * sz E = size-raw (ty_array (elτ E) count) in
      qed 𝓛 (‵ One ∷ []) ∵ rewrite ! 0 (λ (k : ℕ). ‵ (froom (row k) b o)) same refl $
      use1 𝓛 (‵ (froom (row u) b o) ⊛ ‵ (froom (row v) b (past (ty_int w128) u o)))
      (room_cut 𝓛 (ty_int w128) u v b o) $ split ! $
      use1 𝓛 (‵ (froom σ b o) ⊛ raw Front) (carve 𝓛 (row u) σ u b o refl refl (omega arith)) $
      split ! $ frame ! $
      rewrite ! 1 (λ (k : ℕ). ‵ (froom (row v) b k)) (further u o) refl $ move ! (1 ∷ []) $
      use1 𝓛 (‵ (froom τ b at) ⊛ raw Back)
      (carve 𝓛 (row v) τ v b at refl refl (omega (arith, tall))) $ split ! $ frame ! $
      each ! (λ ρ. wand 𝓤 (sem 𝓛 (Head ρ)) (sem 𝓛 One)) (λ ρ. assume ! (‵ (Head ρ)) $
      move ! (0 ∷ 2 ∷ 1 ∷ []) $ by ! (back ρ))

  -- places without items are room for so many
  empty : ent 𝓤 (H.room τ b at) (sem 𝓛 (Side E 𝓛 b at count []))
  empty =
      let s = sz E in let none : count ≡ count - 0 = omega arith in
      let here : at ≡ at + 0 * s = sym (ap (λ (k : ℕ). at + k) (zero-mul s) ∙ add-zero at) in
      qed 𝓛 (‵ (froom τ b at) ∷ []) ∵ as_written ! (ty_array (elτ E) count) b at $
      rewrite ! 0 (λ (k : ℕ × ℕ). ‵ (froom (ty_array (elτ E) k.0) b k.1)) (λ i. (none i, here i))
      refl $
      use0 𝓛 (‵ (items E 𝓛 b [] at)) (id⊢ 𝓤 (emp 𝓤)) $ by ! (shut E 𝓛 b at count [])

  full : ent 𝓤 (sem 𝓛 (Side E 𝓛 b at count [])) (H.room τ b at)
  full =
      let s = sz E in let none : count - 0 ≡ count = omega arith in
      let here : at + 0 * s ≡ at = ap (λ (k : ℕ). at + k) (zero-mul s) ∙ add-zero at in
      qed 𝓛 (‵ (Side E 𝓛 b at count []) ∷ [])
      ∵ use1 𝓛 (‵ (items E 𝓛 b [] at) ⊛ ‵ (bare_places E 𝓛 b (count - 0) (at + 0 * s)))
      (opened E 𝓛 b at count []) $ split ! $ drop ! $
      rewrite ! 0 (λ (k : ℕ × ℕ). ‵ (froom (ty_array (elτ E) k.0) b k.1)) (λ i. (none i, here i))
      refl $
      as_raw ! (ty_array (elτ E) count) b at $ done !

  module _ (holds : Ty → Ptr → Fml) where
    abbrev pub Right : Fml
    Right = holds (units_of Bytes) p

    pub cuts : ent 𝓤 (sep 𝓤 (sem 𝓛 One) (sem 𝓛 Right))
        (sep 𝓤 (H.room (bare σ) b o)
        (sep 𝓤 (sem 𝓛 (Side E 𝓛 b at count [])) (sem 𝓛 (frees_piece (R E) holds head count p))))
    cuts = qed 𝓛 (‵ One ∷ ‵ Right ∷ [])
        ∵ use1 𝓛 (‵ (froom σ b o) ⊛ ‵ (froom τ b at) ⊛ ‵ (makes_piece (R E) head count p)) parts $
        split ! $
        as_raw ! σ b o $ frame ! $ split ! $ use1 𝓛 (‵ (Side E 𝓛 b at count [])) empty $ frame ! $
        fjoin ! $ done !

    pub whole : ent 𝓤
        (sep 𝓤 (H.room (bare σ) b o)
        (sep 𝓤 (sem 𝓛 (Side E 𝓛 b at count [])) (sem 𝓛 (frees_piece (R E) holds head count p))))
        (sem 𝓛 (owned_block holds (units_of Bytes) p))
    whole =
        let is : (size (bare σ), align (bare σ)) ≡ head = λ i. (size-raw σ i, align-raw σ i) in
        qed 𝓛 (‵ (froom (bare σ) b o) ∷ ‵ (Side E 𝓛 b at count []) ∷ ‵
        (frees_piece (R E) holds head count p) ∷ []) ∵ move ! (1 ∷ []) $
        use1 𝓛 (‵ (froom τ b at)) full $
        move ! (1 ∷ 0 ∷ []) $ fjoin ! $ feq_i ! (ℕ × ℕ) (size (bare σ), align (bare σ)) head is $
        fjoin ! $ move ! (1 ∷ []) $ fsplit ! $
        use1 𝓛 (‵ (fwand (Head (bare σ)) One)) (all_e 𝓤 (λ ρ. sem 𝓛 (fwand (Head ρ) One))
        (bare σ)) $ move ! (2 ∷ 0 ∷ []) $
        use2 𝓛 (‵ One) (apply∗ 𝓤 (sem 𝓛 (Head (bare σ))) (sem 𝓛 One)) $ fjoin ! $ done !
