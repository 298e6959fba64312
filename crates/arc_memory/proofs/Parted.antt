-- A vector without its items waits for them. Assumes `Logic`.
--     parted      its words, and the right to free its block, are what `Emptied` owns
--     refilled    with the places that it waits for, `Emptied` is a vector again
use Rattle.std.proofs.Common.{◌≡◌, ℕ, ◌*◌, ◌^◌, ◌<◌, List, [], ◌∷◌, length, refl, sym, ap, ◌∙◌}
use Rattle.std.proofs.lemmas.List.{with_items_is}
use seplogic.Ra.Ura.{Ura}
use mir.Val.{Val, vstruct, vcons, vnil}
use base.Logic.{ent, sep, wand, all_e, apply∗}
use base.Fml.{Fml, fsep, feq, fall, fwand}
use types.Logic.{Logic, sem}
use types.Kit.{‵, ◌$◌, ◌∵◌, !, qed, by, move, drop, frame, each, assume, show, use1, use2, fsplit}
use types.Kit.{fjoin, fpack, feq_i, feq_l, rewrite, done}
use denote.RattleType.{RattleType, Valss}
use denote.RawPtr.{Ptr, block_ptr}
use denote.Steps.{nothing}
use denote.Struct.Struct.{within}
use denote.Struct.Declared.{shape}
use Rattle.core.specs.Allocator.{array_of}
use Rattle.core.proofs.alloc.Calls.{token}
use Rattle.std.specs.Vec.{with_items}
use Rattle.std_alloc.specs.Vec.Ownership.{owns_if, has_block}
use Rattle.std_alloc.proofs.VecSteps.El.{El, R, P, Vr, el_d, el_x, sz, handle, vec_val}
use Rattle.std_alloc.proofs.VecSteps.Opens.{Blk, vec_made}
use Rattle.arc_memory.specs.Memory.{Extent, extent_of, emptied, place_at, places_own, side_by_side}
use Rattle.arc_memory.specs.contracts.emptied.Emptied as Emptied
use Rattle.arc_memory.specs.contracts.emptied.Emptied.TheInside as Inside
use Rattle.arc_memory.proofs.Runs.{first_place, block_whole}

module _ (E : El) where
  abbrev pub Row : RattleType
  Row = Emptied.the_row (R E) (P E) E.al.g

  abbrev pub Fields : RattleType
  Fields = Inside.the_row (R E) (P E) E.al.g

  -- a struct of this one field
  abbrev pub one : Val → Val
  one u = vstruct (vcons u vnil)

  -- the right to free the block of a vector, where it has one
  abbrev pub right : el_d E → ℕ → ℕ → Fml
  right d b o = owns_if (has_block d.cap) (token E.al d.alloc (array_of (R E) d.cap)
      (block_ptr b o))

  -- the places that it waits for, and the vector that they make
  abbrev pub awaited : Extent E.al.row.Denot → List (el_x E) → Fml
  awaited e xs = fsep (feq ℕ (length xs) e.len) (places_own (R E) e.base e.count 0 e.count xs)

  abbrev pub refills : el_d E → List Val → List (el_x E) → Fml
  refills v vs xs = Fields.own_val (record { vec = with_items v xs }) vs

  module _ {M : Type 1} {𝓤 : Ura M} (𝓛 : Logic 𝓤) where
    -- a vector, as the one field
    pub field_made : (w : el_d E) (u : Val) → ent 𝓤 (sem 𝓛 ((Vr E).own_val w (u ∷ [])))
        (sem 𝓛 (Fields.own_val (record { vec = w }) (one u ∷ [])))
    field_made w u = let S = shape (Inside.the_type (R E) (P E) E.al.g) in
        qed 𝓛 (‵ ((Vr E).own_val w (u ∷ [])) ∷ []) ∵ nothing ! $ move ! (1 ∷ 0 ∷ []) $ fjoin ! $
        feq_i ! (List Val) (one u ∷ []) (one u ∷ []) refl $ fjoin ! $
        fpack ! (Valss (Vr E ∷ [])) (within S (w, tt) (one u ∷ [])) (u ∷ [], tt) $ done !

    module _ (d : el_d E) (b o : ℕ) (hv : Val) (at_b : d.ptr ≡ block_ptr b o) (fn : d.len < 2 ^ 64)
        (fc : d.cap < 2 ^ 64) (fit : d.cap * sz E < 2 ^ 63) where
      abbrev u : Val
      u = vec_val E hv b o d.len d.cap

      first : place_at (R E) d.ptr 0 ≡ block_ptr b o
      first = ap (λ (p : Ptr). place_at (R E) p 0) at_b ∙ first_place E b o

      -- what waits, given the places
      comes : (xs : List (el_x E))
          → ent 𝓤 (sep 𝓤 (sem 𝓛 (awaited (extent_of d) xs))
          (sep 𝓤 (sem 𝓛 (right d b o)) (sem 𝓛 (handle E d.alloc hv))))
          (sem 𝓛 (refills d (one u ∷ []) xs))
      comes xs = qed 𝓛 (‵ (awaited (extent_of d) xs) ∷ ‵ (right d b o) ∷ ‵
          (handle E d.alloc hv) ∷ []) ∵ fsplit ! $ feq_l ! (λ long. fsplit ! $ drop ! $
          rewrite ! 0 (λ (p : Ptr). ‵ (side_by_side (R E) p d.cap xs)) first refl $
          use2 𝓛 (‵ (Blk E d.alloc b o d.len d.cap xs)) (block_whole E 𝓛 (token E.al d.alloc) b o
          d.len d.cap xs (sym long) d.ok.1) $
          vec_made E ! (with_items d xs) b o d.len d.cap xs
          (at_b, refl, refl, with_items_is d xs long) fn fc fit $
          by ! (field_made (with_items d xs) u))

      pub parted : ent 𝓤 (sep 𝓤 (sem 𝓛 (right d b o)) (sem 𝓛 (handle E d.alloc hv)))
          (sem 𝓛 (Emptied.the_own (R E) (P E) E.al.g (extent_of d) (one u ∷ [])))
      parted = qed 𝓛 (‵ (right d b o) ∷ ‵ (handle E d.alloc hv) ∷ []) ∵
          show ! (λ (i : Fields.Denot). sem 𝓛
          (emptied (R E) (extent_of d) i.vec (λ w. Fields.own_val (record { vec = w })
          (one u ∷ [])))) (record { vec = d }) $
          feq_i ! (Extent E.al.row.Denot) (extent_of d) (extent_of d) refl $ frame ! $
          each ! (λ xs. wand 𝓤 (sem 𝓛 (awaited (extent_of d) xs))
          (sem 𝓛 (refills d (one u ∷ []) xs))) (λ xs. assume ! (‵ (awaited (extent_of d) xs)) $
          by ! (comes xs))

    pub refilled : (e : Extent E.al.row.Denot) (v : el_d E) (vs : List Val) (xs : List (el_x E))
        → ent 𝓤 (sep 𝓤 (sem 𝓛 (fall (List (el_x E)) (λ ys. fwand (awaited e ys) (refills v vs ys))))
        (sem 𝓛 (awaited e xs))) (sem 𝓛 (refills v vs xs))
    refilled e v vs xs =
        qed 𝓛 (‵ (fall (List (el_x E)) (λ ys. fwand (awaited e ys) (refills v vs ys))) ∷ ‵
        (awaited e xs) ∷ []) ∵
        use1 𝓛 (‵ (fwand (awaited e xs) (refills v vs xs)))
        (all_e 𝓤 (λ ys. sem 𝓛 (fwand (awaited e ys) (refills v vs ys))) xs) $
        move ! (1 ∷ 0 ∷ []) $
        by ! (apply∗ 𝓤 (sem 𝓛 (awaited e xs)) (sem 𝓛 (refills v vs xs)))
