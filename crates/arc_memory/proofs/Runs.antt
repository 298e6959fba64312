-- A vector's block is its places, side by side, and the right to free them. Assumes `Logic`.
--     block_apart, block_whole      the block of a vector is taken apart, and made of its parts
use Rattle.std.proofs.Common.{◌≡◌, ℕ, ◌+◌, ◌-◌, ◌*◌, ◌≤◌, Bool, true, false, not, T, List, [], ◌∷◌}
use Rattle.std.proofs.Common.{length, refl, sym, ap, ◌∙◌, arith, zero-mul, add-zero}
use seplogic.Ra.Ura.{Ura}
use mir.Syntax.{Ty, ty_array}
use base.Fraction.{full_share}
use base.Logic.{ent, sep, emp, id⊢}
use base.Fml.{Fml, ftrue, froom}
use types.Logic.{Logic, sem}
use types.Kit.{‵, ◌$◌, ◌∵◌, !, qed, keep, use0, fsplit, fsplit3, fjoin, fjoin3, rewrite, done}
use denote.Memory.{part_at}
use denote.RawPtr.{Ptr, block_ptr, lies_at, room_for}
use denote.Array.{Array}
use Rattle.core.specs.Allocator.{array_of, block_with_items}
use Rattle.std_alloc.specs.Vec.Ownership.{owns_if, has_block}
use Rattle.std_alloc.proofs.RawLayout.{as_raw}
use Rattle.std_alloc.proofs.VecSteps.El.{El, R, el_x, elτ, sz}
use Rattle.std_alloc.proofs.VecSteps.Opens.{not_live}
use Rattle.std_alloc.proofs.VecSteps.Rows.{empty}
use Rattle.arc_memory.specs.Memory.{place_at, side_by_side}

-- a vector that frees nothing needs no right to
pub no_right : {M : Type 1} {𝓤 : Ura M} (𝓛 : Logic 𝓤) (y : Bool)
    → ent 𝓤 (emp 𝓤) (sem 𝓛 (owns_if y ftrue))
no_right {𝓤 = 𝓤} 𝓛 true = id⊢ 𝓤 (emp 𝓤)
no_right {𝓤 = 𝓤} 𝓛 false = id⊢ 𝓤 (emp 𝓤)

module _ (E : El) where
  -- the first place is where the allocation begins
  pub first_place : (b o : ℕ) → place_at (R E) (block_ptr b o) 0 ≡ block_ptr b o
  first_place b o = ap (block_ptr b) (ap (λ (k : ℕ). o + k) (zero-mul (sz E)) ∙ add-zero o)

  module _ {M : Type 1} {𝓤 : Ura M} (𝓛 : Logic 𝓤) (t : Ty → Ptr → Fml) (b o n c : ℕ)
      (xs : List (el_x E)) (lens : n ≡ length xs) (fits : n ≤ c) where
    abbrev pub p : Ptr
    p = block_ptr b o

    abbrev pub Block : Fml
    Block = block_with_items t (R E) p n c xs

    abbrev pub Run : Fml
    Run = side_by_side (R E) p c xs

    abbrev pub Right : Fml
    Right = t (array_of (R E) c) p

    -- no places, none of which holds an item
    none : c ≡ 0 → ent 𝓤 (emp 𝓤) (sem 𝓛 Run)
    none z =
        let m = length xs in let no_items : m ≡ 0 = omega arith in
        let no_room : 0 ≡ c - m = omega arith in let at : ℕ = o + m * sz E in
        qed 𝓛 [] ∵ use0 𝓛 (‵ (froom (ty_array (elτ E) 0) b at)) (𝓛.laws.room_nil (elτ E) b at) $
        rewrite ! 0 (λ (k : ℕ). ‵ (froom (ty_array (elτ E) k) b at)) no_room refl $
        as_raw ! (ty_array (elτ E) (c - m)) b at $
        use0 𝓛 (‵ (part_at (Array (R E) m) full_share xs b o)) (empty E 𝓛 xs b o no_items) $
        fjoin ! $ done !

    apart : (y : Bool) → (T (not y) → c ≡ 0) → ent 𝓤 (sem 𝓛 (owns_if y Block))
        (sep 𝓤 (sem 𝓛 Run) (sem 𝓛 (owns_if y Right)))
    apart false z = qed 𝓛 (‵ (owns_if false Block) ∷ []) ∵ use0 𝓛 (‵ Run) (none (z tt)) $ done !
    apart true z = qed 𝓛 (‵ Block ∷ []) ∵ fsplit3 ! $
        rewrite ! 0 (λ (k : ℕ). ‵ (lies_at (Array (R E) k) full_share p xs)) lens refl $
        rewrite ! 1 (λ (k : ℕ). ‵ (room_for (array_of (R E) (c - k)) (place_at (R E) p k))) lens
        refl $ fjoin ! $ done !

    whole : (y : Bool) → ent 𝓤 (sep 𝓤 (sem 𝓛 Run) (sem 𝓛 (owns_if y Right)))
        (sem 𝓛 (owns_if y Block))
    whole false = qed 𝓛 (‵ Run ∷ ‵ (owns_if false Right) ∷ []) ∵ keep ! (1 ∷ []) $ done !
    whole true = qed 𝓛 (‵ Run ∷ ‵ Right ∷ []) ∵ fsplit ! $
        rewrite ! 0 (λ (k : ℕ). ‵ (lies_at (Array (R E) k) full_share p xs)) (sym lens) refl $
        rewrite ! 1 (λ (k : ℕ). ‵ (room_for (array_of (R E) (c - k)) (place_at (R E) p k)))
        (sym lens) refl $ fjoin3 ! $ done !

    pub block_apart : ent 𝓤 (sem 𝓛 (owns_if (has_block c) Block))
        (sep 𝓤 (sem 𝓛 Run) (sem 𝓛 (owns_if (has_block c) Right)))
    block_apart = apart (has_block c) (not_live c)

    pub block_whole : ent 𝓤 (sep 𝓤 (sem 𝓛 Run) (sem 𝓛 (owns_if (has_block c) Right)))
        (sem 𝓛 (owns_if (has_block c) Block))
    block_whole = whole (has_block c)
