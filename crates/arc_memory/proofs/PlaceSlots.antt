-- Places side by side as slots, of which the first hold the items. Assumes `Logic`.
--     slots_of, side_of      what lies side by side is opened as slots, and made of them
use Rattle.std.proofs.Common.{◌≡◌, ℕ, ◌+◌, ◌-◌, ◌*◌, ◌≤◌, Bool, true, false, List, [], ◌∷◌, ◌++◌}
use Rattle.std.proofs.Common.{length, take, refl, sym, arith, length-take-le}
use seplogic.Ra.Ura.{Ura}
use mir.Syntax.{ty_array}
use base.Logic.{ent, emp, id⊢}
use base.Fml.{Fml, ftrue, froom}
use types.Logic.{Logic, sem}
use types.Kit.{‵, ◌⊛◌, ◌$◌, ◌∵◌, !, qed, move, keep, split, use0, use1, use2, rewrite, fjoin, done}
use Rattle.core.specs.Allocator.{block_with_items}
use Rattle.core.specs.Mem.Slots.Ownership.{Filled}
use Rattle.std_alloc.specs.Vec.Ownership.{owns_if, has_block}
use Rattle.std_alloc.proofs.RawLayout.{as_raw}
use Rattle.std_alloc.proofs.OfLodged.{lodging}
use Rattle.std_alloc.proofs.VecSteps.El.{El, R, el_x, elτ, sz}
use Rattle.std_alloc.proofs.VecSteps.Opens.{not_live}
use Rattle.std_alloc.proofs.vec.Blocks.{all, flags, Rest, vec_out, vec_in}
use denote.RattleType.{RattleType}
use denote.RawPtr.{block_ptr}
use denote.Param.Laws.{Laws}
use Rattle.arc_memory.proofs.Cuts.{Side}
use Rattle.arc_memory.proofs.Runs.{no_right, block_apart, block_whole}

module _ (T : RattleType) (L : Laws T) {M : Type 1} {𝓤 : Ura M} (𝓛 : Logic 𝓤) (b o c : ℕ) where
  abbrev E : El
  E = lodging T L

  abbrev Block : ℕ → List (el_x E) → Fml
  Block n xs = owns_if (has_block c) (block_with_items (λ _ _. ftrue) (R E) (block_ptr b o) n c xs)

  -- no places lie behind the last, and a vector that frees nothing needs no right to
  abbrev Behind : Fml
  Behind = Rest E (record {}) b o c c

  behind : (y : Bool) → ent 𝓤 (emp 𝓤) (sem 𝓛 (owns_if y Behind))
  behind false = id⊢ 𝓤 (emp 𝓤)
  behind true = let at : ℕ = o + c * sz E in let none : 0 ≡ c - c = omega arith in
      qed 𝓛 [] ∵ use0 𝓛 (‵ (owns_if true ftrue)) (no_right 𝓛 true) $
      use0 𝓛 (‵ (froom (ty_array (elτ E) 0) b at)) (𝓛.laws.room_nil (elτ E) b at) $
      rewrite ! 0 (λ (j : ℕ). ‵ (froom (ty_array (elτ E) j) b at)) none refl $
      as_raw ! (ty_array (elτ E) (c - c)) b at $ fjoin ! $ done !

  pub slots_of : (xs ys : List (el_x E)) → length xs ≤ c → length ys ≡ c - length xs
      → ent 𝓤 (sem 𝓛 (Side E 𝓛 b o c xs))
      (sem 𝓛 (all E b o (xs ++ ys) (flags (length xs) (c - length xs))))
  slots_of xs ys fits more = let n = length xs in
      qed 𝓛 (‵ (Side E 𝓛 b o c xs) ∷ []) ∵ use0 𝓛 (‵ (owns_if (has_block c) ftrue))
      (no_right 𝓛 (has_block c)) $ move ! (1 ∷ 0 ∷ []) $
      use2 𝓛 (‵ (Block n xs)) (block_whole E 𝓛 (λ _ _. ftrue) b o n c xs refl fits) $
      use1 𝓛 (‵ (all E b o (xs ++ ys) (flags n (c - n))) ⊛ ‵ (owns_if (has_block c) Behind))
      (vec_out E 𝓛 b (record {}) o (has_block c) n c c xs ys (not_live c) fits (omega arith)
      refl more) $
      split ! $ keep ! (0 ∷ []) $ done !

  pub side_of : (zs : List (el_x E)) (fs : List Bool) (n : ℕ) → length zs ≡ c → length fs ≡ c
      → n ≤ c → Filled fs 0 n → ent 𝓤 (sem 𝓛 (all E b o zs fs)) (sem 𝓛 (Side E 𝓛 b o c (take n zs)))
  side_of zs fs n lz lf fits full =
      let long : n ≡ length (take n zs) = sym (length-take-le n zs (omega (arith, lz, fits))) in
      qed 𝓛 (‵ (all E b o zs fs) ∷ []) ∵ use0 𝓛 (‵ (owns_if (has_block c) Behind))
      (behind (has_block c)) $ move ! (1 ∷ 0 ∷ []) $
      use2 𝓛 (‵ (Block n (take n zs))) (vec_in E 𝓛 b (record {}) o (has_block c) n c c zs fs lz lf
      fits (omega arith) full) $
      use1 𝓛 (‵ (Side E 𝓛 b o c (take n zs)) ⊛ ‵ (owns_if (has_block c) ftrue))
      (block_apart E 𝓛 (λ _ _. ftrue) b o n c (take n zs) long fits) $ split ! $
      keep ! (0 ∷ []) $ done !
