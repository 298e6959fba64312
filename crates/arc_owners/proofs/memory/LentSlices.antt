-- What is lent of a slice can be had again, is had for any lifetime that ends no later, and the
-- items before an end are a slice. Assumes `Logic`.
use Rattle.std.proofs.Common.{◌≡◌, ℕ, zero, suc, ◌+◌, ◌*◌, ◌^◌, ◌≤◌, List, [], ◌∷◌, length, take}
use Rattle.std.proofs.Common.{sym, ap, length-take-le, arith}
use native.Mathlib.Nat.{mul-le-mul_right, lt_of_le_of_lt}
use seplogic.Ra.Ura.{Ura}
use mir.Syntax.{Lifetime}
use mir.Val.{Val}
use base.Logic.{ent, sep, mono_r}
use base.Fml.{Lft, Fml, ftrue, fsep}
use base.Shift.{Keyless}
use contract.Conj.{top}
use contract.Monad.{fact}
use types.Logic.{Logic, sem}
use types.Kit.{‵, raw, ◌$◌, ◌∵◌, !, qed, move, fsplit, fjoin, feq_i, flt_i, flt_l, use1, done}
use denote.RattleType.{RowLaws, RattleType}
use denote.Memory.{mem, shared_of}
use denote.Opens.{hide}
use denote.Param.Send.{IsSync, Pure-keyless}
use denote.Pure.{Pure}
use denote.RawPtr.{Ptr, InBlock, block_of, count_of, in_block}
use denote.Sharing.{ShrLaws, said}
use denote.SharingLaws.{said_shr_laws, beside_shr_laws, held_shr_laws, contraction}
use denote.Slice.{ShrSlice, room, elements_shared, elements_shr_laws, slice_val}
use denote.Struct.Lending.{Lends, in_block_pure, in_block_says}
use Rattle.logbook.proofs.Fields.{lends_twice}
use Rattle.arc_owners.specs.memory.LentSlices.{slice_lent}

-- a slice begins where its items do
abbrev pub start_of : Ptr → ℕ × ℕ
start_of p = (block_of p, count_of p)

-- what is known of the place, whoever reads it and for how long
abbrev placed : (R : RattleType) → Ptr → List R.Denot → Fml
placed R p xs = fsep (in_block p ftrue) (room R (length xs))

abbrev placed_pure : (R : RattleType) (p : Ptr) (xs : List R.Denot) → Pure (placed R p xs)
placed_pure R p xs = (in_block_pure p, (tt, tt))

module _ (R : RattleType) (L : RowLaws R) (p : Ptr) (xs : List R.Denot) where
  pub slice_laws : ShrLaws (slice_lent R p xs)
  slice_laws = beside_shr_laws (said (placed R p xs)) (elements_shared R xs (block_of p)
      (count_of p))
      (said_shr_laws (placed R p xs) (placed_pure R p xs)) (elements_shr_laws R L xs (block_of p)
      (count_of p))

  module _ (l : Lft) where
    abbrev kept : Fml
    kept = slice_lent R p xs l

    pub kept_laws : ShrLaws (said kept)
    kept_laws = held_shr_laws l (slice_lent R p xs) slice_laws

    pub kept_lends : {M : Type 1} {𝓤 : Ura M} (𝓛 : Logic 𝓤) (λ' : Lft) → Lends 𝓛 kept (said kept) λ'
    kept_lends 𝓛 λ' = lends_twice 𝓛 kept (contraction 𝓛 (slice_lent R p xs) slice_laws l) λ'

module _ (R : RattleType) {M : Type 1} {𝓤 : Ura M} (𝓛 : Logic 𝓤) (κ : Lft) where
  first_shared : (n : ℕ) (xs : List R.Denot) (b o : ℕ) → ent 𝓤 (sem 𝓛 (elements_shared R xs b o κ))
      (sem 𝓛 (elements_shared R (take n xs) b o κ))
  first_shared zero xs b o = top 𝓤 _
  first_shared (suc n) [] b o = top 𝓤 _
  first_shared (suc n) (x ∷ xs) b o = mono_r 𝓤 (sem 𝓛 (shared_of R x b o κ)) (first_shared n xs b
      (o + (mem R).size))

  -- the items before an end, as a slice
  pub prefix_seen : (ℓ : Lifetime) (p : Ptr) (xs : List R.Denot) (n : ℕ) → n ≤ length xs
      → ent 𝓤 (sem 𝓛 (slice_lent R p xs κ)) (sep 𝓤 (fact 𝓤 (InBlock p))
      (sem 𝓛 ((ShrSlice ℓ κ R).own_val (record { ref_ptr = start_of p; now = take n xs })
      (slice_val (start_of p) n ∷ []))))
  prefix_seen ℓ p xs n h = let ys = take n xs in let long : length ys ≡ n = length-take-le n xs h in
      let fewer : length ys ≤ length xs = omega (arith, long, h) in
      qed 𝓛 (‵ (slice_lent R p xs κ) ∷ []) ∵ fsplit ! $ fsplit ! $
      use1 𝓛 (raw (fact 𝓤 (InBlock p))) (in_block_says 𝓛 p) $ move ! (1 ∷ []) $ fsplit ! $
      flt_l ! (λ count. flt_l ! (λ bytes.
      move ! (1 ∷ []) $ use1 𝓛 (‵ (elements_shared R ys (block_of p) (count_of p) κ))
      (first_shared n xs (block_of p) (count_of p)) $ hide ! $
      flt_i ! (length ys * (mem R).size) (2 ^ 63) (lt_of_le_of_lt (mul-le-mul_right (mem R).size
      fewer) bytes) $ flt_i ! (length ys) (2 ^ 64) (lt_of_le_of_lt fewer count) $ fjoin ! $
      feq_i ! (List Val) (slice_val (start_of p) n ∷ []) (slice_val (start_of p) (length ys) ∷ [])
      (ap (λ k. slice_val (start_of p) k ∷ []) (sym long)) $ fjoin ! $ fjoin ! $
      move ! (1 ∷ 0 ∷ []) $ done !))

-- it names no thread, where a `&` to an item names none
shared_keyless : (R : RattleType) → IsSync R → (xs : List R.Denot) (b o : ℕ) (κ : Lft)
    → Keyless (elements_shared R xs b o κ)
shared_keyless R y [] b o κ = tt
shared_keyless R y (x ∷ xs) b o κ = (y.shared x b o κ, shared_keyless R y xs b (o + (mem R).size) κ)

pub lent_keyless : (R : RattleType) → IsSync R → (p : Ptr) (xs : List R.Denot) (κ : Lft)
    → Keyless (slice_lent R p xs κ)
lent_keyless R y p xs κ = let items = shared_keyless R y xs (block_of p) (count_of p) κ in
    (Pure-keyless (placed R p xs) (placed_pure R p xs), items)
