-- What places, lent or not, and allocations own names no thread.
use Rattle.std.proofs.Common.{ℕ, zero, suc, ◌+◌, ◌-◌, List, [], ◌∷◌, length, Some, None}
use mir.Syntax.{Ty}
use base.Share
use base.Fml.{Fml, GName, Share}
use base.Shift.{Keyless}
use denote.RattleType.{RattleType}
use denote.Array.{Array}
use denote.RawPtr.{Ptr, block_ptr, null_ptr, room_for}
use denote.Param.Send.{IsSend, IsSync, array_send, array_sync}
use Rattle.core.specs.Allocator.{array_of}
use Rattle.core.specs.Mem.{type_size}
use Rattle.std_alloc.proofs.SendSync.{lies}
use Rattle.arc_memory.specs.Memory.{place_at, side_by_side, places_own}
use Rattle.arc_memory.specs.LentMemory.{LentMemory, Held, holds, named, contents, borrowed, opened}
use Rattle.arc_memory.specs.LentMemory.{returning, settles, each_name, in_memory, names_from}
use Rattle.arc_memory.specs.LentMemory.{part_owns, open_owns, inheritance_owns, frozen_owns}

pub bare : (τ : Ty) (p : Ptr) → Keyless (room_for τ p)
bare τ null_ptr = tt
bare τ (block_ptr _ _) = tt

at_block : (p : Ptr) (F : ℕ → ℕ → Fml) → ((b o : ℕ) → Keyless (F b o)) → Keyless (in_memory p F)
at_block null_ptr F k = tt
at_block (block_ptr b o) F k = k b o

module _ (R : RattleType) (s : IsSend R) where
  pub run : (p : Ptr) (count : ℕ) (xs : List R.Denot) → Keyless (side_by_side R p count xs)
  run p count xs = let n = length xs in
      (lies (Array R n) (array_send R n s) p xs, bare (array_of R (count - n)) (place_at R p n))

  pub places : (base : Ptr) (whole start count : ℕ) (xs : List R.Denot)
      → Keyless (places_own R base whole start count xs)
  places base whole start count xs = (tt, run (place_at R base start) count xs)

  held : (y : Held R) (b o : ℕ) → Keyless (holds R y b o)
  held None b o = tt
  held (Some x) b o = lies R s (block_ptr b o) x

  place_keyless : (γ : GName) (b o : ℕ) → Keyless (named R γ b o)
  place_keyless γ b o = λ y. (held y b o, tt)

  module _ (a : ℕ) where
    borrows : (gs : List GName) (ys : List (Held R)) (b o : ℕ) → Keyless (borrowed R a gs ys b o)
    borrows gs [] b o = tt
    borrows [] (y ∷ ys) b o = tt
    borrows (γ ∷ gs) (y ∷ ys) b o = ((place_keyless γ b o, tt), borrows gs ys b (o + type_size R))

    open_borrows : (q : Share) (gs : List GName) (n b o : ℕ) → Keyless (opened R a q gs n b o)
    open_borrows q gs zero b o = tt
    open_borrows q [] (suc n) b o = tt
    open_borrows q (γ ∷ gs) (suc n) b o = (
      (place_keyless γ b o, λ y. (tt, tt)),
      open_borrows (Share.right q) gs n b
          (o + type_size R),
    )

    way_back : (gs : List GName) (b o : ℕ) → Keyless (returning R a gs b o)
    way_back [] b o = tt
    way_back (γ ∷ gs) b o = (place_keyless γ b o, way_back gs b (o + type_size R))

  pub part : (m : LentMemory) (start count : ℕ) (xs : List R.Denot)
      → Keyless (part_owns R m start count xs)
  part m start count xs = (
    tt,
    at_block (place_at R m.base start) _ (borrows m.lifetime (names_from R m start)
        (contents count xs)),
  )

  pub open_part : (m : LentMemory) (start : ℕ) (q : Share) (count : ℕ)
      → Keyless (open_owns R m start q count)
  open_part m start q count = (
    tt,
    at_block (place_at R m.base start) _ (open_borrows m.lifetime q (names_from R m start)
        count),
  )

  pub inheritance : (m : LentMemory) (start : ℕ) → Keyless (inheritance_owns R m start)
  inheritance m start =
      (tt, at_block (place_at R m.base start) _ (way_back m.lifetime (names_from R m start)))

module _ (R : RattleType) (y : IsSync R) where
  names : (gs : List GName) (ys : List (Held R)) → Keyless (each_name R (settles R) gs ys)
  names gs [] = tt
  names [] (y ∷ ys) = tt
  names (γ ∷ gs) (y ∷ ys) = (tt, names gs ys)

  pub frozen_part : (m : LentMemory) (start : ℕ) (xs : List R.Denot)
      → Keyless (frozen_owns R m start xs)
  frozen_part m start xs = let n = length xs in (
    tt,
    at_block (place_at R m.base start) _
        (λ b o. (
          ((array_sync R n y).shared xs b o (m.lifetime ∷ [])).1,
          names (names_from R m start)
              (contents n xs),
        )),
  )
