-- What lies in the memory of a native block, and who may free it.
use Rattle.std.specs.Prelude.{refl, ℕ, ◌-◌, ◌*◌, ◌^◌, List, length}
use Rattle.std.specs.Coded.{Coded, code_by, coded×, coded_ℕ}
use base.Fraction.{full_share}
use base.Fml.{Lft, Fml, fsep, feq, flt, fall, fwand}
use denote.RattleType.{RattleType}
use denote.RawPtr.{Ptr, coded_ptr, lies_at, room_for, ◌+ₚ◌}
use denote.Array.{Array}
use Rattle.core.specs.Mem.{type_size}
use Rattle.core.specs.Allocator.{array_of}
use Rattle.std.specs.Vec.{with_items}
use Rattle.std.specs.declared.vec.Vec.{Vec}
use Rattle.std_alloc.specs.Vec.Ownership.{vec_shares}

-- where the place of this number lies, of an allocation that begins at `base`
abbrev pub place_at : RattleType → Ptr → ℕ → Ptr
place_at R base number = base +ₚ number * type_size R

-- so many places from p on, of which the first hold these items and the others nothing
abbrev pub side_by_side : (R : RattleType) → Ptr → ℕ → List R.Denot → Fml
side_by_side R p count xs = fsep (lies_at (Array R (length xs)) full_share p xs)
    (room_for (array_of R (count - length xs)) (place_at R p (length xs)))

-- so many places take less than 2 ^ 63 bytes
abbrev pub is_small : RattleType → ℕ → Fml
is_small R count = flt (count * type_size R) (2 ^ 63)

-- what is owned of the places from `start` on, `count` of the `whole` that the allocation has
abbrev pub places_own : (R : RattleType) (base : Ptr) (whole start count : ℕ) → List R.Denot → Fml
places_own R base whole start count xs =
    fsep (is_small R whole) (side_by_side R (place_at R base start) count xs)

-- what a `&` to them has: the items, to be read
abbrev pub places_lent : (R : RattleType) (base : Ptr) (whole start : ℕ) → List R.Denot → Lft → Fml
places_lent R base whole start xs =
    vec_shares R (place_at R base start) (length xs) whole xs

-- an allocation: where it begins, how many places it has, how many items lay in it when it was
-- parted from them, and the allocator that frees it
pub record Extent (A : Type 0) : Type 0 where
  pub base : Ptr
  pub count : ℕ
  pub len : ℕ
  pub allocator : A

-- it is stored as the tuple of its fields
abbrev pub extent_code : {A : Type 0} → Coded A → Coded (Extent A)
extent_code {A} code = code_by (Ptr × (ℕ × (ℕ × A)))
    (coded× coded_ptr (coded× coded_ℕ (coded× coded_ℕ code)))
    (λ e. (e.base, (e.count, (e.len, e.allocator))))
    (λ p. record { base = p.0; count = p.1.0; len = p.1.1.0; allocator = p.1.1.1 }) (λ _. refl)

module _ {T A : Type 0} where
  -- the allocation of a vector
  abbrev pub extent_of : Vec T A → Extent A
  extent_of v = record { base = v.ptr; count = v.cap; len = v.len; allocator = v.alloc }

-- what is owned of a vector that is parted from its items: with all places of its allocation, and
-- as many items there, it is a whole vector again
abbrev pub emptied : (R : RattleType) {A : Type 0} → Extent A → Vec R.Denot A
    → (Vec R.Denot A → Fml) → Fml
emptied R {A} e v own = fsep (feq (Extent A) (extent_of v) e)
    (fall (List R.Denot) (λ xs. fwand
    (fsep (feq ℕ (length xs) e.len) (places_own R e.base e.count 0 e.count xs))
    (own (with_items v xs))))
