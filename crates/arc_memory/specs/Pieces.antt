-- One piece of memory for a header and, behind it, places for items.
use Rattle.std.specs.Prelude.{◌≡◌, ℕ, ◌+◌, ◌*◌, ◌/◌, ◌%◌, ◌^◌, ◌<◌}
use mir.Syntax.{Ty, w128, ty_int, ty_array}
use prog.Memory.{size, align}
use base.Fml.{Fml, fsep, fex, feq, fall, fwand}
use denote.Param.{layout}
use denote.RattleType.{RattleType}
use denote.RawPtr.{Ptr, room_for, ◌+ₚ◌}
use Rattle.core.specs.Mem.{type_size}
use Rattle.core.specs.Allocator.{array_of}

-- so many bytes, rounded up to whole units of 16
abbrev pub in_units : ℕ → ℕ
in_units n = (n + 15) / 16 * 16

-- n bytes, as units of 16 that are aligned to 16
abbrev pub units_of : ℕ → Ty
units_of n = ty_array (ty_int w128) (n / 16)

-- whole units that take less than 2 ^ 63 bytes
abbrev pub IsWhole : ℕ → Type 0
IsWhole bytes = (bytes % 16 ≡ 0) × (bytes < 2 ^ 63)

-- how large a header of this type is, and to how many bytes it is aligned
abbrev pub head_size : RattleType → ℕ × ℕ
head_size R = (type_size R, align (layout R))

-- how many bytes a piece has, with so many places behind such a header
abbrev pub piece_bytes : RattleType → ℕ × ℕ → ℕ → ℕ
piece_bytes R head count = in_units head.0 + in_units (count * type_size R)

-- where the places lie behind such a header at p
abbrev pub behind : ℕ × ℕ → Ptr → Ptr
behind head p = p +ₚ in_units head.0

-- what makes one block of the room for a header at p, of any type of this size, and of the room for
-- the places behind it
abbrev pub makes_piece : RattleType → ℕ × ℕ → ℕ → Ptr → Fml
makes_piece R head count p = fall Ty (λ τ. fwand (fsep (feq (ℕ × ℕ) (size τ, align τ) head)
    (fsep (room_for τ p) (room_for (array_of R count) (behind head p))))
    (room_for (units_of (piece_bytes R head count)) p))

-- the right to free a piece, given the room for its header and for its places
abbrev pub frees_piece : RattleType → (Ty → Ptr → Fml) → ℕ × ℕ → ℕ → Ptr → Fml
frees_piece R holds head count p =
    fsep (makes_piece R head count p) (holds (units_of (piece_bytes R head count)) p)

-- the same, of a piece that is small enough
abbrev pub piece_right : RattleType → (Ty → Ptr → Fml) → ℕ × ℕ → ℕ → Ptr → Fml
piece_right R holds head count p =
    fex (piece_bytes R head count < 2 ^ 63) (λ _. frees_piece R holds head count p)
