-- Room for a writer's items: where it comes from, by the cases in their order, and what the window
-- is with it.
use Rattle.std.specs.Prelude.{ℕ, ◌+◌, ◌-◌, ◌*◌, ◌^◌, ◌==◌, nat_lt, Bool, true}
use Rattle.std.specs.Prelude.{◌&&◌, ◌||◌, not, if◌then◌else◌, max}
use Rattle.std.specs.Option.{option_map_or}
use Rattle.arc_owners.specs.declared.error.TryReserveError.{TryReserveError}
use Rattle.arc_owners.specs.declared.error.TryReserveError.TheVariants.{AllocError, NotUnique}
use Rattle.arc_owners.specs.declared.error.TryReserveError.TheVariants.{Unsupported}
use Rattle.arc_owners.specs.declared.error.TryReserveError.TheVariants.{CapacityOverflow}
use Rattle.arc_block.specs.Block.{Sort, native, vector, buffer, raw, BlockInfo}
use Rattle.arc_parts.specs.declared.room.Room.{Room}
use Rattle.arc_parts.specs.declared.room.Room.TheVariants.{Spare, Fresh, Behind, Front}
use Rattle.arc_parts.specs.declared.room.Room.TheVariants.{Growth, Own, Refused}

-- whether a window that ends here ends where the block's full places do, where these are counted
abbrev pub ends_full : {M : Type 0} → BlockInfo M → ℕ → Bool
ends_full info end = option_map_or (λ full. end == full) info.full true

-- A block of so many places grows so that it has those that are needed: to twice its size, or to
-- what is needed, where that is more or where twice the size is no number of 64 bits.
abbrev pub larger_size : (size needed : ℕ) → ℕ
larger_size size needed =
    if nat_lt (2 * size) (2 ^ 64) then max (2 * size) needed else needed

-- no block has more than 2^63 - 1 places, or bytes
abbrev pub is_too_large : (item_size places : ℕ) → Bool
is_too_large item_size places =
    nat_lt 9223372036854775807 places || nat_lt 9223372036854775807 (places * item_size)

-- a vector doesn't grow where what is needed is too large, and gets no more where the larger size
-- is
abbrev pub vector_room : (item_size places needed : ℕ) → Room
vector_room item_size places needed =
    if is_too_large item_size needed then Refused CapacityOverflow else
    Growth (if is_too_large item_size places then needed else places)

-- a native block doesn't grow where its new size would be too large in bytes, or what is needed in
-- places
abbrev pub native_room : (item_size places needed : ℕ) → Room
native_room item_size places needed =
    if nat_lt 9223372036854775807 needed || nat_lt 9223372036854775807 (places * item_size)
    then Refused CapacityOverflow else Growth places

-- Room by growth of a block of this sort, for so many items behind this end. A caller's buffer is
-- asked for as many places itself, and how that goes isn't known here.
abbrev pub growth : Sort → (item_size size end additional : ℕ) → Room
growth native item_size size end additional =
    let needed = end + additional in native_room item_size (larger_size size needed) needed
growth vector item_size size end additional =
    let needed = end + additional in vector_room item_size (larger_size size needed) needed
growth (buffer writable) item_size size end additional = Own additional
growth raw item_size size end additional = Refused Unsupported

-- why a caller's buffer may refuse to grow: it has no other owners that it could name
abbrev pub IsBuffersRefusal : TryReserveError → Type 0
IsBuffersRefusal AllocError = Unit {0}
IsBuffersRefusal NotUnique = ⊥
IsBuffersRefusal Unsupported = Unit {0}
IsBuffersRefusal CapacityOverflow = Unit {0}

-- where a writer of so many items, at this offset in a block, has room for more of them
abbrev pub room_in : {M : Type 0} → (drops : Bool) → (item_size : ℕ) → BlockInfo M
    → (offset len additional : ℕ) → Room
room_in drops item_size info offset len additional =
    if drops && not (ends_full info (offset + len)) then Refused Unsupported else
    if not (nat_lt (info.size - offset - len) additional) then Behind else
    if not drops && not (nat_lt offset len) && not (nat_lt (info.size - len) additional)
    then Front else
    growth info.sort item_size info.size (offset + len) additional

-- what holds of the places of a new block, where there is to be one
abbrev pub IfFresh : Room → (ℕ → Type 0) → Type 0
IfFresh (Fresh places) P = P places
IfFresh other P = Unit {0}

-- what holds, by case, of the places that the block is to have, and where there are places already
abbrev pub IfGrowth : Room → (ℕ → Type 0) → Type 0
IfGrowth (Growth places) P = P places
IfGrowth other P = Unit {0}

abbrev pub IfSpare : Room → Type 0 → Type 0
IfSpare Spare P = P
IfSpare other P = Unit {0}

abbrev pub IfBehind : Room → Type 0 → Type 0
IfBehind Behind P = P
IfBehind other P = Unit {0}

abbrev pub IfFront : Room → Type 0 → Type 0
IfFront Front P = P
IfFront other P = Unit {0}

abbrev pub IfOwn : Room → Type 0 → Type 0
IfOwn (Own additional) P = P
IfOwn other P = Unit {0}

-- where a writer in a caller's buffer may have room, or none
abbrev pub IsBuffersRoom : Room → Type 0
IsBuffersRoom Spare = Unit {0}
IsBuffersRoom (Fresh places) = ⊥
IsBuffersRoom Behind = ⊥
IsBuffersRoom Front = Unit {0}
IsBuffersRoom (Growth places) = ⊥
IsBuffersRoom (Own additional) = Unit {0}
IsBuffersRoom (Refused e) = Unit {0}
