-- What each row of a table says of the place where it stands.
use Rattle.std.specs.Prelude.{◌≡◌, ℕ, ◌+◌, ◌≤◌, Bool, true, false, is_some, Option, Some, None}
use Rattle.std.specs.Prelude.{length}
use Rattle.std.specs.Option.{option_map_or}
use Rattle.arc_block.specs.Block.{BlockInfo, IsMemory, Sort, native, vector, buffer, raw}
use Rattle.arc_block.specs.Place.{Place, nowhere, static_data, on_block}
use Rattle.arc_block.specs.Table.{Row, Table, row_at}
use Rattle.arc_parts.specs.Writers.{capacity_of, writer_capacity}
use Rattle.arc_commands.specs.Blocks.{is_several, is_small, is_sole}

-- Whether a block of this sort counts its full places: one of ours, where items are dropped one by
-- one, and always what a caller brought.
abbrev pub counts_full : (drops : Bool) → Sort → Bool
counts_full drops native = drops
counts_full drops vector = drops
counts_full drops (buffer writable) = true
counts_full drops raw = true

module _ {M : Type 0} where
  -- where the full places of a block end, which are all where they aren't counted
  abbrev pub full_end : BlockInfo M → ℕ
  full_end info = option_map_or (λ full. full) info.full info.size

  -- So many items of a small window, or of another one, lie within the full places of a block,
  -- where these are counted. On nothing there are none, but what a small window has in itself.
  abbrev pub LieWithin : (drops small : Bool) → Place (Option ℕ) M → ℕ → Type 0
  LieWithin drops small nowhere len = small ≡ false → len ≡ 0
  LieWithin drops small static_data len = Unit {0}
  LieWithin drops small (on_block block offset info) len =
      (is_some info.full ≡ counts_full drops info.sort)
      × (offset + len ≤ full_end info) × (full_end info ≤ info.size)

  -- The places of a sole writer of so many items end in his block: behind his items, or where these
  -- are dropped one by one, at the block's end if nothing else lies behind them.
  abbrev pub EndsAt : (drops : Bool) → BlockInfo M → (offset len capacity : ℕ) → Type 0
  EndsAt false info offset len capacity = (len ≤ capacity) × (offset + capacity ≤ info.size)
  EndsAt true info offset len capacity = capacity ≡ writer_capacity true info offset len

  -- a sole writer of so many items, who stands here, has so many places: none on static data
  abbrev pub HasPlaces : Bool → Place (Option ℕ) M → (len capacity : ℕ) → Type 0
  HasPlaces drops nowhere len capacity = capacity ≡ 0
  HasPlaces drops static_data len capacity = ⊥
  HasPlaces drops (on_block block offset info) len capacity =
      EndsAt drops info offset len capacity

  -- one writer of several, who stands here, has so many places: none on static data, nor on a block
  -- that counts no owners, nor in a caller's buffer
  abbrev pub HasSharedPlaces : Place (Option ℕ) M → (capacity : ℕ) → Type 0
  HasSharedPlaces nowhere capacity = capacity ≡ 0
  HasSharedPlaces static_data capacity = ⊥
  HasSharedPlaces (on_block None offset info) capacity = ⊥
  HasSharedPlaces (on_block (Some block) offset info) capacity =
      IsMemory info.sort × (offset + capacity ≤ info.size)

-- a row of one writer of several: of items that need no drop, with a place for each, within its
-- block
pub record FitsBeside {T M : Type 0} (drops : Bool) (row : Row T M) : Type 0 where
  pub kept : drops ≡ false
  pub places : HasSharedPlaces row.place (capacity_of row.role)
  pub room : length row.items ≤ capacity_of row.role

-- A row's items lie within its block. A sole writer has places there for all of them, and so has
-- one of several.
pub record RowFits {T M : Type 0} (drops : Bool) (row : Row T M) : Type 0 where
  pub within : LieWithin drops (is_small row.role) row.place (length row.items)
  pub writer : is_sole row.role ≡ true
      → HasPlaces drops row.place (length row.items) (capacity_of row.role)
  pub shared : is_several row.role ≡ true → FitsBeside drops row

-- so it is of each row
abbrev pub RowsFit : {T M : Type 0} → Bool → Table T M → Type 0
RowsFit {T} {M} drops t = (i : ℕ) (row : Row T M) → row_at t i ≡ Some row → RowFits drops row
