-- The table of lists: every window has a number and a list of its own.
use Rattle.std.specs.Prelude.{◌≡◌, ℕ, ◌==◌, Bool, false, List, [], length, Option, Some, None}
use Rattle.std.specs.Prelude.{filter, slice_get}
use Rattle.std.specs.Option.{option_flatten, option_map_or}
use Rattle.arc_block.specs.Given.{Given}
use Rattle.arc_block.specs.Place.{Place, nowhere, static_data, on_block, bare_place}

-- what a window may do
pub data Role : Type 0 where
  reader : Role
  sole_writer : (capacity : ℕ) → Role
  one_writer_of_several : (capacity : ℕ) → Role
  inline : Role
  forgotten : Role

-- a window that is alive, or was forgotten. N is what a block goes by
pub record RowOf (N T M : Type 0) : Type 0 where
  pub items : List T
  pub place : Place N M
  pub role : Role

-- the same window, without the value of its block's buffer
abbrev pub bare : {N T B M : Type 0} → RowOf N T (Given B M) → RowOf N T M
bare row = record { items = row.items; place = bare_place row.place; role = row.role }

-- in the table blocks go by their numbers; one that counts no owners has none
abbrev pub Row : Type 0 → Type 0 → Type 0
Row T M = RowOf (Option ℕ) T M

-- the rows by their numbers, where None has gone, and how many blocks were made
pub record Table (T M : Type 0) : Type 0 where
  pub rows : List (Option (Row T M))
  pub blocks : ℕ

-- no window was made yet
abbrev pub empty_table : {T M : Type 0} → Table T M
empty_table = record { rows = []; blocks = 0 }

-- the row with this number, where it was made and isn't gone
abbrev pub row_at : {T M : Type 0} → Table T M → ℕ → Option (Row T M)
row_at t i = option_flatten (slice_get t.rows i)

-- the number of the block on which a place lies, where that counts its owners
abbrev pub block_of : {M : Type 0} → Place (Option ℕ) M → Option ℕ
block_of nowhere = None
block_of static_data = None
block_of (on_block number offset facts) = number

-- row i stands on the block with this number
pub record StandsOn {T M : Type 0} (t : Table T M) (i block : ℕ) : Type 0 where
  pub row : Row T M
  pub alive : row_at t i ≡ Some row
  pub stands : block_of row.place ≡ Some block

-- row i stands on a block that no other row has
pub record IsAlone {T M : Type 0} (t : Table T M) (i : ℕ) : Type 0 where
  pub block : ℕ
  pub owner : StandsOn t i block
  pub only : (j : ℕ) → StandsOn t j block → j ≡ i

-- whether a row stands on the block with this number
abbrev pub stands_on : {T M : Type 0} → ℕ → Option (Row T M) → Bool
stands_on block None = false
stands_on block (Some row) = option_map_or (λ b. b == block) (block_of row.place) false

-- how many rows stand on the block with this number
abbrev pub owners : {T M : Type 0} → Table T M → ℕ → ℕ
owners t block = length (filter (stands_on block) t.rows)

-- Whether no other row stands on the block of this place. On no block the answer is no, and on one
-- that counts no owners.
abbrev pub is_alone : {T M : Type 0} → Table T M → Place (Option ℕ) M → Bool
is_alone t place = option_map_or (λ block. owners t block == 1) (block_of place) false
