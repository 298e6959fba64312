-- The places that rows have in their blocks: a writer's are no other row's.
use Rattle.std.specs.Prelude.{◌≡◌, ℕ, ◌+◌, ◌≤◌, ◌<◌, ◌↔◌, ◌⊎◌, Bool, true, length, Option, Some}
use Rattle.arc_block.specs.Place.{Place, nowhere, static_data, on_block}
use Rattle.arc_block.specs.Table.{Row, Table, Role, StandsOn, row_at}
use Rattle.arc_block.specs.Table.{reader, sole_writer, one_writer_of_several, inline, forgotten}
use Rattle.arc_commands.specs.Blocks.{RowsAgree, is_writer}
use Rattle.arc_commands.specs.Fits.{RowsFit}

-- how many places a window of this role with so many items has: a writer those that he may write,
-- and a reader one for each item
abbrev pub role_places : Role → (len : ℕ) → ℕ
role_places reader len = len
role_places (sole_writer capacity) len = capacity
role_places (one_writer_of_several capacity) len = capacity
role_places inline len = len
role_places forgotten len = len

module _ {M : Type 0} where
  -- a place of a block, by its number there, is one of so many from here on
  abbrev pub CoversAt : Place (Option ℕ) M → (places n : ℕ) → Type 0
  CoversAt nowhere places n = ⊥
  CoversAt static_data places n = ⊥
  CoversAt (on_block block offset info) places n = (offset ≤ n) × (n < offset + places)

  -- so many places from here on end within the block
  abbrev pub EndsWithinAt : Place (Option ℕ) M → (places : ℕ) → Type 0
  EndsWithinAt nowhere places = Unit {0}
  EndsWithinAt static_data places = Unit {0}
  EndsWithinAt (on_block block offset info) places = offset + places ≤ info.size

module _ {T M : Type 0} where
  -- a row has the place with this number in its block
  abbrev pub Covers : Row T M → ℕ → Type 0
  Covers row n = CoversAt row.place (role_places row.role (length row.items)) n

  -- two rows on one block have no place in common
  abbrev pub ShareNone : Row T M → Row T M → Type 0
  ShareNone one other = (n : ℕ) → Covers one n → Covers other n → ⊥

  -- the places of a row are those of two, which have none in common
  pub record IsParted (whole one other : Row T M) : Type 0 where
    pub apart : ShareNone one other
    pub all : (n : ℕ) → Covers whole n ↔ (Covers one n ⊎ Covers other n)

  -- a row ends within its block
  abbrev pub EndsWithin : Row T M → Type 0
  EndsWithin row = EndsWithinAt row.place (role_places row.role (length row.items))

  -- Of two rows on one block, of which one is a writer's, no place is both's; and each row ends
  -- within its block.
  pub record WritersApart (t : Table T M) : Type 0 where
    pub apart : (i j block : ℕ) → ¬ (i ≡ j) → (one : StandsOn t i block)
        → is_writer one.row.role ≡ true → (other : StandsOn t j block)
        → ShareNone one.row other.row
    pub within : (i : ℕ) (row : Row T M) → row_at t i ≡ Some row → EndsWithin row

  -- what holds of the rows of each table of a run
  pub record IsLawful (drops : Bool) (t : Table T M) : Type 0 where
    pub agree : RowsAgree t
    pub fit : RowsFit drops t
    pub apart : WritersApart t
