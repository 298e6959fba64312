-- Blocks as the rows of a table tell of them.
use Rattle.std.specs.Prelude.{◌≡◌, ℕ, ◌<◌, Bool, true, false, Some}
use Rattle.arc_block.specs.Block.{BlockInfo}
use Rattle.arc_block.specs.Place.{on_block}
use Rattle.arc_block.specs.Table.{Row, Table, Role, StandsOn, row_at}
use Rattle.arc_block.specs.Table.{reader, sole_writer, one_writer_of_several, inline}

-- whether a role is a reader's
abbrev pub is_reader : Role → Bool
is_reader reader = true
is_reader other = false

-- whether it is a sole writer's
abbrev pub is_sole : Role → Bool
is_sole (sole_writer capacity) = true
is_sole other = false

-- whether it is that of one writer of several
abbrev pub is_several : Role → Bool
is_several (one_writer_of_several capacity) = true
is_several other = false

-- whether it is a writer's
abbrev pub is_writer : Role → Bool
is_writer (sole_writer capacity) = true
is_writer (one_writer_of_several capacity) = true
is_writer other = false

-- whether it is a small window's
abbrev pub is_small : Role → Bool
is_small inline = true
is_small other = false

module _ {T M : Type 0} where
  -- no row is that of one writer of several
  abbrev pub NoneOfSeveral : Table T M → Type 0
  NoneOfSeveral t = (i : ℕ) (row : Row T M) → row_at t i ≡ Some row → is_several row.role ≡ false

  -- a row that stands on the block with this number says this of it
  abbrev pub SaysOf : Table T M → ℕ → BlockInfo M → Type 0
  SaysOf t block info = (i : ℕ) × (row : Row T M) × (offset : ℕ)
      × (row_at t i ≡ Some row) × (row.place ≡ on_block (Some block) offset info)

  -- The rows that stand on one block say the same of it, and it is a block that was made. Where a
  -- sole writer stands on it no other row does.
  pub record RowsAgree (t : Table T M) : Type 0 where
    pub same : (block : ℕ) (one other : BlockInfo M) → SaysOf t block one
        → SaysOf t block other → one ≡ other
    pub numbered : (block : ℕ) (info : BlockInfo M) → SaysOf t block info → block < t.blocks
    pub alone : (i j block : ℕ) (s : StandsOn t i block) → is_sole s.row.role ≡ true
        → StandsOn t j block → j ≡ i
