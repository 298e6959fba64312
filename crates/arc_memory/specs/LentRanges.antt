-- Ranges of lent places.
use Rattle.std.specs.Prelude.{ℕ, ◌+◌, ◌-◌}
use Rattle.arc_memory.specs.LentMemory.{LentMemory}
use Rattle.arc_memory.specs.declared.lent_places.LentPlaces.{LentPlaces}

-- in which memory they lie, which is the first, and how many there are
pub record LentRange : Type 0 where
  pub memory : LentMemory
  pub start : ℕ
  pub count : ℕ

-- the range of a part
abbrev pub part_range : {T : Type 0} → LentPlaces T → LentRange
part_range p = record { memory = p.memory; start = p.start; count = p.count }

-- the first so many places of a range, those behind them, and a range with so many places more
abbrev pub front_range : ℕ → LentRange → LentRange
front_range at r = record r { count = at }

abbrev pub back_range : ℕ → LentRange → LentRange
back_range at r = record r { start = r.start + at; count = r.count - at }

abbrev pub longer_range : ℕ → LentRange → LentRange
longer_range more r = record r { count = r.count + more }
