-- What a read by `Buf` leaves of a window that writes, written as numbers, since the trait's `kept`
-- has nothing else.
use Rattle.std.specs.Prelude.{ℕ, List, ◌++◌}
use Rattle.arc_parts.specs.Window.{PartsView}
use Rattle.arc_read.specs.Kept.{kept_read}
use Rattle.arc_write.specs.Within.{spare_places}
use Rattle.bytes.specs.Adapters.{kept_spare}

-- its block, as of a window that reads, and how many places are spare
abbrev pub kept_written : {T M : Type 0} → PartsView T M → List (List ℕ × ℕ)
kept_written w = kept_read w.place w.items ++ kept_spare (spare_places w)
