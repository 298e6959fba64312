-- What contracts see of writers' parts, by what they stand on.
use Rattle.arc_parts.specs.Shared.{as_shared}
use Rattle.arc_parts.specs.Window.{PartsView}
use Rattle.arc_sort_writers.specs.NativeWriters.{NativeWriter, native_row, IsAlonePlace}
use Rattle.arc_writer_parts.specs.declared.shared.SharedStorage.{SharedStorage}
use Rattle.arc_writer_parts.specs.declared.shared.SharedStorage.TheVariants.{Several, Alone}
use Rattle.arc_writer_parts.specs.declared.sole.SoleStorage.{SoleStorage}
use Rattle.arc_writer_parts.specs.declared.sole.SoleStorage.TheVariants.{Native, Other}
use Rattle.arc_writer_parts.specs.declared.sole.SoleOther.TheVariants.{Vector, Buffer}

-- what contracts see of a sole writer, whose items are memory of ours, a vector or a caller's
-- buffer
abbrev pub sole_on : {P : Type 0} → SoleStorage P P P → P
sole_on (Native parts) = parts
sole_on (Other (Vector parts)) = parts
sole_on (Other (Buffer parts)) = parts

module _ {T M : Type 0} where
  -- what contracts see of him
  abbrev pub shared_on : SharedStorage (NativeWriter T) (PartsView T M) → PartsView T M
  shared_on (Several w) = native_row w
  shared_on (Alone w) = as_shared w

  -- by himself he stands there
  abbrev pub IsSharedOn : SharedStorage (NativeWriter T) (PartsView T M) → Type 0
  IsSharedOn (Several w) = Unit {0}
  IsSharedOn (Alone w) = IsAlonePlace w.place
