-- What the counted box of a native block holds.
use Rattle.arc_memory.specs.declared.kept.Kept.{Kept}
use Rattle.arc_memory.specs.declared.kept.Kept.TheVariants.{Places, Items}
use Rattle.arc_memory.specs.declared.kept_places.KeptPlaces.{KeptPlaces}

-- what is kept of the memory
abbrev pub kept_in : {T A : Type 0} → Kept T A → KeptPlaces T A
kept_in (Places kept) = kept
kept_in (Items kept) = kept.kept
