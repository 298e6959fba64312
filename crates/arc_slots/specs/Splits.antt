-- A slot that was split in two, and its window.
use Rattle.std.specs.Prelude.{◌≡◌, Bool, List, Option, Some}
use Rattle.arc_owners.specs.declared.count.tokens.Pass.{Pass}
use Rattle.arc_owners.specs.count.Calls.{Owner}
use Rattle.arc_block.specs.Place.{Place}
use Rattle.arc_block.specs.Table.{Row}
use Rattle.arc_parts.specs.Window.{Window}
use Rattle.arc_read.specs.Cuts.{SplitsOff, SplitsTo, off_place, to_place}
use Rattle.arc_slots.specs.Calls.{Beside}
use Rattle.arc_slots.specs.Slots.{SlotView, row_of, stand_of}
use Rattle.arc_slots.specs.declared.part.Part.{Part}
use Rattle.arc_slots.specs.declared.part.Part.TheVariants.{Back, Front}

-- of the two parts of a slot one has its owner, and the other was made beside it
pub record IsSplit {T M H : Type 0} (old same made : SlotView T M)
    (same_row made_row : Row T M) (before after : List (Pass H)) : Type 0 where
  pub same_is : row_of same ≡ same_row
  pub made_is : row_of made ≡ made_row
  pub owner : stand_of (Some same) ≡ stand_of (Some old)
  pub added : Beside (stand_of (Some old)) before after (stand_of (Some made))

module _ {T M : Type 0} where
  -- a window that is read was split, and this part handed out
  abbrev pub SplitsPart : {H : Type 0} → (has_static : Bool) → Part → Window T M
      → (before after : Pass H) → (stays handed : Window T M) → Type 0
  SplitsPart has_static (Back at) w before after stays handed =
      SplitsOff has_static w at before after stays handed
  SplitsPart has_static (Front at) w before after stays handed =
      SplitsTo has_static w at before after handed stays

  -- where the part stands that is made for it
  abbrev pub made_place : (has_static : Bool) → Part → Window T M → Place (Option Owner) M
  made_place has_static (Back at) w = off_place has_static w at
  made_place has_static (Front at) w = to_place has_static w at
