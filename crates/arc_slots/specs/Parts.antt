-- A side of a split window that is handed out: which command does so, where the window is split,
-- and which row is made and which stays.
use Rattle.std.specs.Prelude.{ℕ, ◌==◌, Bool, length}
use Rattle.arc_block.specs.Table.{Row}
use Rattle.arc_commands.specs.Changes.{cut_row, off_part, to_part}
use Rattle.arc_commands.specs.Commands.{ListCmd}
use Rattle.arc_commands.specs.declared.command.Cmd.TheVariants as command
use Rattle.arc_slots.specs.declared.part.Part.{Part}
use Rattle.arc_slots.specs.declared.part.Part.TheVariants.{Back, Front}

-- where the window is split
abbrev pub split_at : Part → ℕ
split_at (Back at) = at
split_at (Front at) = at

-- whether a window with so many items is split at the end of which that leaves nothing
abbrev pub is_end : (len : ℕ) → Part → Bool
is_end len (Back at) = at == 0
is_end len (Front at) = at == len

module _ {T M : Type 0} where
  -- the command to hand out this part of the window with this number
  abbrev pub part_command : ℕ → Part → ListCmd T M
  part_command i (Back at) = command.Off i at
  part_command i (Front at) = command.To i at

  -- Whether the window itself is handed out, and what was made stays under its number. So it is of
  -- a split at one of its ends.
  abbrev pub is_itself : Row T M → Part → Bool
  is_itself row part = is_end (length row.items) part

  -- the row of the window's owner then, where it stays under its number
  abbrev pub rest_of : Row T M → Part → Row T M
  rest_of row (Back at) = cut_row row 0 at
  rest_of row (Front at) = cut_row row at (length row.items)

  -- the row that is made
  abbrev pub part_row : (has_static : Bool) → Row T M → Part → Row T M
  part_row has_static row (Back at) = off_part has_static row at
  part_row has_static row (Front at) = to_part has_static row at
