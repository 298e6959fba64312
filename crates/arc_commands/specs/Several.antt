-- What becomes of a row of one writer of several: who is one of them, or the only one, how their
-- places are split and joined, and how they make room.
use Rattle.std.specs.Prelude.{ℕ, ◌==◌, Bool, true, false, if◌then◌else◌, List, []}
use Rattle.std.specs.Prelude.{Option, Some, None, ◌&&◌, not, is_some}
use Rattle.std.specs.Option.{option_map_or}
use Rattle.arc_owners.specs.declared.error.OwnerError.TheVariants as owner_error
use Rattle.arc_owners.specs.declared.error.TryReserveError.TheVariants as reserve
use Rattle.arc_buffer.specs.Slice.{edge_answer}
use Rattle.arc_parts.specs.declared.room.Room.{Room}
use Rattle.arc_parts.specs.declared.room.Room.TheVariants as from
use Rattle.arc_block.specs.Block.{Sort, native, vector, buffer, raw}
use Rattle.arc_block.specs.Place.{Place, nowhere, static_data, on_block}
use Rattle.arc_parts.specs.Shared.{as_shared, as_unique, asks_alone, can_join, extended, front_of}
use Rattle.arc_parts.specs.Shared.{is_vector_at, joined_row, on_native, split_answer}
use Rattle.arc_block.specs.Table.{Row, block_of}
use Rattle.arc_parts.specs.Writers.{after_advance, capacity_of, new_writer, with_room}
use Rattle.arc_commands.specs.Changes.{Around, Change, Setting, Shortage, asking, asking_block}
use Rattle.arc_commands.specs.Changes.{begun, in_range, is_now, of_clones, reclaimed, room_of}
use Rattle.arc_commands.specs.Changes.{with_made}
use Rattle.arc_commands.specs.Commands.{ListReply}
use Rattle.arc_commands.specs.declared.command.Reply.TheVariants as reply

-- whether two rows stand on two blocks
abbrev pub are_apart : Option ℕ → Option ℕ → Bool
are_apart None there = false
are_apart (Some block) there = option_map_or (λ other. not (block == other)) there false

-- whether the places of a block are memory of ours
abbrev pub is_memory : Sort → Bool
is_memory native = true
is_memory vector = true
is_memory (buffer writable) = false
is_memory raw = false

module _ {N M : Type 0} where
  -- Whether several may write what stands here: on nothing, or on a block that counts its owners,
  -- in memory of ours and not in a caller's buffer. What is dropped one by one has one writer.
  abbrev pub can_share : (drops : Bool) → Place (Option N) M → Bool
  can_share drops nowhere = not drops
  can_share drops static_data = false
  can_share drops (on_block None offset info) = false
  can_share drops (on_block (Some block) offset info) = not drops && is_memory info.sort

module _ {T M : Type 0} where
  -- ---- roles

  -- a sole writer becomes one of several, unless it stands on a caller's buffer
  abbrev pub shared_change : Setting T → Row T M → Change T M
  shared_change setting row =
      if can_share setting.drops row.place then is_now reply.Ok (as_shared row) else
      is_now reply.Refused row

  -- one of several becomes the only writer, if it stands on a block and is alone there
  abbrev pub unique_change : Around → Row T M → Change T M
  unique_change around row = if around.alone then is_now reply.Ok (as_unique row) else
      is_now reply.Refused row

  -- ---- splits

  -- the row is the one part of these, and the other was made: where the row stands, or on a new
  -- block, to which it moved first
  abbrev pub moved_parts : Setting T → Shortage → Around → (keeps makes : Row T M → Row T M)
      → Row T M → Change T M
  moved_parts setting of_clones around keeps makes row =
      is_now (reply.Owner owner_error.AllocError) row
  moved_parts setting short around keeps makes row =
      let whole = on_native setting.drops (Some around.blocks) row in record {
        reply = reply.New around.windows;
        row = Some (keeps whole);
        made = Some (makes whole);
        begins = true;
      }

  abbrev pub parts_there : Around → (keeps makes : Row T M → Row T M) → Row T M → Change T M
  parts_there around keeps makes row =
      if around.full && is_some (block_of row.place)
      then is_now (reply.Owner owner_error.CountFull) row else
      with_made around (keeps row) (makes row)

  -- The places of one writer of several are split: one of a vector moves first, which takes memory.
  abbrev pub parts_change : Setting T → Shortage → Around → (keeps makes : Row T M → Row T M)
      → Row T M → Change T M
  parts_change setting short around keeps makes row =
      asking short row
      (if is_vector_at row.place then moved_parts setting short around keeps makes row else
      parts_there around keeps makes row)

  -- the part behind so many places is made, up to all that he has
  abbrev pub split_off_change : Setting T → Shortage → Around → (at : ℕ) → Row T M → Change T M
  split_off_change setting short around at row =
      in_range (split_answer setting.boundary row.items (capacity_of row.role) at) row
      (parts_change setting short around (front_of at) (after_advance at) row)

  -- the part of the first so many places is made, up to those of all items
  abbrev pub split_to_change : Setting T → Shortage → Around → (at : ℕ) → Row T M → Change T M
  split_to_change setting short around at row =
      in_range (edge_answer setting.boundary row.items at) row
      (parts_change setting short around (after_advance at) (front_of at) row)

  -- ---- a join

  -- The reply to a join, and the row with the places of both, after which the other has gone; or
  -- none, where it is refused: of two blocks, or over a gap.
  abbrev pub join_answer : (row other : Row T M) → ListReply T M × Option (Row T M)
  join_answer row other =
      if are_apart (block_of row.place) (block_of other.place) then (reply.Refused, None) else
      if can_join row other then (reply.Ok, Some (joined_row row other)) else (reply.Refused, None)

  -- ---- room

  -- One of several, who is alone where he has to be, has this room, and these items behind his
  -- others. He stands on no caller's buffer, which would make its own room.
  abbrev pub filled_alone : Setting T → Shortage → Around → List T → Room → Row T M → Change T M
  filled_alone setting short around items (from.Refused e) row = is_now (reply.Reserve e) row
  filled_alone setting short around items (from.Fresh places) row =
      asking_block short (reply.Reserve reserve.AllocError) row
      (begun (extended items (as_shared (new_writer setting.drops (Some around.blocks) [] places))))
  filled_alone setting short around items (from.Growth places) row =
      asking_block short (reply.Reserve reserve.AllocError) row
      (is_now reply.Ok (extended items (with_room (from.Growth places) row)))
  filled_alone setting short around items (from.Own additional) row =
      is_now (reply.Reserve reserve.Unsupported) row
  filled_alone setting short around items room row =
      is_now reply.Ok (extended items (with_room room row))

  -- whether one of several has to be alone for so many items more, and isn't
  abbrev pub is_beside : Around → (additional : ℕ) → Row T M → Bool
  is_beside around additional row = asks_alone row additional && not around.alone

  -- room for so many items more, and these behind the others; refused beside another owner
  abbrev pub filled_shared : Setting T → Shortage → Around → List T → (additional : ℕ) → Row T M
      → Change T M
  filled_shared setting short around items additional row =
      if is_beside around additional row then is_now (reply.Reserve reserve.NotUnique) row else
      filled_alone setting short around items (room_of setting row additional) row

  -- room without memory; there is none beside another owner
  abbrev pub reclaimed_shared : Setting T → Around → (additional : ℕ) → Row T M → Change T M
  reclaimed_shared setting around additional row =
      if is_beside around additional row then is_now reply.No row else
      reclaimed row (room_of setting row additional)
