-- What a table is run under, and what becomes of a row that is read, or that a sole writer has: how
-- it is made, cut and split, how it makes room, becomes another one and is taken out.
use Rattle.std.specs.Prelude.{ℕ, ◌+◌, ◌==◌, Bool, true, false, if◌then◌else◌, List, []}
use Rattle.std.specs.Prelude.{length, Option, Some, None, Result, Ok, Err, take}
use Rattle.std.specs.Prelude.{◌&&◌, ◌||◌, is_some, max, nat_lt}
use Rattle.std.specs.Option.{option_map_or}
use Rattle.arc_owners.specs.declared.error.RangeError.{RangeError}
use Rattle.arc_owners.specs.declared.error.OwnerError.TheVariants.{AllocError, CountFull}
use Rattle.arc_owners.specs.declared.error.TryReserveError.{TryReserveError}
use Rattle.arc_owners.specs.declared.error.TryReserveError.TheVariants as reserve
use Rattle.arc_buffer.specs.Slice.{sub}
use Rattle.arc_block.specs.declared.block.TheConstants.{MAX_OWNERS}
use Rattle.arc_block.specs.Block.{Sort, native, vector, buffer, raw, native_facts, partly_full}
use Rattle.arc_block.specs.Block.{BlockInfo, memory_info, buffer_info, raw_info}
use Rattle.arc_block.specs.Inline.{inline_limit}
use Rattle.arc_block.specs.Layouts.{LayoutFacts}
use Rattle.arc_block.specs.Moves.{layout_move}
use Rattle.arc_block.specs.declared.layout.Move.{Move}
use Rattle.arc_block.specs.declared.layout.Move.TheVariants.{Stays, HandedBack, NewEmpty}
use Rattle.arc_block.specs.declared.layout.Move.TheVariants.{NewCount, LeavesCount}
use Rattle.arc_block.specs.Place.{Place, nowhere, static_data, on_block, made_place, part_place}
use Rattle.arc_block.specs.Place.{moved}
use Rattle.arc_block.specs.Table.{Row, RowOf, Table, block_of, owners}
use Rattle.arc_block.specs.Table.{reader, sole_writer, inline}
use Rattle.arc_parts.specs.Shared.{is_vector}
use Rattle.arc_parts.specs.Writers.{with_capacity, as_reader, new_writer, room_for}
use Rattle.arc_block.specs.Place.{offset_at}
use Rattle.arc_parts.specs.Writers.{with_more, with_room}
use Rattle.arc_parts.specs.declared.room.Room.{Room as RoomFrom}
use Rattle.arc_parts.specs.declared.room.Room.TheVariants as from
use Rattle.arc_commands.specs.Blocks.{is_sole}
use Rattle.arc_commands.specs.Commands.{ListReply}
use Rattle.arc_commands.specs.declared.command.Reply.TheVariants as reply

-- which calls a kind has, of those that not all kinds have: whether a list is copied, whether an
-- item more is pushed, whether a copy of items is put behind others, whether each list is legal, so
-- that a window is made of a caller's buffer, whether a window may have a few items in itself, and
-- whether several may write one block
pub record Calls : Type 0 where
  pub copies : Bool
  pub pushes : Bool
  pub extends : Bool
  pub any_list : Bool
  pub small : Bool
  pub shares : Bool

-- what a table is run under: of its layout, on what windows may stand, whether under the layout of
-- its writers a block may be of a caller's making, and on which sorts of blocks its clones may want
-- memory; of its kind, whether blocks count their full places, where a list may be cut, how
-- many bytes an item has, its zero, if it has one, and which calls it has
pub record Setting (T : Type 0) : Type 0 where
  pub layout : LayoutFacts
  pub writes_any : Bool
  pub clone_wants : Sort → Bool
  pub drops : Bool
  pub boundary : List T → ℕ → Bool
  pub item_size : ℕ
  pub zero : Option T
  pub calls : Calls

abbrev pub setting_of : {T : Type 0} → LayoutFacts → (writes_any : Bool) → (Sort → Bool) → Bool
    → (List T → ℕ → Bool) → ℕ → Option T → Calls → Setting T
setting_of layout writes_any clone_wants drops boundary item_size zero calls = record {
  layout = layout;
  writes_any = writes_any;
  clone_wants = clone_wants;
  drops = drops;
  boundary = boundary;
  item_size = item_size;
  zero = zero;
  calls = calls;
}

-- What a step leaves free: where memory was refused. Nowhere, or for what the table asks for itself
-- (room, a block, a copy of items), or for one owner more, where the layout's clones want some, or
-- for the block of a window that is there: its first one, or a larger one. Or that a caller's
-- buffer said that somebody else has a part of it, or why it makes no room.
pub data Shortage : Type 0 where
  no_shortage : Shortage
  of_table : Shortage
  of_clones : Shortage
  of_blocks : Shortage
  of_buffer : Shortage
  of_growth : TryReserveError → Shortage

-- what a row knows of what is around it: whether no other row stands on its block, whether that has
-- as many owners as it may have, how many blocks and windows were made, and how many places its
-- block has then, if it is a caller's buffer that makes its own room
pub record Around : Type 0 where
  pub alone : Bool
  pub full : Bool
  pub blocks : ℕ
  pub windows : ℕ
  pub places : ℕ

-- What comes of a command on a row: the reply, the row then, or None where it has gone, the row
-- that was made, and whether a new block begins, on which one of the two stands.
pub record Change (T M : Type 0) : Type 0 where
  pub reply : ListReply T M
  pub row : Option (Row T M)
  pub made : Option (Row T M)
  pub begins : Bool

-- this is the reply, and the row is this one
abbrev pub is_now : {T M : Type 0} → ListReply T M → Row T M → Change T M
is_now reply row = record { reply = reply; row = Some row; made = None; begins = false }

-- the row is this one, on a new block if it stands on one
abbrev pub begun : {T M : Type 0} → Row T M → Change T M
begun row = record {
  reply = reply.Ok;
  row = Some row;
  made = None;
  begins = is_some (block_of row.place);
}

-- the row is this one, and that one was made
abbrev pub with_made : {T M : Type 0} → Around → Row T M → Row T M → Change T M
with_made around row made = record {
  reply = reply.New around.windows;
  row = Some row;
  made = Some made;
  begins = false;
}

-- the row has gone
abbrev pub gone : {T M : Type 0} → ListReply T M → Change T M
gone reply = record { reply = reply; row = None; made = None; begins = false }

-- memory is asked for: where it is refused, the row stays as it is
abbrev pub asking : {T M : Type 0} → Shortage → Row T M → Change T M → Change T M
asking no_shortage row change = change
asking of_table row change = is_now reply.Alloc row
asking of_clones row change = change
asking of_blocks row change = change
asking of_buffer row change = change
asking (of_growth e) row change = change

-- memory is asked for, for the block of the window: where it is refused, this is the reply, and the
-- row stays as it is
abbrev pub asking_block : {T M : Type 0} → Shortage → ListReply T M → Row T M
    → Change T M → Change T M
asking_block of_blocks answer row change = is_now answer row
asking_block short answer row change = change

-- what is made of a list: a reader of it, on the block with this number, or on nothing
abbrev pub made_row : {T M : Type 0} → (has_static drops : Bool) → (block : ℕ) → List T → Row T M
made_row has_static drops block items = record {
  items = items;
  place = made_place has_static (Some block) (native_facts drops (length items)) items;
  role = reader;
}

-- the same items at the same place, as a small window
abbrev pub as_small : {T M : Type 0} → Row T M → Row T M
as_small row = record row { role = inline }

-- What is made of a list as a small window. Up to a limit it has the items in itself, and stands on
-- nothing; past that it stands where a reader does that is made of them.
abbrev pub small_row : {T M : Type 0} → (has_static drops : Bool) → (block : ℕ) → List T → Row T M
small_row has_static drops block items =
    if nat_lt inline_limit (length items) then as_small (made_row has_static drops block items) else
    record { items = items; place = nowhere; role = inline }

-- What is made of a vector of these items and so many places: a reader of it, on a block that is
-- the vector. Of no places it is what is made of a list.
abbrev pub vector_row : {T M : Type 0} → (has_static drops : Bool) → (block : ℕ) → List T → ℕ
    → Row T M
vector_row has_static drops block items places =
    if places == 0 then made_row has_static drops block items else record {
      items = items;
      place = on_block (Some block) 0 (memory_info vector drops places (length items));
      role = reader;
    }

-- A writer of these items, which are all that a new block of so many places holds. Of no places
-- there is no block.
abbrev pub writer_row : {T M : Type 0} → (drops : Bool) → (block : ℕ) → List T → ℕ → Row T M
writer_row drops block items places =
    let facts = partly_full drops places (length items) in
    let place = if places == 0 then nowhere else on_block (Some block) 0 facts in
    record { items = items; place = place; role = sole_writer places }

-- A reader of all items of a caller's buffer with so many places, on a block that keeps it, with
-- this metadata.
abbrev pub buffer_row : {T M : Type 0} → (block : ℕ) → List T → (places : ℕ) → M → Row T M
buffer_row block items places metadata = record {
  items = items;
  place = on_block (Some block) 0 (buffer_info false places (length items) (Some metadata));
  role = reader;
}

-- the same as their writer, in a buffer that may be written
abbrev pub written_buffer_row : {T M : Type 0} → (block : ℕ) → List T → (places : ℕ) → M → Row T M
written_buffer_row block items places metadata = record {
  items = items;
  place = on_block (Some block) 0 (buffer_info true places (length items) (Some metadata));
  role = sole_writer places;
}

-- A reader of all items of a caller's buffer behind an `Arc`: on that, where it is a block by
-- itself, and else on a block that keeps it.
abbrev pub raw_row : {T M : Type 0} → (by_itself : Bool) → (block : ℕ) → List T → Row T M
raw_row by_itself block items = record {
  items = items;
  place = on_block (if by_itself then None else Some block) 0 (raw_info (length items) None);
  role = reader;
}

-- a window over a static slice, which no block holds
abbrev pub static_row : {T M : Type 0} → List T → Row T M
static_row items = record { items = items; place = static_data; role = reader }

-- whether the layout wants memory for one owner more at this place, and it was refused
abbrev pub is_wanting : {M : Type 0} → Shortage → (Sort → Bool) → Place (Option ℕ) M → Bool
is_wanting of_clones wants (on_block block offset info) = wants info.sort
is_wanting short wants place = false

-- whether the block on which a place lies has as many owners as it may have
abbrev pub is_full : {T M : Type 0} → Table T M → Place (Option ℕ) M → Bool
is_full t place = option_map_or (λ block. owners t block == MAX_OWNERS) (block_of place) false

-- one owner more at the place of this part, and then this comes of it
abbrev pub with_owner : {T M : Type 0} → Setting T → Shortage → Around → (row part : Row T M)
    → Change T M → Change T M
with_owner setting short around row part change =
    if is_wanting short setting.clone_wants part.place then is_now (reply.Owner AllocError) row else
    if around.full && is_some (block_of part.place) then is_now (reply.Owner CountFull) row else
    change

-- the part from start to end of a row, as a row that is read
abbrev pub part_of : {T M : Type 0} → (has_static : Bool) → Row T M → ℕ → ℕ → Row T M
part_of has_static row start end =
    let items = sub row.items start end in
    record {
      items = items;
      place = part_place has_static items start row.place;
      role = row.role;
    }

-- whether the only owner of a block of this sort may write it under a layout, which holds it
abbrev pub may_write_sort : (has_any : Bool) → Sort → Bool
may_write_sort has_any native = true
may_write_sort has_any vector = has_any
may_write_sort has_any (buffer writable) = writable && has_any
may_write_sort has_any raw = false

-- whether a place lies on such a block
abbrev pub is_writable_at : {N M : Type 0} → (has_any : Bool) → Place N M → Bool
is_writable_at has_any nowhere = false
is_writable_at has_any static_data = false
is_writable_at has_any (on_block block offset info) = may_write_sort has_any info.sort

-- whether so many items that stand here may become a writer's, where their owner is alone, or
-- isn't: on no block there have to be none
abbrev pub may_write_at : {N M : Type 0} → (has_any alone : Bool) → Place N M → (len : ℕ) → Bool
may_write_at has_any alone nowhere len = len == 0
may_write_at has_any alone static_data len = len == 0
may_write_at has_any alone (on_block block offset info) len =
    may_write_sort has_any info.sort && alone

-- whether a row may become a writer's
abbrev pub may_write : {T M : Type 0} → Setting T → Around → Row T M → Bool
may_write setting around row =
    may_write_at setting.writes_any around.alone row.place (length row.items)

-- Whether no other owner has a part of a block of this sort. Of an `Arc` the answer is no, and a
-- caller's buffer may say so.
abbrev pub is_unique : Shortage → (alone : Bool) → Sort → Bool
is_unique short alone native = alone
is_unique short alone vector = alone
is_unique of_buffer alone (buffer writable) = false
is_unique short alone (buffer writable) = alone
is_unique short alone raw = false

-- whether no other owner has a part of what stands at a place. On no block the answer is no
abbrev pub is_unique_at : {N M : Type 0} → Shortage → (alone : Bool) → Place N M → Bool
is_unique_at short alone nowhere = false
is_unique_at short alone static_data = false
is_unique_at short alone (on_block block offset info) = is_unique short alone info.sort

-- whether so many items from there on are all of the block's full places
abbrev pub is_all_full : {M : Type 0} → (offset len : ℕ) → BlockInfo M → Bool
is_all_full offset len info = (offset == 0) && option_map_or (λ full. full == len) info.full false

-- Whether so many items that stand here can be had as their block's vector: as any part of one, but
-- items that are dropped one by one as all of it.
abbrev pub is_vector_part : {N M : Type 0} → (drops : Bool) → Place N M → (len : ℕ) → Bool
is_vector_part drops nowhere len = false
is_vector_part drops static_data len = false
is_vector_part drops (on_block block offset info) len =
    is_vector info.sort && (if drops then is_all_full offset len info else true)

-- whether they can be had as its box, of which they are all places
abbrev pub is_box_whole : {N M : Type 0} → Place N M → (len : ℕ) → Bool
is_box_whole nowhere len = false
is_box_whole static_data len = false
is_box_whole (on_block block offset info) len =
    is_vector info.sort && ((offset == 0) && (info.size == len))

-- whether a block is a caller's buffer, or an `Arc` of one
abbrev pub is_buffer : Sort → Bool
is_buffer native = false
is_buffer vector = false
is_buffer (buffer writable) = true
is_buffer raw = false

abbrev pub is_raw : Sort → Bool
is_raw native = false
is_raw vector = false
is_raw (buffer writable) = false
is_raw raw = true

-- whether so many items that stand here can be had as their block's buffer, or as its `Arc`: as all
-- of it
abbrev pub is_buffer_whole : {N M : Type 0} → Place N M → (len : ℕ) → Bool
is_buffer_whole nowhere len = false
is_buffer_whole static_data len = false
is_buffer_whole (on_block block offset info) len =
    is_buffer info.sort && is_all_full offset len info

abbrev pub is_raw_whole : {N M : Type 0} → Place N M → (len : ℕ) → Bool
is_raw_whole nowhere len = false
is_raw_whole static_data len = false
is_raw_whole (on_block block offset info) len = is_raw info.sort && is_all_full offset len info

-- whether no other owner has a part of what is taken out at this place, where its owner is alone,
-- or isn't: nobody where no owners are counted
abbrev pub is_free : {M : Type 0} → (alone : Bool) → Place (Option ℕ) M → Bool
is_free alone nowhere = false
is_free alone static_data = false
is_free alone (on_block None offset info) = true
is_free alone (on_block (Some block) offset info) = alone

-- What a row stands on is taken out, where it is as the command wants it and no other owner has a
-- part of it, and answered so. A sole writer is alone.
abbrev pub taken_as : {T M : Type 0} → (wanted : Bool) → Around → Row T M → ListReply T M
    → Change T M
taken_as wanted around row answer =
    if wanted && (is_sole row.role || is_free around.alone row.place) then gone answer else
    is_now reply.Refused row

-- The row's first items. What is dropped one by one stays in the block behind them, so a writer of
-- these has no places beside their own.
abbrev pub truncated : {T M : Type 0} → Bool → Row T M → ℕ → Row T M
truncated drops row len = record {
  items = take len row.items;
  place = row.place;
  role = if drops then with_capacity row.role len else row.role;
}

-- the part from start to end of a row, as the same owner: it stays where it stands
abbrev pub cut_row : {T M : Type 0} → Row T M → ℕ → ℕ → Row T M
cut_row row start end = record {
  items = sub row.items start end;
  place = moved start row.place;
  role = row.role;
}

-- the part that is made by a split: the back, or at the front end a front with no items
abbrev pub off_part : {T M : Type 0} → (has_static : Bool) → Row T M → ℕ → Row T M
off_part has_static row at =
    if at == 0 then part_of has_static row 0 0 else part_of has_static row at (length row.items)

-- the front, or at the back end a back with no items
abbrev pub to_part : {T M : Type 0} → (has_static : Bool) → Row T M → ℕ → Row T M
to_part has_static row at =
    if at == length row.items then part_of has_static row at at else part_of has_static row 0 at

-- a part of a row is made, as one owner more, and then this comes of it
abbrev pub with_new_part : {T M : Type 0} → Setting T → Shortage → Around → (row part : Row T M)
    → Change T M → Change T M
with_new_part setting short around row part change =
    asking short row (with_owner setting short around row part change)

-- a part is made beside the row, which stays
abbrev pub part_beside : {T M : Type 0} → Setting T → Shortage → Around → (part row : Row T M)
    → Change T M
part_beside setting short around part row =
    with_new_part setting short around row part (with_made around row part)

-- A part is made, and the row is cut. Where the split is at the end that leaves nothing, the row
-- itself is handed out, and the part stays under its number.
abbrev pub split_row : {T M : Type 0} → Setting T → Shortage → Around → (at_end : Bool)
    → (cut part row : Row T M) → Change T M
split_row setting short around at_end cut part row =
    with_new_part setting short around row part
    (if at_end then with_made around part row else with_made around cut part)

-- where a writer has room for so many items more; a first block has places for so many
abbrev pub room_of : {N T M : Type 0} → Setting T → RowOf N T M → ℕ → RoomFrom
room_of setting row additional =
    room_for setting.drops setting.item_size row additional

-- A caller's buffer makes its own room, as much as is asked of it or more: so many places then, or
-- those that are wanted, where they are more. Or it refuses, for this reason.
abbrev pub room_made : {T M : Type 0} → Shortage → Around → Row T M → List T → (additional : ℕ)
    → Change T M
room_made of_blocks around row items additional = is_now (reply.Reserve reserve.AllocError) row
room_made (of_growth e) around row items additional = is_now (reply.Reserve e) row
room_made short around row items additional =
    let wanted = offset_at row.place + length row.items + additional in
    is_now reply.Ok (with_more items (with_room (from.Growth (max wanted around.places)) row))

-- The row has this room, and these items behind its others. Memory is asked for a first block, and
-- for a larger one. A caller's buffer makes its own room.
abbrev pub filled : {T M : Type 0} → Setting T → Shortage → Around → Row T M → List T → RoomFrom
    → Change T M
filled setting short around row items (from.Refused e) = is_now (reply.Reserve e) row
filled setting short around row items (from.Fresh places) =
    asking_block short (reply.Reserve reserve.AllocError) row
    (begun (with_more items (new_writer setting.drops (Some around.blocks) [] places)))
filled setting short around row items (from.Growth places) =
    asking_block short (reply.Reserve reserve.AllocError) row
    (is_now reply.Ok (with_more items (with_room (from.Growth places) row)))
filled setting short around row items (from.Own additional) =
    room_made short around row items additional
filled setting short around row items room =
    is_now reply.Ok (with_more items (with_room room row))

-- the row has this room, if that takes no memory
abbrev pub reclaimed : {T M : Type 0} → Row T M → RoomFrom → Change T M
reclaimed row (from.Refused e) = is_now reply.No row
reclaimed row (from.Fresh places) = is_now reply.No row
reclaimed row (from.Growth places) = is_now reply.No row
reclaimed row (from.Own additional) = is_now reply.No row
reclaimed row room = is_now reply.Yes (with_room room row)

-- The writer becomes a reader, where the layout says: where it stands, or on a new block of no
-- places. Or it is handed back. No writer stands on an `Arc`, which could have to be counted, or to
-- leave its count.
abbrev pub after_move : {T M : Type 0} → Setting T → Shortage → Around → Row T M → Move → Change T M
after_move setting short around row Stays = is_now reply.Ok (as_reader row)
after_move setting short around row HandedBack = is_now reply.Refused row
after_move setting short around row NewCount = is_now reply.Refused row
after_move setting short around row LeavesCount = is_now reply.Refused row
after_move setting short around row NewEmpty =
    asking_block short reply.Refused row
    (begun (made_row false setting.drops around.blocks row.items))

abbrev pub frozen : {T M : Type 0} → Setting T → Shortage → Around → Row T M → Change T M
frozen setting short around row =
    after_move setting short around row
    (layout_move setting.layout row.place)

-- only in range
abbrev pub in_range : {T M : Type 0} → Result (Unit {0}) RangeError → Row T M → Change T M
    → Change T M
in_range (Ok done) row change = change
in_range (Err e) row change = is_now (reply.Range e) row
