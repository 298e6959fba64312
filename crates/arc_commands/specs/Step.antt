-- One step of a table of lists: what each command is answered, and the table after it.
use Rattle.std.specs.Prelude.{◌≡◌, ℕ, ◌+◌, ◌==◌, Bool, true, false, if◌then◌else◌, List, [], ◌∷◌}
use Rattle.std.specs.Prelude.{◌++◌, length, Option, Some, None, slice_set}
use Rattle.std.specs.Prelude.{◌&&◌, ◌≤◌, is_some, nat_lt, not, replicate}
use Rattle.std.specs.Option.{option_map, option_map_or}
use Rattle.arc_owners.specs.declared.error.OwnerError.TheVariants.{AllocError}
use Rattle.arc_owners.specs.declared.error.TryReserveError.TheVariants as reserve
use Rattle.arc_buffer.specs.Slice.{range_answer, edge_answer}
use Rattle.arc_block.specs.Place.{given_at}
use Rattle.arc_block.specs.Table.{Row, Table, row_at, block_of, is_alone}
use Rattle.arc_block.specs.Table.{Role, reader, sole_writer, one_writer_of_several, inline}
use Rattle.arc_block.specs.Table.{forgotten}
use Rattle.arc_parts.specs.Shared.{is_on_block}
use Rattle.arc_parts.specs.Writers.{capacity_of, as_sole, after_advance}
use Rattle.arc_commands.specs.Blocks.{is_several}
use Rattle.arc_commands.specs.Changes.{Around, Calls, Change, Setting, Shortage, asking}
use Rattle.arc_commands.specs.Changes.{buffer_row, cut_row, filled, frozen, gone, in_range}
use Rattle.arc_commands.specs.Changes.{is_box_whole, is_buffer_whole, is_full, is_now}
use Rattle.arc_commands.specs.Changes.{is_raw_whole, is_unique_at, is_vector_part, made_row}
use Rattle.arc_commands.specs.Changes.{may_write, no_shortage, of_blocks, of_buffer, of_clones}
use Rattle.arc_commands.specs.Changes.{of_growth, of_table, off_part, part_beside, part_of, raw_row}
use Rattle.arc_commands.specs.Changes.{reclaimed, room_of, small_row, split_row, static_row}
use Rattle.arc_commands.specs.Changes.{taken_as, to_part, truncated, vector_row, writer_row}
use Rattle.arc_commands.specs.Changes.{written_buffer_row}
use Rattle.arc_commands.specs.Several.{filled_shared, join_answer, reclaimed_shared, shared_change}
use Rattle.arc_commands.specs.Several.{split_off_change, split_to_change, unique_change}
use Rattle.arc_commands.specs.RunOf.{RunOf}
use Rattle.arc_commands.specs.Commands.{ListCmd, ListReply}
use Rattle.arc_commands.specs.declared.command.Cmd.{Cmd}
use Rattle.arc_commands.specs.declared.command.Cmd.TheVariants.{Slice, Clone, Sub, Uniq, Show, Len}
use Rattle.arc_commands.specs.declared.command.Cmd.TheVariants.{Off, To, Adv, Trunc, Drop}
use Rattle.arc_commands.specs.declared.command.Cmd.TheVariants.{Static, TakeStatic, MSlice, Small}
use Rattle.arc_commands.specs.declared.command.Cmd.TheVariants.{New, Cap, Zero, Room, Mut, Res}
use Rattle.arc_commands.specs.declared.command.Cmd.TheVariants.{Push, Ext, Share, Unique, Join}
use Rattle.arc_commands.specs.declared.command.Cmd.TheVariants.{Rec, Freeze}
use Rattle.arc_commands.specs.declared.command.Cmd.TheVariants.{Vec, Raw, Buf, MBuf, Meta}
use Rattle.arc_commands.specs.declared.command.Cmd.TheVariants.{Take, TakeBox, TakeBuf, TakeRaw}
use Rattle.arc_commands.specs.declared.command.Reply.TheVariants as reply

-- what the reply to a command tells was refused, or what a buffer said
abbrev pub shortage : {T M : Type 0} → ListReply T M → ListCmd T M → Shortage
shortage reply.Alloc command = of_table
shortage (reply.Owner AllocError) command = of_clones
shortage (reply.Reserve reserve.AllocError) command = of_blocks
shortage (reply.Reserve reserve.Unsupported) command = of_growth reserve.Unsupported
shortage (reply.Reserve reserve.CapacityOverflow) command = of_growth reserve.CapacityOverflow
shortage reply.Refused (Freeze i) = of_blocks
shortage reply.No (Uniq i) = of_buffer
shortage other command = no_shortage

-- the roles that a command is for
abbrev pub is_for : {T M : Type 0} → ListCmd T M → Role → Bool
is_for command forgotten = false
is_for (Clone i) reader = true
is_for (Clone i) inline = true
is_for (Sub i start end) reader = true
is_for (Sub i start end) inline = true
is_for (Off i at) reader = true
is_for (Off i at) (one_writer_of_several capacity) = true
is_for (To i at) reader = true
is_for (To i at) (one_writer_of_several capacity) = true
is_for (Uniq i) reader = true
is_for (Meta i) reader = true
is_for (Meta i) (sole_writer capacity) = true
is_for (Meta i) (one_writer_of_several capacity) = true
is_for (Take i) reader = true
is_for (Take i) (sole_writer capacity) = true
is_for (Take i) (one_writer_of_several capacity) = true
is_for (TakeBox i) reader = true
is_for (TakeBuf i) reader = true
is_for (TakeBuf i) (sole_writer capacity) = true
is_for (TakeRaw i) reader = true
is_for (TakeStatic i) reader = true
is_for (Mut i) reader = true
is_for (Trunc i len) inline = false
is_for (Trunc i len) role = true
is_for (Adv i by) role = true
is_for (Show i) role = true
is_for (Len i) role = true
is_for (Room i) (sole_writer capacity) = true
is_for (Room i) (one_writer_of_several capacity) = true
is_for (Res i additional) (sole_writer capacity) = true
is_for (Res i additional) (one_writer_of_several capacity) = true
is_for (Push i item) (sole_writer capacity) = true
is_for (Push i item) (one_writer_of_several capacity) = true
is_for (Ext i items) (sole_writer capacity) = true
is_for (Ext i items) (one_writer_of_several capacity) = true
is_for (Rec i additional) (sole_writer capacity) = true
is_for (Rec i additional) (one_writer_of_several capacity) = true
is_for (Freeze i) (sole_writer capacity) = true
is_for (Freeze i) (one_writer_of_several capacity) = true
is_for (Share i) (sole_writer capacity) = true
is_for (Unique i) (one_writer_of_several capacity) = true
is_for (Join i j) (one_writer_of_several capacity) = true
is_for (Drop i) role = true
is_for command role = false

-- whether the kind has the call of a command on a window
abbrev pub has_call : {T M : Type 0} → Calls → ListCmd T M → Bool
has_call calls (Show i) = calls.copies
has_call calls (Push i item) = calls.pushes
has_call calls (Ext i items) = calls.extends
has_call calls (Share i) = calls.shares
has_call calls (Unique i) = calls.shares
has_call calls (Join i j) = calls.shares
has_call calls command = true

-- whether it is one that only windows of several writers have, or that makes one of them
abbrev pub is_for_several : {T M : Type 0} → ListCmd T M → Bool
is_for_several (Share i) = true
is_for_several (Unique i) = true
is_for_several (Join i j) = true
is_for_several command = false

-- whether a command is for this role, and the kind has its call
abbrev pub is_allowed : {T M : Type 0} → Calls → ListCmd T M → Role → Bool
is_allowed calls command role = is_for command role && has_call calls command

-- A writer's row has room for so many items more, and these behind its others.
abbrev pub written : {T M : Type 0} → Setting T → Shortage → Around → List T → (additional : ℕ)
    → Row T M → Change T M
written setting short around items additional row =
    if is_several row.role then filled_shared setting short around items additional row else
    filled setting short around row items (room_of setting row additional)

-- What comes of a command on a row for which it is, where memory was refused so: after the test of
-- the range, what it asks for, and then what it does. A join is on two rows (`answer_two`).
abbrev pub answer_row : {T M : Type 0} → Setting T → Shortage → Around → ListCmd T M
    → Row T M → Change T M
answer_row setting short around (Clone i) row = part_beside setting short around row row
answer_row setting short around (Sub i start end) row =
    in_range (range_answer setting.boundary row.items start end) row
    (part_beside setting short around (part_of setting.layout.has_static row start end) row)
answer_row setting short around (Off i at) row =
    if is_several row.role then split_off_change setting short around at row else
    in_range (edge_answer setting.boundary row.items at) row
    (split_row setting short around (at == 0) (cut_row row 0 at)
    (off_part setting.layout.has_static row at) row)
answer_row setting short around (To i at) row =
    if is_several row.role then split_to_change setting short around at row else
    in_range (edge_answer setting.boundary row.items at) row
    (split_row setting short around (at == length row.items) (cut_row row at (length row.items))
    (to_part setting.layout.has_static row at) row)
answer_row setting short around (Uniq i) row =
    is_now (if is_unique_at short around.alone row.place then reply.Yes else reply.No) row
answer_row setting short around (Show i) row = asking short row (is_now (reply.Items row.items) row)
answer_row setting short around (Len i) row = is_now (reply.Number (length row.items)) row
answer_row setting short around (Room i) row = is_now (reply.Number (capacity_of row.role)) row
answer_row setting short around (Mut i) row =
    if may_write setting around row then is_now reply.Ok (as_sole setting.drops row) else
    is_now reply.Refused row
answer_row setting short around (Res i additional) row =
    written setting short around [] additional row
answer_row setting short around (Push i item) row =
    written setting short around (item ∷ []) 1 row
answer_row setting short around (Ext i items) row =
    written setting short around items (length items) row
answer_row setting short around (Rec i additional) row =
    if is_several row.role then reclaimed_shared setting around additional row else
    reclaimed row (room_of setting row additional)
answer_row setting short around (Freeze i) row = frozen setting short around row
answer_row setting short around (Share i) row = shared_change setting row
answer_row setting short around (Unique i) row = unique_change around row
answer_row setting short around (Adv i by) row =
    in_range (edge_answer setting.boundary row.items by) row
    (is_now reply.Ok (after_advance by row))
answer_row setting short around (Trunc i len) row =
    if nat_lt len (length row.items) then
    in_range (edge_answer setting.boundary row.items len) row
    (is_now reply.Ok (truncated setting.drops row len)) else is_now reply.Ok row
answer_row setting short around (Drop i) row = gone reply.Ok
answer_row setting short around (Take i) row =
    taken_as (is_vector_part setting.drops row.place (length row.items)) around row
    (reply.Vec row.items)
answer_row setting short around (TakeBox i) row =
    taken_as (is_box_whole row.place (length row.items)) around row (reply.Boxed row.items)
answer_row setting short around (TakeBuf i) row =
    taken_as (is_buffer_whole row.place (length row.items)) around row (reply.Buffer row.items)
answer_row setting short around (TakeRaw i) row =
    taken_as (is_raw_whole row.place (length row.items)) around row (reply.Raw row.items)
answer_row setting short around (Meta i) row =
    is_now (option_map_or reply.Meta (given_at row.place) reply.None) row
answer_row setting short around (TakeStatic i) row =
    if is_on_block row.place then is_now reply.Refused row else gone (reply.Static row.items)
answer_row setting short around making row = is_now reply.Kind row

-- the same where it may not be for the row's role, or the kind may lack its call
abbrev pub answer_any : {T M : Type 0} → Setting T → Shortage → Around → ListCmd T M
    → Row T M → Change T M
answer_any setting short around c row =
    if is_allowed setting.calls c row.role then answer_row setting short around c row else
    is_now reply.Kind row

-- The row that a command makes of what it brings, which has so many places, on the block with this
-- number where it stands on one. None where the kind or the layout lacks what it asks for
abbrev pub row_by : {T M : Type 0} → Setting T → (places block : ℕ) → ListCmd T M
    → Option (Row T M)
row_by setting places block (Slice items) =
    if setting.calls.copies then Some (made_row setting.layout.has_static setting.drops block items)
    else None
row_by setting places block (Small items) =
    if setting.calls.small then
    Some (small_row setting.layout.has_static setting.drops block items)
    else None
row_by setting places block (Vec items) =
    if setting.layout.has_any then
    Some (vector_row setting.layout.has_static setting.drops block items places) else None
row_by setting places block (Static items) =
    if setting.layout.has_static then Some (static_row items) else None
row_by setting places block (Raw given) =
    if setting.calls.any_list && setting.layout.has_any
    then Some (raw_row setting.layout.by_itself block given) else None
row_by setting places block (Buf given metadata) =
    if setting.calls.any_list && setting.layout.has_any
    then Some (buffer_row block given places metadata) else None
row_by setting places block (MBuf given metadata) =
    if setting.calls.any_list && setting.writes_any
    then Some (written_buffer_row block given places metadata) else None
row_by setting places block New = Some (writer_row setting.drops block [] 0)
row_by setting places block (Cap wanted) = Some (writer_row setting.drops block [] wanted)
row_by setting places block (Zero count) =
    option_map (λ item. writer_row setting.drops block (replicate count item) count) setting.zero
row_by setting places block (MSlice items) =
    if setting.calls.copies then Some (writer_row setting.drops block items (length items))
    else None
row_by setting places block other = None

-- how many items a vector or a buffer has that a command brings; it has as many places, or more
abbrev pub count_brought : {T M : Type 0} → ListCmd T M → ℕ
count_brought (Vec items) = length items
count_brought (Raw given) = length given
count_brought (Buf given metadata) = length given
count_brought (MBuf given metadata) = length given
count_brought other = 0

-- the window on which a command is, None of those that make one of what they bring
abbrev pub window_of : {C X F B M T : Type 0} → Cmd C X F B M T → Option ℕ
window_of (Slice items) = None
window_of (Small items) = None
window_of (Vec items) = None
window_of (Static items) = None
window_of (Raw given) = None
window_of (Buf given metadata) = None
window_of (MBuf given metadata) = None
window_of New = None
window_of (Cap places) = None
window_of (Zero count) = None
window_of (MSlice items) = None
window_of (Clone i) = Some i
window_of (Sub i start end) = Some i
window_of (Off i at) = Some i
window_of (To i at) = Some i
window_of (Uniq i) = Some i
window_of (Meta i) = Some i
window_of (Show i) = Some i
window_of (Len i) = Some i
window_of (Room i) = Some i
window_of (Mut i) = Some i
window_of (Res i additional) = Some i
window_of (Push i item) = Some i
window_of (Ext i items) = Some i
window_of (Rec i additional) = Some i
window_of (Freeze i) = Some i
window_of (Share i) = Some i
window_of (Unique i) = Some i
window_of (Join i j) = Some i
window_of (Adv i by) = Some i
window_of (Trunc i len) = Some i
window_of (Drop i) = Some i
window_of (Take i) = Some i
window_of (TakeBox i) = Some i
window_of (TakeBuf i) = Some i
window_of (TakeRaw i) = Some i
window_of (TakeStatic i) = Some i

-- the other window, of a command on two
abbrev pub other_of : {C X F B M T : Type 0} → Cmd C X F B M T → Option ℕ
other_of (Join i j) = Some j
other_of command = None

-- whether a command may make a window beside the one on which it is
abbrev pub makes_beside : {C X F B M T : Type 0} → Cmd C X F B M T → Bool
makes_beside (Clone i) = true
makes_beside (Sub i start end) = true
makes_beside (Off i at) = true
makes_beside (To i at) = true
makes_beside command = false

-- whether the window on which a command is may be gone afterwards
abbrev pub may_end : {C X F B M T : Type 0} → Cmd C X F B M T → Bool
may_end (Drop i) = true
may_end (Take i) = true
may_end (TakeBox i) = true
may_end (TakeBuf i) = true
may_end (TakeRaw i) = true
may_end (TakeStatic i) = true
may_end command = false

-- what a row knows of its table, and of a caller's buffer that has so many places
abbrev pub around_of : {T M : Type 0} → (places : ℕ) → Table T M → Row T M → Around
around_of places t row = record {
  alone = is_alone t row.place;
  full = is_full t row.place;
  blocks = t.blocks;
  windows = length t.rows;
  places = places;
}

-- a row more, if there is one
abbrev pub with_row : {T M : Type 0} → List (Option (Row T M)) → Option (Row T M)
    → List (Option (Row T M))
with_row rows None = rows
with_row rows (Some row) = rows ++ Some row ∷ []

-- a new block, if one begins
abbrev pub with_block : Bool → ℕ → ℕ
with_block begins blocks = if begins then blocks + 1 else blocks

-- the reply, and the table in which this has come of the row with this number
abbrev pub changed : {T M : Type 0} → Table T M → ℕ → Change T M
    → ListReply T M × Table T M
changed t i change = (
  change.reply,
  record {
    rows = with_row (slice_set t.rows i change.row) change.made;
    blocks = with_block change.begins t.blocks;
  },
)

-- the same of a row that was made of what a command brings. It takes memory
abbrev pub founded : {T M : Type 0} → Shortage → Table T M → Row T M
    → ListReply T M × Table T M
founded of_table t row = (reply.Alloc, t)
founded short t row = (
  reply.New (length t.rows),
  record {
    rows = t.rows ++ Some row ∷ [];
    blocks = with_block (is_some (block_of row.place)) t.blocks;
  },
)

-- what a command is answered that is on the window with this number, or on none
abbrev pub answer_by : {T M : Type 0} → Setting T → Shortage → (places : ℕ) → Table T M
    → ListCmd T M → Option ℕ → ListReply T M × Table T M
answer_by setting short places t c None =
    option_map_or (founded short t) (row_by setting places t.blocks c) (reply.Kind, t)
answer_by setting short places t c (Some i) =
    option_map_or (λ row. changed t i (answer_any setting short (around_of places t row) c row))
    (row_at t i) (reply.NoWindow, t)

-- two rows were joined, and the other has gone; or they stay
abbrev pub joined : {T M : Type 0} → Table T M → (i j : ℕ) → ListReply T M × Option (Row T M)
    → ListReply T M × Table T M
joined t i j (answer, None) = (answer, t)
joined t i j (answer, Some whole) = (
  answer,
  record { rows = slice_set (slice_set t.rows j None) i (Some whole); blocks = t.blocks },
)

-- whether a command on two windows is for these, which are two
abbrev pub is_for_both : {T M : Type 0} → Calls → ListCmd T M → (i j : ℕ) → (row other : Row T M)
    → Bool
is_for_both calls c i j row other =
    is_allowed calls c row.role && is_allowed calls c other.role && not (i == j)

-- what a join of the windows with these numbers is answered
abbrev pub answer_two : {T M : Type 0} → Setting T → Table T M → ListCmd T M → (i j : ℕ)
    → ListReply T M × Table T M
answer_two setting t c i j =
    option_map_or (λ row. option_map_or (λ other.
    if is_for_both setting.calls c i j row other then joined t i j (join_answer row other) else
    (reply.Kind, t)) (row_at t j) (reply.NoWindow, t)) (row_at t i) (reply.NoWindow, t)

-- what a command is answered that is on the first window, or on none, or on both
abbrev pub answer_on : {T M : Type 0} → Setting T → Shortage → (places : ℕ) → Table T M
    → ListCmd T M → (window other : Option ℕ) → ListReply T M × Table T M
answer_on setting short places t c window None = answer_by setting short places t c window
answer_on setting short places t c window (Some j) =
    option_map_or (λ i. answer_two setting t c i j) window (reply.NoWindow, t)

-- What a command is answered, and the table after it, where memory was refused so, and what the
-- command brings, or the buffer that makes room for it, has so many places: after the tests of
-- number, role and range, in this order, what it asks for, and then what it does (`answer_row`,
-- `answer_two` of a join, and `row_by` of what makes a window of what it brings).
abbrev pub answer : {T M : Type 0} → Setting T → Shortage → (places : ℕ) → Table T M → ListCmd T M
    → ListReply T M × Table T M
answer setting short places t c =
    answer_on setting short places t c (window_of c) (other_of c)

-- From old, the table may give this reply to the command and go on to new: these are the answer,
-- where something was refused so, which the reply tells, and a vector or a buffer that the command
-- brings, or a buffer that makes room for what it writes, has so many places. What is refused
-- changes nothing.
pub record Step {T M : Type 0} (setting : Setting T) (old : Table T M) (c : ListCmd T M)
    (reply : ListReply T M) (new : Table T M) : Type 0 where
  pub short : Shortage
  pub told : short ≡ shortage reply c
  pub places : ℕ
  pub enough : count_brought c ≤ places
  pub answered : answer setting short places old c ≡ (reply, new)

-- the table may give these replies to these commands, one after another
abbrev pub Run : {T M : Type 0} → Setting T → Table T M → List (ListCmd T M)
    → List (ListReply T M) → Table T M → Type 0
Run setting = RunOf (Step setting)
