-- The kinds of windows, and which command each kind and layout has.
use Rattle.std.specs.Prelude.{Bool, true, false, is_some, ◌&&◌}
use Rattle.arc_commands.specs.Changes.{Calls, Setting}
use Rattle.arc_commands.specs.Commands.{ListCmd}
use Rattle.arc_commands.specs.Step.{has_call}
use Rattle.arc_commands.specs.declared.command.Cmd.TheVariants.{Slice, Static, Vec, Raw, Buf, MBuf}
use Rattle.arc_commands.specs.declared.command.Cmd.TheVariants.{Zero, MSlice, Small}

-- the four kinds
pub data Kind : Type 0 where
  -- items of plain data
  plain_kind : Kind
  -- bytes that are text for the most part
  byte_text_kind : Kind
  -- text
  text_kind : Kind
  -- items that are moved
  owned_kind : Kind

-- all calls, and short lists in the window itself or not
abbrev pub all_calls : (small : Bool) → Calls
all_calls small = record {
  copies = true;
  pushes = true;
  extends = true;
  any_list = true;
  small = small;
  shares = true;
}

-- Which calls a kind has, of those that not all kinds have. Of plain data the items' type says
-- whether short lists may stand in the window itself.
abbrev pub calls_of : Kind → (small : Bool) → Calls
calls_of plain_kind small = all_calls small
calls_of byte_text_kind small = all_calls true
calls_of text_kind small = record (all_calls true) { pushes = false; any_list = false }
calls_of owned_kind small =
    record (all_calls false) { copies = false; extends = false; shares = false }

-- whether a kind has a zero, where one of plain data has it
abbrev pub has_zero : Kind → (plain : Bool) → Bool
has_zero plain_kind plain = plain
has_zero byte_text_kind plain = true
has_zero text_kind plain = true
has_zero owned_kind plain = false

-- Whether the kind and the layout of a table have a command. One that they lack is answered `Kind`.
abbrev pub is_had : {T M : Type 0} → Setting T → ListCmd T M → Bool
is_had setting (Slice items) = setting.calls.copies
is_had setting (MSlice items) = setting.calls.copies
is_had setting (Small items) = setting.calls.small
is_had setting (Zero count) = is_some setting.zero
is_had setting (Vec items) = setting.layout.has_any
is_had setting (Static items) = setting.layout.has_static
is_had setting (Raw given) = setting.calls.any_list && setting.layout.has_any
is_had setting (Buf given metadata) = setting.calls.any_list && setting.layout.has_any
is_had setting (MBuf given metadata) = setting.calls.any_list && setting.writes_any
is_had setting command = has_call setting.calls command
