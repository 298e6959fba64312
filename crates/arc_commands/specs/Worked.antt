-- Worked scripts of several writers: commands over bytes, and what each is answered where no memory
-- is refused.
use Rattle.std.specs.Prelude.{ℕ, true, false, List, [], ◌∷◌, Some}
use Rattle.arc_owners.specs.declared.error.TryReserveError.TheVariants.{NotUnique}
use Rattle.arc_block.specs.Layouts.{clones_want, never}
use Rattle.arc_block.specs.Table.{Table, empty_table}
use Rattle.arc_commands.specs.Changes.{Setting}
use Rattle.arc_commands.specs.Commands.{ListCmd, ListReply}
use Rattle.arc_commands.specs.Step.{Run}
use Rattle.arc_commands.specs.declared.command.Cmd.TheVariants.{Cap, Drop, Ext, Join, Len, MSlice}
use Rattle.arc_commands.specs.declared.command.Cmd.TheVariants.{Mut, New, Off, Push, Rec, Room}
use Rattle.arc_commands.specs.declared.command.Cmd.TheVariants.{Share, Show, Take, Unique, Vec}
use Rattle.arc_commands.specs.declared.command.Reply.TheVariants as reply

-- a table of bytes under a layout that holds blocks of all sorts, whose kind has every call
abbrev pub bytes_setting : Setting ℕ
bytes_setting = record {
  layout = record { has_static = true; has_any = true; by_itself = false; lone = never };
  writes_any = true;
  clone_wants = clones_want false false;
  drops = false;
  boundary = λ items at. true;
  item_size = 1;
  zero = Some 0;
  calls = record {
    copies = true;
    pushes = true;
    extends = true;
    any_list = true;
    small = true;
    shares = true;
  };
}

-- commands, and a reply to each
abbrev pub Script : Type 0
Script = List (ListCmd ℕ ℕ) × List (ListReply ℕ ℕ)

-- from the empty table on, the commands may be answered so
abbrev pub MayAnswer : Script → Type 0
MayAnswer script =
    (new : Table ℕ ℕ) × Run bytes_setting empty_table script.0 script.1 new

-- the places of one writer are split, and joined once the front has an item at each of its own
abbrev pub joined_when_full : Script
joined_when_full = (
  Cap 8 ∷ Ext 0 (1 ∷ 2 ∷ 3 ∷ []) ∷ Share 0 ∷ Off 0 5 ∷ Join 0 1 ∷ Push 0 4 ∷ Push 0 5 ∷ Join 0 1
      ∷ Room 0 ∷ [],
  reply.New 0 ∷ reply.Ok ∷ reply.Ok ∷ reply.New 1 ∷ reply.Refused ∷ reply.Ok ∷ reply.Ok
      ∷ reply.Ok ∷ reply.Number 8 ∷ [],
)

-- past his places one of several has to be alone
abbrev pub alone_for_more : Script
alone_for_more = (
  MSlice (1 ∷ 2 ∷ 3 ∷ 4 ∷ []) ∷ Share 0 ∷ Off 0 2 ∷ Push 0 5 ∷ Drop 1 ∷ Push 0 5 ∷ Show 0
      ∷ Room 0 ∷ [],
  reply.New 0 ∷ reply.Ok ∷ reply.New 1 ∷ reply.Reserve NotUnique ∷ reply.Ok ∷ reply.Ok
      ∷ reply.Items (1 ∷ 2 ∷ 5 ∷ []) ∷ reply.Number 4 ∷ [],
)

-- a window is no other one than itself
abbrev pub not_with_itself : Script
not_with_itself = (
  New ∷ Share 0 ∷ Join 0 0 ∷ [],
  reply.New 0 ∷ reply.Ok ∷ reply.Kind ∷ [],
)

-- joined, the parts are the whole
abbrev pub whole_again : Script
whole_again = (
  MSlice (1 ∷ 2 ∷ 3 ∷ 4 ∷ []) ∷ Share 0 ∷ Off 0 2 ∷ Join 0 1 ∷ Show 0 ∷ Room 0 ∷ Show 1 ∷ [],
  reply.New 0 ∷ reply.Ok ∷ reply.New 1 ∷ reply.Ok ∷ reply.Items (1 ∷ 2 ∷ 3 ∷ 4 ∷ [])
      ∷ reply.Number 4 ∷ reply.NoWindow ∷ [],
)

-- split past the items, and the only writer again, who has the places that are left by room
abbrev pub only_one_again : Script
only_one_again = (
  Cap 8 ∷ Ext 0 (1 ∷ 2 ∷ 3 ∷ []) ∷ Share 0 ∷ Off 0 5 ∷ Len 0 ∷ Room 0 ∷ Len 1 ∷ Room 1
      ∷ Join 0 1 ∷ Len 1 ∷ Unique 0 ∷ Drop 1 ∷ Unique 0 ∷ Rec 0 4 ∷ Len 0 ∷ Room 0 ∷ [],
  reply.New 0 ∷ reply.Ok ∷ reply.Ok ∷ reply.New 1 ∷ reply.Number 3 ∷ reply.Number 5
      ∷ reply.Number 0 ∷ reply.Number 3 ∷ reply.Refused ∷ reply.Number 0 ∷ reply.Refused
      ∷ reply.Ok ∷ reply.Ok ∷ reply.Yes ∷ reply.Number 3 ∷ reply.Number 8 ∷ [],
)

-- two that stand on nothing are joined
abbrev pub joined_on_nothing : Script
joined_on_nothing = (
  New ∷ New ∷ Share 0 ∷ Share 1 ∷ Unique 0 ∷ Join 0 1 ∷ Len 0 ∷ [],
  reply.New 0 ∷ reply.New 1 ∷ reply.Ok ∷ reply.Ok ∷ reply.Refused ∷ reply.Ok ∷ reply.Number 0
      ∷ [],
)

-- of a vector a split moves to a native block, of which no vector is taken
abbrev pub leaves_its_vector : Script
leaves_its_vector = (
  Vec (1 ∷ 2 ∷ []) ∷ Mut 0 ∷ Share 0 ∷ Off 0 1 ∷ Show 1 ∷ Join 0 1 ∷ Show 0 ∷ Take 0 ∷ [],
  reply.New 0 ∷ reply.Ok ∷ reply.Ok ∷ reply.New 1 ∷ reply.Items (2 ∷ []) ∷ reply.Ok
      ∷ reply.Items (1 ∷ 2 ∷ []) ∷ reply.Refused ∷ [],
)
