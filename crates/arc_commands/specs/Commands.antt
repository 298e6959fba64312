-- Commands and replies over lists: items, vectors, boxes, static slices and buffers are seen as
-- lists.
use Rattle.std.specs.Prelude.{List}
use Rattle.arc_commands.specs.declared.command.Cmd.{Cmd}
use Rattle.arc_commands.specs.declared.command.Reply.{Reply}

abbrev pub ListCmd : (T M : Type 0) → Type 0
ListCmd T M = Cmd (Unit {0}) (List T) (List T) (List T) M T

abbrev pub ListReply : (T M : Type 0) → Type 0
ListReply T M =
    Reply (Unit {0}) (List T) (List T) (List T) (List T) (List T) (List T) M
