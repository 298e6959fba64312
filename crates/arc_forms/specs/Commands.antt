-- The commands of lines, and what these are answered.
use Rattle.std.specs.Prelude.{ℕ, List}
use Rattle.std.specs.declared.vec.Vec.{Vec}
use Rattle.arc_commands.specs.Commands.{ListCmd, ListReply}
use Rattle.arc_commands.specs.declared.command.Cmd.{Cmd}

-- over lists of bytes, with numbers as metadata
abbrev pub ByteCmd : Type 0
ByteCmd = ListCmd ℕ ℕ

abbrev pub ByteReply : Type 0
ByteReply = ListReply ℕ ℕ

-- in memory, where items and buffers are vectors
abbrev pub LineCmd : (C A : Type 0) → Type 0
LineCmd C A = Cmd C (Vec ℕ A) (List ℕ) (Vec ℕ A) ℕ ℕ
