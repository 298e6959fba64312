-- What a line was read as, and what it is answered, where items lie in vectors and in boxes.
use Rattle.std.specs.Prelude.{ℕ, List, Option, MatchOption}
use Rattle.std.specs.Arc.{arc_value}
use Rattle.std.specs.Box.{boxed_slice_items}
use Rattle.std.specs.Vec.{vec_items}
use Rattle.std.specs.declared.boxed.BoxedSlice.{BoxedSlice}
use Rattle.std.specs.declared.sync.Arc.{Arc}
use Rattle.std.specs.declared.vec.Vec.{Vec}
use Rattle.arc_commands.specs.Seen.{map_reply, seen_command}
use Rattle.arc_commands.specs.declared.command.Reply.{Reply}
use Rattle.arc_forms.specs.Commands.{ByteCmd, ByteReply, LineCmd}
use Rattle.arc_forms.specs.Text.{Says, IsBad}

-- a command in memory, and what it says
abbrev pub line_command : {C A : Type 0} → LineCmd C A → ByteCmd
line_command c = seen_command vec_items c

-- the line says this command, or is bad
abbrev pub IsReadAs : {C A : Type 0} → List ℕ → Option (LineCmd C A) → Type 0
IsReadAs line said = MatchOption said (IsBad line) (λ c. Says line (line_command c))

-- a reply in memory, whose shown items have this list, and what it says
abbrev pub line_reply : {G X A : Type 0} → (X → List ℕ)
    → Reply G X (Vec ℕ A) (BoxedSlice ℕ A) (Vec ℕ A) (Arc (Vec ℕ A) A) (List ℕ) ℕ → ByteReply
line_reply shown r = map_reply (record {
  shown = shown;
  vector = vec_items;
  boxed = boxed_slice_items;
  buffer = vec_items;
  raw = λ shared. vec_items (arc_value shared);
}) r
