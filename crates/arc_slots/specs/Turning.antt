-- Which commands turn the window on which they are.
use Rattle.std.specs.Prelude.{Bool, true, false}
use Rattle.arc_commands.specs.declared.command.Cmd.{Cmd}
use Rattle.arc_commands.specs.declared.command.Cmd.TheVariants as command

-- whether the window on which a command is may be another one afterwards, or have gone
abbrev pub is_turning : {C X F B M T : Type 0} → Cmd C X F B M T → Bool
is_turning (command.Freeze i) = true
is_turning (command.Mut i) = true
is_turning (command.Share i) = true
is_turning (command.Unique i) = true
is_turning (command.Drop i) = true
is_turning (command.Take i) = true
is_turning (command.TakeBox i) = true
is_turning (command.TakeBuf i) = true
is_turning (command.TakeRaw i) = true
is_turning (command.TakeStatic i) = true
is_turning c = false
