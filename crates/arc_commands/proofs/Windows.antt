-- The windows on which a command is, where items lie in vectors.
use Rattle.std.proofs.Common.{◌≡◌, List, refl}
use Rattle.arc_commands.specs.Seen.{map_command}
use Rattle.arc_commands.specs.Step.{other_of, window_of}
use Rattle.arc_commands.specs.declared.command.Cmd.{Cmd}
use Rattle.arc_commands.specs.declared.command.Cmd.TheVariants as command

pub window-seen : {C X F B M T : Type 0} (f : X → List T) (g : F → List T)
    (h : B → List T) (c : Cmd C X F B M T)
    → window_of (map_command f g h c) ≡ window_of c
window-seen f g h (command.Slice items) = refl
window-seen f g h other = refl

pub other-seen : {C X F B M T : Type 0} (f : X → List T) (g : F → List T)
    (h : B → List T) (c : Cmd C X F B M T)
    → other_of (map_command f g h c) ≡ other_of c
other-seen f g h (command.Join i j) = refl
other-seen f g h other = refl
