-- A command that is carried out, with the places of what it brings and of what it takes out.
use Rattle.std.specs.Prelude.{ℕ, List, length}
use Rattle.std.specs.declared.sync.Arc.{Arc}
use Rattle.std.specs.declared.vec.Vec.{Vec}
use Rattle.arc_block.specs.Table.{row_at}
use Rattle.arc_commands.specs.Changes.{Setting}
use Rattle.arc_commands.specs.Seen.{map_command, seen_reply}
use Rattle.arc_commands.specs.State.{CarriesOut, State}
use Rattle.arc_commands.specs.declared.command.Cmd.{Cmd}
use Rattle.arc_commands.specs.declared.command.Reply.{Reply}
use Rattle.arc_makers.specs.Makers.{HasOwnPlaces}
use Rattle.arc_slots.specs.Places.{TakesPlaces}

module _ {C G X D F B M T A : Type 0} (setting : Setting T) (has : X → ℕ → Type 0)
    (list : X → List T) (boxed : D → List T) (static : F → List T) (items : B → List T)
    (places : B → ℕ) where
  -- a command is carried out; what came in of it, and what is handed out, has as many places as its
  -- block
  pub record CarriesPlaces (old : State T M) (c : Cmd C X F B M T)
      (reply : Reply G (Vec T A) X D B (Arc B A) (List T) M) (new : State T M) : Type 0 where
    pub carried : CarriesOut setting old (map_command list static items c)
        (seen_reply list boxed items reply) new
    pub brought : HasOwnPlaces has list items places setting old.table.blocks c
        (row_at new.table (length old.table.rows))
    pub taken : TakesPlaces has places (row_at old.table) c reply
