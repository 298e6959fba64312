-- The windows of a table as a whole: their rows, where they stand, and the passes of the blocks.
use Rattle.std.specs.Prelude.{◌≡◌, ℕ, List, [], None, length, map}
use Rattle.std.specs.List.{range_with_len}
use Rattle.std.specs.Option.{option_and_then, option_map}
use Rattle.arc_owners.specs.declared.count.tokens.Pass.{Pass}
use Rattle.arc_owners.specs.declared.mark.Whole.{Whole}
use Rattle.arc_block.specs.Table.{Table, block_of, empty_table, row_at}
use Rattle.arc_commands.specs.RunOf.{RunOf}
use Rattle.arc_commands.specs.Additions.{Standing, Adds}
use Rattle.arc_commands.specs.Changes.{Setting}
use Rattle.arc_commands.specs.Step.{Step}
use Rattle.arc_commands.specs.Commands.{ListCmd, ListReply}
use Rattle.arc_commands.specs.declared.command.Cmd.TheVariants.{Drop}

-- the table, and beside it where the windows stand, with the passes of the blocks
pub record State (T M : Type 0) : Type 0 where
  pub table : Table T M
  pub standing : Standing Whole

-- no window, and no block
abbrev pub empty_state : {T M : Type 0} → State T M
empty_state = record { table = empty_table; standing = record { stands = []; passes = [] } }

-- each window stands on the block of its row
abbrev pub Agrees : {T M : Type 0} → State T M → Type 0
Agrees s = map (option_and_then (λ row. block_of row.place)) s.table.rows
    ≡ map (option_map (λ stand. stand.0)) s.standing.stands

-- a command is carried out: one step of the table, which adds what it adds to the histories
pub record CarriesOut {T M : Type 0} (setting : Setting T) (old : State T M)
    (c : ListCmd T M) (reply : ListReply T M) (new : State T M)
    : Type 0 where
  pub rows : Step setting old.table c reply new.table
  pub passes : Adds setting old.table old.standing c reply new.standing
  pub agree : Agrees new

-- the end of each window of so many, in the order of their numbers
abbrev pub drops : {T M : Type 0} → ℕ → List (ListCmd T M)
drops n = map Drop (range_with_len 0 n)

-- every window that is left ends by a `Drop` of its own
pub record EndsAll {T M : Type 0} (setting : Setting T) (old new : State T M) : Type 0 where
  pub replies : List (ListReply T M)
  pub run : RunOf (CarriesOut setting) old (drops (length old.table.rows)) replies new
  pub none_left : (i : ℕ) → row_at new.table i ≡ None

-- and these are the passes of the blocks after that
abbrev pub EndsWith : {T M : Type 0} → Setting T → State T M → List (Pass Whole) → Type 0
EndsWith {T} {M} setting old passes = (new : State T M) × EndsAll setting old new
    × (new.standing.passes ≡ passes)
