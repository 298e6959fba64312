-- What becomes of a command that makes a window of what it brings.
use Rattle.std.specs.Prelude.{◌≡◌, ◌≤◌, ℕ, List, Option, Some, IfSome, MatchOption, length}
use Rattle.arc_owners.specs.declared.mark.Whole.{Whole}
use Rattle.arc_owners.specs.declared.count.tokens.Pass.{Pass}
use Rattle.arc_commands.specs.Additions.{Founds}
use Rattle.arc_block.specs.Table.{Row}
use Rattle.arc_commands.specs.Changes.{Setting, buffer_row, vector_row, written_buffer_row}
use Rattle.arc_commands.specs.Step.{count_brought, row_by}
use Rattle.arc_commands.specs.Commands.{ListCmd, ListReply}
use Rattle.arc_commands.specs.declared.command.Cmd.{Cmd}
use Rattle.arc_commands.specs.declared.command.Cmd.TheVariants as command
use Rattle.arc_commands.specs.declared.command.Reply.TheVariants as reply
use Rattle.arc_slots.specs.Slots.{SlotView, row_of, stand_of}

-- The window is that row, of what the command brings with so many places, under the next number,
-- and stands on nothing or as the first owner of a new block. Or none was made and nothing changed:
-- there is no such row, or memory was refused.
pub record Makes {T M : Type 0} (setting : Setting T) (windows : ℕ) (c : ListCmd T M)
    (before : List (Pass Whole)) (r : ListReply T M) (made : Option (SlotView T M))
    (after : List (Pass Whole)) : Type 0 where
  pub places : ℕ
  pub enough : count_brought c ≤ places
  pub said : MatchOption made
      ((after ≡ before) × MatchOption (row_by {M = M} setting places (length before) c)
      (r ≡ reply.Kind) (λ row. r ≡ reply.Alloc))
      (λ s. (row_by setting places (length before) c ≡ Some (row_of s)) × (r ≡ reply.New windows)
      × Founds (stand_of (Some s)) before after)

module _ {C X F B M T : Type 0} (has : X → ℕ → Type 0) (list : X → List T) (items : B → List T)
    (places : B → ℕ) where
  -- The row that was made of what a command brings, if one was, has the places that came in: those
  -- of the vector, or of the caller's buffer. Of other commands nothing is said here.
  abbrev pub HasOwnPlaces : Setting T → (block : ℕ) → Cmd C X F B M T → Option (Row T M) → Type 0
  HasOwnPlaces setting block (command.Vec given) made = IfSome made (λ row. (n : ℕ) × has given n
      × (row ≡ vector_row setting.layout.has_static setting.drops block (list given) n))
  HasOwnPlaces setting block (command.Buf given metadata) made =
      IfSome made (λ row. row ≡ buffer_row block (items given) (places given) metadata)
  HasOwnPlaces setting block (command.MBuf given metadata) made =
      IfSome made (λ row. row ≡ written_buffer_row block (items given) (places given) metadata)
  HasOwnPlaces setting block other made = Unit {0}
