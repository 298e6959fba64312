-- What a command finds that is given to a slot's window.
use Rattle.std.proofs.Common.{ℕ, List, Option, Some}
use Rattle.arc_owners.specs.declared.mark.Whole.{Whole}
use Rattle.arc_owners.specs.declared.count.tokens.Pass.{Pass}
use Rattle.arc_block.specs.Owned.{Stand}
use Rattle.arc_block.specs.Table.{Row}
use Rattle.arc_commands.specs.Changes.{Around, Setting}
use Rattle.arc_commands.specs.Commands.{ListCmd, ListReply}
use Rattle.arc_slots.specs.Answers.{Answers, around_in}
use Rattle.arc_slots.specs.Slots.{SlotView, row_of, stand_of}

-- where the window stands, its row and what that knows of its table, and what it means that a
-- command was answered so
pub record Before (T M : Type 0) : Type 1 where
  pub here : Stand
  pub row : Row T M
  pub around : Around
  pub Said : ListCmd T M → ListReply T M → Option (SlotView T M) → Option (SlotView T M)
      → List (Pass Whole) → Type 0

abbrev pub before_of : {T M : Type 0} → Setting T → ℕ → SlotView T M → List (Pass Whole)
    → Before T M
before_of setting windows s passes = record {
  here = stand_of (Some s);
  row = row_of s;
  around = around_in 0 windows passes (stand_of (Some s));
  Said = λ c r new made after. Answers setting windows c s passes r new made after;
}
