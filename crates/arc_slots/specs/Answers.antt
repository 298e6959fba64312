-- What the window of a slot is answered to a command, and what becomes of it.
use Rattle.std.specs.Prelude.{◌≡◌, ℕ, ◌==◌, Bool, true, false, List, length, Option, Some, None}
use Rattle.std.specs.Prelude.{slice_get}
use Rattle.std.specs.Option.{option_map, option_map_or}
use Rattle.arc_owners.specs.declared.mark.Whole.{Whole}
use Rattle.arc_owners.specs.declared.count.tokens.Pass.{Pass}
use Rattle.arc_owners.specs.history.Histories.{live_owners}
use Rattle.arc_owners.specs.count.Calls.{Leaves, seen}
use Rattle.arc_block.specs.declared.block.TheConstants.{MAX_OWNERS}
use Rattle.arc_block.specs.Owned.{Stand}
use Rattle.arc_commands.specs.Additions.{RowAdds}
use Rattle.arc_commands.specs.Changes.{Calls, Setting, Around}
use Rattle.arc_commands.specs.Several.{join_answer}
use Rattle.arc_commands.specs.Step.{answer_any, is_for_both, shortage, with_block}
use Rattle.arc_commands.specs.Commands.{ListCmd, ListReply}
use Rattle.arc_commands.specs.declared.command.Cmd.TheVariants as command
use Rattle.arc_commands.specs.declared.command.Reply.TheVariants as reply
use Rattle.arc_slots.specs.Calls.{Along}
use Rattle.arc_slots.specs.Slots.{SlotView, row_of, stand_of}

module _ {H : Type 0} where
  -- how many owners live of the block on which a window stands
  abbrev pub live_on : List (Pass H) → Stand → ℕ
  live_on passes None = 0
  live_on passes (Some (number, owner)) =
      option_map_or (λ p. length (live_owners (seen p))) (slice_get passes number) 0

  -- what a window knows of its table by the passes of the blocks, where so many were made, and of a
  -- caller's buffer that has so many places
  abbrev pub around_in : (places windows : ℕ) → List (Pass H) → Stand → Around
  around_in places windows passes here = record {
    alone = live_on passes here == 1;
    full = live_on passes here == MAX_OWNERS;
    blocks = length passes;
    windows = windows;
    places = places;
  }

-- A command on a slot's window, of so many, was answered as its row answers it; then the window is
-- the new one, if it hasn't gone, and one was made beside it, if one was; and what that command and
-- that reply add was added. A caller's buffer that made its own room has so many places.
pub record Answers {T M : Type 0} (setting : Setting T) (windows : ℕ) (c : ListCmd T M)
    (old : SlotView T M) (before : List (Pass Whole)) (r : ListReply T M)
    (new made : Option (SlotView T M)) (after : List (Pass Whole)) : Type 0 where
  pub begins : Bool
  pub places : ℕ
  pub change : answer_any setting (shortage r c)
      (around_in places windows before (stand_of (Some old))) c (row_of old)
      ≡ record {
        reply = r;
        row = option_map row_of new;
        made = option_map row_of made;
        begins = begins;
      }
  pub blocks : length after ≡ with_block begins (length before)
  pub adds : RowAdds setting (row_of old) c r (stand_of (Some old)) (stand_of new)
      (option_map (λ s. stand_of (Some s)) made) before after

module _ {T M H : Type 0} where
  -- Two slots' windows were to be joined, and this was said: they were, and the other has gone,
  -- whose owner ended; or they weren't, and nothing changed.
  abbrev pub JoinAnswers : Calls → (i j : ℕ) → (old other : SlotView T M)
      → (before : List (Pass H)) → ListReply T M → (new its : Option (SlotView T M))
      → (after : List (Pass H)) → Type 0
  JoinAnswers calls i j old other before reply.Ok new its after =
      (whole : SlotView T M)
      × (is_for_both calls (command.Join i j) i j (row_of old) (row_of other) ≡ true)
      × (join_answer (row_of old) (row_of other) ≡ (reply.Ok, Some (row_of whole)))
      × (new ≡ Some whole) × (its ≡ None) × (stand_of (Some whole) ≡ stand_of (Some old))
      × Along (stand_of (Some other)) before after (λ o p q. (last : Bool) × Leaves o p q last)
  JoinAnswers calls i j old other before reply.Refused new its after =
      (is_for_both calls (command.Join i j) i j (row_of old) (row_of other) ≡ true)
      × (join_answer (row_of old) (row_of other) ≡ (reply.Refused, None))
      × (new ≡ Some old) × (its ≡ Some other) × (after ≡ before)
  JoinAnswers calls i j old other before reply.Kind new its after =
      (is_for_both calls (command.Join i j) i j (row_of old) (row_of other) ≡ false)
      × (new ≡ Some old) × (its ≡ Some other) × (after ≡ before)
  JoinAnswers calls i j old other before reply new its after = ⊥
