-- What is written into a window, and what the window is then.
use Rattle.std.specs.Prelude.{◌≡◌, ◌≤◌, ◌+◌, ℕ, Bool, true, false, List, [], ◌∷◌, length, Some}
use Rattle.std.specs.Prelude.{Result, Ok, Err}
use Rattle.std.specs.declared.vec.Vec.{Vec}
use Rattle.std.specs.Vec.{vec_items}
use Rattle.arc_owners.specs.declared.count.tokens.Pass.{Pass}
use Rattle.arc_owners.specs.declared.error.TryReserveError.{TryReserveError}
use Rattle.arc_owners.specs.declared.error.TryReserveError.TheVariants.{AllocError}
use Rattle.arc_parts.specs.declared.room.Room.{Room}
use Rattle.arc_parts.specs.declared.room.Room.TheVariants.{Fresh, Growth, Own, Refused}
use Rattle.arc_block.specs.declared.layout.Move.{Move}
use Rattle.arc_block.specs.declared.layout.Move.TheVariants.{Stays, HandedBack, NewEmpty}
use Rattle.arc_block.specs.declared.layout.Move.TheVariants.{NewCount, LeavesCount}
use Rattle.arc_parts.specs.Room.{IsBuffersRefusal}
use Rattle.arc_parts.specs.Writers.{as_reader, new_writer, with_more, with_room}
use Rattle.arc_block.specs.Place.{offset_at}
use Rattle.arc_commands.specs.Additions.{Founds}
use Rattle.arc_commands.specs.Changes.{Calls, made_row}
use Rattle.arc_slots.specs.Slots.{SlotView, row_of, stand_of}
use Rattle.arc_commands.specs.Commands.{ListCmd}
use Rattle.arc_commands.specs.declared.command.Cmd.TheVariants.{Res, Push, Ext}
use Rattle.arc_slots.specs.declared.slot.Writing.{Writing}
use Rattle.arc_slots.specs.declared.slot.Writing.TheVariants as writing

-- what is written, as a list in place of a vector
abbrev pub seen_writing : {T A : Type 0} → Writing (Vec T A) T → Writing (List T) T
seen_writing (writing.Nothing additional) = writing.Nothing additional
seen_writing (writing.Item item) = writing.Item item
seen_writing (writing.Items items) = writing.Items (vec_items items)

-- the items, and for how many there is to be room
abbrev pub items_of : {T : Type 0} → Writing (List T) T → List T
items_of (writing.Nothing additional) = []
items_of (writing.Item item) = item ∷ []
items_of (writing.Items items) = items

abbrev pub additional_of : {T : Type 0} → Writing (List T) T → ℕ
additional_of (writing.Nothing additional) = additional
additional_of (writing.Item item) = 1
additional_of (writing.Items items) = length items

-- the items are a legal list
abbrev pub IsLegal : {T : Type 0} → (List T → Type 0) → Writing (List T) T → Type 0
IsLegal legal (writing.Nothing additional) = Unit {0}
IsLegal legal (writing.Item item) = Unit {0}
IsLegal legal (writing.Items items) = ∥ legal items ∥₁

-- whether a kind with these calls has the one that writes this
abbrev pub can_write : {X T : Type 0} → Calls → Writing X T → Bool
can_write calls (writing.Nothing additional) = true
can_write calls (writing.Item item) = calls.pushes
can_write calls (writing.Items items) = calls.extends

-- the command to write this into the window with this number
abbrev pub write_command : {T M : Type 0} → ℕ → Writing (List T) T → ListCmd T M
write_command i (writing.Nothing additional) = Res i additional
write_command i (writing.Item item) = Push i item
write_command i (writing.Items items) = Ext i items

-- whether a first block is made for room
abbrev pub is_fresh : Room → Bool
is_fresh (Fresh places) = true
is_fresh room = false

-- whether a first block is made for a window by where it goes
abbrev pub is_new : Move → Bool
is_new Stays = false
is_new HandedBack = false
is_new NewCount = false
is_new LeavesCount = false
is_new NewEmpty = true

module _ {T M H : Type 0} where
  -- A slot's writer became a reader: where it stood, or as the first owner of a new block of no
  -- places. No writer stands on an `Arc`.
  abbrev pub FreezesBy : Move → (drops : Bool) → (old new : SlotView T M)
      → (before after : List (Pass H)) → Type 0
  FreezesBy Stays drops old new before after = (row_of new ≡ as_reader (row_of old))
      × (stand_of (Some new) ≡ stand_of (Some old)) × (after ≡ before)
  FreezesBy HandedBack drops old new before after = ⊥
  FreezesBy NewCount drops old new before after = ⊥
  FreezesBy LeavesCount drops old new before after = ⊥
  FreezesBy NewEmpty drops old new before after =
      (row_of new ≡ made_row false drops (length before) old.window.items)
      × Founds (stand_of (Some new)) before after

  -- nothing changed
  abbrev pub IsUnchanged : (old new : SlotView T M) → (before after : List (Pass H)) → Type 0
  IsUnchanged old new before after = (new ≡ old) × (after ≡ before)

  -- A slot's window has this room, and these items behind its others: on the block on which it
  -- stood, or as the first owner of a new block. Or it was refused the room, and nothing changed. A
  -- caller's buffer makes its own room, or refuses it.
  abbrev pub Fills : (drops : Bool) → Room → List T → (old new : SlotView T M)
      → (before after : List (Pass H)) → Result (Unit {0}) TryReserveError → Type 0
  Fills drops (Fresh places) items old new before after (Ok done) =
      (row_of new ≡ with_more items (new_writer drops (Some (length before)) [] places))
      × Founds (stand_of (Some new)) before after
  Fills drops (Fresh places) items old new before after (Err e) =
      (e ≡ AllocError) × IsUnchanged old new before after
  Fills drops (Growth places) items old new before after (Err e) =
      (e ≡ AllocError) × IsUnchanged old new before after
  Fills drops (Own additional) items old new before after (Ok done) = (places : ℕ)
      × (offset_at (row_of old).place + length old.window.items + additional ≤ places)
      × (row_of new ≡ with_more items (with_room (Growth places) (row_of old)))
      × (stand_of (Some new) ≡ stand_of (Some old)) × (after ≡ before)
  Fills drops (Own additional) items old new before after (Err e) =
      IsBuffersRefusal e × IsUnchanged old new before after
  Fills drops (Refused refusal) items old new before after reply =
      (reply ≡ Err refusal) × IsUnchanged old new before after
  Fills drops room items old new before after reply = (reply ≡ Ok tt)
      × (row_of new ≡ with_more items (with_room room (row_of old)))
      × (stand_of (Some new) ≡ stand_of (Some old)) × (after ≡ before)
