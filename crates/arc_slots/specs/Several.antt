-- What becomes of a slot whose window is that of one of several writers, and of the passes.
use Rattle.std.specs.Prelude.{◌≡◌, ℕ, Bool, true, false, List, [], length, Option, Some, None}
use Rattle.std.specs.Prelude.{Result, Ok, Err, is_some}
use Rattle.arc_owners.specs.declared.count.tokens.Pass.{Pass}
use Rattle.arc_owners.specs.declared.error.OwnerError.{OwnerError}
use Rattle.arc_owners.specs.declared.error.OwnerError.TheVariants as owner_error
use Rattle.arc_owners.specs.declared.error.RangeError.{RangeError}
use Rattle.arc_owners.specs.declared.error.TryReserveError.{TryReserveError}
use Rattle.arc_owners.specs.declared.error.TryReserveError.TheVariants.{AllocError, NotUnique}
use Rattle.arc_owners.specs.count.Calls.{Asks, Leaves}
use Rattle.arc_buffer.specs.Slice.{IsEdge, edge_answer}
use Rattle.arc_parts.specs.declared.room.Room.{Room}
use Rattle.arc_parts.specs.declared.room.Room.TheVariants.{Fresh, Growth, Own, Refused}
use Rattle.arc_block.specs.Owned.{Stand}
use Rattle.arc_block.specs.Place.{Place}
use Rattle.arc_parts.specs.Shared.{CanSplit, as_shared, extended, front_of, is_vector_at}
use Rattle.arc_parts.specs.Shared.{on_native, split_answer}
use Rattle.arc_block.specs.Table.{Row, RowOf}
use Rattle.arc_parts.specs.Writers.{Reclaims, after_advance, new_writer, with_room}
use Rattle.arc_commands.specs.Additions.{Founds}
use Rattle.arc_slots.specs.Calls.{AddsNothing, Along, Beside, RefusesAt}
use Rattle.arc_slots.specs.Slots.{SlotView, row_of, stand_of}
use Rattle.arc_slots.specs.Writing.{IsUnchanged}
use Rattle.arc_slots.specs.declared.part.Part.{Part}
use Rattle.arc_slots.specs.declared.part.Part.TheVariants.{Back, Front}

module _ {N T M : Type 0} where
  -- the places that the window keeps where this part is handed out, and those that are handed out
  abbrev pub kept_places : Part → RowOf N T M → RowOf N T M
  kept_places (Back at) row = front_of at row
  kept_places (Front at) row = after_advance at row

  abbrev pub handed_places : Part → RowOf N T M → RowOf N T M
  handed_places (Back at) row = after_advance at row
  handed_places (Front at) row = front_of at row

-- what a test of a part of one of several is answered, who has so many places: a back may begin
-- behind his items
abbrev pub places_answer : {T : Type 0} → (List T → ℕ → Bool) → List T → (capacity : ℕ) → Part
    → Result (Unit {0}) RangeError
places_answer boundary items capacity (Back at) = split_answer boundary items capacity at
places_answer boundary items capacity (Front at) = edge_answer boundary items at

-- there is such a part
abbrev pub HasPlaces : {T : Type 0} → (List T → ℕ → Bool) → List T → (capacity : ℕ) → Part
    → Type 0
HasPlaces boundary items capacity (Back at) = CanSplit boundary items capacity at
HasPlaces boundary items capacity (Front at) = IsEdge boundary items at

module _ {H : Type 0} where
  -- A window that stands here asked whether it is alone, and this was said. On no block no count is
  -- asked, and the answer is no.
  abbrev pub AsksAt : Stand → List (Pass H) → List (Pass H) → (found : Bool) → Type 0
  AsksAt None old new found = (found ≡ false) × (new ≡ old)
  AsksAt (Some here) old new found = Along (Some here) old new (λ o p q. Asks o p q found)

  -- the window ended as an owner here, and is the first owner of a new block there
  pub record MovesTo (here there : Stand) (old new : List (Pass H)) : Type 0 where
    pub between : List (Pass H)
    pub left : Along here old between (λ o p q. (last : Bool) × Leaves o p q last)
    pub stands : is_some there ≡ true
    pub begins : Founds there between new

  -- a split was refused, which wants no memory: the block had as many owners as it may have
  abbrev pub RefusesPlaces : {M : Type 0} → Place (Option ℕ) M → Stand → List (Pass H)
      → List (Pass H) → OwnerError → Type 0
  RefusesPlaces place here old new e = RefusesAt (λ sort. false) place here old new e

module _ {M H : Type 0} where
  -- The places of a window weren't split: its block had as many owners as it may have, or memory
  -- for the block was refused to which a window of a vector moves, and nothing was added.
  abbrev pub RefusesIf : (on_vector : Bool) → Place (Option ℕ) M → Stand → List (Pass H)
      → List (Pass H) → OwnerError → Type 0
  RefusesIf true place here old new e = (e ≡ owner_error.AllocError) × (new ≡ old)
      × Along here old new AddsNothing
  RefusesIf false place here old new e = RefusesPlaces place here old new e

  abbrev pub RefusesBeside : Place (Option ℕ) M → Stand → List (Pass H) → List (Pass H)
      → OwnerError → Type 0
  RefusesBeside place here old new e = RefusesIf (is_vector_at place) place here old new e

module _ {T M H : Type 0} where
  -- The places of a window were split where it stands: it keeps these, and those were handed out,
  -- as another owner's of the block.
  pub record SplitsThere (part : Part) (old new handed : SlotView T M)
      (before after : List (Pass H))
      : Type 0 where
    pub stays : row_of new ≡ kept_places part (row_of old)
    pub made : row_of handed ≡ handed_places part (row_of old)
    pub stand : stand_of (Some new) ≡ stand_of (Some old)
    pub beside : Beside (stand_of (Some old)) before after (stand_of (Some handed))

  -- A window of a vector moved to a native block with as many places first, and is its first owner.
  pub record SplitsMoved (part : Part) (old new handed : SlotView T M)
      (before after : List (Pass H))
      : Type 0 where
    pub between : List (Pass H)
    pub whole : SlotView T M
    pub row : row_of whole ≡ on_native false (Some (length before)) (row_of old)
    pub moved : MovesTo (stand_of (Some old)) (stand_of (Some whole)) before between
    pub splits : SplitsThere part whole new handed between after

  abbrev pub SplitsIf : (on_vector : Bool) → Part → (old new handed : SlotView T M)
      → (before after : List (Pass H)) → Type 0
  SplitsIf true part old new handed before after = SplitsMoved part old new handed before after
  SplitsIf false part old new handed before after = SplitsThere part old new handed before after

  abbrev pub SplitsBeside : Part → (old new handed : SlotView T M) → (before after : List (Pass H))
      → Type 0
  SplitsBeside part old new handed before after =
      SplitsIf (is_vector_at (row_of old).place) part old new handed before after

  -- One of several, who is alone or on no block, has this room, and these items behind his others.
  -- None stands on a caller's buffer, which would make its own room.
  abbrev pub FillsAlone : Room → List T → (old new : SlotView T M) → (before after : List (Pass H))
      → Result (Unit {0}) TryReserveError → Type 0
  FillsAlone (Fresh places) items old new before after (Ok done) =
      (row_of new ≡ extended items (as_shared (new_writer false (Some (length before)) [] places)))
      × Founds (stand_of (Some new)) before after
  FillsAlone (Fresh places) items old new before after (Err e) =
      (e ≡ AllocError) × IsUnchanged old new before after
  FillsAlone (Growth places) items old new before after (Err e) =
      (e ≡ AllocError) × IsUnchanged old new before after
  FillsAlone (Own additional) items old new before after reply = ⊥
  FillsAlone (Refused refusal) items old new before after reply =
      (reply ≡ Err refusal) × IsUnchanged old new before after
  FillsAlone room items old new before after reply = (reply ≡ Ok tt)
      × (row_of new ≡ extended items (with_room room (row_of old)))
      × (stand_of (Some new) ≡ stand_of (Some old)) × (after ≡ before)

  -- the same where he was found to be alone; beside another owner it is refused
  abbrev pub FillsIf : (found : Bool) → Room → List T → (old new : SlotView T M)
      → (before after : List (Pass H)) → Result (Unit {0}) TryReserveError → Type 0
  FillsIf true room items old new before after reply =
      FillsAlone room items old new before after reply
  FillsIf false room items old new before after reply =
      (reply ≡ Err NotUnique) × IsUnchanged old new before after

  -- the same where the count is asked first, or isn't
  abbrev pub FillsBeside : (asks : Bool) → Room → List T → (old new : SlotView T M)
      → (before after : List (Pass H)) → Result (Unit {0}) TryReserveError → Type 0
  FillsBeside true room items old new before after reply = (found : Bool)
      × (between : List (Pass H)) × AsksAt (stand_of (Some old)) before between found
      × FillsIf found room items old new between after reply
  FillsBeside false room items old new before after reply =
      FillsAlone room items old new before after reply

-- room without memory, where he was found to be alone; beside another owner there is none
abbrev pub RoomIf : {T M : Type 0} → (found : Bool) → Room → (old new : Row T M) → Bool → Type 0
RoomIf true room old new answer = Reclaims room old new answer
RoomIf false room old new answer = (answer ≡ false) × (new ≡ old)

-- the same where the count is asked first, or isn't
abbrev pub RoomBeside : {T M H : Type 0} → (asks : Bool) → Room → (here : Stand)
    → (old new : Row T M) → (before after : List (Pass H)) → Bool → Type 0
RoomBeside true room here old new before after answer = (found : Bool)
    × AsksAt here before after found × RoomIf found room old new answer
RoomBeside false room here old new before after answer = (after ≡ before)
    × Reclaims room old new answer
