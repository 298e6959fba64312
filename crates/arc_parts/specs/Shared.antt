-- Several writers on one block: who becomes one of them, how their places are split and joined,
-- and how they make room. None stands on a caller's buffer, and their items need no drop.
use Rattle.std.specs.Prelude.{◌≡◌, ℕ, ◌+◌, ◌-◌, ◌<◌, ◌≤◌, ◌==◌, nat_lt, Bool, true, false, ◌&&◌}
use Rattle.std.specs.Prelude.{◌++◌, length, List, Option, Some, None, Result, Ok, Err, take}
use Rattle.std.specs.Prelude.{if◌then◌else◌, not}
use Rattle.arc_owners.specs.history.Histories.{Counted}
use Rattle.arc_owners.specs.declared.error.OwnerError.{OwnerError}
use Rattle.arc_owners.specs.declared.error.OwnerError.TheVariants as owner_error
use Rattle.arc_owners.specs.declared.error.TryReserveError.{TryReserveError}
use Rattle.arc_owners.specs.declared.error.TryReserveError.TheVariants.{NotUnique}
use Rattle.arc_owners.specs.declared.error.RangeError.{RangeError}
use Rattle.arc_owners.specs.declared.error.RangeError.TheVariants.{OutOfRange}
use Rattle.arc_owners.specs.declared.count.tokens.Pass.{Pass}
use Rattle.arc_owners.specs.count.Invariant.{BlockId, Line}
use Rattle.arc_owners.specs.count.Calls.{Owner, IsFirst, IsFreshPass, IsOfBlock, Asks, Leaves}
use Rattle.arc_owners.specs.count.Calls.{RefusesOwner, pass_block, pass_number, history_of}
use Rattle.arc_buffer.specs.Slice.{IsEdge, edge_answer}
use Rattle.arc_block.specs.declared.block.TheConstants.{MAX_OWNERS}
use Rattle.arc_parts.specs.declared.room.Room.{Room}
use Rattle.arc_block.specs.Block.{Sort, native, vector, buffer, raw, IsMemory, memory_info}
use Rattle.arc_block.specs.Place.{Place, nowhere, static_data, on_block, at_owner, owned_by}
use Rattle.arc_parts.specs.Steps.{Shares}
use Rattle.arc_block.specs.Table.{RowOf, sole_writer, one_writer_of_several}
use Rattle.arc_parts.specs.Window.{PartsView}
use Rattle.arc_parts.specs.Writers.{capacity_of, with_capacity, after_advance}
use Rattle.arc_parts.specs.Writers.{MakesRoom, Reclaims}

-- whether a block is a vector, from which one of several writers moves before his places are split
abbrev pub is_vector : Sort → Bool
is_vector native = false
is_vector vector = true
is_vector (buffer writable) = false
is_vector raw = false

-- whether a place lies on one
abbrev pub is_vector_at : {N M : Type 0} → Place N M → Bool
is_vector_at nowhere = false
is_vector_at static_data = false
is_vector_at (on_block block offset info) = is_vector info.sort

-- where one of several writers stands: on nothing, or on a block that counts its owners and has its
-- places in memory of ours
abbrev pub IsSharedPlace : {N M : Type 0} → Place (Option N) M → Type 0
IsSharedPlace nowhere = Unit {0}
IsSharedPlace static_data = ⊥
IsSharedPlace (on_block None offset info) = ⊥
IsSharedPlace (on_block (Some owner) offset info) = IsMemory info.sort

module _ {N T M : Type 0} where
  -- the same items and places, as one writer of several
  abbrev pub as_shared : RowOf N T M → RowOf N T M
  as_shared w = record w { role = one_writer_of_several (capacity_of w.role) }

  -- as the only writer
  abbrev pub as_unique : RowOf N T M → RowOf N T M
  as_unique w = record w { role = sole_writer (capacity_of w.role) }

  -- The first so many places of a writer, with the items that stand there. What is behind them is
  -- the window that is that many places further in (`after_advance`), also where it has no items.
  abbrev pub front_of : ℕ → RowOf N T M → RowOf N T M
  front_of at w = record w { items = take at w.items; role = with_capacity w.role at }

  -- the items and places of two neighbours
  abbrev pub joined_row : RowOf N T M → RowOf N T M → RowOf N T M
  joined_row w other = record w {
    items = w.items ++ other.items;
    role = with_capacity w.role (capacity_of w.role + capacity_of other.role);
  }

  -- These items behind the others. No block on which one of several writers stands counts its full
  -- places.
  abbrev pub extended : List T → RowOf N T M → RowOf N T M
  extended items w = record w { items = w.items ++ items }

  -- the one or the other: the front, or the back
  abbrev pub part_at : (front : Bool) → ℕ → RowOf N T M → RowOf N T M
  part_at true at w = front_of at w
  part_at false at w = after_advance at w

-- Whether so many places from here on end where the other window begins, if it is one block on
-- which both stand; or both stand on nothing.
abbrev pub ends_at : {N M : Type 0} → ℕ → Place N M → Place N M → Bool
ends_at places nowhere nowhere = true
ends_at places (on_block block offset info) (on_block other there its_info) =
    offset + places == there
ends_at places here there = false

-- whether the other's places can be put behind a writer's, who has an item at each of his own
abbrev pub can_join : {N T M : Type 0} → RowOf N T M → RowOf N T M → Bool
can_join w other = (length w.items == capacity_of w.role)
    && ends_at (capacity_of w.role) w.place other.place

-- if both stand on a block, it is one block
abbrev pub IsOneBlock : {M : Type 0} → Place (Option Owner) M → Place (Option Owner) M → Type 0
IsOneBlock here there =
    at_owner here (Unit {0}) (λ o. at_owner there (Unit {0}) (λ other. o.block ≡ other.block))

-- So many places of a writer can be split off: no more than he has, and where that cuts the items,
-- they may be cut there.
pub record CanSplit {T : Type 0} (boundary : List T → ℕ → Bool) (items : List T)
    (capacity at : ℕ) : Type 0 where
  pub within : at ≤ capacity
  pub edge : at < length items → IsEdge boundary items at

-- what a test of that answers
abbrev pub split_answer : {T : Type 0} → (List T → ℕ → Bool) → List T → (capacity at : ℕ)
    → Result (Unit {0}) RangeError
split_answer boundary items capacity at =
    if nat_lt capacity at then Err OutOfRange else
    if nat_lt at (length items) then edge_answer boundary items at else Ok tt

-- This owner ended, and its Down was added after what the pass had seen. The pass then became
-- another block's. That there was a pass which saw the Down is kept as a fact.
pub record LeavesShown (H : Type 0) (real : BlockId → ℕ → List Line → Type 0) (o : Owner)
    (before : Pass H) : Type 0 where
  pub left : Pass H
  pub last : Bool
  pub ended : Leaves o before left last
  pub there : IsOfBlock left → real (pass_block left) (pass_number left) (history_of left)

module _ {T M : Type 0} where
  -- a writer's items at the front of a native block with as many places as he has
  abbrev pub on_native : {N : Type 0} → (drops : Bool) → N → RowOf N T M → RowOf N T M
  on_native drops block w = record w {
    place = on_block block 0 (memory_info native drops (capacity_of w.role) (length w.items));
  }

  -- The same for a caller who keeps the passes of both blocks: one pass is the new block's, whose
  -- first owner the writer is, and the other the vector's, with this owner's end.
  pub record LeavesVector {H : Type 0} (drops one_pass : Bool) (w v : PartsView T M)
      (before left after : Pass H) : Type 0 where
    pub owner : Owner
    pub made : v ≡ on_native drops (Some owner) w
    pub first : IsFirst MAX_OWNERS one_pass Counted owner
    pub pass : IsFreshPass owner after
    pub ended : at_owner w.place ⊥ (λ o. (last : Bool) × Leaves o before left last)

  module _ (H : Type 0) (real : BlockId → ℕ → List Line → Type 0) where
    -- A writer of a vector moved to a native block with as many places as he had, as its first
    -- owner, and ended as an owner of the vector. The pass is the new block's.
    pub record MovesToNative (drops one_pass : Bool) (w v : PartsView T M)
        (before after : Pass H) : Type 0 where
      pub owner : Owner
      pub made : v ≡ on_native drops (Some owner) w
      pub first : IsFirst MAX_OWNERS one_pass Counted owner
      pub pass : IsFreshPass owner after
      pub left : at_owner w.place ⊥ (λ o. LeavesShown H real o before)

    -- where a writer stands when his places are split: one of a vector moves first
    abbrev pub StandsToSplit : (drops one_pass : Bool) → (w v : PartsView T M)
        → (before after : Pass H) → Sort → Type 0
    StandsToSplit drops one_pass w v before after native = (v ≡ w) × (after ≡ before)
    StandsToSplit drops one_pass w v before after vector =
        MovesToNative drops one_pass w v before after
    StandsToSplit drops one_pass w v before after (buffer writable) = ⊥
    StandsToSplit drops one_pass w v before after raw = ⊥

    abbrev pub StandsToSplitAt : (drops one_pass : Bool) → (w v : PartsView T M)
        → (before after : Pass H) → Place (Option Owner) M → Type 0
    StandsToSplitAt drops one_pass w v before after nowhere = (v ≡ w) × (after ≡ before)
    StandsToSplitAt drops one_pass w v before after static_data = ⊥
    StandsToSplitAt drops one_pass w v before after (on_block owner offset info) =
        StandsToSplit drops one_pass w v before after info.sort

    -- A writer's places were split in two where it stood. The window keeps one part. The other was
    -- made as another owner of the block; without a block both stand on nothing.
    pub record SplitsWriter (drops one_pass : Bool)
        (keeps makes : PartsView T M → PartsView T M) (w kept made : PartsView T M)
        (before after : Pass H) : Type 0 where
      pub whole : PartsView T M
      pub between : Pass H
      pub stands : StandsToSplitAt drops one_pass w whole before between w.place
      pub stays : kept ≡ keeps whole
      pub items : made.items ≡ (makes whole).items
      pub role : made.role ≡ (makes whole).role
      pub shares : Shares (makes whole).place between after made.place

    -- the same by which part stays
    abbrev pub SplitsWriterAt : (front_stays drops one_pass : Bool) → ℕ
        → (w stays made : PartsView T M) → (before after : Pass H) → Type 0
    SplitsWriterAt front_stays drops one_pass at w stays made before after =
        SplitsWriter drops one_pass (part_at front_stays at) (part_at (not front_stays) at)
        w stays made before after

    -- the part behind so many places was made, and the window keeps these
    abbrev pub SplitsWriterOff : (drops one_pass : Bool) → ℕ → (w front back : PartsView T M)
        → (before after : Pass H) → Type 0
    SplitsWriterOff drops one_pass at w front back before after =
        SplitsWriter drops one_pass (front_of at) (after_advance at) w front back before after

    -- the part of the first so many places was made, and the window keeps what is behind them
    abbrev pub SplitsWriterTo : (drops one_pass : Bool) → ℕ → (w front back : PartsView T M)
        → (before after : Pass H) → Type 0
    SplitsWriterTo drops one_pass at w front back before after =
        SplitsWriter drops one_pass (after_advance at) (front_of at) w back front before after

-- The last of several writers is the only one, of the same items and places: on a new block that
-- has the memory of theirs, as its first owner.
pub record BecomesUnique {T M : Type 0} (one_pass : Bool) (w v : PartsView T M) : Type 0 where
  pub owner : Owner
  pub made : v ≡ record (as_unique w) { place = owned_by (Some owner) w.place }
  pub first : IsFirst MAX_OWNERS one_pass Counted owner

module _ {H : Type 0} where
  -- A split was refused: the count was found at its greatest; or, of a vector, memory for the block
  -- to which the window moves, and nothing was added.
  abbrev pub RefusesSplit : Sort → Owner → (before after : Pass H) → OwnerError → Type 0
  RefusesSplit native o before after e = RefusesOwner false o before after e
  RefusesSplit vector o before after e = (e ≡ owner_error.AllocError) × (after ≡ before)
  RefusesSplit (buffer writable) o before after e = ⊥
  RefusesSplit raw o before after e = ⊥

module _ {M H : Type 0} where
  -- at a place: without a block no split is refused
  abbrev pub RefusesSplitAt : Place (Option Owner) M → (before after : Pass H) → OwnerError → Type 0
  RefusesSplitAt nowhere before after e = ⊥
  RefusesSplitAt static_data before after e = ⊥
  RefusesSplitAt (on_block None offset info) before after e = ⊥
  RefusesSplitAt (on_block (Some o) offset info) before after e =
      RefusesSplit info.sort o before after e

  -- One of several writers asked whether it is alone, and this was the answer. On no block no count
  -- is asked, and the answer is no.
  abbrev pub AsksAlone : Place (Option Owner) M → (before after : Pass H) → (found : Bool) → Type 0
  AsksAlone place before after found = at_owner place
      ((found ≡ false) × (after ≡ before)) (λ o. Asks o before after found)

  -- the owner that stood here ended, behind what the pass had seen; on no block there is none
  abbrev pub LeavesAt : Place (Option Owner) M → (before after : Pass H) → Type 0
  LeavesAt place before after = at_owner place (after ≡ before)
      (λ o. (last : Bool) × Leaves o before after last)

-- whether a place lies on a block
abbrev pub is_on_block : {N M : Type 0} → Place N M → Bool
is_on_block nowhere = false
is_on_block static_data = false
is_on_block (on_block block offset info) = true

-- whether a writer has to be alone to get room for so many items more: on a block, where he has no
-- places left for them
abbrev pub asks_alone : {N T M : Type 0} → RowOf N T M → (additional : ℕ) → Bool
asks_alone w additional =
    nat_lt (capacity_of w.role - length w.items) additional && is_on_block w.place

-- Room without memory: there is none beside another owner, which is asked where he has to be
-- alone.
abbrev pub ReclaimsIf : {T M : Type 0} → (alone : Bool) → Room → (old new : PartsView T M)
    → Bool → Type 0
ReclaimsIf true room old new answer = Reclaims room old new answer
ReclaimsIf false room old new answer = (answer ≡ false) × (new ≡ old)

module _ {T M H : Type 0} where
  -- The only writer has this room, and is one of several then.
  pub record MakesRoomBeside (one_pass : Bool) (room : Room) (old new : PartsView T M)
      (before after : Pass H) (reply : Result (Unit {0}) TryReserveError) : Type 0 where
    pub sole : PartsView T M
    pub shared : new ≡ as_shared sole
    pub makes : MakesRoom false one_pass room old sole before after reply

  -- One of several writers, who is alone or stands on no block, has this room as the only writer
  -- has it, and is one of several again.
  abbrev pub MakesRoomAlone : (one_pass : Bool) → Room → (old new : PartsView T M)
      → (before after : Pass H) → Result (Unit {0}) TryReserveError → Type 0
  MakesRoomAlone one_pass room old new before after reply =
      MakesRoomBeside one_pass room (as_unique old) new before after reply

  -- The same where the count is asked first: beside another owner it is refused, and nothing
  -- changes.
  abbrev pub MakesRoomIf : (found one_pass : Bool) → Room → (old new : PartsView T M)
      → (before after : Pass H) → Result (Unit {0}) TryReserveError → Type 0
  MakesRoomIf true one_pass room old new before after reply =
      MakesRoomAlone one_pass room old new before after reply
  MakesRoomIf false one_pass room old new before after reply =
      (reply ≡ Err NotUnique) × (new ≡ old) × (after ≡ before)

  -- From this room one of several writers got some, or it was refused; the count is asked once,
  -- where he has to be alone (`asks_alone`), and else not.
  abbrev pub MakesSharedRoom : (asks one_pass : Bool) → Room → (old new : PartsView T M)
      → (before after : Pass H) → Result (Unit {0}) TryReserveError → Type 0
  MakesSharedRoom true one_pass room old new before after reply =
      (found : Bool) × (between : Pass H) × AsksAlone old.place before between found
      × MakesRoomIf found one_pass room old new between after reply
  MakesSharedRoom false one_pass room old new before after reply =
      MakesRoomAlone one_pass room old new before after reply

  -- items were pushed: behind the others, after room was made for as many
  pub record PushesShared (asks one_pass : Bool) (room : Room) (xs : List T)
      (old new : PartsView T M) (before after : Pass H) : Type 0 where
    pub between : PartsView T M
    pub makes : MakesSharedRoom asks one_pass room old between before after (Ok tt)
    pub pushed : new ≡ extended xs between

  -- the same where the count is asked first, or isn't
  abbrev pub ReclaimsShared : (asks : Bool) → Room → (old new : PartsView T M)
      → (before after : Pass H) → Bool → Type 0
  ReclaimsShared true room old new before after answer = (found : Bool)
      × AsksAlone old.place before after found × ReclaimsIf found room old new answer
  ReclaimsShared false room old new before after answer =
      (after ≡ before) × Reclaims room old new answer
