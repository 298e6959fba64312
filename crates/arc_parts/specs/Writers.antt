-- Writers: what is seen of a sole writer's parts, and what making room does to them.
use Rattle.std.specs.Prelude.{◌≡◌, ℕ, ◌+◌, ◌-◌, ◌≤◌, ◌==◌, nat_lt, Bool, true, false, ◌&&◌, not}
use Rattle.std.specs.Prelude.{if◌then◌else◌, max, List, [], ◌++◌, length, Option, Some, None}
use Rattle.std.specs.Prelude.{Result, Ok, Err, take, drop}
use Rattle.std.specs.List.{refill}
use Rattle.std.specs.Option.{option_map}
use Rattle.arc_owners.specs.declared.error.TryReserveError.{TryReserveError}
use Rattle.arc_owners.specs.declared.error.TryReserveError.TheVariants.{AllocError}
use Rattle.arc_owners.specs.declared.count.tokens.Pass.{Pass}
use Rattle.arc_owners.specs.history.Histories.{Beginning, Counted}
use Rattle.arc_owners.specs.count.Calls.{Owner, IsFirst, IsFreshPass, Asks}
use Rattle.arc_block.specs.declared.block.TheConstants.{MAX_OWNERS}
use Rattle.arc_parts.specs.declared.room.Room.{Room}
use Rattle.arc_parts.specs.declared.room.Room.TheVariants.{Spare, Fresh, Behind, Front}
use Rattle.arc_parts.specs.declared.room.Room.TheVariants.{Growth, Own, Refused}
use Rattle.arc_block.specs.Block.{Sort, native, vector, BlockInfo}
use Rattle.arc_block.specs.Block.{IsWritable, memory_info}
use Rattle.arc_block.specs.Given.{Given}
use Rattle.arc_block.specs.Place.{Place, nowhere, static_data, on_block, IsOnBlock, moved}
use Rattle.arc_block.specs.Table.{RowOf, Role, reader, sole_writer, one_writer_of_several}
use Rattle.arc_block.specs.Table.{inline, forgotten}
use Rattle.arc_parts.specs.Window.{PartsView, IsNativeOf}
use Rattle.arc_block.specs.Place.{size_at, offset_at, at_front}
use Rattle.arc_block.specs.Layouts.{LayoutFacts, MayWrite, vector_begins}
use Rattle.arc_parts.specs.Moves.{Moves}
use Rattle.arc_block.specs.Moves.{layout_move}
use Rattle.arc_parts.specs.Room.{ends_full, room_in, IsBuffersRefusal}

-- How many places a writer of so many items has, from this offset of a block on: up to the block's
-- end. But items that are dropped one by one, and behind which others lie, have their own alone.
abbrev pub writer_capacity : {M : Type 0} → (drops : Bool) → BlockInfo M → (offset len : ℕ) → ℕ
writer_capacity drops info offset len =
    if drops && not (ends_full info (offset + len)) then len else info.size - offset

-- a writer without items on nothing
abbrev pub idle_writer : {N T M : Type 0} → RowOf N T M
idle_writer = record { items = []; place = nowhere; role = sole_writer 0 }

-- where a writer stands: on nothing, or on a block that counts its owners and may be written
abbrev pub IsWriterPlace : {N M : Type 0} → Place (Option N) M → Type 0
IsWriterPlace nowhere = Unit {0}
IsWriterPlace static_data = ⊥
IsWriterPlace (on_block None offset info) = ⊥
IsWriterPlace (on_block (Some owner) offset info) = IsWritable info.sort

-- how many places a writer has
abbrev pub capacity_of : Role → ℕ
capacity_of reader = 0
capacity_of (sole_writer capacity) = capacity
capacity_of (one_writer_of_several capacity) = capacity
capacity_of inline = 0
capacity_of forgotten = 0

-- a writer with so many places
abbrev pub with_capacity : Role → ℕ → Role
with_capacity (sole_writer before) capacity = sole_writer capacity
with_capacity (one_writer_of_several before) capacity = one_writer_of_several capacity
with_capacity role capacity = role

-- How many places of a block are full once so many items more stand from a place on, where so many
-- were. Some of these may lie behind that place: only the items past them are full places more.
abbrev pub full_with : (from more full : ℕ) → ℕ
full_with from more full =
    let behind = full - from in
    full + (more - behind)

module _ {N M : Type 0} where
  -- where a writer of so many items, which stands here, has room for more of them
  abbrev pub room_at : (drops : Bool) → (first item_size : ℕ) → Place N M → (len additional : ℕ)
      → Room
  room_at drops first item_size nowhere len additional = Fresh (max first additional)
  room_at drops first item_size static_data len additional = Fresh (max first additional)
  room_at drops first item_size (on_block block offset info) len additional =
      room_in drops item_size info offset len additional

  -- the same place, in a block with so many places
  abbrev pub with_size : ℕ → Place N M → Place N M
  with_size places nowhere = nowhere
  with_size places static_data = static_data
  with_size places (on_block block offset info) =
      on_block block offset (record info { size = places })

  -- the same place, once so many items more stand behind so many
  abbrev pub with_full : (len more : ℕ) → Place N M → Place N M
  with_full len more nowhere = nowhere
  with_full len more static_data = static_data
  with_full len more (on_block block offset info) = on_block block offset (record info {
    full = option_map (full_with (offset + len) more) info.full;
  })

module _ {N T M : Type 0} where
  -- where a writer has room for so many items more
  abbrev pub room : (drops : Bool) → (first item_size : ℕ) → RowOf N T M → ℕ → Room
  room drops first item_size row additional =
      if not (nat_lt (capacity_of row.role - length row.items) additional) then Spare else
      room_at drops first item_size row.place (length row.items) additional

  -- the same for items of so many bytes: a first block has 8 places of one byte at least, else 4
  abbrev pub room_for : (drops : Bool) → (item_size : ℕ) → RowOf N T M → ℕ → Room
  room_for drops item_size row additional =
      room drops (if item_size == 1 then 8 else 4) item_size row additional

  -- the row with this room, on the block on which it stands
  abbrev pub with_room : Room → RowOf N T M → RowOf N T M
  with_room Behind row = record row {
    role = with_capacity row.role (size_at row.place - offset_at row.place);
  }
  with_room Front row = record row {
    place = at_front row.place;
    role = with_capacity row.role (size_at row.place);
  }
  with_room (Growth places) row = record row {
    place = with_size places row.place;
    role = with_capacity row.role (places - offset_at row.place);
  }
  with_room Spare row = row
  with_room (Fresh places) row = row
  with_room (Own additional) row = row
  with_room (Refused e) row = row

-- the only writer of these items at a place; on no block he has none
abbrev pub sole_at : {N T M : Type 0} → Bool → List T → Place N M → RowOf N T M
sole_at drops items nowhere = idle_writer
sole_at drops items static_data = idle_writer
sole_at drops items (on_block block offset info) = record {
  items = items;
  place = on_block block offset info;
  role = sole_writer (writer_capacity drops info offset (length items));
}

-- the window is that many items further in, and so has that many places less
abbrev pub after_advance : {N T M : Type 0} → ℕ → RowOf N T M → RowOf N T M
after_advance n w = record {
  items = drop n w.items;
  place = moved n w.place;
  role = with_capacity w.role (capacity_of w.role - n);
}

-- The first so many items, if there are more. What is dropped one by one stays in the block behind
-- them, so they have no places beside their own.
abbrev pub after_truncate : {N T M : Type 0} → Bool → ℕ → RowOf N T M → RowOf N T M
after_truncate drops n w =
    if nat_lt n (length w.items) then record w {
      items = take n w.items;
      role = if drops then with_capacity w.role n else w.role;
    } else w

-- The same row with other items in its places, of which there are as many. More of them would be
-- cut, and fewer followed by the last of its own.
abbrev pub with_items : {T M : Type 0} → PartsView T M → List T → PartsView T M
with_items w xs = record w { items = refill (length w.items) w.items xs }

module _ {N T B M : Type 0} (with_part : B → ℕ → List T → B) where
  -- the block's buffer, with these items written over its own from the place on
  abbrev pub written_place : Place N (Given B M) → List T → Place N (Given B M)
  written_place nowhere xs = nowhere
  written_place static_data xs = static_data
  written_place (on_block block offset info) xs = on_block block offset (record info {
    given = option_map
        (λ (held : Given B M). record held { buffer = with_part held.buffer offset xs }) info.given;
  })

-- the same row with other items, and with them in the block's buffer, where it stands on one
abbrev pub with_written : {T B M : Type 0} → (with_part : B → ℕ → List T → B)
    → PartsView T (Given B M) → List T → PartsView T (Given B M)
with_written with_part w xs = record w {
  items = refill (length w.items) w.items xs;
  place = written_place with_part w.place xs;
}

-- the same items and places, as a reader
abbrev pub as_reader : {N T M : Type 0} → RowOf N T M → RowOf N T M
as_reader w = record w { role = reader }

-- The same items at the same place, as their only writer. On no block there are none.
abbrev pub as_sole : {N T M : Type 0} → Bool → RowOf N T M → RowOf N T M
as_sole drops w = sole_at drops w.items w.place

-- a writer with so many items, who on a block has them at all places of a native one
pub record IsWholeWriter {T M : Type 0} (size : ℕ) (w : PartsView T M) : Type 0 where
  pub items : length w.items ≡ size
  pub block : IsOnBlock w.place → IsNativeOf size w.place

-- Room for more items without memory: whether there is some, and the window with it.
abbrev pub Reclaims : {N T M : Type 0} → Room → (old new : RowOf N T M) → Bool → Type 0
Reclaims Spare old new found = (found ≡ true) × (new ≡ old)
Reclaims Behind old new found = (found ≡ true) × (new ≡ with_room Behind old)
Reclaims Front old new found = (found ≡ true) × (new ≡ with_room Front old)
Reclaims (Fresh places) old new found = (found ≡ false) × (new ≡ old)
Reclaims (Growth places) old new found = (found ≡ false) × (new ≡ old)
Reclaims (Own additional) old new found = (found ≡ false) × (new ≡ old)
Reclaims (Refused e) old new found = (found ≡ false) × (new ≡ old)

-- a writer of these items, which are all that a block of this sort and so many places holds
abbrev pub writer_over : {N T M : Type 0} → Sort → Bool → N → List T → ℕ → RowOf N T M
writer_over sort drops block items places = record {
  items = items;
  place = on_block block 0 (memory_info sort drops places (length items));
  role = sole_writer places;
}

-- of a native block
abbrev pub new_writer : {N T M : Type 0} → Bool → N → List T → ℕ → RowOf N T M
new_writer = writer_over native

-- the items stand behind the others, in places that are full then
abbrev pub with_more : {N T M : Type 0} → List T → RowOf N T M → RowOf N T M
with_more xs w = record w {
  items = w.items ++ xs;
  place = with_full (length w.items) (length xs) w.place;
}

module _ {T M H : Type 0} where
  -- a writer of these items was made, as the first owner of a new block of this sort and so many
  -- places, whose word begins so
  pub record IsWriterOver (beginning : Beginning) (sort : Sort) (drops one_pass : Bool)
      (items : List T) (places : ℕ) (w : PartsView T M) (p : Pass H) : Type 0 where
    pub owner : Owner
    pub made : w ≡ writer_over sort drops (Some owner) items places
    pub first : IsFirst MAX_OWNERS one_pass beginning owner
    pub pass : IsFreshPass owner p

  -- a writer of these items was made, as the first owner of a new block with all of them, of which
  -- this is known
  pub record MakesBufferWriter (one_pass : Bool) (info : BlockInfo M) (items : List T)
      (w : PartsView T M) (p : Pass H) : Type 0 where
    pub owner : Owner
    pub made : w ≡ record {
      items = items;
      place = on_block (Some owner) 0 info;
      role = sole_writer info.size;
    }
    pub first : IsFirst MAX_OWNERS one_pass Counted owner
    pub pass : IsFreshPass owner p

  -- of a native block
  abbrev pub IsNewWriter : (drops one_pass : Bool) → List T → ℕ → PartsView T M → Pass H → Type 0
  IsNewWriter = IsWriterOver Counted native

  -- a writer of these items was made, with so many places: for none on nothing, and else on a new
  -- block of this sort
  pub record MakesWriterOver (beginning : Beginning) (sort : Sort) (drops one_pass : Bool)
      (items : List T) (places : ℕ) (w : PartsView T M) (before after : Pass H) : Type 0 where
    pub idle : places ≡ 0 → (w ≡ idle_writer) × (after ≡ before)
    pub new : 1 ≤ places → IsWriterOver beginning sort drops one_pass items places w after

  -- on a native block
  abbrev pub MakesWriter : (drops one_pass : Bool) → List T → ℕ → PartsView T M → Pass H → Pass H
      → Type 0
  MakesWriter = MakesWriterOver Counted native

  -- on a vector of so many places
  abbrev pub MakesVecWriter : (lone : ℕ → ℕ → Bool) → (drops one_pass : Bool) → List T → ℕ
      → PartsView T M → Pass H → Pass H → Type 0
  MakesVecWriter lone drops one_pass items places =
      MakesWriterOver (vector_begins lone drops places items) vector drops one_pass items places

  -- the window has this room now, without memory
  abbrev pub HasRoom : Room → (old new : PartsView T M) → (before after : Pass H)
      → Result (Unit {0}) TryReserveError → Type 0
  HasRoom room old new before after reply =
      (reply ≡ Ok tt) × (new ≡ with_room room old) × (after ≡ before)

  -- From this room there was made some, or it was refused, and then nothing changed. Of memory it
  -- is refused only where a block is made or grows. A caller's buffer grows as it will, to the
  -- places that were asked for or more, and refuses as it will.
  abbrev pub MakesRoom : (drops one_pass : Bool) → Room → (old new : PartsView T M)
      → (before after : Pass H) → Result (Unit {0}) TryReserveError → Type 0
  MakesRoom drops one_pass Spare old new before after reply =
      HasRoom Spare old new before after reply
  MakesRoom drops one_pass Behind old new before after reply =
      HasRoom Behind old new before after reply
  MakesRoom drops one_pass Front old new before after reply =
      HasRoom Front old new before after reply
  MakesRoom drops one_pass (Fresh places) old new before after (Ok done) =
      IsNewWriter drops one_pass [] places new after
  MakesRoom drops one_pass (Fresh places) old new before after (Err e) =
      (e ≡ AllocError) × (new ≡ old) × (after ≡ before)
  MakesRoom drops one_pass (Growth places) old new before after (Ok done) =
      HasRoom (Growth places) old new before after (Ok done)
  MakesRoom drops one_pass (Growth places) old new before after (Err e) =
      (e ≡ AllocError) × (new ≡ old) × (after ≡ before)
  MakesRoom drops one_pass (Own additional) old new before after (Ok done) = (places : ℕ)
      × (offset_at old.place + length old.items + additional ≤ places)
      × (new ≡ with_room (Growth places) old) × (after ≡ before)
  MakesRoom drops one_pass (Own additional) old new before after (Err e) =
      IsBuffersRefusal e × (new ≡ old) × (after ≡ before)
  MakesRoom drops one_pass (Refused refusal) old new before after reply =
      (reply ≡ Err refusal) × (new ≡ old) × (after ≡ before)

  -- Items were pushed: behind the others, after room was made for as many.
  abbrev pub Pushes : (drops one_pass : Bool) → Room → List T → (old new : PartsView T M)
      → (before after : Pass H) → Type 0
  Pushes drops one_pass room xs old new before after = (between : PartsView T M)
      × MakesRoom drops one_pass room old between before after (Ok tt)
      × (new ≡ with_more xs between)

  -- A writer became a reader under a layout: the same parts, where they may stay, and else those
  -- that no items make.
  abbrev pub Freezes : LayoutFacts → (drops one_pass : Bool) → (w v : PartsView T M)
      → (before after : Pass H) → Type 0
  Freezes layout drops one_pass w v before after =
      Moves (layout_move layout w.place) drops one_pass (as_reader w) v before after

module _ {M H : Type 0} where
  -- A reader of so many items that stands here became a sole writer under a layout: on a block
  -- that may be written there, whose count said that no other owner lives. On no block it had no
  -- items.
  abbrev pub BecomesSoleAt : (has_any : Bool) → Place (Option Owner) M → (len : ℕ)
      → (before after : Pass H) → Type 0
  BecomesSoleAt has_any nowhere len before after = (len ≡ 0) × (after ≡ before)
  BecomesSoleAt has_any static_data len before after = (len ≡ 0) × (after ≡ before)
  BecomesSoleAt has_any (on_block None offset info) len before after = ⊥
  BecomesSoleAt has_any (on_block (Some o) offset info) len before after =
      MayWrite has_any info.sort × Asks o before after true

  -- It did not. Where the block may be written there, the count was asked and said no. Else nothing
  -- was asked; on no block it had items.
  abbrev pub RefusesSoleAt : (has_any : Bool) → Place (Option Owner) M → (len : ℕ)
      → (before after : Pass H) → Type 0
  RefusesSoleAt has_any nowhere len before after = (1 ≤ len) × (after ≡ before)
  RefusesSoleAt has_any static_data len before after = (1 ≤ len) × (after ≡ before)
  RefusesSoleAt has_any (on_block None offset info) len before after = after ≡ before
  RefusesSoleAt has_any (on_block (Some o) offset info) len before after =
      (MayWrite has_any info.sort → Asks o before after false)
      × (¬ MayWrite has_any info.sort → after ≡ before)

module _ {T M H : Type 0} where
  abbrev pub BecomesSole : (has_any : Bool) → PartsView T M → (before after : Pass H) → Type 0
  BecomesSole has_any w before after =
      BecomesSoleAt has_any w.place (length w.items) before after

  abbrev pub RefusesSole : (has_any : Bool) → PartsView T M → (before after : Pass H) → Type 0
  RefusesSole has_any w before after =
      RefusesSoleAt has_any w.place (length w.items) before after
