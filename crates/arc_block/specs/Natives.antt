-- Native blocks: items in memory of our own, which is lent for the lease of the block's owners.
use Rattle.std.specs.Prelude.{◌≡◌, ℕ, ◌+◌, ◌-◌, ◌≤◌, Bool, true, false, if◌then◌else◌, Option, None}
use Rattle.std.specs.Prelude.{List, length}
use denote.RawPtr.{Ptr}
use Rattle.arc_owners.specs.declared.mark.Mark.{Ghosts}
use Rattle.arc_owners.specs.count.Calls.{Owner}
use Rattle.arc_owners.specs.memory.Boxes.{owner_in}
use Rattle.arc_memory.specs.declared.frozen_places.FrozenPlaces.{FrozenPlaces}
use Rattle.arc_memory.specs.declared.frozen_reader.FrozenReader.{FrozenReader}
use Rattle.arc_memory.specs.declared.kept.Kept.{Kept}
use Rattle.arc_memory.specs.declared.kept.Kept.TheVariants.{Places, Items}
use Rattle.arc_memory.specs.KeptPlaces.{kept_in}
use Rattle.arc_memory.specs.declared.writer_memory.WriterMemory.{WriterMemory}
use Rattle.arc_buffer.specs.Slice.{sub}
use Rattle.arc_block.specs.Block.{BlockInfo, native, full_places}

-- What contracts see of a native block through one of its owners: who that is, the items that it
-- reads, the number of the place where the first of them lies, how many places the block has, and
-- how many of them are full, where that is counted.
pub record NativeView (T : Type 0) : Type 0 where
  pub owner : Owner
  pub items : List T
  pub first : ℕ
  pub size : ℕ
  pub full : Option ℕ

module _ {T : Type 0} where
  -- what is known of the block
  abbrev pub native_info : {M : Type 0} → NativeView T → BlockInfo M
  native_info b = record { sort = native; size = b.size; full = b.full; given = None }

  -- items from the place `first` on, in a block of so many places, none of which is full behind
  -- them
  abbrev pub native_view : (drops : Bool) → Owner → List T → (first size : ℕ) → NativeView T
  native_view drops owner items first size = record {
    owner = owner;
    items = items;
    first = first;
    size = size;
    full = full_places drops (first + length items);
  }

  -- a block that is made of a list has a place for each item
  abbrev pub made_native : (drops : Bool) → Owner → List T → NativeView T
  made_native drops owner items = native_view drops owner items 0 (length items)

  -- a range of places among those of the items that are seen
  pub record IsAmong (b : NativeView T) (start end : ℕ) : Type 0 where
    pub from : b.first ≤ start
    pub ordered : start ≤ end
    pub to : end ≤ b.first + length b.items

  -- What the only owner has of a block of which he takes the places from start to end. Items that
  -- are dropped one by one stay his, all of them.
  abbrev pub native_taken : (drops : Bool) → NativeView T → (start end : ℕ) → NativeView T
  native_taken drops b start end = if drops then b else record b {
    items = sub b.items (start - b.first) (end - b.first);
    first = start;
  }

module _ {T A : Type 0} where
  -- a block whose only owner has its memory
  abbrev pub native_over : (drops : Bool) → Owner → WriterMemory T A → NativeView T
  native_over drops owner memory =
      native_view drops owner memory.places.vec.items memory.places.under.start
      memory.places.under.whole

  -- The block keeps that these places come back: of items that are dropped one by one all that are
  -- full, from the first on.
  abbrev pub IsKeptFor : (drops : Bool) → FrozenPlaces T → Kept T A → Type 0
  IsKeptFor drops range (Places kept) =
      (drops ≡ false) × (kept.inheritance.memory ≡ range.memory)
  IsKeptFor drops range (Items kept) =
      (drops ≡ true) × (kept.kept.inheritance.memory ≡ range.memory) × (range.start ≡ 0)
      × (kept.full.items ≡ range.items)

  -- What the block keeps lies at this place, in the room for a header of this size that its piece
  -- of memory has.
  abbrev pub IsLaidFor : (place : Ptr) (head : ℕ × ℕ) → Kept T A → Type 0
  IsLaidFor place head kept = (place ≡ (kept_in kept).piece.right.place)
      × (head ≡ (kept_in kept).piece.right.head)

-- what contracts see of a block through an owner who reads these places
abbrev pub range_seen : {T : Type 0} → (drops : Bool) → Owner → FrozenPlaces T → NativeView T
range_seen drops owner range =
    native_view drops owner range.items range.start range.memory.whole

abbrev pub native_seen : {T V Z H : Type 0} {MAX : ℕ} {G : Ghosts H} → (drops : Bool)
    → FrozenReader T V Z MAX H G → NativeView T
native_seen drops reader = range_seen drops (owner_in reader.owner) reader.range
