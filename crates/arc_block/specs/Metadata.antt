-- A caller's buffer that a block keeps, and the metadata that lies in it.
use Rattle.std.specs.Prelude.{◌≡◌, ℕ, ◌+◌, List, length, Option, Some, None}
use Rattle.arc_buffer.specs.Slice.{sub}
use Rattle.arc_block.specs.Block.{Sort, native, vector, buffer, raw}
use Rattle.arc_block.specs.Block.{BlockInfo, IsBuffer}
use Rattle.arc_block.specs.Given.{Given, buffer_of}
use Rattle.arc_block.specs.Place.{Place, nowhere, static_data, on_block}
use Rattle.arc_block.specs.Place.{offset_at, buffer_at}

-- a block of this sort keeps a caller's buffer, behind an `Arc` or not
abbrev pub IsCallers : Sort → Type 0
IsCallers native = ⊥
IsCallers vector = ⊥
IsCallers (buffer writable) = Unit {0}
IsCallers raw = Unit {0}

-- and so does the block on which a place lies
abbrev pub IsOnCallers : {N M : Type 0} → Place N M → Type 0
IsOnCallers nowhere = ⊥
IsOnCallers static_data = ⊥
IsOnCallers (on_block block offset facts) = IsCallers facts.sort

module _ {T B M : Type 0} (list : B → List T) (places : B → ℕ) where
  -- What is known of a block with these items fits what was given: nothing where it keeps no
  -- caller's buffer, else the buffer with its items.
  abbrev pub FitsGiven : Option (Given B M) → BlockInfo (Given B M) → List T → Type 0
  FitsGiven None info items = ¬ IsCallers info.sort
  FitsGiven (Some held) info items = IsCallers info.sort × (list held.buffer ≡ items)
      × (info.full ≡ Some (length items))
      × (IsBuffer info.sort
      → (info.sort ≡ buffer held.writable) × (info.size ≡ places held.buffer))

  -- The same of items that are a part of the block's, from an offset on.
  abbrev pub FitsPart : Option (Given B M) → BlockInfo (Given B M) → (offset : ℕ) → List T
      → Type 0
  FitsPart None info offset items = ¬ IsCallers info.sort
  FitsPart (Some held) info offset items = IsCallers info.sort
      × (sub (list held.buffer) offset (offset + length items) ≡ items)
      × (info.full ≡ Some (length (list held.buffer)))
      × (IsBuffer info.sort
      → (info.sort ≡ buffer held.writable) × (info.size ≡ places held.buffer))

  -- at a place
  abbrev pub FitsGivenAt : {N : Type 0} → Place N (Given B M) → List T → Type 0
  FitsGivenAt nowhere items = Unit {0}
  FitsGivenAt static_data items = Unit {0}
  FitsGivenAt (on_block block offset facts) items = FitsPart facts.given facts offset items

module _ {T B M X : Type 0} (list : B → List T) (metadata : B → X) where
  -- the metadata is that of the buffer that was given, which has these items
  pub record IsOwnMetadata (given : Option (Given B M)) (items : List T) (value : X)
      : Type 0 where
    pub buffer : B
    pub itself : buffer_of given ≡ Some buffer
    pub whole : list buffer ≡ items
    pub own : metadata buffer ≡ value

  -- the metadata is that of the block's buffer, of which the list that stands there is the part
  pub record IsMetadataAt {N : Type 0} (place : Place N (Given B M)) (items : List T) (value : X)
      : Type 0 where
    pub sort : IsOnCallers place
    pub buffer : B
    pub itself : buffer_at place ≡ Some buffer
    pub part : sub (list buffer) (offset_at place) (offset_at place + length items) ≡ items
    pub own : metadata buffer ≡ value
