-- Places: where a window stands, and what is seen of a window.
use Rattle.std.specs.Prelude.{ℕ, ◌+◌, Bool, ◌&&◌, ◌==◌, if◌then◌else◌, Option, Some, None, List}
use Rattle.std.specs.Prelude.{length}
use Rattle.arc_block.specs.Block.{BlockInfo}
use Rattle.arc_block.specs.Given.{Given, buffer_of, metadata_of, bare_info}

-- A window stands on nothing, on a static slice, or on a block at an offset. N is what a block goes
-- by, and M what is given that it keeps.
pub data Place (N M : Type 0) : Type 0 where
  nowhere : Place N M
  static_data : Place N M
  on_block : (block : N) → (offset : ℕ) → (facts : BlockInfo M) → Place N M

abbrev pub IsOnBlock : {N M : Type 0} → Place N M → Type 0
IsOnBlock nowhere = ⊥
IsOnBlock static_data = ⊥
IsOnBlock (on_block block offset facts) = Unit {0}

-- what was given that the block keeps on which a place lies
abbrev pub given_at : {N M : Type 0} → Place N M → Option M
given_at nowhere = None
given_at static_data = None
given_at (on_block block offset facts) = facts.given

module _ {N B M : Type 0} where
  -- the caller's buffer that the block is or has behind an `Arc`, and the metadata
  abbrev pub buffer_at : Place N (Given B M) → Option B
  buffer_at place = buffer_of (given_at place)

  abbrev pub metadata_at : Place N (Given B M) → Option M
  metadata_at place = metadata_of (given_at place)

  -- the same place, without the value of the block's buffer
  abbrev pub bare_place : Place N (Given B M) → Place N M
  bare_place nowhere = nowhere
  bare_place static_data = static_data
  bare_place (on_block block offset facts) = on_block block offset (bare_info facts)

-- by places further in
abbrev pub moved : {N M : Type 0} → ℕ → Place N M → Place N M
moved by nowhere = nowhere
moved by static_data = static_data
moved by (on_block block offset facts) = on_block block (offset + by) facts

-- where a part stands that begins at start: where its source does, that much further in. But under
-- a layout with static data a part with no items stands on nothing
abbrev pub part_place : {T N M : Type 0} → Bool → List T → ℕ → Place N M → Place N M
part_place has_static items start place =
    if has_static && (length items == 0) then nowhere else moved start place

-- where a window stands that is made of a list on a new block: as the part of the block that is all
-- of it
abbrev pub made_place : {T N M : Type 0} → Bool → N → BlockInfo M → List T → Place N M
made_place has_static block facts items = part_place has_static items 0 (on_block block 0 facts)

module _ {O M : Type 0} where
  -- What holds of the owner that stands at a place. None stands where there is no block, nor on one
  -- that counts no owners.
  abbrev pub at_owner : Place (Option O) M → Type 0 → (O → Type 0) → Type 0
  at_owner nowhere none some = none
  at_owner static_data none some = none
  at_owner (on_block None offset facts) none some = none
  at_owner (on_block (Some owner) offset facts) none some = some owner

  -- the block on which a place lies counts its owners, where there is one
  abbrev pub IsCounted : Place (Option O) M → Type 0
  IsCounted nowhere = Unit {0}
  IsCounted static_data = Unit {0}
  IsCounted (on_block None offset facts) = ⊥
  IsCounted (on_block (Some owner) offset facts) = Unit {0}

  -- the same place, on a block with another owner, or on one that counts none
  abbrev pub owned_by : Option O → Place (Option O) M → Place (Option O) M
  owned_by owner nowhere = nowhere
  owned_by owner static_data = static_data
  owned_by owner (on_block old offset facts) = on_block owner offset facts

module _ {N M : Type 0} where
  -- how many places the block has, how far into it a place is, and the place at its front
  abbrev pub size_at : Place N M → ℕ
  size_at nowhere = 0
  size_at static_data = 0
  size_at (on_block block offset info) = info.size

  abbrev pub offset_at : Place N M → ℕ
  offset_at nowhere = 0
  offset_at static_data = 0
  offset_at (on_block block offset info) = offset

  abbrev pub at_front : Place N M → Place N M
  at_front nowhere = nowhere
  at_front static_data = static_data
  at_front (on_block block offset info) = on_block block 0 info
