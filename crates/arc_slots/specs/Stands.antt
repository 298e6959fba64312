-- Where the windows of a table stand: the numbers of their blocks, and the passes of these.
use Rattle.std.specs.Prelude.{◌≡◌, ℕ, ◌<◌, Bool, true, false, List, Option, Some, None, length}
use Rattle.std.specs.Prelude.{slice_get, slice_set}
use Rattle.arc_owners.specs.declared.count.tokens.Pass.{Pass}
use Rattle.arc_owners.specs.count.Calls.{Owner, IsOfBlock, IsPassOfNone, pass_block, seen}
use Rattle.arc_owners.specs.history.Histories.{IsLegal, is_in, live_owners}
use Rattle.arc_block.specs.declared.block.TheConstants.{MAX_OWNERS}
use Rattle.arc_block.specs.Owned.{Stand, HasPass}
use Rattle.arc_block.specs.Place.{Place, nowhere, static_data, on_block}

module _ {M : Type 0} where
  -- a place, on the block with this number; a block that counts no owners has none
  abbrev pub numbered : Option ℕ → Place (Option Owner) M → Place (Option ℕ) M
  numbered number nowhere = nowhere
  numbered number static_data = static_data
  numbered number (on_block None offset facts) = on_block None offset facts
  numbered number (on_block (Some owner) offset facts) = on_block number offset facts

  -- whether a window at this place is an owner of a block that has this number, or stands where no
  -- owners are counted and has none
  abbrev pub is_numbered : Option ℕ → Place (Option Owner) M → Bool
  is_numbered None nowhere = true
  is_numbered None static_data = true
  is_numbered None (on_block None offset facts) = true
  is_numbered None (on_block (Some owner) offset facts) = false
  is_numbered (Some number) nowhere = false
  is_numbered (Some number) static_data = false
  is_numbered (Some number) (on_block None offset facts) = false
  is_numbered (Some number) (on_block (Some owner) offset facts) = true

  -- where a window stands
  abbrev pub stand_at : Option ℕ → Place (Option Owner) M → Stand
  stand_at number nowhere = None
  stand_at number static_data = None
  stand_at number (on_block None offset facts) = None
  stand_at None (on_block (Some owner) offset facts) = None
  stand_at (Some number) (on_block (Some owner) offset facts) = Some (number, owner)

module _ {H : Type 0} where
  -- The block on which a window stands has its one pass, which has seen that this owner lives, and
  -- may have as many owners as blocks here may.
  abbrev pub HasPassFor : List (Pass H) → Stand → Type 0
  HasPassFor passes None = Unit {0}
  HasPassFor passes (Some (number, owner)) = HasPass passes number owner
      × (owner.block.whole ≡ true) × (owner.block.most ≡ MAX_OWNERS)
      × ((p : Pass H) → slice_get passes number ≡ Some p
      → is_in owner.number (live_owners (seen p)) ≡ true)

  -- the same in two: the block has its one pass, and that has seen that this owner lives
  abbrev pub HasBlockPass : List (Pass H) → Stand → Type 0
  HasBlockPass passes None = Unit {0}
  HasBlockPass passes (Some (number, owner)) = HasPass passes number owner
      × (owner.block.whole ≡ true) × (owner.block.most ≡ MAX_OWNERS)

  abbrev pub LivesOn : List (Pass H) → Stand → Type 0
  LivesOn passes None = Unit {0}
  LivesOn passes (Some (number, owner)) = (p : Pass H) → slice_get passes number ≡ Some p
      → is_in owner.number (live_owners (seen p)) ≡ true

  -- the pass with this number was taken out of these, or one of no block was made
  abbrev pub TakenOut : List (Pass H) → Option ℕ → Pass H → List (Pass H) → Type 0
  TakenOut passes None p left = IsPassOfNone p × (left ≡ passes)
  TakenOut passes (Some number) p left = (slice_get passes number ≡ Some p)
      × ((q : Pass H) → slice_set left number q ≡ slice_set passes number q)

  -- the passes, with this one back under its number
  abbrev pub put_back : List (Pass H) → Option ℕ → Pass H → List (Pass H)
  put_back passes None p = passes
  put_back passes (Some number) p = slice_set passes number p

  -- there is a pass with this number
  abbrev pub HasNumber : List (Pass H) → Option ℕ → Type 0
  HasNumber passes None = Unit {0}
  HasNumber passes (Some number) = number < length passes

  -- what the pass with this number has seen is legal
  abbrev pub IsAttested : List (Pass H) → Option ℕ → Type 0
  IsAttested passes None = Unit {0}
  IsAttested passes (Some number) = (p : Pass H) → slice_get passes number ≡ Some p → IsOfBlock p
      → IsLegal (pass_block p).most (pass_block p).began (seen p)
