-- Windows and the histories of their blocks, under the mark `Whole`, where each block has one pass:
-- how they belong together.
use Rattle.std.specs.Prelude.{◌≡◌, ℕ, ◌<◌, ◌==◌, true, List, length, Option, Some, None, filter_map}
use Rattle.std.specs.Prelude.{slice_get, if◌then◌else◌}
use Rattle.std.specs.List.Sorted.{IsPermutation}
use Rattle.arc_owners.specs.declared.count.tokens.Pass.{Pass}
use Rattle.arc_owners.specs.history.Histories.{live_owners}
use Rattle.arc_owners.specs.count.Calls.{Owner, IsPassFor, seen}

-- where a window stands: on the block with this number, as this owner. None for a window that is on
-- no block, or has gone
abbrev pub Stand : Type 0
Stand = Option (ℕ × Owner)

-- the owner's number, where a window stands on this block
abbrev pub number_on : ℕ → Stand → Option ℕ
number_on block None = None
number_on block (Some s) = if s.0 == block then Some s.1.number else None

-- the numbers of the owners of a block, in the order in which their windows stand
abbrev pub owners_on : ℕ → List Stand → List ℕ
owners_on block stands = filter_map (number_on block) stands

module _ {H : Type 0} where
  -- the pass of a block under `Whole` that so many owners may have at most
  pub record IsBlockPass (greatest : ℕ) (p : Pass H) : Type 0 where
    pub bound : p.trace.bound ≡ true
    pub whole : p.trace.block.whole ≡ true
    pub most : p.trace.block.most ≡ greatest

  -- the block with this number has its pass, and it is the block of this owner
  abbrev pub HasPass : List (Pass H) → ℕ → Owner → Type 0
  HasPass passes n o = (n < length passes)
      × ((p : Pass H) → slice_get passes n ≡ Some p → IsPassFor o p)

  -- the stands of the windows, and the passes of the blocks by their numbers, belong together
  pub record IsKept (greatest : ℕ) (stands : List Stand) (passes : List (Pass H)) : Type 0 where
    -- each window's block has its pass
    pub known : (i n : ℕ) (o : Owner) → slice_get stands i ≡ Some (Some (n, o)) → HasPass passes n o
    -- each pass is that of a block under `Whole`
    pub passes_fit : (n : ℕ) (p : Pass H) → slice_get passes n ≡ Some p → IsBlockPass greatest p
    -- the live owners of each block's history are those of its windows, each once, in any order
    pub live : (n : ℕ) (p : Pass H) → slice_get passes n ≡ Some p
        → IsPermutation (live_owners (seen p)) (owners_on n stands)
