-- What a call does to the pass of its window's block. A window that stands where no owners are
-- counted has a pass of no block, and its calls add nothing.
use Rattle.std.specs.Prelude.{◌≡◌, ℕ, ◌≤◌, ◌==◌, ◌&&◌, Bool, true, false, Option, Some}
use Rattle.std.specs.Prelude.{None, List, length}
use Rattle.arc_owners.specs.declared.error.OwnerError.{OwnerError}
use Rattle.arc_owners.specs.declared.error.OwnerError.TheVariants.{AllocError}
use Rattle.arc_owners.specs.declared.count.tokens.Pass.{Pass}
use Rattle.arc_owners.specs.history.Histories.{Beginning, Counted}
use Rattle.arc_owners.specs.count.Invariant.{BlockId, Line}
use Rattle.arc_owners.specs.count.Calls.{Owner, IsPassOf, IsPassOfNone, MayJoin, RefusesOwner}
use Rattle.arc_owners.specs.count.Calls.{IsFirst, IsFreshPass}
use Rattle.arc_owners.specs.count.Calls.{MakesAnother, Asks, EndsByItself, EndsShown}
use Rattle.arc_owners.specs.count.Calls.{TakesBlock, Leaves}
use Rattle.arc_block.specs.Block.{Sort, vector, BlockInfo, memory_info, raw_info}
use Rattle.arc_block.specs.Layouts.{vector_begins}
use Rattle.arc_block.specs.Place.{Place, nowhere, static_data, on_block, at_owner}
use Rattle.arc_block.specs.declared.block.TheConstants.{MAX_OWNERS}
use Rattle.arc_parts.specs.Window.{Window, made_window, IsWholeOf}

module _ {M H : Type 0} where
  -- a pass of the window's block, or of none
  abbrev pub IsPassAt : Place (Option Owner) M → Pass H → Type 0
  IsPassAt place p = at_owner place (IsPassOfNone p) (λ o. IsPassOf o.block p)

  -- the window's owner ended with a new pass, which this one is afterwards; on no block it is of
  -- none
  abbrev pub EndsAt : Place (Option Owner) M → Pass H → Type 0
  EndsAt place after =
      at_owner place (IsPassOfNone after) (λ o. (last : Bool) × EndsByItself o after last)

  -- An attempt failed of the owner that stands at a place. On no block none fails.
  abbrev pub MayJoinAt : Place (Option Owner) M → Pass H → Pass H → Type 0
  MayJoinAt place old new = at_owner place ⊥ (λ o. MayJoin o old new)

  -- a window was made that stands where this one does, as another owner of the same block
  abbrev pub Shares : Place (Option Owner) M → Pass H → Pass H → Place (Option Owner) M → Type 0
  Shares nowhere old new there = (there ≡ nowhere) × (new ≡ old)
  Shares static_data old new there = (there ≡ static_data) × (new ≡ old)
  Shares (on_block None offset facts) old new there =
      (there ≡ on_block None offset facts) × (new ≡ old)
  Shares (on_block (Some o) offset facts) old new there = (other : Owner)
      × MakesAnother o old new other × (there ≡ on_block (Some other) offset facts)

  -- No window was made. Either the count was at its greatest; or the layout lets a clone on a block
  -- of this sort be refused for memory, and it was, and nothing was added.
  abbrev pub Refuses : (Sort → Bool) → Place (Option Owner) M → Pass H → Pass H → OwnerError
      → Type 0
  Refuses wants nowhere old new e = ⊥
  Refuses wants static_data old new e = ⊥
  Refuses wants (on_block None offset facts) old new e =
      (e ≡ AllocError) × (wants facts.sort ≡ true) × (new ≡ old)
  Refuses wants (on_block (Some o) offset facts) old new e =
      RefusesOwner (wants facts.sort) o old new e

-- what a drop leaves of the owner that stands at a place, where a block has many passes
abbrev pub EndsShownAt : {M : Type 0} → (H : Type 0) → (BlockId → ℕ → List Line → Type 0)
    → Place (Option Owner) M → Type 0
EndsShownAt H real place = at_owner place (Unit {0}) (λ o. EndsShown H real o)

module _ {T M : Type 0} where
  -- a window was made of a list: on a block it is its first owner
  pub record Makes (has_static drops one_pass : Bool) (items : List T) (w : Window T M)
      : Type 0 where
    pub owner : Owner
    pub made : w ≡ made_window has_static drops owner items
    pub first : at_owner w.place (Unit {0}) (λ o. IsFirst MAX_OWNERS one_pass Counted o)

  -- a window was made of all items of a new block, of which this is known, and whose word begins
  -- so: as its first owner
  pub record MakesOver (beginning : Beginning) (one_pass : Bool) (info : BlockInfo M)
      (items : List T) (w : Window T M) : Type 0 where
    pub owner : Owner
    pub made : w ≡ record { items = items; place = on_block (Some owner) 0 info }
    pub first : IsFirst MAX_OWNERS one_pass beginning owner

  -- a window was made of all items of a caller's buffer behind an `Arc`: on that, where it is a
  -- block by itself, and else as the first owner of a new block
  pub record MakesOverRaw (by_itself one_pass : Bool) (items : List T) (given : M) (w : Window T M)
      : Type 0 where
    pub alone : by_itself ≡ true → w ≡ record {
      items = items;
      place = on_block None 0 (raw_info (length items) (Some given));
    }
    pub counted : by_itself ≡ false
        → MakesOver Counted one_pass (raw_info (length items) (Some given)) items w

  -- a window was made of a vector of so many places: of none, as one of a list of no items
  pub record MakesOfVec (has_static : Bool) (lone : ℕ → ℕ → Bool) (drops one_pass : Bool)
      (items : List T) (places : ℕ) (w : Window T M) : Type 0 where
    pub none : places ≡ 0 → Makes has_static drops one_pass items w
    pub some : 1 ≤ places
        → MakesOver (vector_begins lone drops places items) one_pass
        (memory_info vector drops places (length items)) items w

-- a vector of so many places needs a block
abbrev pub NeedsVecBlock : (has_static : Bool) → (places : ℕ) → Type 0
NeedsVecBlock has_static places = (has_static && (places == 0)) ≡ false

module _ {M H : Type 0} where
  -- What a window's block kept was taken out of it: the owner was alone, and is its last. An `Arc`
  -- that is a block by itself has no owner, and nothing is asked.
  abbrev pub TakesAt : Place (Option Owner) M → Pass H → Pass H → Type 0
  TakesAt place old new = at_owner place (new ≡ old) (λ o. TakesBlock o old new)

  -- It was refused. Where all but the count was as wanted, the count was asked and said no. Else
  -- nothing was asked.
  pub record RefusesTaking (wanted : Type 0) (place : Place (Option Owner) M) (old new : Pass H)
      : Type 0 where
    pub asked : wanted → at_owner place ⊥ (λ o. Asks o old new false)
    pub unasked : ¬ wanted → new ≡ old

module _ {M H : Type 0} where
  -- The owner that stands at a place ended by one step, and was the last one or not. An `Arc` that
  -- is a block by itself has no owner: nothing is added, and its window gets it, as a last owner
  -- does.
  abbrev pub LeavesLastAt : Place (Option Owner) M → (old new : Pass H) → (last : Bool) → Type 0
  LeavesLastAt place old new last =
      at_owner place ((last ≡ true) × (new ≡ old)) (λ o. Leaves o old new last)

module _ {T M H : Type 0} where
  -- an array was refused: where only the count could decide, it was asked and said no, and else
  -- nothing was asked
  pub record RefusesArray (size : ℕ) (w : Window T M) (old new : Pass H) : Type 0 where
    pub asked : IsWholeOf size w → at_owner w.place ⊥ (λ o. Asks o old new false)
    pub unasked : ¬ IsWholeOf size w → new ≡ old

  -- the pass, which was of no block, is that of the window's new block, in which nothing has
  -- happened yet
  abbrev pub Begins : Window T M → Pass H → Pass H → Type 0
  Begins w old new = at_owner w.place (new ≡ old) (λ o. IsFreshPass o new)
