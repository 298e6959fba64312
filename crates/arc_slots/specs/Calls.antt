-- What a call of a slot does to the passes of a table: it goes through the pass of the block on
-- which the slot's window stands. All other passes stay.
use Rattle.std.specs.Prelude.{◌≡◌, ℕ, Bool, true, false, List, [], Option, Some, None}
use Rattle.std.specs.Prelude.{slice_get, slice_set}
use Rattle.arc_owners.specs.declared.count.tokens.Pass.{Pass}
use Rattle.arc_owners.specs.count.Calls.{Owner, IsPassFor, MakesAnother, FindsFull, Appends, Asks}
use Rattle.arc_owners.specs.count.Calls.{TakesBlock}
use Rattle.arc_owners.specs.count.Invariant.{Line}
use Rattle.arc_owners.specs.declared.error.OwnerError.{OwnerError}
use Rattle.arc_owners.specs.declared.error.OwnerError.TheVariants.{AllocError, CountFull}
use Rattle.arc_block.specs.Block.{Sort, native, vector, buffer, raw}
use Rattle.arc_block.specs.Owned.{Stand}
use Rattle.arc_block.specs.Place.{Place, nowhere, static_data, on_block}
use Rattle.arc_block.specs.Table.{block_of}
use Rattle.arc_commands.specs.Changes.{of_clones, is_wanting}

module _ {H : Type 0} where
  -- a call by an owner went through the pass of its block, which has this number; the others stay
  pub record Through (number : ℕ) (owner : Owner) (old new : List (Pass H))
      (call : Owner → Pass H → Pass H → Type 0) : Type 0 where
    pub before : Pass H
    pub after : Pass H
    pub was : slice_get old number ≡ Some before
    -- it is the block's one pass, so nothing came between
    pub pass : IsPassFor owner before
    pub whole : owner.block.whole ≡ true
    pub called : call owner before after
    pub others : new ≡ slice_set old number after

  -- a call by a window that stands here; where it stands on nothing, nothing is added
  abbrev pub Along : Stand → List (Pass H) → List (Pass H)
      → (Owner → Pass H → Pass H → Type 0) → Type 0
  Along None old new call = new ≡ old
  Along (Some (number, owner)) old new call = Through number owner old new call

  -- a window was made beside one that stands here: on its block, as another owner, or on nothing
  abbrev pub Beside : Stand → List (Pass H) → List (Pass H) → Stand → Type 0
  Beside s old new None = new ≡ old
  Beside None old new (Some made) = ⊥
  Beside (Some (number, owner)) old new (Some made) =
      (made.0 ≡ number) × Through number owner old new (λ o p q. MakesAnother o p q made.1)

  -- A call by a window that stands here, which may ask whether it is alone: where it does, the
  -- count was asked and said so, and else nothing was added.
  abbrev pub MayAsk : (asks : Bool) → Stand → List (Pass H) → List (Pass H) → Bool → Type 0
  MayAsk true here old new found = Along here old new (λ o p q. Asks o p q found)
  MayAsk false here old new found = new ≡ old

  -- Whether no other owner has a part of the block of this sort on which a window stands. The count
  -- is asked; a caller's buffer is asked after it, and may say no though the window is alone; of an
  -- `Arc` no count is asked.
  abbrev pub AsksSort : Sort → Stand → List (Pass H) → List (Pass H) → Bool → Type 0
  AsksSort native here old new answer = Along here old new (λ o p q. Asks o p q answer)
  AsksSort vector here old new answer = Along here old new (λ o p q. Asks o p q answer)
  AsksSort (buffer writable) here old new answer = (alone : Bool)
      × Along here old new (λ o p q. Asks o p q alone) × (answer ≡ true → alone ≡ true)
  AsksSort raw here old new answer = (answer ≡ false) × (new ≡ old)

  -- at a place: on no block the answer is no, and so where no owners are counted
  abbrev pub AsksPlace : {M : Type 0} → Place (Option ℕ) M → Stand → List (Pass H)
      → List (Pass H) → Bool → Type 0
  AsksPlace nowhere here old new answer = (answer ≡ false) × (new ≡ old)
  AsksPlace static_data here old new answer = (answer ≡ false) × (new ≡ old)
  AsksPlace (on_block None offset info) here old new answer = (answer ≡ false) × (new ≡ old)
  AsksPlace (on_block (Some number) offset info) here old new answer =
      AsksSort info.sort here old new answer

  -- what a window stood on was taken out: it was as wanted, and the window was alone, and the last
  abbrev pub TakesOut : (wanted : Bool) → Stand → List (Pass H) → List (Pass H) → Type 0
  TakesOut wanted here old new = (wanted ≡ true) × Along here old new TakesBlock

  -- It was refused: where it was as wanted only the count could decide, and said no. Where no
  -- owners are counted it wasn't.
  pub record RefusesOut (wanted : Bool) (here : Stand) (old new : List (Pass H)) : Type 0 where
    pub asked : MayAsk wanted here old new false
    pub counted : here ≡ None → wanted ≡ false

  -- nothing was added
  abbrev pub AddsNothing : Owner → Pass H → Pass H → Type 0
  AddsNothing owner old new = (before : List Line) × Appends owner.block old new before []

  -- the block on which a window stands had as many owners as it may have, and it is the block of
  -- this place
  abbrev pub FindsFullAt : {M : Type 0} → Place (Option ℕ) M → Stand → List (Pass H)
      → List (Pass H) → Type 0
  FindsFullAt place None old new = ⊥
  FindsFullAt place (Some (number, owner)) old new = (block_of place ≡ Some number)
      × Through number owner old new FindsFull

  -- no window was made at this place, beside one that stands here: why, and what was added
  abbrev pub RefusesAt : {M : Type 0} → (Sort → Bool) → Place (Option ℕ) M → Stand → List (Pass H)
      → List (Pass H) → OwnerError → Type 0
  RefusesAt wants place s old new CountFull = FindsFullAt place s old new
  RefusesAt wants place s old new AllocError = (is_wanting of_clones wants place ≡ true)
      × Along s old new AddsNothing
