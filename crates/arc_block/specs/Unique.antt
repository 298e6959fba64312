-- Whether no other owner has a part of a block, by its sort.
use Rattle.std.specs.Prelude.{◌≡◌, ◌+◌, Bool, true, false, Option, Some, None, List, length}
use Rattle.arc_owners.specs.declared.count.tokens.Pass.{Pass}
use Rattle.arc_owners.specs.count.Calls.{Owner, Asks}
use Rattle.arc_buffer.specs.Slice.{sub}
use Rattle.arc_block.specs.Block.{Sort, native, vector, buffer, raw}
use Rattle.arc_block.specs.Place.{Place, nowhere, static_data, on_block}
use Rattle.arc_block.specs.Place.{offset_at, buffer_at}
use Rattle.arc_block.specs.Given.{Given, buffer_of}

module _ {H : Type 0} where
  -- The count is asked. A caller's buffer is asked after it, and may say no though the owner is
  -- alone; of an `Arc` no count is asked, and the answer is no.
  abbrev pub AsksUnique : Sort → Owner → Pass H → Pass H → Bool → Type 0
  AsksUnique native o old new answer = Asks o old new answer
  AsksUnique vector o old new answer = Asks o old new answer
  AsksUnique (buffer writable) o old new answer =
      (alone : Bool) × Asks o old new alone × (answer ≡ true → alone ≡ true)
  AsksUnique raw o old new answer = (answer ≡ false) × (new ≡ old)

  -- at a place: on no block the answer is no, and so on an `Arc` that is a block by itself
  abbrev pub AsksUniqueAt : {M : Type 0} → Place (Option Owner) M → Pass H → Pass H → Bool → Type 0
  AsksUniqueAt nowhere old new answer = (answer ≡ false) × (new ≡ old)
  AsksUniqueAt static_data old new answer = (answer ≡ false) × (new ≡ old)
  AsksUniqueAt (on_block None offset facts) old new answer = (answer ≡ false) × (new ≡ old)
  AsksUniqueAt (on_block (Some o) offset facts) old new answer =
      AsksUnique facts.sort o old new answer

  -- Of a caller's buffer the answer is the buffer's own where the count says that the owner is
  -- alone, and no where it doesn't. Of other blocks this says nothing.
  abbrev pub AsksOwn : (own : Bool → Type 0) → Sort → Owner → Pass H → Pass H → Bool → Type 0
  AsksOwn own native o old new answer = Unit {0}
  AsksOwn own vector o old new answer = Unit {0}
  AsksOwn own (buffer writable) o old new answer = (alone : Bool) × Asks o old new alone
      × (alone ≡ true → own answer) × (alone ≡ false → answer ≡ false)
  AsksOwn own raw o old new answer = Unit {0}

  -- at a place
  abbrev pub AsksOwnAt : {M : Type 0} → (own : Bool → Type 0) → Place (Option Owner) M
      → (old new : Pass H) → (answer : Bool) → Type 0
  AsksOwnAt own nowhere old new answer = Unit {0}
  AsksOwnAt own static_data old new answer = Unit {0}
  AsksOwnAt own (on_block None offset facts) old new answer = Unit {0}
  AsksOwnAt own (on_block (Some o) offset facts) old new answer =
      AsksOwn own facts.sort o old new answer

module _ {T B M : Type 0} (list : B → List T) (says : B → Bool → Type 0) where
  -- the answer is the own one of the buffer that was given, which has these items
  pub record IsOwnAnswer (given : Option (Given B M)) (items : List T) (answer : Bool)
      : Type 0 where
    pub buffer : B
    pub itself : buffer_of given ≡ Some buffer
    pub whole : list buffer ≡ items
    pub own : says buffer answer

  -- of the block's, of which the list that stands there is the part
  pub record IsAnswerAt {N : Type 0} (place : Place N (Given B M)) (items : List T) (answer : Bool)
      : Type 0 where
    pub buffer : B
    pub itself : buffer_at place ≡ Some buffer
    pub part : sub (list buffer) (offset_at place) (offset_at place + length items) ≡ items
    pub own : says buffer answer
