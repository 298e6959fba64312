-- What a command leaves as it was: the rows of all windows but those that it is on, where these
-- stand, and the histories of all blocks but those on which those stand.
use Rattle.std.specs.Prelude.{◌≡◌, ◌⊎◌, ℕ, List, [], ◌∷◌, Option, Some, slice_get}
use Rattle.arc_owners.specs.declared.count.tokens.Pass.{Pass}
use Rattle.arc_owners.specs.count.Calls.{Owner}
use Rattle.arc_block.specs.Owned.{Stand}
use Rattle.arc_block.specs.Table.{Row, Table}
use Rattle.arc_commands.specs.Additions.{Standing, stand_in}
use Rattle.arc_commands.specs.Commands.{ListCmd}
use Rattle.arc_commands.specs.State.{State}
use Rattle.arc_commands.specs.Step.{other_of, window_of}

-- a command is on the window with this number, as the first or as the other; none of these is
abbrev pub IsOn : {T M : Type 0} → ListCmd T M → ℕ → Type 0
IsOn c i = (window_of c ≡ Some i) ⊎ (other_of c ≡ Some i)

abbrev pub NoneIsOn : {T M : Type 0} → List (ListCmd T M) → ℕ → Type 0
NoneIsOn [] i = Unit {0}
NoneIsOn (c ∷ cs) i = (¬ IsOn c i) × NoneIsOn cs i

-- what stands under this number, a row or that it has gone, stands there afterwards
abbrev pub RowStays : {T M : Type 0} → ℕ → (old new : Table T M) → Type 0
RowStays {T} {M} j old new = (row : Option (Row T M)) → slice_get old.rows j ≡ Some row
    → slice_get new.rows j ≡ Some row

-- a command changes the row of no other window
abbrev pub OtherRowsStay : {T M : Type 0} → ListCmd T M → (old new : Table T M) → Type 0
OtherRowsStay c old new = (j : ℕ) → ¬ IsOn c j → RowStays j old new

module _ {H : Type 0} where
  -- the command is on a window that stands on the block with this number
  abbrev pub IsOnBlock : {T M : Type 0} → ListCmd T M → Standing H → ℕ → Type 0
  IsOnBlock c t n = (i : ℕ) × (o : Owner) × IsOn c i × (stand_in t i ≡ Some (n, o))

  -- Each other window stands where it stood, and nothing was added to the history of a block on
  -- which the command's window doesn't stand: its pass is what it was.
  pub record OtherHistoriesStay {T M : Type 0} (c : ListCmd T M) (old new : Standing H)
      : Type 0 where
    pub stands : (j : ℕ) (stand : Stand) → ¬ IsOn c j → slice_get old.stands j ≡ Some stand
        → slice_get new.stands j ≡ Some stand
    pub passes : (n : ℕ) (pass : Pass H) → ¬ IsOnBlock c old n → slice_get old.passes n ≡ Some pass
        → slice_get new.passes n ≡ Some pass

-- a command changes no other row, and adds nothing to another block's history
pub record OthersStay {T M : Type 0} (c : ListCmd T M) (old new : State T M) : Type 0 where
  pub rows : OtherRowsStay c old.table new.table
  pub histories : OtherHistoriesStay c old.standing new.standing
