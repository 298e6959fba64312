-- What writers of either role do: the relation of a sole writer, and that of one of several
-- (`several`). Each computes to the one or the other.
use Rattle.std.specs.Prelude.{◌≡◌, ℕ, Bool, true, false, List, Result, Option}
use Rattle.arc_owners.specs.declared.error.TryReserveError.{TryReserveError}
use Rattle.arc_owners.specs.declared.count.tokens.Pass.{Pass}
use Rattle.arc_owners.specs.count.Calls.{Owner, Leaves, AsksAndLeaves}
use Rattle.arc_block.specs.Given.{Given}
use Rattle.arc_block.specs.Place.{Place, at_owner}
use Rattle.arc_block.specs.Table.{Role, sole_writer, one_writer_of_several, bare}
use Rattle.arc_parts.specs.Shared.{MakesSharedRoom, PushesShared, ReclaimsShared, LeavesAt}
use Rattle.arc_parts.specs.Shared.{asks_alone, IsSharedPlace}
use Rattle.arc_parts.specs.Steps.{TakesAt, RefusesTaking}
use Rattle.arc_parts.specs.Window.{PartsView}
use Rattle.arc_parts.specs.Writers.{capacity_of, room_for, IsWriterPlace, MakesRoom, Pushes}
use Rattle.arc_parts.specs.Writers.{Reclaims}

-- where a writer stands
abbrev pub StandsAsWriter : {N M : Type 0} → (several : Bool) → Place (Option N) M → Type 0
StandsAsWriter false place = IsWriterPlace place
StandsAsWriter true place = IsSharedPlace place

-- what he is: a sole writer, or one of several
abbrev pub HasWritersRole : (several : Bool) → Role → Type 0
HasWritersRole false role = role ≡ sole_writer (capacity_of role)
HasWritersRole true role = role ≡ one_writer_of_several (capacity_of role)

-- What becomes of a caller's buffer that grows, or to which items are pushed, is said of its list
-- and its places: so these relations are of the rows without the buffer's value (`bare`).
module _ {T B M H : Type 0} where
  -- Room was asked for, for so many items more of this size. One of several writers has to be alone
  -- where he hasn't the places.
  abbrev pub AsksRoom : (several drops one_pass : Bool) → (item_size additional : ℕ)
      → (old new : PartsView T (Given B M)) → (before after : Pass H)
      → Result (Unit {0}) TryReserveError → Type 0
  AsksRoom false drops one_pass item_size additional old new before after reply =
      MakesRoom drops one_pass (room_for drops item_size (bare old) additional)
      (bare old) (bare new) before after reply
  AsksRoom true drops one_pass item_size additional old new before after reply =
      MakesSharedRoom (asks_alone (bare old) additional) one_pass
      (room_for false item_size (bare old) additional) (bare old) (bare new) before after reply

  -- These items, as many as that, were pushed behind the others, once there was room for them.
  abbrev pub PushesItems : (several drops one_pass : Bool) → (item_size additional : ℕ) → List T
      → (old new : PartsView T (Given B M)) → (before after : Pass H) → Type 0
  PushesItems false drops one_pass item_size additional xs old new before after =
      Pushes drops one_pass (room_for drops item_size (bare old) additional) xs
      (bare old) (bare new) before after
  PushesItems true drops one_pass item_size additional xs old new before after =
      PushesShared (asks_alone (bare old) additional) one_pass
      (room_for false item_size (bare old) additional) xs (bare old) (bare new) before after

  -- Room without memory was asked for: whether there is some, and the window with it. A sole writer
  -- adds nothing.
  abbrev pub ReclaimsRoom : (several drops : Bool) → (item_size additional : ℕ)
      → (old new : PartsView T (Given B M)) → (before after : Pass H) → (found : Bool) → Type 0
  ReclaimsRoom false drops item_size additional old new before after found =
      Reclaims (room_for drops item_size (bare old) additional) (bare old) (bare new) found
      × (after ≡ before)
  ReclaimsRoom true drops item_size additional old new before after found =
      ReclaimsShared (asks_alone (bare old) additional)
      (room_for false item_size (bare old) additional) (bare old) (bare new) before after found

module _ {M H : Type 0} where
  -- The owner that stood here ended. A sole writer is the last one.
  abbrev pub ReleasesAt : (several : Bool) → Place (Option Owner) M → (before after : Pass H)
      → Type 0
  ReleasesAt false place before after =
      at_owner place (after ≡ before) (λ o. Leaves o before after true)
  ReleasesAt true place before after = LeavesAt place before after

  -- The owner that stood here ended, and one of several asked first whether he is alone.
  abbrev pub ReleasesHintedAt : (several : Bool) → Place (Option Owner) M
      → (before after : Pass H) → Type 0
  ReleasesHintedAt false place before after =
      at_owner place (after ≡ before) (λ o. Leaves o before after true)
  ReleasesHintedAt true place before after =
      at_owner place (after ≡ before) (λ o. AsksAndLeaves o before after)

  -- What the block kept was taken out of it: its only owner ended, and one of several asked first
  -- whether he is alone.
  abbrev pub TakesOutAt : (several : Bool) → Place (Option Owner) M → (before after : Pass H)
      → Type 0
  TakesOutAt false place before after = at_owner place ⊥ (λ o. Leaves o before after true)
  TakesOutAt true place before after = TakesAt place before after

  -- It was refused. Of one of several the count was asked, where only that could decide.
  abbrev pub RefusesTakingOut : (several : Bool) → (wanted : Type 0) → Place (Option Owner) M
      → (before after : Pass H) → Type 0
  RefusesTakingOut false wanted place before after = (¬ wanted) × (after ≡ before)
  RefusesTakingOut true wanted place before after = RefusesTaking wanted place before after
