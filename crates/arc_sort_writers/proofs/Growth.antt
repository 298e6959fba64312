-- What a caller's buffer was asked for.
use Rattle.std.proofs.Common.{◌≡◌, ℕ, List, length, refl, sym, ap, ◌∙◌, subst}
use Rattle.std.specs.Prelude.{Result, Ok, Err, OnOk, IfErr}
use Rattle.arc_owners.specs.declared.error.TryReserveError.{TryReserveError}
use Rattle.arc_parts.specs.declared.room.Room.{Room}
use Rattle.arc_parts.specs.declared.room.Room.TheVariants.{Spare, Fresh, Behind, Front}
use Rattle.arc_parts.specs.declared.room.Room.TheVariants.{Growth, Own, Refused}
use Rattle.arc_sort_writers.specs.Growth.{IfAsked, MayAnswer, AsksForRoom}
use Rattle.arc_block.specs.Given.{Given}
use Rattle.arc_block.specs.Place.{Place, nowhere, static_data, on_block, bare_place}
use Rattle.arc_block.specs.Table.{bare}
use Rattle.arc_parts.specs.Room.{IfOwn}
use Rattle.arc_parts.specs.Window.{PartsView}
use Rattle.arc_block.specs.Place.{size_at}
use Rattle.arc_parts.specs.Writers.{with_full, with_more}

-- where no buffer is asked, whatever holds of what one is asked for
pub never_asked : (room : Room) (P : ℕ → Type 0) → IfOwn room ⊥ → IfAsked room P
never_asked (Own additional) P none = absurd none
never_asked Spare P none = tt
never_asked (Fresh places) P none = tt
never_asked Behind P none = tt
never_asked Front P none = tt
never_asked (Growth places) P none = tt
never_asked (Refused e) P none = tt

-- a block has as many places when more of them are full
size-full : {N M : Type 0} (len more : ℕ) (place : Place N M)
    → size_at (with_full len more place) ≡ size_at place
size-full len more nowhere = refl
size-full len more static_data = refl
size-full len more (on_block block offset info) = refl

-- and whatever its buffer is
size-bare : {N B M : Type 0} (place : Place N (Given B M))
    → size_at (bare_place place) ≡ size_at place
size-bare nowhere = refl
size-bare static_data = refl
size-bare (on_block block offset info) = refl

module _ {T B : Type 0} (list : B → List T) (places : B → ℕ) (grows : B → ℕ → ℕ → Type 0)
    (refuses : B → ℕ → TryReserveError → Type 0) where
  -- what a buffer may answer, by the answer
  pub may_answer : (b : B) (additional size : ℕ) (reply : Result (Unit {0}) TryReserveError)
      → OnOk reply (grows b additional size) → IfErr reply (λ e. refuses b additional e)
      → MayAnswer list places grows refuses b additional size reply
  may_answer b additional size (Ok done) grown refused = grown
  may_answer b additional size (Err e) grown refused = refused

  -- what was asked when room was made stays so when the room is filled
  pub asked_pushed : {M : Type 0} (room : Room) (w between new : PartsView T (Given B M))
      (xs : List T) (reply : Result (Unit {0}) TryReserveError)
      → bare new ≡ with_more xs (bare between)
      → IfAsked room
      (λ k. AsksForRoom list places grows refuses w k (size_at between.place) reply)
      → IfAsked room (λ k. AsksForRoom list places grows refuses w k (size_at new.place) reply)
  asked_pushed {M} room w between new xs reply is asked =
      let same : size_at new.place ≡ size_at between.place =
      sym (size-bare new.place)
      ∙ ap (λ (p : PartsView T M). size_at p.place) is
      ∙ size-full (length between.items) (length xs) (bare_place between.place)
      ∙ size-bare between.place in
      subst (λ n. IfAsked room (λ k. AsksForRoom list places grows refuses w k n reply)) (sym same)
      asked
