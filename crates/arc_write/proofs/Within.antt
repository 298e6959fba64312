-- What fits in a window's places is done, and one of several writers stands where he stood.
use Rattle.std.proofs.Common.{◌≡◌, ◌≤◌, ◌+◌, ◌-◌, ℕ, Bool, true, false, List, [], ◌∷◌, length, refl}
use Rattle.std.proofs.Common.{ap, sym, ◌∙◌, subst, arith, if◌then◌else◌, None}
use Rattle.std.specs.Prelude.{nat_lt, not, ◌&&◌, ◌==◌, Result, Ok, Err, is_ok, OnOk, IfErr}
use Rattle.std.proofs.lemmas.Bool.{le-ltb, false≢true}
use Rattle.arc_owners.specs.declared.count.tokens.Pass.{Pass}
use Rattle.arc_owners.specs.declared.error.TryReserveError.{TryReserveError}
use Rattle.arc_block.specs.Given.{Given}
use Rattle.arc_block.specs.Place.{given_at}
use Rattle.arc_block.specs.Table.{bare}
use Rattle.arc_parts.specs.declared.room.Room.TheVariants.{Spare}
use Rattle.arc_parts.specs.Shared.{MakesSharedRoom, asks_alone, is_on_block}
use Rattle.arc_parts.specs.Window.{PartsView}
use Rattle.arc_parts.specs.Writers.{MakesRoom, capacity_of, room_at, room_for}
use Rattle.arc_parts.specs.Writers.{with_items, with_written}
use Rattle.arc_writer_parts.specs.Roles.{AsksRoom, PushesItems}
use Rattle.arc_writer_parts.proofs.Bare.{place_back, ungiven_written}
use Rattle.arc_write.specs.Within.{StandsIf, StaysWithin}

module _ {T M : Type 0} (additional : ℕ) (old : PartsView T M)
    (fits : length old.items + additional ≤ capacity_of old.role) where
  -- no more is asked than there are places for
  enough : nat_lt (capacity_of old.role - length old.items) additional ≡ false
  enough = le-ltb (capacity_of old.role - length old.items) additional (omega (arith, fits))

  spare : (drops : Bool) (item_size : ℕ) → room_for drops item_size old additional ≡ Spare
  spare drops item_size = ap (λ b. if not b then Spare else
      room_at drops (if item_size == 1 then 8 else 4) item_size old.place (length old.items)
      additional) enough

  unasked : asks_alone old additional ≡ false
  unasked = ap (λ b. b && is_on_block old.place) enough

  module _ {H : Type 0} (one_pass : Bool) (item_size : ℕ) (new : PartsView T M)
      (before after : Pass H) (reply : Result (Unit {0}) TryReserveError) where
    had-sole : (drops : Bool) → MakesRoom drops one_pass (room_for drops item_size old additional)
        old new before after reply → is_ok reply ≡ true
    had-sole drops made =
        let here = subst (λ room. MakesRoom drops one_pass room old new before after reply)
        (spare drops item_size) made in
        ap is_ok here.0

    had-several : MakesSharedRoom (asks_alone old additional) one_pass
        (room_for false item_size old additional) old new before after reply
        → (is_ok reply ≡ true) × (new.place ≡ old.place)
    had-several made =
        let here = subst (λ room. MakesSharedRoom false one_pass room old new before after reply)
        (spare false item_size) (subst (λ asks. MakesSharedRoom asks one_pass
        (room_for false item_size old additional) old new before after reply) unasked made) in
        (ap is_ok here.makes.0, ap (λ w. w.place) here.shared ∙ ap (λ w. w.place) here.makes.1)

-- where nothing was given of a writer who is one of several
module _ {T B M H : Type 0} (drops one_pass : Bool) (item_size additional : ℕ)
    (old new : PartsView T (Given B M)) (before after : Pass H) where
  had : (several : Bool) → (several ≡ true → given_at old.place ≡ None)
      → (several ≡ true → given_at new.place ≡ None)
      → (reply : Result (Unit {0}) TryReserveError)
      → length old.items + additional ≤ capacity_of old.role
      → AsksRoom several drops one_pass item_size additional old new before after reply
      → (is_ok reply ≡ true) × StandsIf several old new
  had false was is reply fits made = (
    had-sole additional (bare old) fits one_pass item_size (bare new) before after reply drops
        made,
    tt,
  )
  had true was is reply fits made =
      let here = had-several additional (bare old) fits one_pass item_size (bare new) before after
      reply made in
      (here.0, place_back old.place new.place (was refl) (is refl) here.1)

  -- one of several writers stands where he stood when he had room
  stands : (several : Bool) → (several ≡ true → given_at old.place ≡ None)
      → (several ≡ true → given_at new.place ≡ None) → (xs : List T)
      → length old.items + additional ≤ capacity_of old.role
      → PushesItems several drops one_pass item_size additional xs old new before after
      → StandsIf several old new
  stands false was is xs fits pushed = tt
  stands true was is xs fits pushed =
      let here = had-several additional (bare old) fits one_pass item_size pushed.between before
      after (Ok tt) pushed.makes in
      place_back old.place new.place (was refl) (is refl)
      (ap (λ (w : PartsView T M). w.place) pushed.pushed ∙ here.1)

module _ {T B M H : Type 0} (several drops one_pass : Bool) (item_size additional : ℕ)
    (old new : PartsView T (Given B M)) (before after : Pass H)
    (was : several ≡ true → given_at old.place ≡ None)
    (is : several ≡ true → given_at new.place ≡ None) where
  -- room
  pub room_within : (reply : Result (Unit {0}) TryReserveError)
      → AsksRoom several drops one_pass item_size additional old new before after reply
      → StaysWithin several additional old new (is_ok reply)
  room_within reply made = λ fits.
      had drops one_pass item_size additional old new before after several was is reply fits made

  -- a list that was pushed or refused
  pub extend_within : {E : Type 0} (xs : List T) (why : E → TryReserveError)
      (reply : Result (Unit {0}) E)
      → OnOk reply (PushesItems several drops one_pass item_size additional xs
      old new before after)
      → IfErr reply (λ e. AsksRoom several drops one_pass item_size additional
      old new before after (Err (why e)))
      → StaysWithin several additional old new (is_ok reply)
  extend_within xs why (Ok done) pushed refused = λ fits. (
    refl,
    stands drops one_pass item_size additional old new before after several was is xs fits pushed,
  )
  extend_within xs why (Err e) pushed refused = λ fits.
      absurd (false≢true (room_within (Err (why e)) refused fits).0)

  -- and an item
  pub push_within : (x : T) (reply : Result (Unit {0}) (TryReserveError × T))
      → OnOk reply (PushesItems several drops one_pass item_size additional (x ∷ [])
      old new before after)
      → IfErr reply (λ r. (r.1 ≡ x) × AsksRoom several drops one_pass item_size additional
      old new before after (Err r.0))
      → StaysWithin several additional old new (is_ok reply)
  push_within x (Ok done) pushed refused =
      extend_within (x ∷ []) (λ (r : TryReserveError × T). r.0) (Ok done) pushed tt
  push_within x (Err r) pushed refused =
      extend_within (x ∷ []) (λ (r : TryReserveError × T). r.0) (Err r) tt refused.1

module _ {T B M : Type 0} where
  -- items that are written leave one of several where he stands
  pub written_in_place : (several : Bool) (with_part : B → ℕ → List T → B)
      (w : PartsView T (Given B M)) → (several ≡ true → given_at w.place ≡ None)
      → several ≡ true → (items : List T) → with_written with_part w items ≡ with_items w items
  written_in_place several with_part w none shared items =
      sym (ungiven_written with_part w items (none shared))
