-- Room that a writer of either role is refused leaves all as it was, but for the value of a
-- caller's buffer that was asked.
use Rattle.std.proofs.Common.{◌≡◌, ℕ, Bool, true, false, sym, ap, ◌∙◌}
use Rattle.std.specs.Prelude.{Result, Ok, Err, is_ok, IfErr, OnErr}
use Rattle.std.proofs.lemmas.Bool.{false≢true}
use Rattle.arc_owners.specs.declared.count.tokens.Pass.{Pass}
use Rattle.arc_owners.specs.declared.error.TryReserveError.{TryReserveError}
use Rattle.arc_block.specs.Given.{Given}
use Rattle.arc_block.specs.Table.{bare}
use Rattle.arc_parts.specs.declared.room.Room.{Room}
use Rattle.arc_parts.specs.declared.room.Room.TheVariants.{Spare, Behind, Front, Fresh}
use Rattle.arc_parts.specs.declared.room.Room.TheVariants.{Growth, Own, Refused}
use Rattle.arc_parts.specs.Shared.{MakesRoomAlone, MakesRoomIf, MakesSharedRoom}
use Rattle.arc_parts.specs.Shared.{as_shared, as_unique, asks_alone}
use Rattle.arc_parts.specs.Window.{PartsView}
use Rattle.arc_parts.specs.Writers.{room_for, MakesRoom}
use Rattle.arc_writer_parts.specs.Roles.{AsksRoom, HasWritersRole}

module _ {T M H : Type 0} (one_pass : Bool) (e : TryReserveError) where
  sole-stays : (drops : Bool) (room : Room) (old new : PartsView T M) (before after : Pass H)
      → MakesRoom drops one_pass room old new before after (Err e) → new ≡ old
  sole-stays drops Spare old new before after made = absurd (false≢true (ap is_ok made.0))
  sole-stays drops Behind old new before after made = absurd (false≢true (ap is_ok made.0))
  sole-stays drops Front old new before after made = absurd (false≢true (ap is_ok made.0))
  sole-stays drops (Fresh places) old new before after made = made.1
  sole-stays drops (Growth places) old new before after made = made.1
  sole-stays drops (Own additional) old new before after made = made.1
  sole-stays drops (Refused refusal) old new before after made = made.1

  module _ (room : Room) (old new : PartsView T M) (role : HasWritersRole true old.role) where
    alone-stays : (before after : Pass H)
        → MakesRoomAlone one_pass room old new before after (Err e) → new ≡ old
    alone-stays before after made = made.shared
        ∙ ap as_shared (sole-stays false room (as_unique old) made.sole before after made.makes)
        ∙ ap (λ r. record old { role = r }) (sym role)

    by-answer : (found : Bool) (before after : Pass H)
        → MakesRoomIf found one_pass room old new before after (Err e) → new ≡ old
    by-answer true before after made = alone-stays before after made
    by-answer false before after made = made.1

    several-stays : (asks : Bool) (before after : Pass H)
        → MakesSharedRoom asks one_pass room old new before after (Err e) → new ≡ old
    several-stays true before after made = by-answer made.0 made.1 after made.3
    several-stays false before after made = alone-stays before after made

module _ {T B M H : Type 0} (one_pass : Bool) (e : TryReserveError) where
  refused_stays : (several drops : Bool) (item_size additional : ℕ)
      (old new : PartsView T (Given B M)) (before after : Pass H)
      → HasWritersRole several old.role
      → AsksRoom several drops one_pass item_size additional old new before after (Err e)
      → bare new ≡ bare old
  refused_stays false drops item_size additional old new before after role made =
      sole-stays one_pass e drops (room_for drops item_size (bare old) additional) (bare old)
      (bare new) before after made
  refused_stays true drops item_size additional old new before after role made =
      several-stays one_pass e (room_for false item_size (bare old) additional) (bare old)
      (bare new) role (asks_alone (bare old) additional) before after made

module _ {T B M H : Type 0} (several drops one_pass : Bool) (item_size additional : ℕ)
    (old new : PartsView T (Given B M)) (before after : Pass H)
    (role : HasWritersRole several old.role) where
  -- a list that was pushed or refused
  pub extend_same : {E : Type 0} (why : E → TryReserveError) (reply : Result (Unit {0}) E)
      → IfErr reply (λ e. AsksRoom several drops one_pass item_size additional
      old new before after (Err (why e)))
      → OnErr reply (bare new ≡ bare old)
  extend_same why (Ok done) refused = tt
  extend_same why (Err e) refused = refused_stays one_pass (why e) several drops item_size
      additional old new before after role refused

  -- an item
  pub push_same : (x : T) (reply : Result (Unit {0}) (TryReserveError × T))
      → IfErr reply (λ r. (r.1 ≡ x) × AsksRoom several drops one_pass item_size additional
      old new before after (Err r.0))
      → OnErr reply (bare new ≡ bare old)
  push_same x (Ok done) refused = tt
  push_same x (Err r) refused = refused_stays one_pass r.0 several drops item_size
      additional old new before after role refused.1

  -- and room
  pub room_same : (reply : Result (Unit {0}) TryReserveError)
      → AsksRoom several drops one_pass item_size additional old new before after reply
      → OnErr reply (bare new ≡ bare old)
  room_same (Ok done) made = tt
  room_same (Err e) made = refused_stays one_pass e several drops item_size
      additional old new before after role made
