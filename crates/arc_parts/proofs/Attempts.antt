-- Attempts at a place: those that were lost, and then one that wasn't, are one call.
use Rattle.std.proofs.Common.{ℕ, ◌==◌, ◌&&◌, Bool, true, false, if◌then◌else◌, List, length, Option}
use Rattle.std.proofs.Common.{Some, None}
use Rattle.std.specs.Prelude.{Result, Ok, Err, IfOk, IfErr}
use Rattle.arc_owners.specs.declared.count.tokens.Pass.{Pass}
use Rattle.arc_owners.specs.declared.error.OwnerError.{OwnerError}
use Rattle.arc_owners.specs.count.Calls.{Owner}
use Rattle.arc_owners.proofs.Wholes.{joins-again, joins-makes, joins-refuses, joins-pass}
use Rattle.arc_block.specs.Block.{Sort}
use Rattle.arc_block.specs.Place.{Place, nowhere, static_data, on_block, moved, part_place}
use Rattle.arc_parts.specs.Steps.{IsPassAt, MayJoinAt, Shares, Refuses}

module _ {M H : Type 0} where
  pub joins_at : (place : Place (Option Owner) M) (old middle new : Pass H)
      → MayJoinAt place old middle → MayJoinAt place middle new → MayJoinAt place old new
  joins_at nowhere old middle new lost again = absurd lost
  joins_at static_data old middle new lost again = absurd lost
  joins_at (on_block None offset facts) old middle new lost again = absurd lost
  joins_at (on_block (Some o) offset facts) old middle new lost again = joins-again o lost again

  pub joins_shares : (place there : Place (Option Owner) M) (old middle new : Pass H)
      → MayJoinAt place old middle → Shares place middle new there → Shares place old new there
  joins_shares nowhere there old middle new lost shares = absurd lost
  joins_shares static_data there old middle new lost shares = absurd lost
  joins_shares (on_block None offset facts) there old middle new lost shares = absurd lost
  joins_shares (on_block (Some o) offset facts) there old middle new lost shares =
      (shares.0, joins-makes o lost shares.1, shares.2)

  pub joins_refuses : (wants : Sort → Bool) (place : Place (Option Owner) M)
      (old middle new : Pass H) (e : OwnerError)
      → MayJoinAt place old middle → Refuses wants place middle new e
      → Refuses wants place old new e
  joins_refuses wants nowhere old middle new e lost why = absurd lost
  joins_refuses wants static_data old middle new e lost why = absurd lost
  joins_refuses wants (on_block None offset facts) old middle new e lost why = absurd lost
  joins_refuses wants (on_block (Some o) offset facts) old middle new e lost why =
      joins-refuses o old middle new (wants facts.sort) e lost why

  -- the same of a call's result
  pub joins_made : {W E : Type 0} (place_of : W → Place (Option Owner) M)
      (place : Place (Option Owner) M) (old middle new : Pass H) (r : Result W E)
      → MayJoinAt place old middle → IfOk r (λ w. Shares place middle new (place_of w))
      → IfOk r (λ w. Shares place old new (place_of w))
  joins_made place_of place old middle new (Ok w) lost shares =
      joins_shares place (place_of w) old middle new lost shares
  joins_made place_of place old middle new (Err e) lost none = none

  pub joins_refused : {W : Type 0} (wants : Sort → Bool)
      (place : Place (Option Owner) M) (old middle new : Pass H) (r : Result W OwnerError)
      → MayJoinAt place old middle → IfErr r (λ e. Refuses wants place middle new e)
      → IfErr r (λ e. Refuses wants place old new e)
  joins_refused wants place old middle new (Ok w) lost none = none
  joins_refused wants place old middle new (Err e) lost why =
      joins_refuses wants place old middle new e lost why

  -- the pass is of the same block afterwards
  pub joins_pass : (place : Place (Option Owner) M) (old middle : Pass H)
      → MayJoinAt place old middle → IsPassAt place old → IsPassAt place middle
  joins_pass nowhere old middle lost of = absurd lost
  joins_pass static_data old middle lost of = absurd lost
  joins_pass (on_block None offset facts) old middle lost of = absurd lost
  joins_pass (on_block (Some o) offset facts) old middle lost of = joins-pass o lost of

  from-moved : (start : ℕ) (place : Place (Option Owner) M) (old middle : Pass H)
      → MayJoinAt (moved start place) old middle → MayJoinAt place old middle
  from-moved start nowhere old middle lost = lost
  from-moved start static_data old middle lost = lost
  from-moved start (on_block None offset facts) old middle lost = lost
  from-moved start (on_block (Some o) offset facts) old middle lost = lost

  from-part : (nothing : Bool) (start : ℕ) (place : Place (Option Owner) M) (old middle : Pass H)
      → MayJoinAt (if nothing then nowhere else moved start place) old middle
      → MayJoinAt place old middle
  from-part true start place old middle lost = absurd lost
  from-part false start place old middle lost = from-moved start place old middle lost

  -- an attempt for a part goes by the owner of the whole
  pub part_joins : {T : Type 0} (has_static : Bool) (items : List T) (start : ℕ)
      (place : Place (Option Owner) M) (old middle : Pass H)
      → MayJoinAt (part_place has_static items start place) old middle
      → MayJoinAt place old middle
  part_joins has_static items start place old middle lost =
      from-part (has_static && (length items == 0)) start place old middle lost
