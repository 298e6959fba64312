-- Plain calls: by a new pass of the window's block, and where the first attempt was lost.
use Rattle.std.proofs.Common.{ℕ, Bool, List, Option}
use Rattle.std.specs.Prelude.{Result, Ok, Err, IfOk, IfErr}
use Rattle.arc_owners.specs.declared.count.tokens.Pass.{Pass}
use Rattle.arc_owners.specs.declared.error.OwnerError.{OwnerError}
use Rattle.arc_owners.specs.count.Invariant.{BlockId, Line}
use Rattle.arc_owners.specs.count.Calls.{Owner, IsPassOfNone, IsNewPass, IsOfBlock}
use Rattle.arc_owners.specs.count.Calls.{pass_block, pass_number, history_of}
use Rattle.arc_block.specs.Block.{Sort}
use Rattle.arc_block.specs.Place.{Place, at_owner}
use Rattle.arc_parts.specs.Steps.{MayJoinAt, Shares, Refuses}
use Rattle.arc_parts.proofs.Attempts.{joins_shares, joins_refuses}
use Rattle.arc_read.specs.Steps.{WithNewPass}

module _ {M H : Type 0} (real : BlockId → ℕ → List Line → Type 0)
    (here place : Place (Option Owner) M) (first lost last : Pass H)
    (new : at_owner here (IsPassOfNone first) (λ o. IsNewPass o first))
    (joined : MayJoinAt place first lost)
    (there : IsOfBlock last → real (pass_block last) (pass_number last) (history_of last)) where
  pub plainly_made : {W E : Type 0} (place_of : W → Place (Option Owner) M) (r : Result W E)
      → IfOk r (λ w. Shares place lost last (place_of w))
      → IfOk r (λ w. WithNewPass {H = H} real here (λ p q. Shares place p q (place_of w)))
  plainly_made place_of (Ok w) shares = record {
    first = first;
    last = last;
    new = new;
    called = joins_shares place (place_of w) first lost last joined shares;
    there = there;
  }
  plainly_made place_of (Err e) none = none

  pub plainly_refused : {W : Type 0} (wants : Sort → Bool) (r : Result W OwnerError)
      → IfErr r (λ e. Refuses wants place lost last e)
      → IfErr r (λ e. WithNewPass {H = H} real here (λ p q. Refuses wants place p q e))
  plainly_refused wants (Ok w) none = none
  plainly_refused wants (Err e) why = record {
    first = first;
    last = last;
    new = new;
    called = joins_refuses wants place first lost last e joined why;
    there = there;
  }
