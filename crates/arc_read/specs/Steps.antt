-- The plain forms of a window's calls: a call with a new pass of the window's block.
use Rattle.std.specs.Prelude.{ℕ, Option, List}
use Rattle.arc_owners.specs.declared.count.tokens.Pass.{Pass}
use Rattle.arc_owners.specs.count.Invariant.{BlockId, Line}
use Rattle.arc_owners.specs.count.Calls.{Owner, IsOfBlock, IsPassOfNone, IsNewPass}
use Rattle.arc_owners.specs.count.Calls.{pass_block, pass_number, history_of}
use Rattle.arc_block.specs.Place.{Place, at_owner}

-- A call was made with a new pass of the window's block, and the last pass is one that is there: so
-- much of the block's history the call has really seen. A call that makes a window says so of
-- nowhere: its first pass is of no block.
pub record WithNewPass {M H : Type 0} (real : BlockId → ℕ → List Line → Type 0)
    (place : Place (Option Owner) M) (call : Pass H → Pass H → Type 0) : Type 0 where
  pub first : Pass H
  pub last : Pass H
  pub new : at_owner place (IsPassOfNone first) (λ o. IsNewPass o first)
  pub called : call first last
  pub there : IsOfBlock last → real (pass_block last) (pass_number last) (history_of last)
