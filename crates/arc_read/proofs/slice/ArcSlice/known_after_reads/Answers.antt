-- What is kept tells the owner, and what else of the place has a code.
use Rattle.std.proofs.Common.{◌≡◌, Bool}
use Rattle.arc_owners.specs.count.Calls.{Leaves, IsPassOfNone, IsPassOf}
use Rattle.arc_read.proofs.Kept.{place_after_read, owner_after_read, owner_before_read}
use Rattle.arc_read.proofs.slice.ArcSlice.known_after_reads.Goals as goal

pub returns-clause-place : goal.returns-clause-place
returns-clause-place g c = λ n place items kept within rest.
    place_after_read n place _ items _ kept within rest

pub returns-clause-pass : goal.returns-clause-pass
returns-clause-pass g c = λ place items pass kept.
    owner_after_read place _ items _ kept (IsPassOfNone pass) (λ o. IsPassOf o.block pass)

pub returns-clause-left : goal.returns-clause-left
returns-clause-left g c = λ place items before after kept.
    owner_before_read place _ items _ kept (after ≡ before) (λ o. (last : Bool)
    × Leaves o before after last)
