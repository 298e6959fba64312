-- What is kept tells the owner, and what else of the place has a code.
use Rattle.std.proofs.Common.{◌≡◌, Bool}
use Rattle.arc_owners.specs.count.Calls.{Leaves, IsPassOfNone, IsPassOf}
use Rattle.arc_block.specs.Place.{at_owner}
use Rattle.arc_write.proofs.Kept.{place_kept, spare_kept, owner_after, owner_before}
use Rattle.arc_write.proofs.slice_mut.WriteWindow.known_after_reads.Goals as goal

pub returns-clause-place : goal.returns-clause-place
returns-clause-place g c = λ n old kept within rest.
    place_kept old c.args.self.now kept n within rest

pub returns-clause-spare : goal.returns-clause-spare
returns-clause-spare g c = λ old kept. spare_kept old c.args.self.now kept

pub returns-clause-pass : goal.returns-clause-pass
returns-clause-pass g c = λ old pass kept.
    owner_after old c.args.self.now kept (IsPassOfNone pass) (λ o. IsPassOf o.block pass)

pub returns-clause-left : goal.returns-clause-left
returns-clause-left g c = λ old before after kept.
    owner_before old c.args.self.now kept (after ≡ before)
    (λ o. (last : Bool) × Leaves o before after last)

pub returns-clause-block : goal.returns-clause-block
returns-clause-block g c = λ old other kept.
    owner_after old c.args.self.now kept (Unit {0})
    (λ o. at_owner other (Unit {0}) (λ its. o.block ≡ its.block))
