-- Items behind others leave the owner.
use Rattle.std.proofs.Common.{◌≡◌, Bool}
use Rattle.arc_owners.specs.count.Calls.{Leaves, IsPassOfNone, IsPassOf}
use Rattle.arc_block.specs.Place.{at_owner}
use Rattle.arc_write.proofs.Kept.{owner_after_write, owner_before_write}
use Rattle.arc_write.proofs.slice_mut.WriteWindow.known_after_writes.Goals as goal

pub returns-clause-pass : goal.returns-clause-pass
returns-clause-pass g c = λ old items pass more. owner_after_write (IsPassOfNone pass)
    (λ o. IsPassOf o.block pass) items old c.args.self.now more

pub returns-clause-left : goal.returns-clause-left
returns-clause-left g c = λ old items before after more. owner_before_write (after ≡ before)
    (λ o. (last : Bool) × Leaves o before after last) items old c.args.self.now more

pub returns-clause-block : goal.returns-clause-block
returns-clause-block g c = λ old items other more. owner_after_write (Unit {0})
    (λ o. at_owner other (Unit {0}) (λ its. o.block ≡ its.block)) items old c.args.self.now more
