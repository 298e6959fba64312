-- It was asked for, and then taken.
use Rattle.std.proofs.Common.{true, subst}
use Rattle.arc_owners.specs.count.Calls.{Leaves}
use Rattle.arc_owners.proofs.memory.counted_box.CountedBox.try_into_value_as.Goals as goal

pub returns-in-Ok-clause-alone : goal.returns-in-Ok-clause-alone
returns-in-Ok-clause-alone g c = let did = c.in-Ok.ensures in record {
  middle = c.try_into_sole_as.new.pass;
  asked = did.entry;
  left = subst (λ o. Leaves o c.try_into_sole_as.new.pass c.into_value_as.new.pass true)
      did.sole.0 c.into_value_as.ensures.entry;
}
