-- By a pass of no block, and that of the new one.
use Rattle.std.proofs.Common.{false, refl, subst}
use Rattle.std.specs.Prelude.{IfSome}
use Rattle.arc_block.specs.Place.{at_owner}
use Rattle.arc_owners.specs.count.Calls.{IsFreshPass}
use Rattle.arc_write.proofs.slice_mut.several.ArcSliceMut+S+L+0+B+M+A+H.into_unique_if_last.Goals as goal

pub returns-in-Ok-Some-clause-pass : goal.returns-in-Ok-Some-clause-pass
returns-in-Ok-Some-clause-pass g c = let new = c.in-Ok-Some.new in record {
  first = record new { trace = record new.trace { bound = false } };
  last = new;
  new = refl;
  called = subst (λ last. IfSome last (λ r. at_owner r.0.place ⊥ (λ o. IsFreshPass o r.1)))
      c.in-Ok-Some.field-0-is c.in-Ok-Some.ensures.pass;
  there = c.show-in-Ok-Some.ensures;
}
