-- Attempts that were lost, and then one that wasn't, are one call.
use Rattle.std.proofs.Common.{refl}
use Rattle.arc_parts.proofs.Attempts.{joins_at, joins_made, joins_refused}
use Rattle.arc_read.proofs.slice.ArcSlice.try_clone_as.Goals as goal

pub loop-preserved : goal.loop-preserved
loop-preserved g c = (
  tt,
  tt,
  refl,
  joins_at c.args.self.now.place _ _ _ c.loop.invariant.3
      c.in_default-try_clone_once_as.ensures.again,
)

pub returns-in-Some-try_clone_once_as-clause-items :
    goal.returns-in-Some-try_clone_once_as-clause-items
returns-in-Some-try_clone_once_as-clause-items g c = c.in-Some-try_clone_once_as.ensures.items

pub returns-in-Some-try_clone_once_as-clause-place :
    goal.returns-in-Some-try_clone_once_as-clause-place
returns-in-Some-try_clone_once_as-clause-place g c =
    joins_made (λ window. window.place) c.args.self.now.place _ _ _ c.in-Some-try_clone_once_as.made
    c.loop.invariant.3 c.in-Some-try_clone_once_as.ensures.place

pub returns-in-Some-try_clone_once_as-clause-refused :
    goal.returns-in-Some-try_clone_once_as-clause-refused
returns-in-Some-try_clone_once_as-clause-refused g c =
    joins_refused g.L.Layout.clone_wants c.args.self.now.place _ _ _
    c.in-Some-try_clone_once_as.made c.loop.invariant.3
    c.in-Some-try_clone_once_as.ensures.refused
