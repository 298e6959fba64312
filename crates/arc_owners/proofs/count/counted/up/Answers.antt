-- The attempts before left the pass as it was.
use Rattle.std.proofs.Common.{refl, subst, ◌∙◌, IfOk, IfErr}
use Rattle.arc_owners.specs.count.Calls.{owner_of, MakesAnother, FindsFull}
use Rattle.arc_owners.proofs.count.counted.up.Goals as goal

pub returns-in-Some-try_up-clause-made : goal.returns-in-Some-try_up-clause-made
returns-in-Some-try_up-clause-made g c =
    subst (λ p. IfOk c.in-Some-try_up.made (λ s.
    MakesAnother (owner_of c.args.by.now) p c.try_up.new.pass (owner_of s))) c.loop.invariant.4
    c.in-Some-try_up.ensures.made

pub returns-in-Some-try_up-clause-full : goal.returns-in-Some-try_up-clause-full
returns-in-Some-try_up-clause-full g c =
    subst (λ p. IfErr c.in-Some-try_up.made (λ _.
    FindsFull (owner_of c.args.by.now) p c.try_up.new.pass)) c.loop.invariant.4
    c.in-Some-try_up.ensures.full

pub loop-preserved : goal.loop-preserved
loop-preserved g c = (tt, tt, refl, refl, c.in_default.ensures.again ∙ c.loop.invariant.4)
