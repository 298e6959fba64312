-- The attempts before left the pass as it was.
use Rattle.std.proofs.Common.{◌≡◌, refl, subst, ◌∙◌, IfOk, IfErr}
use Rattle.arc_owners.specs.count.Calls.{MakesAnother, FindsFull}
use Rattle.arc_owners.specs.memory.Boxes.{owner_in, value_of}
use Rattle.arc_owners.proofs.memory.counted_box.CountedBox.try_clone_as.Goals as goal

pub returns-in-Some-try_clone_once_as-clause-made :
    goal.returns-in-Some-try_clone_once_as-clause-made
returns-in-Some-try_clone_once_as-clause-made g c =
    let box = c.args.self.now in
    subst (λ p. IfOk c.in-Some-try_clone_once_as.made (λ piece.
    MakesAnother (owner_in box) p c.try_clone_once_as.new.pass (owner_in piece)
    × (value_of piece ≡ value_of box))) c.loop.invariant.3 c.in-Some-try_clone_once_as.ensures.made

pub returns-in-Some-try_clone_once_as-clause-full :
    goal.returns-in-Some-try_clone_once_as-clause-full
returns-in-Some-try_clone_once_as-clause-full g c =
    subst (λ p. IfErr c.in-Some-try_clone_once_as.made (λ _.
    FindsFull (owner_in c.args.self.now) p c.try_clone_once_as.new.pass)) c.loop.invariant.3
    c.in-Some-try_clone_once_as.ensures.full

pub loop-preserved : goal.loop-preserved
loop-preserved g c = (tt, tt, refl, c.in_default.ensures.again ∙ c.loop.invariant.3)
