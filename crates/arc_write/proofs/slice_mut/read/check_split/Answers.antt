-- Where a list with places may be split, by the place's three cases.
use Rattle.std.proofs.Common.{arith, refl}
use Rattle.arc_write.proofs.ReadParts.{split_answer_behind, split_behind, split_inside}
use Rattle.arc_write.proofs.slice_mut.read.check_split.Goals as goal

pub returns-then-at-items-clause-ok : goal.returns-then-at-items-clause-ok
returns-then-at-items-clause-ok g c =
    split_inside g.S.Subsliceable.boundary c.args.items.now c.args.capacity c.args.at
    (omega (arith, c.if-at-capacity.false)) (omega (arith, c.if-at-items.true))
    c.check_at.ensures.ok

pub returns-clause-answer : goal.returns-clause-answer
returns-clause-answer g c =
    split_answer_behind g.S.Subsliceable.boundary c.args.items.now c.args.capacity c.args.at
    (omega (arith, c.if-at-capacity.false)) (omega (arith, c.if-at-items.false))

pub returns-clause-ok : goal.returns-clause-ok
returns-clause-ok g c =
    let can = split_behind g.S.Subsliceable.boundary c.args.items.now c.args.capacity c.args.at
    (omega (arith, c.if-at-capacity.false)) (omega (arith, c.if-at-items.false)) in
    (λ _. can, λ _. refl)
