-- The load before left the pass as it was.
use Rattle.std.proofs.Common.{subst, IfOk, IfErr}
use Rattle.arc_owners.specs.count.Calls.{owner_of, MakesAnother, FindsFull}
use Rattle.arc_owners.proofs.count.LoneAnswers.{has_count, with_trace}
use Rattle.arc_owners.proofs.count.lone.LoneCount.up_as.Goals as goal

pub unreachable-requires : goal.unreachable-requires
unreachable-requires g c = has_count c.args.by.now.right c.args.pass.now c.seek-lead.new.pass
    c.requires.share c.requires.counted (c.seek-lead.ensures.0 c.in_default.ensures)

pub returns-clause-made : goal.returns-clause-made
returns-clause-made g c =
    subst (λ t. IfOk c.up.result (λ s. MakesAnother (owner_of c.args.by.now)
    (with_trace c.args.pass.now t) c.up.new.pass (owner_of s)))
    (c.seek-lead.ensures.1 c.in-Some.ensures.0) c.up.ensures.made

pub returns-clause-full : goal.returns-clause-full
returns-clause-full g c =
    subst (λ t. IfErr c.up.result (λ _. FindsFull (owner_of c.args.by.now)
    (with_trace c.args.pass.now t) c.up.new.pass))
    (c.seek-lead.ensures.1 c.in-Some.ensures.0) c.up.ensures.full
