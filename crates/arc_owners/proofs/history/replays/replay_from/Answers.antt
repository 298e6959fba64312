use Rattle.std.proofs.Common.{take, length, ap, sym, ◌∙◌}
use Rattle.arc_owners.specs.history.Machine.{Machine, beginning, after_events}
use Rattle.arc_owners.specs.history.Worlds.{machine_of}
use Rattle.std.proofs.lemmas.List.{take_all}
use Rattle.arc_owners.proofs.history.Steps.{run-count, next_run}
use Rattle.arc_owners.proofs.history.replays.replay_from.Goals as goal

pub happen-requires : goal.happen-requires
happen-requires g c =
    let history_at_least = c.loop-event.invariant in
    ap (λ (m : Machine). m.count) history_at_least
    ∙ (run-count c.args.most (beginning c.args.counted)
    (take c.loop-event.event-index c.args.events.now) c.requires
    ∙ sym (ap (λ (m : Machine). length m.live) history_at_least))

pub returns : goal.returns
returns g c =
    c.loop-event.invariant
    ∙ ap (after_events c.args.most (beginning c.args.counted))
    (take_all c.loop-event.event-index c.args.events.now c.loop-event-test.false)

pub loop-event-preserved : goal.loop-event-preserved
loop-event-preserved g c =
    next_run c.args.most (beginning c.args.counted) c.args.events.now c.loop-event.event-index _
    (machine_of c.loop-event.world) (machine_of c.happen.new.self) c.loop-event.invariant
    c.loop-event-test.true c.in_ok-happen.ensures
