use Rattle.std.proofs.Common.{◌≡◌, take}
use Rattle.arc_owners.specs.history.Machine.{beginning, after_events}
use Rattle.arc_owners.specs.history.Worlds.{machine_of}
use Rattle.arc_owners.proofs.history.replays.replay_from.Given as goal

abbrev pub invariant-loop-event : goal.invariant-loop-event
invariant-loop-event g l =
    machine_of l.world ≡ after_events l.most (beginning l.counted) (take l.event-index l.events)
