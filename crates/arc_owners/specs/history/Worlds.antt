-- A `World` of the code as a state of the word machine.
use Rattle.arc_owners.specs.history.Machine.{Machine}
use Rattle.arc_owners.specs.declared.history.world.World.{World}

-- the state that a world holds
abbrev pub machine_of : {A : Type 0} → World A → Machine
machine_of w = record {
  counted = w.counted;
  count = w.count;
  live = w.live.items;
  ready = w.ready.items;
  entries = w.entries.items;
}
