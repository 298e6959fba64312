-- There are no items and no places.
use Rattle.arc_sort_writers.proofs.CutNatives.{idle_cut}
use Rattle.arc_sort_writers.proofs.native.SoleNative.on_nothing.Goals as goal

pub returns : goal.returns
returns g c =
    idle_cut g.S.Slice.DROPS c.nothing.result c.nothing.ensures.items c.nothing.ensures.memory.0
