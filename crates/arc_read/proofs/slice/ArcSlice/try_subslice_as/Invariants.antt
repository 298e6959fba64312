-- Attempts that other threads disturbed are no more than one that was lost.
use Rattle.std.proofs.Common.{◌≡◌}
use Rattle.arc_buffer.specs.Slice.{sub}
use Rattle.arc_block.specs.Place.{part_place}
use Rattle.arc_parts.specs.Steps.{MayJoinAt}
use Rattle.arc_read.proofs.slice.ArcSlice.try_subslice_as.Given as goal

abbrev pub invariant-loop : goal.invariant-loop
invariant-loop g l =
    (goal.iterator-loop g).can_next l.iterator' × (goal.iterator-loop g).is_finite l.iterator'
    × (l.self ≡ l.fn.self) × (l.start ≡ l.fn.start) × (l.end ≡ l.fn.end)
    × MayJoinAt (part_place g.L.Layout.STATIC (sub l.fn.self.items l.fn.start l.fn.end) l.fn.start
    l.fn.self.place) l.fn.pass l.pass
