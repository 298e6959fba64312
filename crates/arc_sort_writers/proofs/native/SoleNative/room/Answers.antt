-- Where there is room, by the places that are his.
use Rattle.std.proofs.Common.{◌+◌, length, ap, arith}
use Rattle.arc_owners.specs.memory.SoleCounts.{count_owner}
use Rattle.std.specs.Mem.{type_size}
use Rattle.arc_parts.specs.Writers.{capacity_of}
use Rattle.arc_sort_writers.proofs.CutKeeps.{behind_room, growth_room}
use Rattle.arc_sort_writers.proofs.native.SoleNative.room.Goals as goal

pub returns-clause-behind : goal.returns-clause-behind
returns-clause-behind g c =
    behind_room c.self.inside.memory c.count-size.result
    (c.start-offset.result + c.len-len.result + c.left.result) c.start-offset.result
    c.len-len.result g.S.Slice.DROPS c.args.additional c.room_in.result c.self.invariant.0
    c.count-size.ensures
    (λ i. c.start-offset.ensures i + c.len-len.ensures i + c.left.ensures i)
    c.start-offset.ensures c.len-len.ensures
    (omega (
      arith,
      c.if-additional-spare.false,
      c.spare.ensures.spare,
      ap (λ s. capacity_of s.role) c.self.view_is,
      ap (λ s. length s.items) c.self.view_is,
    ))
    c.room_in.ensures.behind

pub returns-clause-grows : goal.returns-clause-grows
returns-clause-grows g c =
    growth_room c.self.inside.memory c.count-size.result
    (c.start-offset.result + c.len-len.result + c.left.result) c.start-offset.result
    c.len-len.result g.S.Slice.DROPS count_owner c.self.inside.count (type_size g.row.S-Item)
    c.args.additional c.args.self.now c.room_in.result c.is_none.result c.is_none.ensures
    c.if-is_none.false c.self.view_is c.self.invariant.0 c.count-size.ensures
    (λ i. c.start-offset.ensures i + c.len-len.ensures i + c.left.ensures i)
    c.start-offset.ensures c.len-len.ensures c.room_in.ensures.room c.room_in.ensures.grows
