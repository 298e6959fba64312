-- Room leads to no caller's buffer.
use Rattle.arc_block.specs.Table.{bare}
use Rattle.arc_writer_parts.proofs.Bare.{bare_no_buffer, no_buffer_back}
use Rattle.arc_writer_parts.proofs.Rooms.{no_buffer_room}
use Rattle.arc_writer_parts.proofs.shared.SharedParts.room_alone_as.Goals as goal

pub into_shared_memory-requires-clause-place : goal.into_shared_memory-requires-clause-place
into_shared_memory-requires-clause-place g c =
    let new = c.try_reserve_as-made.new.self in
    no_buffer_back new.place (no_buffer_room g.S.Slice.DROPS g.H.Mark.whole _ (bare c.args.sole)
    (bare new) c.args.pass.now c.try_reserve_as-made.new.pass c.try_reserve_as-made.result
    c.try_reserve_as-made.ensures.room (bare_no_buffer c.args.sole.place c.requires.place))
