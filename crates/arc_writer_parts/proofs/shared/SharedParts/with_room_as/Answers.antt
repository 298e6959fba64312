-- On no block nobody is asked.
use Rattle.std.proofs.Common.{sym, ap, ◌∙◌}
use Rattle.arc_writer_parts.specs.PartsOn.{shared_on}
use Rattle.arc_writer_parts.proofs.Rooms.{alone_shared, sole_again}
use Rattle.arc_writer_parts.proofs.shared.SharedParts.with_room_as.Goals as goal

pub returns-clause-room : goal.returns-clause-room
returns-clause-room g c =
    let made = c.room_alone_as-in-Alone in
    alone_shared g.H.Mark.whole _ c.args.additional c.args.self c.in-Alone.parts made.result.0
    c.args.pass.now made.new.pass made.result.1 c.requires.short
    (sym c.is_on_block.ensures ∙ c.if-is_on_block.false)
    (sole_again c.in-Alone.parts c.args.self c.known_role.ensures
    (sym (ap shared_on c.in-Alone.is) ∙ c.self.view_is))
    made.ensures.room
