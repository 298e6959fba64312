-- What is taken out by the pass that was lent for it is taken out of the table.
use Rattle.arc_block.specs.Table.{reader}
use Rattle.std.proofs.Common.{sym, ap, ◌∙◌, subst}
use Rattle.arc_block.specs.Table.{bare}
use Rattle.arc_slots.specs.Slots.{bare_held, bare_window}
use Rattle.arc_kinds.proofs.Bare.{pass_back}
use Rattle.arc_slots.proofs.Bare.{bare_have, bare_not_taken, bare_size, bare_taken}
use Rattle.arc_slots.specs.Places.{HandsOutPlaces, WrapsPlaces}
use Rattle.arc_slots.proofs.Takes.{TakenApart, apart-reader, parts-pass, parts-size}
use Rattle.arc_slots.proofs.Takes.{slot-refuses, slot-takes}
use Rattle.arc_slots.proofs.slot.Slot.try_take.Given.{Over}
use Rattle.arc_slots.proofs.slot.Slot.try_take.Goals.{After-into_parts}
use Rattle.arc_slots.proofs.slot.Slot.try_take.Goals as goal

apart : (g : Over) (c : After-into_parts g)
    → TakenApart c.self.inside.block c.args.self reader (bare c.into_parts.result)
    c.args.passes.now.of_blocks.items c.lend-pass.new.self.of_blocks.items c.lend-pass.result
apart g c =
    apart-reader g.S.Small.SmallOf.seen (bare_held c.self.inside.window)
    (bare_window c.in-Read.window) (ap bare_held c.in-Read.is) c.self.view_is
    c.self.invariant.0 (ap bare c.into_parts.ensures.parts) c.requires.pass
    c.lend-pass.ensures.taken

pub try_into_reply-taken-requires-clause-pass : goal.try_into_reply-taken-requires-clause-pass
try_into_reply-taken-requires-clause-pass g c =
    pass_back c.into_parts.result.place c.lend-pass.result
    (parts-pass
    (apart g (goal.at.try_into_reply-taken-requires-clause-pass g c).After-into_parts))

pub returns-in-Ok-clause-taken : goal.returns-in-Ok-clause-taken
returns-in-Ok-clause-taken g c =
    slot-takes (apart g (goal.at.returns-in-Ok-clause-taken g c).After-into_parts) g.S.Slice.DROPS
    c.args.what c.try_into_reply-taken.new.pass c.give_back.new.self.of_blocks.items
    c.give_back.ensures
    (bare_have g.S.Slice.DROPS c.into_parts.result.items c.args.what c.into_parts.result.place
    c.in-Ok.ensures.taken)
    (bare_taken g.S.Slice.DROPS c.into_parts.result.items c.args.what c.into_parts.result.place
    c.lend-pass.result c.try_into_reply-taken.new.pass c.in-Ok.ensures.entries)

pub returns-in-Err-clause-refused : goal.returns-in-Err-clause-refused
returns-in-Err-clause-refused g c =
    slot-refuses (apart g (goal.at.returns-in-Err-clause-refused g c).After-into_parts)
    g.S.Slice.DROPS c.args.what c.try_into_reply-taken.new.pass
    c.give_back.new.self.of_blocks.items c.give_back.ensures
    (bare_not_taken g.S.Slice.DROPS c.into_parts.result.items c.args.what
    c.into_parts.result.place c.lend-pass.result c.try_into_reply-taken.new.pass
    c.in-Err.ensures.refused)

-- what is taken out has as many places as the block of the row
pub returns-in-Ok-clause-places : goal.returns-in-Ok-clause-places
returns-in-Ok-clause-places g c =
    subst (λ n. HandsOutPlaces (WrapsPlaces g.S.Items.Wraps.wraps) g.B.Buffer.places n
    c.in-Ok.reply)
    (sym (bare_size c.into_parts.result.place)
    ∙ parts-size (apart g (goal.at.returns-in-Ok-clause-places g c).After-into_parts))
    c.in-Ok.ensures.places
