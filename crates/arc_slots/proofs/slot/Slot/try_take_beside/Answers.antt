-- What is taken out by the pass that was lent for it is taken out of the table.
use Rattle.arc_slots.specs.declared.take.Taking.TheVariants.{Vector}
use Rattle.arc_slots.specs.declared.window.Held.TheVariants.{Several}
use Rattle.arc_slots.proofs.FilledBeside.{beside-seen}
use Rattle.arc_slots.proofs.Slots.{fits-as}
use Rattle.std.proofs.Common.{sym, ap, ◌∙◌}
use Rattle.arc_block.specs.Table.{bare}
use Rattle.arc_slots.specs.Slots.{bare_held}
use Rattle.arc_slots.proofs.Bare.{bare_have, bare_not_taken, bare_size, bare_taken}
use Rattle.arc_slots.proofs.Takes.{TakenApart, apart-writer, parts-size}
use Rattle.arc_slots.proofs.Takes.{slot-refuses, slot-takes}
use Rattle.arc_slots.proofs.slot.Slot.try_take_beside.Given.{Over}
use Rattle.arc_slots.proofs.slot.Slot.try_take_beside.Goals.{After-into_parts}
use Rattle.arc_slots.proofs.slot.Slot.try_take_beside.Goals as goal

apart : (g : Over) (c : After-into_parts g)
    → TakenApart c.self.inside.block c.args.self c.in-Several.window.role
    (bare c.into_parts.result) c.args.passes.now.of_blocks.items
    c.lend-pass.new.self.of_blocks.items c.lend-pass.result
apart g c =
    let small = g.S.Small.SmallOf.seen in
    let h = bare_held c.self.inside.window in
    let w = bare c.in-Several.window in
    let b = c.self.inside.block in
    apart-writer w
    (beside-seen small h w b (ap bare_held c.in-Several.is) c.args.self c.self.view_is
    g.S.TableKind.SHARES c.self.invariant)
    (fits-as h (Several w) (ap bare_held c.in-Several.is) small b c.self.invariant.0)
    (ap bare c.into_parts.ensures.parts) c.requires.pass c.lend-pass.ensures.taken

pub returns-in-Ok-clause-taken : goal.returns-in-Ok-clause-taken
returns-in-Ok-clause-taken g c =
    slot-takes (apart g (goal.at.returns-in-Ok-clause-taken g c).After-into_parts)
    g.S.Slice.DROPS Vector c.try_into_vec_as-taken.new.pass c.give_back.new.self.of_blocks.items
    c.give_back.ensures
    (bare_have g.S.Slice.DROPS c.into_parts.result.items Vector c.into_parts.result.place
    c.in-Ok.ensures.taken.0)
    (bare_taken g.S.Slice.DROPS c.into_parts.result.items Vector c.into_parts.result.place
    c.lend-pass.result c.try_into_vec_as-taken.new.pass c.in-Ok.ensures.entries)

pub returns-in-Err-clause-refused : goal.returns-in-Err-clause-refused
returns-in-Err-clause-refused g c =
    slot-refuses (apart g (goal.at.returns-in-Err-clause-refused g c).After-into_parts)
    g.S.Slice.DROPS Vector c.try_into_vec_as-taken.new.pass c.give_back.new.self.of_blocks.items
    c.give_back.ensures
    (bare_not_taken g.S.Slice.DROPS c.into_parts.result.items Vector c.into_parts.result.place
    c.lend-pass.result c.try_into_vec_as-taken.new.pass c.in-Err.ensures.refused.1)

-- the vector has as many places as the block of the row
pub returns-in-Ok-clause-places : goal.returns-in-Ok-clause-places
returns-in-Ok-clause-places g c = (
  c.in-Ok.items,
  c.items_of.ensures.wraps,
  c.in-Ok.ensures.taken.2 ∙ sym (bare_size c.into_parts.result.place)
      ∙ parts-size (apart g (goal.at.returns-in-Ok-clause-places g c).After-into_parts),
)
