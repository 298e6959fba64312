-- What is written becomes the slot's, and a first block's pass one of the passes.
use Rattle.std.proofs.Common.{refl, ◌<◌, length, Ok, Err, sym, ap, ◌∙◌, subst}
use Rattle.std.specs.Mem.{type_size}
use Rattle.std.specs.Vec.{vec_capacity}
use Rattle.arc_block.specs.Table.{bare}
use Rattle.arc_slots.specs.Slots.{bare_held, row_of}
use Rattle.arc_slots.specs.Writing.{additional_of, items_of, seen_writing}
use Rattle.arc_slots.proofs.Filled.{SlotFills, fresh-by, room-for-pass, slot-fills, slot-unfilled}
use Rattle.arc_slots.proofs.slot.Slot.write.Given.{Over}
use Rattle.arc_slots.proofs.slot.Slot.write.Goals.{After-give_back, After-keep-self-inside}
use Rattle.arc_slots.proofs.slot.Slot.write.Goals as goal

pub keep-self-inside-requires-clause-room : goal.keep-self-inside-requires-clause-room
keep-self-inside-requires-clause-room g c begins =
    let wants = fresh-by g.S.Slice.DROPS (type_size g.row.S-Item) (row_of c.args.self.now)
    c.additional.ensures c.wants_block-begins.ensures in
    room-for-pass g.S.Small.SmallOf.seen (bare_held c.self.inside.window)
    (bare c.in-Write.window) c.self.inside.block (ap bare_held c.in-Write.is) c.args.self.now
    c.self.view_is (c.self.invariant.0, c.self.invariant.1) g.S.Slice.DROPS (type_size g.row.S-Item)
    (additional_of (seen_writing c.args.what)) (items_of (seen_writing c.args.what))
    c.args.passes.now.of_blocks.items c.lend-pass.new.self.of_blocks.items c.lend-pass.result
    c.write_as.new.pass c.lend-pass.ensures.taken (vec_capacity c.lend-pass.new.self.of_blocks)
    (λ fresh. subst (λ n. length c.args.passes.now.of_blocks.items < n)
    (sym c.lend-pass.ensures.room) (c.requires.room fresh)) (sym wants ∙ begins)

filled : (g : Over) (c : After-keep-self-inside g)
    → SlotFills g.S.Slice.DROPS (type_size g.row.S-Item) (additional_of (seen_writing c.args.what))
    (items_of (seen_writing c.args.what)) c.args.self.now (bare c.write_as.new.window)
    c.keep-self-inside.result c.args.passes.now.of_blocks.items
    c.keep-self-inside.new.self.of_blocks.items (Ok tt)
filled g c =
    let wants = fresh-by g.S.Slice.DROPS (type_size g.row.S-Item) (row_of c.args.self.now)
    c.additional.ensures c.wants_block-begins.ensures in
    slot-fills g.S.Small.SmallOf.seen (bare_held c.self.inside.window)
    (bare c.in-Write.window) c.self.inside.block (ap bare_held c.in-Write.is) _ c.self.view_is
    (c.self.invariant.0, c.self.invariant.1) _ _ _ _ _ c.lend-pass.new.self.of_blocks.items
    c.lend-pass.result c.write_as.new.pass c.lend-pass.ensures.taken
    (bare c.write_as.new.window) _ _
    c.in-Ok.ensures.written (λ old. c.keep-self-inside.ensures.same (wants ∙ old))
    (λ fresh. c.keep-self-inside.ensures.new (wants ∙ fresh))

unfilled : (g : Over) (c : After-give_back g)
    → SlotFills g.S.Slice.DROPS (type_size g.row.S-Item) (additional_of (seen_writing c.args.what))
    (items_of (seen_writing c.args.what)) c.args.self.now (bare c.write_as.new.window)
    c.self.inside.block c.args.passes.now.of_blocks.items c.give_back.new.self.of_blocks.items
    (Err c.in-Err.e)
unfilled g c =
    slot-unfilled g.S.Small.SmallOf.seen (bare_held c.self.inside.window)
    (bare c.in-Write.window) c.self.inside.block (ap bare_held c.in-Write.is) _ c.self.view_is
    (c.self.invariant.0, c.self.invariant.1) _ _ _ _ _ c.lend-pass.new.self.of_blocks.items
    c.lend-pass.result c.write_as.new.pass c.lend-pass.ensures.taken c.in-Err.e
    (bare c.write_as.new.window) _ c.in-Err.ensures.refused c.give_back.ensures

pub invariant_of-self : goal.invariant_of-self
invariant_of-self g c =
    let f = filled g (goal.at.invariant_of-self g c).After-keep-self-inside in
    (f.fits, f.writes, refl)

pub returns-in-Ok : goal.returns-in-Ok
returns-in-Ok g c = (filled g (goal.at.returns-in-Ok g c).After-keep-self-inside).fills

pub invariant_of-self-in-Err : goal.invariant_of-self-in-Err
invariant_of-self-in-Err g c =
    let f = unfilled g (goal.at.invariant_of-self-in-Err g c).After-give_back in
    (f.fits, f.writes, refl)

pub returns-in-Err : goal.returns-in-Err
returns-in-Err g c = (unfilled g (goal.at.returns-in-Err g c).After-give_back).fills
