-- What asking adds to the pass that was lent for it, it adds to the passes.
use Rattle.std.proofs.Common.{ap}
use Rattle.arc_slots.specs.Slots.{bare_held, bare_window}
use Rattle.arc_slots.proofs.Bare.{bare_unique}
use Rattle.arc_slots.proofs.Native.{read-asks}
use Rattle.arc_slots.proofs.Slots.{read-call}
use Rattle.arc_slots.proofs.slot.Slot.is_unique.Goals as goal

pub returns : goal.returns
returns g c =
    let w = c.in-Read.window in
    read-asks (read-call g.S.Small.SmallOf.seen (bare_held c.self.inside.window)
    (bare_window w) (ap bare_held c.in-Read.is) c.self.view_is c.self.invariant.0
    c.requires.pass c.lend-pass.ensures.taken)
    c.is_unique_as-alone.new.pass c.give_back.new.self.of_blocks.items c.give_back.ensures
    c.is_unique_as-alone.result
    (bare_unique w.place c.lend-pass.result c.is_unique_as-alone.new.pass
    c.is_unique_as-alone.result c.is_unique_as-alone.ensures.entry)
