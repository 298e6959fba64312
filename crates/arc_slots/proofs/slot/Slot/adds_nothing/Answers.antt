use Rattle.std.proofs.Common.{Some, sym, subst}
use Rattle.arc_slots.specs.Calls.{AddsNothing, Along}
use Rattle.arc_slots.specs.Slots.{SlotView, bare_held, stand_of, window_in}
use Rattle.arc_slots.specs.Stands.{HasPassFor}
use Rattle.arc_slots.proofs.Parted.{nothing-along}
use Rattle.arc_slots.proofs.Slots.{has-number}
use Rattle.arc_slots.proofs.slot.Slot.adds_nothing.Goals as goal

pub attest-requires : goal.attest-requires
attest-requires g c =
    let passes = c.args.passes.now.of_blocks.items in
    has-number passes c.self.inside.block
    (window_in g.S.Small.SmallOf.seen (bare_held c.self.inside.window)).place
    c.self.invariant.0
    (subst (λ s. HasPassFor passes (stand_of (Some s))) (sym c.self.view_is) c.requires)

pub returns : goal.returns
returns g c =
    let passes = c.args.passes.now.of_blocks.items in
    subst (λ (s : SlotView g.row.S-Item.Denot g.row.M.Denot).
    Along (stand_of (Some s)) passes passes AddsNothing) c.self.view_is
    (nothing-along passes c.self.inside.block
    (window_in g.S.Small.SmallOf.seen (bare_held c.self.inside.window)).place
    (subst (λ s. HasPassFor passes (stand_of (Some s))) (sym c.self.view_is) c.requires)
    c.attest.ensures)
