-- No items stand on nothing.
use Rattle.std.proofs.Common.{sym, subst}
use Rattle.arc_parts.specs.Window.{window_of}
use Rattle.arc_parts.specs.Steps.{Makes}
use Rattle.arc_parts.proofs.Windows.{made_on_nothing, owner_for}
use Rattle.arc_parts.proofs.parts.Parts.try_from_slice_as.Goals as goal

pub returns-then-stands_on_nothing-clause-made : goal.returns-then-stands_on_nothing-clause-made
returns-then-stands_on_nothing-clause-made g c =
    let static = g.L.Layout.STATIC in let drops = g.S.Slice.DROPS in let whole = g.H.Mark.whole in
    subst (λ p. Makes static drops whole c.args.items.now (window_of p)) (sym c.on_nothing.ensures)
    (made_on_nothing static drops whole c.args.items.now (owner_for c.args.pass.now)
    (sym c.if-stands_on_nothing.ensures))
