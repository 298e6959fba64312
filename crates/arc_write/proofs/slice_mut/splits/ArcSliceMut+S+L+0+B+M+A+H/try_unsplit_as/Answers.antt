use Rattle.std.proofs.Common.{sym, subst}
use Rattle.arc_block.specs.Given.{Given}
use Rattle.arc_block.specs.LayoutFacts.{layout_facts}
use Rattle.arc_parts.specs.Window.{PartsView, IsBlockHeld}
use Rattle.arc_write.proofs.Parts.{HoldsLegal}
use Rattle.arc_write.proofs.Splits.{joined_legal}
use Rattle.arc_write.proofs.slice_mut.splits.ArcSliceMut+S+L+0+B+M+A+H.try_unsplit_as.Goals.{in-Ok, in-Err}
use Rattle.arc_write.proofs.slice_mut.splits.ArcSliceMut+S+L+0+B+M+A+H.try_unsplit_as.Goals as goal

pub invariant_of-self : goal.invariant_of-self
invariant_of-self g c =
    let layout = layout_facts g.L.Layout in let legal = g.S.Slice.is_legal in
    elim c.match-try_unsplit_as.branch [
      | in-Ok w ↦ let joined = w.in-Ok.ensures.joined.1 in (
        subst (λ (p : PartsView g.row.S-Item.Denot (Given g.row.B.Denot g.row.M.Denot)).
            IsBlockHeld layout p.place)
            (sym joined) c.self.invariant.0,
        joined_legal legal c.self.inside.parts c.into_parts.result _
            g.met.S.Concatenable.both_are_legal joined
            c.self.invariant.1 c.into_parts.ensures.legal,
      )
      | in-Err w ↦ subst (HoldsLegal layout legal) (sym w.in-Err.ensures.refused.2)
          c.self.invariant
    ]
