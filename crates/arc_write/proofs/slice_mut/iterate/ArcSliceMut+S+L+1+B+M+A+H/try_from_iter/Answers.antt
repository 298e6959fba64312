-- The window that is extended stands on nothing.
use Rattle.std.proofs.Common.{◌≡◌, ◌++◌, false, subst}
use Rattle.std.specs.Mem.{type_size}
use Rattle.arc_block.specs.Given.{Given}
use Rattle.arc_parts.specs.Window.{PartsView}
use Rattle.arc_write.specs.Extend.{PushesEach}
use Rattle.arc_write.proofs.slice_mut.iterate.ArcSliceMut+S+L+1+B+M+A+H.try_from_iter.Goals as goal

pub returns-in-Ok-clause-made : goal.returns-in-Ok-clause-made
returns-in-Ok-clause-made g c =
    let did = c.in-Ok.ensures.extended in (
      did.0,
      did.1,
      did.2,
      did.3,
      subst (λ (w : PartsView g.row.S-Item.Denot (Given g.row.B.Denot g.row.M.Denot)).
          PushesEach g.row.H.Denot
          g.H.Mark.real false g.S.Slice.DROPS g.H.Mark.whole (type_size g.row.S-Item)
          g.B.Buffer.list g.B.Buffer.places g.B.BufferMut.grows g.B.BufferMut.refuses did.1 w
          c.try_extend.new.self) c.new-window.ensures did.4,
    )

pub returns-in-Ok-clause-runs : goal.returns-in-Ok-clause-runs
returns-in-Ok-clause-runs g c =
    let did = c.in-Ok.ensures.runs in (
      did.0,
      did.1,
      (
        did.2.0,
        did.2.1,
        did.2.2,
        subst (λ (w : PartsView g.row.S-Item.Denot (Given g.row.B.Denot g.row.M.Denot)).
            c.try_extend.new.self.items
            ≡ w.items ++ did.2.0.items) c.new-window.ensures did.2.3,
      ),
    )

pub returns-in-Err-clause-taken : goal.returns-in-Err-clause-taken
returns-in-Err-clause-taken g c =
    let did = c.in-Err.ensures.items in (
      did.0,
      did.1,
      did.4.0,
      did.2,
      did.4.1,
      subst (λ (w : PartsView g.row.S-Item.Denot (Given g.row.B.Denot g.row.M.Denot)).
          c.try_extend.new.self.items
          ≡ w.items ++ did.1) c.new-window.ensures did.3,
    )
