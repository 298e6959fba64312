-- One item more is pushed, or refused, and then the list stays.
use Rattle.std.proofs.Common.{true, refl, ◌∙◌}
use Rattle.std.proofs.iter.runs.Made.{run, to_end}
use Rattle.std.specs.Mem.{type_size}
use Rattle.arc_write.specs.Extend.{PushesOne}
use Rattle.arc_write.proofs.Extend.{items_more, pushed_more}
use Rattle.arc_write.proofs.Legal.{refused_items}
use Rattle.arc_write.proofs.slice_mut.WriteWindow.try_extend.Goals as goal

pub loop-item-preserved : goal.loop-item-preserved
loop-item-preserved g c =
    let at = c.loop-item in
    let said = at.invariant in
    let item = c.in-Some.item in
    let next = c.in-Some.ensures.goes.on said.1 in (
      next.0,
      next.1,
      pushed_more (PushesOne g.row.H.Denot g.H.Mark.real g.R.Parts.WriterParts.several
          g.S.Slice.DROPS g.H.Mark.whole (type_size g.row.S-Item) g.B.Buffer.list
          g.B.Buffer.places g.B.BufferMut.grows g.B.BufferMut.refuses)
          at.yielded item c.args.self.now at.self c.try_push.new.self
          said.2 (record { pushed = c.in-Ok.ensures.pushed; own = c.in-Ok.ensures.own }),
      items_more c.args.self.now.items at.yielded item at.self.items c.try_push.new.self.items
          said.3
          c.in-Ok.ensures.items,
    )

pub returns-in-Err-clause-items : goal.returns-in-Err-clause-items
returns-in-Err-clause-items g c =
    let at = c.loop-item in
    let refusal = c.in-Err.ensures.refused.1.called in (
      _,
      at.yielded,
      c.into_iter-item-iterator.ensures.into_iter_gives,
      refused_items g.S.Slice.is_legal g.R.Parts.WriterParts.several g.S.Slice.DROPS
          g.H.Mark.whole (type_size g.row.S-Item) 1 at.self c.try_push.new.self _ _ _ refusal
          ∙ at.invariant.3,
      (_, at.yielded_by),
    )

pub returns-clause-runs : goal.returns-clause-runs
returns-clause-runs g c =
    let at = c.loop-item in
    let steps = g.I.IntoIter.Iterator.next_gives in
    let begun = c.into_iter-item-iterator.result in (
      begun,
      c.into_iter-item-iterator.ensures.into_iter_gives,
      (
        run steps begun at.yielded true
            (to_end steps begun at.yielded (_, (_, at.yielded_by, c.in-None.ensures.steps))),
        refl,
        refl,
        at.invariant.3,
      ),
    )
