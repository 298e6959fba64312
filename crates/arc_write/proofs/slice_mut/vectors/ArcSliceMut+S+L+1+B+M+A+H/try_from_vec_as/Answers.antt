-- What went in wraps the vector that was asked for.
use Rattle.std.proofs.Common.{subst}
use Rattle.std.specs.Vec.{vec_capacity}
use Rattle.arc_parts.specs.Writers.{MakesVecWriter}
use Rattle.arc_write.proofs.slice_mut.vectors.ArcSliceMut+S+L+1+B+M+A+H.try_from_vec_as.Goals as goal

pub returns-in-Ok-clause-made : goal.returns-in-Ok-clause-made
returns-in-Ok-clause-made g c =
    let inner = c.into_inner.result in let wrapped = c.into_inner.ensures.inner in (
      inner,
      wrapped,
      subst (λ xs. MakesVecWriter g.L.Layout.lone g.S.Slice.DROPS g.H.Mark.whole xs
          (vec_capacity inner)
          c.in-Ok.window c.args.pass.now c.try_from_legal_vec_as.new.pass)
          (g.met.S.VecIn.vec_list c.args.items inner wrapped) c.in-Ok.ensures.made,
    )

pub returns-in-Err-clause-refused : goal.returns-in-Err-clause-refused
returns-in-Err-clause-refused g c =
    let refused = c.in-Err.ensures.refused in (
      c.into_inner.result,
      c.into_inner.ensures.inner,
      subst (λ v. g.S.Vec.Wraps.wraps c.from_inner.result v) refused.0 c.from_inner.ensures,
      refused.1,
      refused.2,
    )
