-- The vector has the box's items, and a place for each.
use Rattle.std.proofs.Common.{length, ◌∙◌, ap, subst}
use Rattle.std.specs.Vec.{vec_capacity}
use Rattle.arc_parts.specs.Steps.{MakesOfVec}
use Rattle.arc_read.proofs.slice.ArcSlice.try_from_boxed_as.Goals as goal

pub returns-in-Ok-try_from_legal_vec_as-clause-made :
    goal.returns-in-Ok-try_from_legal_vec_as-clause-made
returns-in-Ok-try_from_legal_vec_as-clause-made g c =
    let static = g.L.Layout.STATIC in let drops = g.S.Slice.DROPS in
    let whole = g.H.Mark.whole in
    let inner = c.in-Ok.inner in let w = c.in-Ok-try_from_legal_vec_as.window in
    let exact = c.in-Ok.ensures.exact in
    let list = exact.0 ∙ c.into_vec.ensures.items
    ∙ g.met.S.VecIn.boxed_list c.args.items c.into_inner.result c.into_inner.ensures.inner in
    subst (λ n.
    MakesOfVec static g.L.Layout.lone drops whole (g.S.VecIn.list_in_boxed c.args.items) n w)
    (exact.1 ∙ ap length list)
    (subst (λ xs. MakesOfVec static g.L.Layout.lone drops whole xs (vec_capacity inner) w) list
    c.in-Ok-try_from_legal_vec_as.ensures.made)
