-- What is refused says no more of the pass.
use Rattle.std.proofs.lemmas.Result.{IfErr-weaker}
use Rattle.arc_write.proofs.slice_mut.vectors.ArcSliceMut+S+L+1+B+M+A+H.try_from_vec.Goals as goal

pub returns-clause-refused : goal.returns-clause-refused
returns-clause-refused g c =
    IfErr-weaker c.try_from_vec_as-made.result _ _
    (λ back refused. (refused.0, refused.1, refused.2, refused.3))
    c.try_from_vec_as-made.ensures.refused
