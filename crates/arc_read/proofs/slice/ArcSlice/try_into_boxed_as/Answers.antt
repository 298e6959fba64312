-- The box has the window's list, which is legal.
use Rattle.std.proofs.Common.{sym, ◌∙◌, subst}
use Rattle.arc_read.proofs.slice.ArcSlice.try_into_boxed_as.Goals as goal

pub from_inner-requires : goal.from_inner-requires
from_inner-requires g c =
    (g.met.S.VecIn.boxed_legal c.into_boxed_slice.result).1 (g.met.S.VecIn.legal_is_fact _
    (subst (λ xs. ∥ g.S.Slice.is_legal xs ∥₁)
    (sym (c.into_boxed_slice.ensures.items ∙ c.in-Ok.ensures.taken.1))
    c.into_parts.ensures.legal))
