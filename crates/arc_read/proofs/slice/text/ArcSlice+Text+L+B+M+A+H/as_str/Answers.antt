-- A text window's list is text.
use Rattle.std.proofs.Common.{ℕ, ap, sym, ◌∙◌, subst}
use Rattle.std.specs.Str.{IsUtf8}
use Rattle.std.proofs.lemmas.Str.{IsUtf8-had}
use Rattle.arc_block.specs.Given.{Given}
use Rattle.arc_parts.specs.Window.{Window}
use Rattle.arc_read.proofs.slice.text.ArcSlice+Text+L+B+M+A+H.as_str.Goals as goal

pub from_utf8_unchecked-requires : goal.from_utf8_unchecked-requires
from_utf8_unchecked-requires g c =
    subst IsUtf8 (ap (λ (w : Window ℕ (Given g.row.B.Denot g.row.M.Denot)). w.items) c.self.view_is
    ∙ sym c.as_slice.ensures) (IsUtf8-had _ c.self.invariant.2)
