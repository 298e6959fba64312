use Rattle.std.proofs.Common.{sym, subst}
use Rattle.std.specs.Str.{IsUtf8}
use Rattle.std.proofs.lemmas.Str.{IsUtf8-had}
use Rattle.arc_write.proofs.slice_mut.text.WriteWindow+Text+L+R+B+M+A+H.as_str.Goals as goal

pub from_utf8_unchecked-requires : goal.from_utf8_unchecked-requires
from_utf8_unchecked-requires g c =
    subst IsUtf8 (sym c.as_slice.ensures) (IsUtf8-had _ c.self.invariant.1)
