-- A text's list is text.
use Rattle.std.proofs.lemmas.Str.{IsUtf8-had}
use Rattle.arc_small.proofs.slice.SmallSlice+Text+L.as_str.Goals as goal

pub from_utf8_unchecked-requires : goal.from_utf8_unchecked-requires
from_utf8_unchecked-requires g c = IsUtf8-had _ c.as_legal_slice.ensures.legal
