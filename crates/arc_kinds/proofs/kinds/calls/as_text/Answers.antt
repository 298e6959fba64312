-- A legal list of the kind is text.
use Rattle.std.proofs.lemmas.Str.{IsUtf8-had}
use Rattle.arc_kinds.proofs.kinds.calls.as_text.Goals as goal

pub from_utf8_unchecked-requires : goal.from_utf8_unchecked-requires
from_utf8_unchecked-requires c = IsUtf8-had _ c.requires
