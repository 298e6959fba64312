-- A string's bytes are text, also where it is boxed.
use Rattle.std.proofs.Common.{subst, sym}
use Rattle.std.specs.Str.{IsUtf8}
use Rattle.std.proofs.lemmas.Str.{IsUtf8-string_bytes}
use Rattle.arc_buffer.proofs.kinds.wraps.BoxedStrWrapsBoxedSliceU8.into_inner.Goals as goal

-- the box has the bytes of its string
pub returns-clause-promise : goal.returns-clause-promise
returns-clause-promise g c =
    subst IsUtf8 (sym c.into_boxed_bytes.ensures.items) (IsUtf8-string_bytes c.args.self.text)
