-- A string's bytes are text.
use Rattle.std.proofs.Common.{subst, sym}
use Rattle.std.specs.Str.{IsUtf8}
use Rattle.std.specs.Vec.{vec_items}
use Rattle.std.proofs.lemmas.Str.{IsUtf8-string_bytes}
use Rattle.arc_buffer.proofs.kinds.wraps.StringWrapsVecU8.into_inner.Goals as goal

-- the vector is the string's own
pub returns-clause-promise : goal.returns-clause-promise
returns-clause-promise g c =
    subst (λ v. IsUtf8 (vec_items v)) (sym c.into_bytes.ensures.value)
    (IsUtf8-string_bytes c.args.self)
