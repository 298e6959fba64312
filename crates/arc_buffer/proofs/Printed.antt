-- Bytes in ASCII are text.
use Rattle.std.proofs.Common.{ℕ, ◌<◌, [], ◌∷◌}
use Rattle.std.specs.Str.{IsUtf8}
use Rattle.std.proofs.lemmas.List.Elements.{All-nil, All-cons}
use Rattle.std.proofs.lemmas.Str.{IsUtf8-from_ascii}
use Rattle.std.proofs.lemmas.Str.Ascii.{IsAscii-from_all}

pub two_are_text : (a b : ℕ) → a < 128 → b < 128 → IsUtf8 (a ∷ b ∷ [])
two_are_text a b small little =
    let P = λ (n : ℕ). n < 128 in
    IsUtf8-from_ascii (a ∷ b ∷ []) (IsAscii-from_all (a ∷ b ∷ [])
    (All-cons P a (b ∷ []) small (All-cons P b [] little (All-nil P))))
