-- Text as bytes: where it may be cut.
use Rattle.std.specs.Prelude.{ℕ, ◌≤◌, ◌↔◌, Bool, IsTrue, not, ◌&&◌, ◌||◌, ◌==◌, nat_lt, List}
use Rattle.std.specs.Prelude.{length, take, drop, slice_index}
use Rattle.std.specs.Str.{IsUtf8}

-- a byte that continues a character, and begins none
abbrev pub continues : ℕ → Bool
continues b = nat_lt 127 b && nat_lt b 192

-- no character is cut in two at this place: the text begins or ends there, or a character begins
abbrev pub is_between_characters : List ℕ → ℕ → Bool
is_between_characters text at =
    (at == 0) || (at == length text) || not (continues (slice_index text at))

-- text is cut at a place exactly where both parts are text
abbrev pub CutsIntoTexts : Type 0
CutsIntoTexts = (text : List ℕ) (at : ℕ) → IsUtf8 text → at ≤ length text
    → IsTrue (is_between_characters text at) ↔ (IsUtf8 (take at text) × IsUtf8 (drop at text))
