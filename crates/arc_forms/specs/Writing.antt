-- Writing at the end of a list.
use Rattle.std.specs.Prelude.{◌≡◌, ℕ, List, [], ◌∷◌, ◌++◌, Option}
use Rattle.arc_forms.specs.Commands.{ByteReply}
use Rattle.arc_forms.specs.Text.{line_feed, answer_text}

-- new is old and something behind it
pub record Extends (old new : List ℕ) : Type 0 where
  pub more : List ℕ
  pub is : new ≡ old ++ more

-- what a line is answered, with its line feed
abbrev pub answer_line : Option ByteReply → List ℕ
answer_line answer = answer_text answer ++ line_feed ∷ []
