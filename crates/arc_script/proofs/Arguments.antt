-- The words of arguments, one after another.
use Rattle.std.proofs.Common.{ℕ, ◌+◌, List, [], ◌∷◌, ◌++◌, length, subst, arith}
use Rattle.arc_script.specs.Arguments.{Answer, IsWord, WordsFrom}

-- one word more
pub words_push : (answers : ℕ → Answer → Type 0) (i : ℕ) (words : List (List ℕ)) (word : List ℕ)
    → WordsFrom answers i words → IsWord (answers (i + length words)) word
    → WordsFrom answers i (words ++ word ∷ [])
words_push answers i [] word each one =
    (subst (λ n. IsWord (answers n) word) (omega arith) one, tt)
words_push answers i (first ∷ words) word each one = (
  each.0,
  words_push answers (i + 1) words word each.1
      (subst (λ n. IsWord (answers n) word) (omega arith) one),
)
