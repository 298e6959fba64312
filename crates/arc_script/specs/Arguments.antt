-- The words behind a program's name, and the arguments that they are read from.
use Rattle.std.specs.Prelude.{◌≡◌, ℕ, ◌+◌, List, [], ◌∷◌, length, take, Result, Ok, Err, ◌⊎◌}
use Rattle.std.specs.Prelude.{IsUtf8}
use Rattle.std.specs.declared.env.FillError.{FillError}
use Rattle.std.specs.declared.env.FillError.TheVariants.{NotPresent, TooLong}

-- the answer for an argument: its bytes, or that there is none, or that there is no room for it
abbrev pub Answer : Type 0
Answer = Result (List ℕ) FillError

-- the answer of a call that writes to the front of a buffer, with the buffer after it
abbrev pub filled : Result ℕ FillError → List ℕ → Answer
filled (Ok n) buf = Ok (take n buf)
filled (Err e) buf = Err e

-- the bytes as a word, where they are text; else the word is empty
pub record IsTextOf (bytes word : List ℕ) : Type 0 where
  pub text : IsUtf8 bytes → word ≡ bytes
  pub other : ¬ IsUtf8 bytes → word ≡ []

-- the word of an argument with this answer: an empty one where there is no room for it
abbrev pub IsWord : (Answer → Type 0) → List ℕ → Type 0
IsWord answers word = (answers (Err TooLong) × (word ≡ []))
    ⊎ ((bytes : List ℕ) × answers (Ok bytes) × IsTextOf bytes word)

-- each is the word of its argument, in their order from this number on
abbrev pub WordsFrom : (ℕ → Answer → Type 0) → ℕ → List (List ℕ) → Type 0
WordsFrom answers i [] = Unit {0}
WordsFrom answers i (word ∷ words) = IsWord (answers i) word × WordsFrom answers (i + 1) words

-- they are the words of all arguments but argument 0, the program's name
pub record AreWords (answers : ℕ → Answer → Type 0) (words : List (List ℕ)) : Type 0 where
  pub each : WordsFrom answers 1 words
  pub last : answers (length words + 1) (Err NotPresent)
