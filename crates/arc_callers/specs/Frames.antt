-- Frames: a payload behind two bytes of its length, the higher one first.
use Rattle.std.specs.Prelude.{◌≡◌, ℕ, ◌+◌, ◌*◌, ◌≤◌, List, [], ◌∷◌, ◌++◌, length, take, drop}

-- the input begins with a frame of this payload, and behind it stands the rest
pub record IsFrame (input payload rest : List ℕ) : Type 0 where
  pub high : ℕ
  pub low : ℕ
  pub told : length payload ≡ 256 * high + low
  pub stands : input ≡ high ∷ low ∷ (payload ++ rest)

-- no whole frame stands at the beginning: its length isn't there, or not all of its payload
pub record HasNoFrame (input : List ℕ) : Type 0 where
  pub none : (payload rest : List ℕ) → ¬ IsFrame input payload rest

-- the first frame ends here
pub record EndsAt (input : List ℕ) (end : ℕ) : Type 0 where
  pub head : 2 ≤ end
  pub within : end ≤ length input
  pub frame : IsFrame input (drop 2 (take end input)) (drop end input)

-- a frame of this payload stands behind what was there
pub record IsAppended (before after payload : List ℕ) : Type 0 where
  pub frame : List ℕ
  pub behind : after ≡ before ++ frame
  pub framed : IsFrame frame payload []
