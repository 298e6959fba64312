-- The lists of a slice kind: where one may be cut, and what a test of a range answers.
use Rattle.std.specs.Prelude.{ℕ, ◌≤◌, Bool, true, IsTrue, nat_lt, ◌&&◌, if◌then◌else◌, List, length}
use Rattle.std.specs.Prelude.{take, drop, Result, Ok, Err}
use Rattle.arc_owners.specs.declared.error.RangeError.{RangeError}
use Rattle.arc_owners.specs.declared.error.RangeError.TheVariants.{OutOfRange, InvalidRange}
use Rattle.arc_owners.specs.declared.error.RangeError.TheVariants.{NotBoundary}

-- the part from start to end
abbrev pub sub : {T : Type 0} → List T → ℕ → ℕ → List T
sub xs start end = drop start (take end xs)

-- any place will do
abbrev pub anywhere : {T : Type 0} → List T → ℕ → Bool
anywhere xs at = true

-- an edge is a place, the end included, at which the kind may cut the list
pub record IsEdge {T : Type 0} (boundary : List T → ℕ → Bool) (xs : List T) (at : ℕ) : Type 0 where
  pub within : at ≤ length xs
  pub cuts : IsTrue (boundary xs at)

-- a range lies within the list, and the kind may cut the list at its start and at its end
pub record IsRange {T : Type 0} (boundary : List T → ℕ → Bool) (xs : List T)
    (start end : ℕ) : Type 0 where
  pub ordered : start ≤ end
  pub within : end ≤ length xs
  pub from : IsTrue (boundary xs start)
  pub to : IsTrue (boundary xs end)

-- what a test of a range answers: the end is asked first, then the order, then the edges
abbrev pub range_answer : {T : Type 0} → (List T → ℕ → Bool) → List T → ℕ → ℕ
    → Result (Unit {0}) RangeError
range_answer boundary xs start end =
    if nat_lt (length xs) end then Err OutOfRange else
    if nat_lt end start then Err InvalidRange else
    if boundary xs start && boundary xs end then Ok tt else Err NotBoundary

-- what a test of a place answers: the length is asked first, then the edge
abbrev pub edge_answer : {T : Type 0} → (List T → ℕ → Bool) → List T → ℕ
    → Result (Unit {0}) RangeError
edge_answer boundary xs at =
    if nat_lt (length xs) at then Err OutOfRange else
    if boundary xs at then Ok tt else Err NotBoundary
