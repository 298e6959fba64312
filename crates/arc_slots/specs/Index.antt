-- Windows under their numbers: a number says at which place its window lies, and a place says whose
-- it is.
use Rattle.std.specs.Prelude.{◌≡◌, ℕ, ◌+◌, ◌==◌, if◌then◌else◌, List, [], ◌∷◌, length, slice_get}
use Rattle.std.specs.Prelude.{Option, Some, None}
use Rattle.std.specs.Option.{option_flatten, option_map_or}

module _ {X : Type 0} where
  -- the window at place p, if that is the place of number n
  abbrev pub found : (numbers : List ℕ) → List (Option X) → (n p : ℕ) → Option X
  found numbers places n p =
      option_map_or (λ m. if m == n then option_flatten (slice_get places p) else None)
      (slice_get numbers p) None

  -- the windows under the numbers from n on, which are told these places
  abbrev pub found_from : (numbers : List ℕ) → List (Option X) → (n : ℕ) → List ℕ
      → List (Option X)
  found_from numbers places n [] = []
  found_from numbers places n (p ∷ ps) =
      found numbers places n p ∷ found_from numbers places (n + 1) ps

  -- the windows under all numbers
  abbrev pub windows_of : (index numbers : List ℕ) → List (Option X) → List (Option X)
  windows_of index numbers places = found_from numbers places 0 index

  -- each place has a number, and a number whose window lies there is told it
  pub record IsIndexed (index numbers : List ℕ) (places : List (Option X)) : Type 0 where
    pub many : length numbers ≡ length places
    pub told : (p n : ℕ) (x : X) → slice_get numbers p ≡ Some n
        → slice_get places p ≡ Some (Some x) → slice_get index n ≡ Some p
