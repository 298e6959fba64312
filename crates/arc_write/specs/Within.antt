-- What is written into the places that a window has already.
use Rattle.std.specs.Prelude.{◌≡◌, ℕ, ◌-◌, ◌+◌, ◌<◌, ◌≤◌, min, Bool, true, false, List, length}
use Rattle.std.specs.Prelude.{take, Result, MatchResult}
use Rattle.arc_block.specs.Given.{Given}
use Rattle.arc_block.specs.Table.{RowOf, bare}
use Rattle.arc_parts.specs.Writers.{capacity_of, with_more}

module _ {N T M : Type 0} where
  -- how many items more the window has places for
  abbrev pub spare_places : RowOf N T M → ℕ
  spare_places w = capacity_of w.role - length w.items

  -- how many of these items it takes, where it takes as many as it has places for
  abbrev pub taken : RowOf N T M → List T → ℕ
  taken w xs = min (spare_places w) (length xs)

  -- the window, with these behind its own items
  abbrev pub after_write : RowOf N T M → List T → RowOf N T M
  after_write w xs = with_more (take (taken w xs) xs) w

  -- One of several writers stands where he stood. Where a sole one stands the room that he has
  -- says, since items more may be more full places of his block.
  abbrev pub StandsIf : (several : Bool) → (old new : RowOf N T M) → Type 0
  StandsIf false old new = Unit {0}
  StandsIf true old new = new.place ≡ old.place

  -- what fits in the window's places is done, and one of several writers stands where he stood
  abbrev pub StaysWithin : (several : Bool) → (additional : ℕ) → (old new : RowOf N T M)
      → (done : Bool) → Type 0
  StaysWithin several additional old new done =
      length old.items + additional ≤ capacity_of old.role
      → (done ≡ true) × StandsIf several old new

module _ {N T B M : Type 0} where
  -- Items are written behind a window's own where it has places for all of them. Else they are
  -- refused, and nothing is changed.
  abbrev pub PutsWithin : {R E : Type 0} → Result R E → List T
      → (old new : RowOf N T (Given B M)) → Type 0
  PutsWithin reply xs old new = MatchResult reply
      (λ _. (length xs ≤ spare_places old) × (bare new ≡ with_more xs (bare old)))
      (λ _. (spare_places old < length xs) × (new ≡ old))
