-- What is kept of a window that reads tells where it stands.
use Rattle.std.proofs.Common.{◌≡◌, ℕ, ◌+◌, ◌-◌, ◌≤◌, List, [], ◌∷◌, length, drop}
use Rattle.std.proofs.Common.{Option, Some, None, refl, ap, ◌∙◌, sym, subst, arith}
use Rattle.std.proofs.lemmas.List.{length-drop}
use base.Stored.{Gv, gnil, gnum, gcons}
use Rattle.arc_owners.specs.count.Calls.{Owner}
use Rattle.arc_block.specs.Place.{Place, nowhere, static_data, on_block, moved, at_owner}
use Rattle.arc_read.specs.Ends.{end_place}
use Rattle.arc_read.specs.Kept.{numbers, Standing, standing, standing_coded, kept_read}
use Rattle.arc_read.specs.Kept.{without_metadata}

abbrev first : {X : Type 0} → X → List X → X
first none [] = none
first none (x ∷ xs) = x

-- the numbers of a tree tell the tree, and what follows them
numbers_told : (x y : Gv) (r s : List ℕ) → numbers x r ≡ numbers y s → (x ≡ y) × (r ≡ s)
unfolding numbers
numbers_told gnil gnil r s e = (refl, ap (drop 1) e)
numbers_told (gnum m) (gnum n) r s e =
    (ap gnum (ap (λ ns. first 0 (drop 1 ns)) e), ap (drop 2) e)
numbers_told (gcons a b) (gcons c d) r s e =
    let front : (a ≡ c) × (numbers b r ≡ numbers d s) =
    numbers_told a c (numbers b r) (numbers d s) (ap (drop 1) e) in
    let back : (b ≡ d) × (r ≡ s) = numbers_told b d r s front.1 in
    ((λ i. gcons (front.0 i) (back.0 i)), back.1)
numbers_told gnil (gnum n) r s e =
    let apart : 0 ≡ 1 = ap (first 0) e in absurd (omega (arith, apart))
numbers_told gnil (gcons c d) r s e =
    let apart : 0 ≡ 2 = ap (first 0) e in absurd (omega (arith, apart))
numbers_told (gnum m) gnil r s e =
    let apart : 1 ≡ 0 = ap (first 0) e in absurd (omega (arith, apart))
numbers_told (gnum m) (gcons c d) r s e =
    let apart : 1 ≡ 2 = ap (first 0) e in absurd (omega (arith, apart))
numbers_told (gcons a b) gnil r s e =
    let apart : 2 ≡ 0 = ap (first 0) e in absurd (omega (arith, apart))
numbers_told (gcons a b) (gnum n) r s e =
    let apart : 2 ≡ 1 = ap (first 0) e in absurd (omega (arith, apart))

abbrev if_owner : Option Owner → Type 0 → (Owner → Type 0) → Type 0
if_owner None none some = none
if_owner (Some owner) none some = some owner

-- what holds of the owner, by what of the place has a code
abbrev owner_of : Standing → Type 0 → (Owner → Type 0) → Type 0
owner_of None none some = none
owner_of (Some None) none some = none
owner_of (Some (Some block)) none some = if_owner block.0 none some

abbrev place_again : Standing → ℕ → Place (Option Owner) (Unit {0})
place_again None offset = nowhere
place_again (Some None) offset = static_data
place_again (Some (Some block)) offset = on_block block.0 offset (record {
  sort = block.1.0;
  size = block.1.1.0;
  full = block.1.1.1;
  given = None;
})

module _ {M : Type 0} (none : Type 0) (some : Owner → Type 0) where
  to_standing : (place : Place (Option Owner) M) → at_owner place none some
      → owner_of (standing place) none some
  to_standing nowhere holds = holds
  to_standing static_data holds = holds
  to_standing (on_block None offset facts) holds = holds
  to_standing (on_block (Some owner) offset facts) holds = holds

  of_standing : (place : Place (Option Owner) M) → owner_of (standing place) none some
      → at_owner place none some
  of_standing nowhere holds = holds
  of_standing static_data holds = holds
  of_standing (on_block None offset facts) holds = holds
  of_standing (on_block (Some owner) offset facts) holds = holds

module _ {T M : Type 0} where
  -- further in, as much is kept
  kept_moved : (n : ℕ) (place : Place (Option Owner) M) (items : List T) → n ≤ length items
      → kept_read (moved n place) (drop n items) ≡ kept_read place items
  kept_moved n nowhere items within = refl
  kept_moved n static_data items within = refl
  kept_moved n (on_block owner offset facts) items within =
      let same : offset + n + length (drop n items) ≡ offset + length items =
      omega (arith, within, length-drop n items) in
      ap (λ k. (numbers (standing_coded.code (standing (on_block owner offset facts))) [], k) ∷ [])
      same

  pub kept_advanced : (n : ℕ) (old new : Place (Option Owner) M) (before after : List T)
      → n ≤ length before → new ≡ moved n old → after ≡ drop n before
      → kept_read new after ≡ kept_read old before
  kept_advanced n old new before after within further rest =
      (λ i. kept_read (further i) (rest i)) ∙ kept_moved n old before within

  module _ (old new : Place (Option Owner) M) (before after : List T)
      (kept : kept_read new after ≡ kept_read old before) where
    standing_told : standing new ≡ standing old
    standing_told = standing_coded.inj (standing new) (standing old)
        (numbers_told (standing_coded.code (standing new)) (standing_coded.code (standing old)) []
        [] (ap (λ (all : List (List ℕ × ℕ)). (first {X = List ℕ × ℕ} ([], 0) all).0) kept)).0

    end_told : end_place new after ≡ end_place old before
    end_told = ap (λ (all : List (List ℕ × ℕ)). (first {X = List ℕ × ℕ} ([], 0) all).1) kept

  -- what holds of the owner at the one place holds of it at the other
  module _ (old new : Place (Option Owner) M) (before after : List T)
      (kept : kept_read new after ≡ kept_read old before)
      (none : Type 0) (some : Owner → Type 0) where
    pub owner_after_read : at_owner old none some → at_owner new none some
    owner_after_read holds = of_standing none some new (subst (λ s. owner_of s none some)
        (sym (standing_told old new before after kept)) (to_standing none some old holds))

    pub owner_before_read : at_owner new none some → at_owner old none some
    owner_before_read holds = of_standing none some old (subst (λ s. owner_of s none some)
        (standing_told old new before after kept) (to_standing none some new holds))

  again : (place : Place (Option Owner) M) (items : List T)
      → place_again (standing place) (end_place place items - length items)
      ≡ without_metadata place
  again nowhere items = refl
  again static_data items = refl
  again (on_block owner offset facts) items =
      let same : offset + length items - length items ≡ offset = omega arith in
      ap (place_again (standing (on_block owner offset facts))) same

  further_again : (n : ℕ) (place : Place (Option Owner) M) (items rest : List T)
      → n ≤ length items → rest ≡ drop n items
      → place_again (standing place) (end_place place items - length rest)
      ≡ moved n (without_metadata place)
  further_again n nowhere items rest within is = refl
  further_again n static_data items rest within is = refl
  further_again n (on_block owner offset facts) items rest within is =
      let same : offset + length items - length rest ≡ offset + n =
      omega (arith, within, ap length is, length-drop n items) in
      ap (place_again (standing (on_block owner offset facts))) same

  -- the window stands on the same block, as many places further in as items were read
  pub place_after_read : (n : ℕ) (old new : Place (Option Owner) M) (before after : List T)
      → kept_read new after ≡ kept_read old before → n ≤ length before → after ≡ drop n before
      → without_metadata new ≡ moved n (without_metadata old)
  place_after_read n old new before after kept within rest =
      sym (again new after)
      ∙ (λ i. place_again (standing_told old new before after kept i)
      (end_told old new before after kept i - length after))
      ∙ further_again n old before after within rest
