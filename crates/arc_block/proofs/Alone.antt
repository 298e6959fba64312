-- Being alone on a block, by how many rows stand there.
use Rattle.std.proofs.Common.{◌≡◌, ◌↔◌, ℕ, ◌==◌, true, false, List, [], ◌∷◌, length, map, filter}
use Rattle.std.proofs.Common.{Option, Some, None, is_some, slice_get, refl, sym, ◌∙◌, ap, subst}
use Rattle.std.specs.Option.{option_flatten, option_map_or}
use Rattle.std.proofs.lemmas.Bool.{eq-eqb, eqb-true, false≢true}
use Rattle.std.proofs.lemmas.Option.{none-some, same_Some}
use Rattle.arc_block.specs.Table.{Row, Table, row_at, block_of, StandsOn, IsAlone, stands_on}
use Rattle.arc_block.specs.Table.{owners, is_alone}
use Rattle.arc_block.specs.Owned.{Stand, number_on, owners_on}
use Rattle.arc_block.proofs.Lists.{only-one, one-only, counts-more}

-- as many rows stand on a block as windows own it
pub same_owners : {X T M : Type 0} (row : X → Option (Row T M)) (stand : X → Stand)
    → ((x : X) (n : ℕ) → stands_on n (row x) ≡ is_some (number_on n (stand x)))
    → (xs : List X) (n : ℕ) → length (filter (stands_on n) (map row xs)) ≡ length
    (owners_on n (map stand xs))
same_owners row stand agree [] n = refl
same_owners row stand agree (x ∷ xs) n =
    counts-more (stands_on n (row x)) (number_on n (stand x)) (row x)
    (filter (stands_on n) (map row xs)) (owners_on n (map stand xs)) (agree x n)
    (same_owners row stand agree xs n)

unflattened : {X : Type 0} (o : Option (Option X)) (x : X) → option_flatten o ≡ Some x
    → o ≡ Some (Some x)
unflattened None x is = absurd (none-some x is)
unflattened (Some None) x is = absurd (none-some x is)
unflattened (Some (Some y)) x is = ap Some is

block_here : (b : ℕ) (n : Option ℕ) → option_map_or (λ c. c == b) n false ≡ true → n ≡ Some b
block_here b None is = absurd (false≢true is)
block_here b (Some c) is = ap Some (eqb-true c b is)

module _ {T M : Type 0} (t : Table T M) where
  counted : (i b : ℕ) (row : Row T M) → row_at t i ≡ Some row → block_of row.place ≡ Some b
      → (slice_get t.rows i ≡ Some (Some row)) × (stands_on b (Some row) ≡ true)
  counted i b row is on = (
    unflattened (slice_get t.rows i) row is,
    ap (λ o. option_map_or (λ c. c == b) o false) on
        ∙ eq-eqb b b refl,
  )

  stands : (i b : ℕ) (row : Option (Row T M)) → slice_get t.rows i ≡ Some row
      → stands_on b row ≡ true → StandsOn t i b
  stands i b None here is = absurd (false≢true is)
  stands i b (Some row) here is = record {
    row = row;
    alive = ap option_flatten here;
    stands =
        block_here b (block_of row.place) is;
  }

  -- one row stands on the block of row i exactly where row i is alone
  one-alone : (i b : ℕ) (row : Row T M) → row_at t i ≡ Some row → block_of row.place ≡ Some b
      → owners t b ≡ 1 → IsAlone t i
  one-alone i b row is on one =
      let c = counted i b row is on in
      record {
        block = b;
        owner = stands i b (Some row) c.0 c.1;
        only = λ j s. let d = counted j b s.row s.alive s.stands in
            one-only (stands_on b) t.rows i j (Some row) (Some s.row) one c.0 c.1 d.0 d.1;
      }

  block-alone : (i : ℕ) (row : Row T M) → row_at t i ≡ Some row → (a : IsAlone t i)
      → block_of row.place ≡ Some a.block
  block-alone i row is a =
      ap (λ (r : Row T M). block_of r.place) (same_Some row a.owner.row (sym is ∙ a.owner.alive))
      ∙ a.owner.stands

  alone-one : (i b : ℕ) (row : Row T M) → row_at t i ≡ Some row → block_of row.place ≡ Some b
      → IsAlone t i → owners t b ≡ 1
  alone-one i b row is on a =
      let c = counted i b row is on in
      let same : b ≡ a.block = same_Some b a.block (sym on ∙ block-alone i row is a) in
      only-one (stands_on b) t.rows i (Some row) c.0 c.1
      (λ j other here too. a.only j (subst (StandsOn t j) same (stands j b other here too)))

  means-at : (i : ℕ) (row : Row T M) → row_at t i ≡ Some row → (b : Option ℕ)
      → block_of row.place ≡ b
      → (option_map_or (λ c. owners t c == 1) b false ≡ true) ↔ IsAlone t i
  means-at i row is None at = (
    λ h. absurd (false≢true h),
    λ a. absurd
        (none-some a.block (sym at ∙ block-alone i row is a)),
  )
  means-at i row is (Some b) at = (
    λ one. one-alone i b row is at (eqb-true (owners t b) 1 one),
    λ a. eq-eqb (owners t b) 1
        (alone-one i b row is at a),
  )

  -- what is counted of a row's place is whether the row is alone
  pub is_alone-means : (i : ℕ) (row : Row T M) → row_at t i ≡ Some row
      → (is_alone t row.place ≡ true) ↔ IsAlone t i
  is_alone-means i row is = means-at i row is (block_of row.place) refl
