-- Items written behind others, one after the other.
use Rattle.std.proofs.Common.{◌≡◌, ◌++◌, [], ℕ, ◌+◌, ◌-◌, List}
use Rattle.std.proofs.Common.{length, Option, Some, None, refl, sym, ap, arith}
use Rattle.std.proofs.Common.{append_assoc}
use Rattle.std.proofs.lemmas.List.{length-append, append-nil}
use Rattle.std.specs.Option.{option_map}
use Rattle.arc_block.specs.Place.{Place, nowhere, static_data, on_block}
use Rattle.arc_block.specs.Table.{RowOf}
use Rattle.arc_parts.specs.Writers.{with_full, with_more}

more_full : (at next a b n : ℕ) → next ≡ at + a → a + b ≡ n → (full : Option ℕ)
    → option_map (λ f. f + (b - (f - next))) (option_map (λ f. f + (a - (f - at))) full)
    ≡ option_map (λ f. f + (n - (f - at))) full
more_full at next a b n there sum None = refl
more_full at next a b n there sum (Some full) = ap Some (omega (arith, there, sum))

none_full : (at : ℕ) (full : Option ℕ) → option_map (λ f. f + (0 - (f - at))) full ≡ full
none_full at None = refl
none_full at (Some full) = ap Some (omega arith)

module _ {N M : Type 0} where
  full_twice : (len next a b n : ℕ) → next ≡ len + a → a + b ≡ n → (place : Place N M)
      → with_full next b (with_full len a place) ≡ with_full len n place
  full_twice len next a b n there sum nowhere = refl
  full_twice len next a b n there sum static_data = refl
  full_twice len next a b n there sum (on_block block offset info) =
      ap (λ full. on_block block offset (record info { full = full }))
      (more_full (offset + len) (offset + next) a b n (omega (arith, there)) sum info.full)

  full_same : (len : ℕ) (place : Place N M) → with_full len 0 place ≡ place
  full_same len nowhere = refl
  full_same len static_data = refl
  full_same len (on_block block offset info) =
      ap (λ full. on_block block offset (record info { full = full }))
      (none_full (offset + len) info.full)

module _ {N T M : Type 0} where
  -- items behind others, and further ones behind these, are both behind the others
  pub more_twice : (xs ys : List T) (w : RowOf N T M)
      → with_more ys (with_more xs w) ≡ with_more (xs ++ ys) w
  more_twice xs ys w =
      let sum = sym (length-append xs ys) in
      let there = length-append w.items xs in
      λ i. record w {
        items = append_assoc w.items xs ys i;
        place = full_twice (length w.items) (length (w.items ++ xs)) (length xs) (length ys)
            (length (xs ++ ys)) there sum w.place i;
      }

  -- no items more leave all as it is
  pub more_none : (w : RowOf N T M) → with_more [] w ≡ w
  more_none w = λ i. record w {
    items = append-nil w.items i;
    place = full_same (length w.items) w.place i;
  }
