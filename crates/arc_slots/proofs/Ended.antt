-- Where every window has gone.
use Rattle.std.proofs.Common.{◌≡◌, ℕ, zero, suc, List, [], ◌∷◌, map, Option, Some, None, slice_get}
use Rattle.std.proofs.Common.{refl, sym, ap, ◌∙◌}
use Rattle.std.specs.Option.{option_map, option_flatten}
use Rattle.std.proofs.lemmas.Option.{slice_get-map}
use Rattle.arc_owners.specs.declared.count.tokens.Pass.{Pass}
use Rattle.arc_block.specs.Owned.{owners_on, IsKept}
use Rattle.arc_block.proofs.Permutations.{permuted-then}
use Rattle.arc_slots.specs.Slots.{SlotView, row_of, stand_of, stands_of}

-- nothing stands anywhere
abbrev pub AllGone : {X : Type 0} → List (Option X) → Type 0
AllGone xs = (i : ℕ) → option_flatten (slice_get xs i) ≡ None

module _ {T M : Type 0} where
  no_row : (x : Option (Option (SlotView T M)))
      → option_flatten (option_map (option_map row_of) x) ≡ None → option_flatten x ≡ None
  no_row None none = refl
  no_row (Some None) none = refl
  no_row (Some (Some s)) none = cc

  -- where no row is left, no slot has a window
  pub slots-gone : (slots : List (Option (SlotView T M)))
      → AllGone (map (option_map row_of) slots) → AllGone slots
  slots-gone slots gone i =
      let row = slice_get-map (option_map row_of) slots i in
      no_row (slice_get slots i) (ap option_flatten (sym row) ∙ gone i)

  none_on : (slots : List (Option (SlotView T M)))
      → AllGone slots → (n : ℕ) → owners_on n (stands_of slots) ≡ []
  none_on [] gone n = refl
  none_on (x ∷ xs) gone n =
      ap (λ y. owners_on n (stand_of y ∷ stands_of xs)) (gone zero)
      ∙ none_on xs (λ i. gone (suc i)) n

  -- and no block has a live owner
  pub kept-gone-all : {H : Type 0} (most : ℕ) (slots : List (Option (SlotView T M)))
      (passes : List (Pass H))
      → IsKept most (stands_of slots) passes → AllGone slots → IsKept most [] passes
  kept-gone-all most slots passes k gone = record {
    known = λ i n o at. cc;
    passes_fit = k.passes_fit;
    live = λ n p at. permuted-then (k.live n p at) (none_on slots gone n);
  }
