-- Where the first frame of an input ends.
use Rattle.std.proofs.Common.{◌≡◌, ℕ, ◌+◌, ◌-◌, ◌*◌, ◌<◌, ◌≤◌, List, [], ◌∷◌, ◌++◌, length, take}
use Rattle.std.proofs.Common.{drop, slice_index_or, sym, ap, ◌∙◌, arith}
use Rattle.std.proofs.lemmas.List.{length-append, take-append-drop, length-take-le, drop-take}
use Rattle.std.proofs.lemmas.List.{drop-drop}
use Rattle.arc_callers.specs.Frames.{HasNoFrame, EndsAt}

-- how long the first frame's payload is, by its two bytes
abbrev pub size_told : List ℕ → ℕ
size_told input = 256 * slice_index_or input 0 0 + slice_index_or input 1 0

-- a frame has two bytes at least
pub no_head : (input : List ℕ) → length input < 2 → HasNoFrame input
no_head input short = record { none = λ payload rest f. omega (arith, short, ap length f.stands) }

-- and as many more as these say
pub cut_short : (input : List ℕ) → length input - 2 < size_told input → HasNoFrame input
cut_short input short = record {
  none = λ payload rest f. omega (
    arith,
    short,
    f.told,
    ap (λ (xs : List ℕ). slice_index_or xs 0 0) f.stands,
    ap (λ (xs : List ℕ). slice_index_or xs 1 0) f.stands,
    ap length f.stands,
    length-append payload rest,
  );
}

-- where they are there, the frame ends behind them
pub ends_at : (input : List ℕ) → 2 ≤ length input → size_told input ≤ length input - 2
    → EndsAt input (2 + size_told input)
ends_at [] head within = absurd (omega (arith, head))
ends_at (high ∷ []) head within = absurd (omega (arith, head))
ends_at (high ∷ low ∷ more) head within =
    let input : List ℕ = high ∷ low ∷ more in let size : ℕ = size_told input in
    let front : drop 2 (take (2 + size) input) ≡ take size more = drop-take 2 size input in
    let behind : drop (2 + size) input ≡ drop size more = sym (drop-drop size 2 input) in
    let fits : size ≤ length more = omega (arith, within) in record {
      head = omega arith;
      within = omega (arith, within, head);
      frame = record {
        high = high;
        low = low;
        told = ap length front ∙ length-take-le size more fits;
        stands = sym ((λ i. high ∷ low ∷ (front i ++ behind i))
            ∙ ap (λ (xs : List ℕ). high ∷ low ∷ xs) (take-append-drop size more));
      };
    }
