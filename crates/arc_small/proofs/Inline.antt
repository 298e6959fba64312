-- Lists that a window has in itself: what holds of a part.
use Rattle.std.proofs.Common.{◌≡◌, ℕ, ◌+◌, ◌≤◌, Bool, List, length, subst, arith}
use Rattle.arc_buffer.specs.Slice.{sub, IsRange}
use Rattle.arc_buffer.proofs.Sub.{sub-sub, length-sub}
use Rattle.arc_read.proofs.Cuts.{part_legal}
use Rattle.arc_small.specs.Inline.{IsInlined}

-- how long the list is
pub inlined_long : (words bytes : List ℕ) (start end : ℕ)
    → IsInlined words bytes start end → start + length (sub bytes start end) ≡ end
inlined_long words bytes start end is =
    let upto : end ≤ length bytes = omega (arith, is.within, is.places) in
    omega (arith, length-sub bytes start end is.ordered upto, is.ordered)

module _ (legal : List ℕ → Type 0) (boundary : List ℕ → ℕ → Bool) where
  -- the part of an array from start to end is legal, and lies in it
  abbrev IsLegal : (words bytes : List ℕ) (start end : ℕ) → Type 0
  IsLegal words bytes start end =
      IsInlined words bytes start end × ∥ legal (sub bytes start end) ∥₁

  -- so is a range of the part
  pub part_inlined : ((xs : List ℕ) (s e : ℕ) → legal xs → IsRange boundary xs s e
      → legal (sub xs s e))
      → (words bytes : List ℕ) (start end from to : ℕ)
      → IsLegal words bytes start end → IsRange boundary (sub bytes start end) from to
      → IsLegal words bytes (start + from) (start + to)
  part_inlined law words bytes start end from to is range =
      let long = inlined_long words bytes start end is.0 in
      let same = sub-sub bytes start end from to (omega (arith, long, range.within)) in (
        record {
          aligned = is.0.aligned;
          places = is.0.places;
          ordered = omega (arith, range.ordered);
          within = omega (arith, long, range.within, is.0.within);
        },
        subst (λ xs. ∥ legal xs ∥₁) same
            (part_legal legal boundary law (sub bytes start end) from to is.1 (λ _. range)),
      )
