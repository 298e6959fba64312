-- One copy more stands behind those that there are.
use Rattle.std.proofs.Common.{◌≡◌, ℕ, ◌+◌, ◌-◌, ◌<◌, ◌≤◌, Bool, true, false, List, [], ◌∷◌, ◌++◌}
use Rattle.std.proofs.Common.{length, get_or, set, take, replicate, ap, ◌∙◌, arith, append_assoc}
use Rattle.std.proofs.lemmas.List.{take_more_set, replicate-append-replicate, get_or-set_same}
use Rattle.std.proofs.lemmas.List.{get_or-set_other}
use Rattle.std.proofs.lemmas.Bool.{cases_Bool, eqb-true, eqb-false}
use Rattle.std.proofs.Common.{eqb, inl, inr}
use Rattle.std.specs.Mem.Slots.Ownership.{Filled}
use Rattle.arc_memory.proofs.writer_places.fill.Goals as goal

more_filled : (fs : List Bool) (i : ℕ) → i < length fs → Filled fs 0 i
    → Filled (set fs i true) 0 (i + 1)
more_filled fs i within full k low high = elim (cases_Bool (eqb k i)) [
  | inl same ↦ ap (λ (j : ℕ). get_or (set fs i true) j false) (eqb-true k i same)
      ∙ get_or-set_same fs i true false within
  | inr other ↦ get_or-set_other fs i k true false (eqb-false k i other)
      ∙ full k low (omega (arith, high, eqb-false k i other))
]

module _ {X : Type 0} where
  more_copies : (xs front : List X) (i from : ℕ) (x : X) → from ≤ i → i < length xs
      → take i xs ≡ front ++ replicate (i - from) x
      → take (i + 1) (set xs i x) ≡ front ++ replicate (i + 1 - from) x
  more_copies xs front i from x low within so =
      let one : i - from + 1 ≡ i + 1 - from = omega (arith, low) in
      take_more_set xs i x within ∙ ap (λ (ys : List X). ys ++ x ∷ []) so
      ∙ append_assoc front (replicate (i - from) x) (x ∷ [])
      ∙ ap (λ (ys : List X). front ++ ys) (replicate-append-replicate (i - from) 1 x
      ∙ ap (λ (n : ℕ). replicate n x) one)

pub loop-i-preserved : goal.loop-i-preserved
loop-i-preserved g c =
    let at = c.loop-i in let so = at.invariant in let put = c.put.ensures in let old = at.slots in
    let asked = c.requires.range in let under : at.i < c.args.to = c.loop-i-test.true in
    let within : at.i < length old.items = omega (arith, under, asked, so.0.count, old.ok.0) in
    let marked : at.i < length old.filled = omega (arith, under, asked, so.0.count, old.ok.1) in
    let low : c.args.from ≤ at.i + 1 = omega (arith, so.1) in
    let high : at.i + 1 ≤ c.args.to = omega (arith, under) in (
      record {
        start = put.places.start ∙ so.0.start;
        count = put.places.count ∙ so.0.count;
      },
      low,
      high,
      (λ k z h. ap (λ fs. get_or fs k false) put.filled ∙ more_filled old.filled at.i marked so.3 k
          z h),
      ap (take (at.i + 1)) put.items
          ∙ more_copies old.items _ at.i c.args.from c.args.item so.1 within so.4,
    )
