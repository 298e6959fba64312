-- What is moved is what lay at the same distance from where it lay.
use Rattle.std.proofs.Common.{◌≡◌, ℕ, zero, suc, ◌+◌, ◌-◌, ◌<◌, ◌≤◌, List, [], ◌∷◌, length, get_or}
use Rattle.std.proofs.Common.{take, drop, refl, sym, ap, ap₂, ◌∙◌, arith, length-drop, get_or-drop}
use Rattle.arc_memory.proofs.writer_places.move_down.Goals as goal

first : (k : ℕ) → k ≡ 0 + k
first k = omega arith

module _ {X : Type 0} where
  alike : (n : ℕ) (ys zs : List X) → n ≤ length ys → n ≤ length zs
      → ((k : ℕ) (d : X) → k < n → get_or ys k d ≡ get_or zs k d) → take n ys ≡ take n zs
  alike zero ys zs f g same = refl
  alike (suc n) [] zs f g same = absurd (omega (arith, f))
  alike (suc n) (y ∷ ys) [] f g same = absurd (omega (arith, g))
  alike (suc n) (y ∷ ys) (z ∷ zs) f g same =
      ap₂ (λ (x : X) (xs : List X). x ∷ xs) (same 0 y (omega arith))
      (alike n ys zs (omega (arith, f)) (omega (arith, g))
      (λ k d l. same (suc k) d (omega (arith, l))))

  taken : (n from : ℕ) (ys xs : List X) → n ≤ length ys → from + n ≤ length xs
      → ((k : ℕ) (d : X) → k < n → get_or ys (0 + k) d ≡ get_or xs (from + k) d)
      → take n ys ≡ take n (drop from xs)
  taken n from ys xs f g same =
      alike n ys (drop from xs) f (omega (arith, length-drop from xs, g))
      (λ k d l. ap (λ (j : ℕ). get_or ys j d) (first k) ∙ same k d l
      ∙ sym (get_or-drop from xs k d))

pub returns-clause-own : goal.returns-clause-own
returns-clause-own g c =
    let own = c.args.own.now in let between = c.move_run.new.self in
    let after = c.move_within.new.self in
    let n = c.args.rest - c.args.moved in let from = c.args.index + c.args.moved in
    let run = c.move_run.ensures in let move = c.move_within.ensures in
    let asked = c.requires.within in
    let many : n ≤ length after.items = omega (
      arith,
      asked,
      move.places.count,
      run.places.0.count,
      after.ok.0,
    ) in
    let fits : from + n ≤ length between.items = omega
    (arith, asked, run.places.0.count, between.ok.0) in (
      taken n from after.items between.items many fits move.moved
          ∙ ap (λ xs. take n (drop from xs)) run.left.0,
      λ k low high. move.filled.0 k low (omega (arith, high)),
    )
