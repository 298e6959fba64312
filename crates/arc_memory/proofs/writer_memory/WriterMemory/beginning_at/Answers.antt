-- Of the piece's places, which are empty, the first are empty, and the others begin behind them.
use Rattle.std.proofs.Common.{◌≡◌, ℕ, zero, suc, ◌+◌, ◌-◌, ◌≤◌, List, [], length, take, drop, refl}
use Rattle.std.proofs.Common.{sym, ap, ◌∙◌, arith}
use Rattle.arc_memory.proofs.writer_memory.WriterMemory.beginning_at.Goals as goal

begins : (first at start : ℕ) → first ≡ 0 → start ≡ first + at → at ≡ start
begins first at start none sum = omega arith

reaches : (at start count all whole asked : ℕ) → at ≡ start → count ≡ all - at → all ≡ whole
    → whole ≡ asked → at ≤ asked → start + count ≡ whole
reaches at start count all whole asked here rest same wanted within = omega arith

module _ {X : Type 0} where
  take_none : (n : ℕ) → ◌≡◌ {A = List X} (take n []) []
  take_none zero = refl
  take_none (suc n) = refl

  drop_none : (n : ℕ) → ◌≡◌ {A = List X} (drop n []) []
  drop_none zero = refl
  drop_none (suc n) = refl

pub of-requires-clause-all : goal.of-requires-clause-all
of-requires-clause-all g c =
    let cut = c.split-before.ensures in let made = c.in-Ok.ensures.places in
    let here = begins _ _ _ made.0.2 cut.back.0 in (
      cut.allocation.0.0 ∙ sym cut.allocation.1.0,
      cut.allocation.0.1 ∙ sym cut.allocation.1.1,
      cut.allocation.1.0 ∙ made.0.0,
      cut.allocation.1.1 ∙ made.0.1,
      cut.front.0 ∙ made.0.2,
      cut.front.1 ∙ here,
      reaches _ _ _ _ _ _ here cut.back.1 made.0.3 made.3 c.requires,
    )

pub of-requires-clause-before : goal.of-requires-clause-before
of-requires-clause-before g c =
    c.split-before.ensures.front.2 ∙ ap (take c.args.start) c.in-Ok.ensures.places.1
    ∙ take_none c.args.start

pub of-requires-clause-len : goal.of-requires-clause-len
of-requires-clause-len g c =
    sym (ap length (c.split-before.ensures.back.2
    ∙ ap (drop c.args.start) c.in-Ok.ensures.places.1 ∙ drop_none c.args.start))

pub returns-in-Ok-clause-items : goal.returns-in-Ok-clause-items
returns-in-Ok-clause-items g c =
    c.of.ensures.items ∙ c.split-before.ensures.back.2
    ∙ ap (drop c.args.start) c.in-Ok.ensures.places.1 ∙ drop_none c.args.start
