-- Runs of one pass alone: under `Whole` nothing comes between two of its calls, so each reply
-- follows from the history so far.
use Rattle.std.proofs.Common.{◌≡◌, ℕ, ◌<◌, Bool, true, List, [], ◌∷◌, ◌++◌, length, refl, sym, ap}
use Rattle.std.proofs.Common.{◌∙◌, subst, arith, lit<}
use Rattle.std.specs.List.{Contains}
use Rattle.std.proofs.lemmas.List.Elements.{Contains-append_right}
use Rattle.arc_owners.specs.declared.history.entry.Entry.{Entry}
use Rattle.arc_owners.specs.declared.history.entry.Entry.TheVariants.{Up, Full, Down}
use Rattle.arc_owners.specs.declared.count.tokens.Pass.{Pass}
use Rattle.arc_owners.specs.history.Histories.{Counted, owners_ever, live_owners, LivesAlone}
use Rattle.arc_owners.specs.count.Invariant.{BlockId, Line, entries_of, made_by, next_owner}
use Rattle.arc_owners.specs.count.Calls.{Owner, IsFirst, IsFreshPass, Appends, MakesAnother}
use Rattle.arc_owners.specs.count.Calls.{FindsFull, Leaves, HasCountIn, mine, seen}
use Rattle.arc_owners.proofs.Wholes.{counted_first, seen-after, seen-more, mine-more, before-is}
use Rattle.arc_owners.proofs.Wholes.{counted-still, may-stand, counted-makes, counted-full}
use Rattle.arc_owners.proofs.Wholes.{full-exact, last-exact, made-number}

-- the pass has seen this history of a block that has a count, and made all of it
pub record Ran {H : Type 0} (t : BlockId) (p : Pass H) (h : List Entry) : Type 0 where
  pub entries : seen p ≡ h
  pub made : mine p ≡ h
  pub counted : HasCountIn t (seen p)

pub ran-none : {H : Type 0} {most : ℕ} {whole : Bool} {o : Owner} {p : Pass H}
    → IsFirst most whole Counted o → IsFreshPass o p → Ran o.block p []
ran-none {o = o} {p = p} first fresh = record {
  entries = ap entries_of fresh.1;
  made = ap (made_by p.trace.number) fresh.1;
  counted = counted_first p first fresh;
}

whole-at : {t : BlockId} (o : Owner) → t.whole ≡ true → o.block ≡ t → o.block.whole ≡ true
whole-at o whole at = ap (λ (b : BlockId). b.whole) at ∙ whole

counted-at : {H : Type 0} {t : BlockId} {p : Pass H} {h : List Entry} (o : Owner) → Ran t p h
    → o.block ≡ t → HasCountIn o.block (seen p)
counted-at {p = p} o ran at = subst (λ (b : BlockId). HasCountIn b (seen p)) (sym at) ran.counted

module _ {H : Type 0} {t : BlockId} (whole : t.whole ≡ true) {p q : Pass H} {h : List Entry}
    (ran : Ran t p h) where
  -- the history, and this entry
  ran-more : {before : List Line} {e : Entry} → Appends t p q before (e ∷ [])
      → Ran t q (h ++ e ∷ [])
  ran-more {e = e} a = record {
    entries = seen-more a whole ∙ ap (λ (es : List Entry). es ++ e ∷ []) ran.entries;
    made = mine-more a ∙ ap (λ (es : List Entry). es ++ e ∷ []) ran.made;
    counted = counted-still a ran.counted;
  }

  module _ {o : Owner} (at : o.block ≡ t) where
    -- the history, and a new owner, whose number is how many there have been
    pub made-one : {other : Owner} (n : ℕ) → length (owners_ever h) ≡ n → MakesAnother o p q other
        → (other.block ≡ t) × (other.number ≡ n)
    made-one n is makes = (
      ap (λ (x : Owner). x.block) makes.made ∙ at,
      made-number (whole-at o whole at) makes
          ∙ (ap (λ (es : List Entry). length (owners_ever es)) ran.entries ∙ is),
    )

    pub ran-up : {other : Owner} (m n : ℕ) → o.number ≡ m → length (owners_ever h) ≡ n
        → MakesAnother o p q other → Ran t q (h ++ Up m n ∷ [])
    ran-up m n by is makes = let made = counted-makes (counted-at o ran at) makes in
        subst (λ (k : ℕ × ℕ). Ran t q (h ++ Up k.0 k.1 ∷ []))
        (λ i. (by i, (sym made.3 ∙ (made-one n is makes).1) i))
        (ran-more (subst
        (λ (b : BlockId). Appends b p q made.0 (Up o.number (next_owner made.0) ∷ [])) at
        made.1))

    -- the history, and a refusal
    pub ran-full : (m : ℕ) → o.number ≡ m → FindsFull o p q → Ran t q (h ++ Full m ∷ [])
    ran-full m by full = let found = counted-full (counted-at o ran at) full in
        subst (λ (k : ℕ). Ran t q (h ++ Full k ∷ [])) by
        (ran-more (subst (λ (b : BlockId). Appends b p q found.0 (Full o.number ∷ [])) at
        found.1))

    -- the history, and an end
    pub ran-down : (m : ℕ) {last : Bool} → o.number ≡ m → Leaves o p q last
        → Ran t q (h ++ Down m ∷ [])
    ran-down m by leaves = subst (λ (k : ℕ). Ran t q (h ++ Down k ∷ [])) by
        (ran-more (subst (λ (b : BlockId). Appends b p q leaves.before (Down o.number ∷ [])) at
        leaves.added))

    -- no owner is made where the count is at its greatest
    pub no-up : {other : Owner} → t.most ≡ length (live_owners h) → MakesAnother o p q other → ⊥
    no-up most makes = let made = counted-makes (counted-at o ran at) makes in
        let below : length (live_owners (entries_of made.0)) < o.block.most = (may-stand made.1).3
        in
        let is : length (live_owners (entries_of made.0)) ≡ length (live_owners h) = ap
        (λ (es : List Entry). length (live_owners es)) (before-is made.1 (whole-at o whole at)
        ∙ ran.entries) in
        absurd (omega (arith, ap (λ (b : BlockId). b.most) at))

    -- nor is one refused below that
    pub no-full : (most : ℕ) → t.most ≡ most → length (live_owners h) < most → FindsFull o p q → ⊥
    no-full most is below full =
        absurd (omega (
          arith,
          ap (λ (b : BlockId). b.most) at,
          full-exact (whole-at o whole at)
              full,
          ap (λ (es : List Entry). length (live_owners es)) ran.entries,
        ))

    -- an end is not that of the last owner where others live
    pub not-last : 1 < length (live_owners h) → Leaves o p q true → ⊥
    not-last others leaves =
        let alone : LivesAlone o.number (seen p) = (last-exact (whole-at o whole at) leaves).0 refl
        in
        absurd (omega (
          arith,
          ap length alone,
          ap (λ (es : List Entry). length (live_owners es))
              ran.entries,
        ))
