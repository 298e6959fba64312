-- What each call does to the windows and the passes of their blocks, which keep belonging together.
use Rattle.std.proofs.Common.{inl, inr, ◌≡◌, ℕ, ◌≤◌, Bool, true, List, [], ◌∷◌, ◌++◌}
use Rattle.std.proofs.Common.{length, Some, None, slice_get, slice_set, refl, sym, ◌∙◌, ap, subst}
use Rattle.std.proofs.Common.{arith, append-nil}
use Rattle.std.specs.List.{cons_option}
use Rattle.std.specs.List.Sorted.{IsPermutation}
use Rattle.std.proofs.lemmas.Bool.{cases_eq, eq-eqb, ne_eqb}
use Rattle.std.proofs.lemmas.Option.{none-some, same_Some, slice_get_cases, slice_get_within}
use Rattle.std.proofs.lemmas.List.Elements.{filter_map-append}
use Rattle.std.proofs.lemmas.List.Sorted.{IsPermutation-append_left, IsPermutation-trans}
use Rattle.arc_owners.specs.declared.history.entry.Entry.{Entry}
use Rattle.arc_owners.specs.declared.count.tokens.Pass.{Pass}
use Rattle.arc_owners.specs.count.Invariant.{Line, BlockId, entries_of}
use Rattle.arc_owners.specs.history.Histories.{Beginning, live_owners, owners_ever}
use Rattle.arc_owners.specs.history.Histories.{owners_ended}
use Rattle.arc_owners.specs.count.Calls.{Owner, Appends, IsSamePass, IsFirst, IsPassFor}
use Rattle.arc_owners.specs.count.Calls.{IsFreshPass, Asks, FindsFull, MakesAnother, Leaves, seen}
use Rattle.arc_owners.proofs.Numbers.{times}
use Rattle.arc_owners.proofs.Told.{Owned}
use Rattle.arc_owners.proofs.Wholes.{seen-more, same-asked, same-full, same-made}
use Rattle.arc_owners.proofs.Wholes.{same-left, lives-asked, lives-full, lives-made, lives-left}
use Rattle.arc_owners.proofs.Wholes.{before-is, owned-before}
use Rattle.arc_block.specs.Owned.{Stand, number_on, owners_on, IsBlockPass, HasPass, IsKept}
use Rattle.arc_block.proofs.Lists.{get-push, get-front, push-cases, get-set, get-set_other}
use Rattle.arc_block.proofs.Lists.{set-cases, filter_map-none, filter_map-set, filter_map-gone}
use Rattle.arc_block.proofs.Permutations.{permuted-same, permuted-then, then-permuted}
use Rattle.arc_block.proofs.Permutations.{filter_map-turned, times-permuted, without-permuted}

-- whose number is counted on a block: the owners there, and no others
number_here : (n : ℕ) (o : Owner) → number_on n (Some (n, o)) ≡ Some o.number
number_here n o = rw (eq-eqb n n refl) refl

number_other : (m n : ℕ) (o : Owner) → ¬ (n ≡ m) → number_on m (Some (n, o)) ≡ None
number_other m n o apart = rw (ne_eqb n m apart) refl

no-number : (m : ℕ) (s : Stand) → ((n : ℕ) (o : Owner) → s ≡ Some (n, o) → ¬ (n ≡ m))
    → number_on m s ≡ None
no-number m None apart = refl
no-number m (Some (n, o)) apart = number_other m n o (apart n o refl)

-- no owner is on a block on which no window stands
no-owners : (m : ℕ) (stands : List Stand)
    → ((i n : ℕ) (o : Owner) → slice_get stands i ≡ Some (Some (n, o)) → ¬ (n ≡ m))
    → owners_on m stands ≡ []
no-owners m stands apart =
    filter_map-none (number_on m) stands
    (λ i s here. no-number m s (λ n o is. apart i n o (here ∙ ap Some is)))

-- one window more
owners-push : (m : ℕ) (stands : List Stand) (s : Stand) → owners_on m (stands ++ s ∷ []) ≡ owners_on
    m stands ++ cons_option (number_on m s) []
owners-push m stands s = filter_map-append (number_on m) stands (s ∷ [])

owners-pushed : (n : ℕ) (stands : List Stand) (o : Owner)
    → owners_on n (stands ++ Some (n, o) ∷ []) ≡ owners_on n stands ++ o.number ∷ []
owners-pushed n stands o = owners-push n stands (Some (n, o))
    ∙ ap (λ x. owners_on n stands ++ cons_option x []) (number_here n o)

owners-pushed_other : (m : ℕ) (stands : List Stand) (s : Stand) → number_on m s ≡ None
    → owners_on m (stands ++ s ∷ []) ≡ owners_on m stands
owners-pushed_other m stands s none = owners-push m stands s
    ∙ ap (λ x. owners_on m stands ++ cons_option x []) none ∙ append-nil (owners_on m stands)

-- who lives at the beginning
live-none : live_owners [] ≡ 0 ∷ []
unfolding live_owners owners_ever owners_ended
live-none = refl

module _ {H : Type 0} where
  -- the pass of a block, where it has one
  found-pass : (passes : List (Pass H)) (n : ℕ) (o : Owner) → HasPass passes n o → (p : Pass H)
      × (slice_get passes n ≡ Some p) × IsPassFor o p
  found-pass passes n o has =
      elim (slice_get_cases passes n).1 [
        | inl at ↦ (at.0, at.2, has.1 at.0 at.2)
        | inr past ↦
            absurd (omega (arith, has.0, past.0))
      ]

  has-pass : (passes : List (Pass H)) (n : ℕ) (o : Owner) (p : Pass H) → slice_get passes n ≡ Some p
      → IsPassFor o p → HasPass passes n o
  has-pass passes n o p at for = (
    slice_get_within passes n p at,
    λ q here. subst (IsPassFor o) (same_Some p q (sym at ∙ here))
        for,
  )

  -- each of these windows' blocks has its pass
  abbrev AllKnown : List Stand → List (Pass H) → Type 0
  AllKnown stands passes =
      (i n : ℕ) (o : Owner) → slice_get stands i ≡ Some (Some (n, o)) → HasPass passes n o

  known-push : (stands : List Stand) (passes : List (Pass H)) (s : Stand) → AllKnown stands passes
      → ((n : ℕ) (o : Owner) → s ≡ Some (n, o) → HasPass passes n o)
      → AllKnown (stands ++ s ∷ []) passes
  known-push stands passes s known last i n o here = elim (push-cases stands i (Some (n, o)) s here)
      [ inl front ↦ known i n o front | inr end ↦ last n o end.1 ]

  known-pushed : (stands : List Stand) (passes : List (Pass H)) (n : ℕ) (o : Owner)
      → AllKnown stands passes → HasPass passes n o → AllKnown (stands ++ Some (n, o) ∷ []) passes
  known-pushed stands passes n o known has =
      known-push stands passes (Some (n, o)) known
      (λ m q is. subst (λ (x : ℕ × Owner). HasPass passes x.0 x.1) (same_Some (n, o) (m, q) is)
      has)

  known-gone : (stands : List Stand) (passes : List (Pass H)) (i : ℕ) → AllKnown stands passes
      → AllKnown (slice_set stands i None) passes
  known-gone stands passes i known j n o here = elim (set-cases stands i j (Some (n, o)) None here)
      [ inl other ↦ known j n o other.1 | inr gone ↦ absurd (none-some (n, o) gone.1) ]

  -- a pass of a block that so many owners may have at most, under `Whole`
  block-pass : (g : ℕ) (o : Owner) (p : Pass H) → o.block.whole ≡ true → o.block.most ≡ g
      → IsPassFor o p → IsBlockPass g p
  block-pass g o p whole most for =
      record {
        bound = for.0;
        whole = ap (λ (t : BlockId). t.whole) for.1 ∙ whole;
        most =
            ap (λ (t : BlockId). t.most) for.1 ∙ most;
      }

  pub kept-nowhere : {g : ℕ} {stands : List Stand} {passes : List (Pass H)} → IsKept g stands passes
      → IsKept g (stands ++ None ∷ []) passes
  kept-nowhere {stands = stands} {passes = passes} k = record {
    known = known-push stands passes None k.known (λ n o is. absurd (none-some (n, o) is));
    passes_fit = k.passes_fit;
    live = λ n p here. permuted-then (k.live n p here)
        (sym (owners-pushed_other n stands None refl));
  }

  pub kept-gone-nowhere : {g : ℕ} {stands : List Stand} {passes : List (Pass H)} (i : ℕ)
      → IsKept g stands passes → slice_get stands i ≡ Some None → IsKept g (slice_set stands i None)
      passes
  kept-gone-nowhere {stands = stands} {passes = passes} i k there = record {
    known = known-gone stands passes i k.known;
    passes_fit = k.passes_fit;
    live = λ n p here. permuted-then (k.live n p here)
        (sym (filter_map-set (number_on n) stands i None None there refl));
  }

  pub kept-new : {g : ℕ} {stands : List Stand} {passes : List (Pass H)} {o : Owner} {b : Beginning}
      (p : Pass H) → IsKept g stands passes → IsFirst g true b o → IsFreshPass o p
      → IsKept g (stands ++ Some (length passes, o) ∷ []) (passes ++ p ∷ [])
  kept-new {g = g} {stands = stands} {passes = passes} {o = o} p k first fresh =
      let n = length passes in
      let none : owners_on n stands ≡ [] = no-owners n stands
      (λ i m q here e. omega (arith, e, (k.known i m q here).0)) in
      let begun : live_owners (seen p) ≡ owners_on n (stands ++ Some (n, o) ∷ []) =
      ap (λ (ls : List Line). live_owners (entries_of ls)) fresh.1 ∙ live-none
      ∙ sym (owners-pushed n stands o ∙ ap (λ ns. ns ++ o.number ∷ []) none
      ∙ ap (λ j. j ∷ []) first.number) in
      record {
        known = known-pushed stands (passes ++ p ∷ []) n o
            (λ i m q here. let found = found-pass passes m q (k.known i m q here) in
            has-pass (passes ++ p ∷ []) m q found.0 (get-front passes m found.0 p found.1)
            found.2)
            (has-pass (passes ++ p ∷ []) n o p (get-push passes p) fresh.0);
        passes_fit = λ m q here. elim (push-cases passes m q p here) [
          | inl front ↦
              k.passes_fit m q front
          | inr end ↦ subst (IsBlockPass g) end.1
              (block-pass g o p first.whole first.most fresh.0)
        ];
        live = λ m q here. elim (push-cases passes m q p here) [
          | inl front ↦ permuted-then (k.live m q front)
              (sym (owners-pushed_other m stands (Some (n, o))
              (number_other m n o (λ e. omega (arith, e, slice_get_within passes m q front)))))
          | inr end ↦ permuted-same (ap (λ (r : Pass H). live_owners (seen r)) (sym end.1) ∙ begun
              ∙ ap (λ j. owners_on j (stands ++ Some (n, o) ∷ [])) (sym end.0))
        ];
      }

  -- the window at the end and the one at place i, each in the other's place
  pub kept-turned : {g : ℕ} {passes : List (Pass H)} (stands : List Stand) (i : ℕ) (t s : Stand)
      → IsKept g (stands ++ s ∷ []) passes → slice_get stands i ≡ Some t
      → IsKept g (slice_set stands i s ++ t ∷ []) passes
  kept-turned {passes = passes} stands i t s k there = record {
    known = known-push (slice_set stands i s) passes t
        (λ j n o here. elim (set-cases stands i j (Some (n, o)) s here) [
          | inl other ↦ k.known j n o (get-front stands j (Some (n, o)) s other.1)
          | inr is ↦ k.known (length stands) n o (get-push stands s ∙ ap Some is.1)
        ])
        (λ n o is. k.known i n o (get-front stands i t s there ∙ ap Some is));
    passes_fit = k.passes_fit;
    live = λ n p here. IsPermutation-trans _ _ _ (k.live n p here)
        (filter_map-turned (number_on n) stands i t s there);
  }

  -- without a stand at the end that is none
  kept-front : {g : ℕ} {passes : List (Pass H)} (stands : List Stand)
      → IsKept g (stands ++ None ∷ []) passes → IsKept g stands passes
  kept-front stands k = record {
    known = λ i n o here. k.known i n o (get-front stands i (Some (n, o)) None here);
    passes_fit = k.passes_fit;
    live = λ n p here. permuted-then (k.live n p here) (owners-pushed_other n stands None refl);
  }

  -- a window that stood on nothing is the first owner of a new block
  pub kept-begun : {g : ℕ} {stands : List Stand} {passes : List (Pass H)} {o : Owner}
      {b : Beginning} (i : ℕ) (p : Pass H) → IsKept g stands passes → slice_get stands i ≡ Some None
      → IsFirst g true b o → IsFreshPass o p
      → IsKept g (slice_set stands i (Some (length passes, o))) (passes ++ p ∷ [])
  kept-begun {stands = stands} {passes = passes} {o = o} i p k there first fresh =
      let st : Stand = Some (length passes, o) in
      kept-front (slice_set stands i st) (kept-turned stands i None st (kept-new p k first fresh)
      there)

module _ {H : Type 0} {g : ℕ} {stands : List Stand} {passes : List (Pass H)} {o : Owner}
    {old : Pass H} (i n : ℕ) (k : IsKept g stands passes)
    (there : slice_get stands i ≡ Some (Some (n, o))) (was : slice_get passes n ≡ Some old) where
  -- the pass is that of the window's block, under `Whole`
  is-for : IsPassFor o old
  is-for = (k.known i n o there).1 old was

  is-whole : o.block.whole ≡ true
  is-whole = ap (λ (t : BlockId). t.whole) (sym is-for.1) ∙ (k.passes_fit n old was).whole

  is-most : o.block.most ≡ g
  is-most = ap (λ (t : BlockId). t.most) (sym is-for.1) ∙ (k.passes_fit n old was).most

  lived : IsPermutation (live_owners (seen old)) (owners_on n stands)
  lived = k.live n old was

  -- the other passes, and the windows on the other blocks, are as they were
  kept-after : (new : Pass H) (after : List Stand) → IsSamePass o.block old new
      → AllKnown after passes → IsPermutation (live_owners (seen new)) (owners_on n after)
      → ((m : ℕ) → ¬ (n ≡ m) → owners_on m after ≡ owners_on m stands)
      → IsKept g after (slice_set passes n new)
  kept-after new after same known here others = record {
    known = λ j m q at.
        let found = found-pass passes m q (known j m q at) in
        elim (cases_eq n m) [
          | inl e ↦
              (let one : found.0 ≡ old = same_Some found.0 old (sym found.1
              ∙ ap (slice_get passes) (sym e) ∙ was) in
              subst (λ (x : ℕ). HasPass (slice_set passes n new) x q) e
              (has-pass (slice_set passes n new) n q new (get-set passes n old new was) (
                same.0.0,
                same.0.1 ∙ sym is-for.1 ∙ ap (λ (p : Pass H). p.trace.block) (sym one)
                    ∙ found.2.1,
              )))
          | inr apart ↦ has-pass (slice_set passes n new) m q found.0
              (get-set_other passes n m new apart ∙ found.1) found.2
        ];
    passes_fit = λ m p at. elim (set-cases passes n m p new at) [
      | inl other ↦ k.passes_fit m p other.1
      | inr is ↦ subst (IsBlockPass g) is.1 (block-pass g o new is-whole is-most same.0)
    ];
    live = λ m p at. elim (set-cases passes n m p new at) [
      | inl other ↦ permuted-then (k.live m p other.1) (sym (others m other.0))
      | inr is ↦ then-permuted (ap (λ (r : Pass H). live_owners (seen r)) (sym is.1))
          (permuted-then here (ap (λ j. owners_on j after) is.0))
    ];
  }

  pub kept-asked : {new : Pass H} {found : Bool} → Asks o old new found
      → IsKept g stands (slice_set passes n new)
  kept-asked {new = new} asks = kept-after new stands (same-asked asks) k.known
      (then-permuted (lives-asked is-whole asks) lived) (λ m apart. refl)

  pub kept-full : {new : Pass H} → FindsFull o old new → IsKept g stands (slice_set passes n new)
  kept-full {new = new} full = kept-after new stands (same-full full) k.known
      (then-permuted (lives-full is-whole full) lived) (λ m apart. refl)

  pub kept-shared : {new : Pass H} {other : Owner} → MakesAnother o old new other
      → IsKept g (stands ++ Some (n, other) ∷ []) (slice_set passes n new)
  kept-shared {new = new} {other = other} makes =
      kept-after new (stands ++ Some (n, other) ∷ []) (same-made makes)
      (known-pushed stands passes n other k.known
      (has-pass passes n other old was (
        is-for.0,
        is-for.1
            ∙ sym (ap (λ (q : Owner). q.block) makes.made),
      )))
      (then-permuted (lives-made is-whole makes)
      (permuted-then (IsPermutation-append_left (other.number ∷ []) _ _ lived)
      (sym (owners-pushed n stands other))))
      (λ m apart. owners-pushed_other m stands (Some (n, other)) (number_other m n other apart))

  -- each owner stands once
  owned : Owned (seen old) → times o.number (owners_on n stands) ≤ 1
  owned once = subst (λ m. m ≤ 1) (times-permuted o.number lived) (once.once o.number)

  pub kept-gone : {new : Pass H} {last : Bool} → Leaves o old new last
      → IsKept g (slice_set stands i None) (slice_set passes n new)
  kept-gone {new = new} leaves =
      let once : Owned (seen old) = subst (λ (h : List Entry). Owned h)
      (before-is leaves.added is-whole) (owned-before leaves.added) in
      kept-after new (slice_set stands i None) (same-left leaves)
      (known-gone stands passes i k.known)
      (then-permuted (lives-left is-whole leaves) (permuted-then (without-permuted o.number lived)
      (sym (filter_map-gone (number_on n) stands i (Some (n, o)) None o.number there
      (number_here n o) refl (owned once)))))
      (λ m apart. filter_map-set (number_on m) stands i (Some (n, o)) None there
      (sym (number_other m n o apart)))

  -- a call that adds nothing
  pub kept-same : {new : Pass H} {before : List Line} → Appends o.block old new before []
      → IsKept g stands (slice_set passes n new)
  kept-same {new = new} a =
      kept-after new stands a.same k.known
      (then-permuted (ap live_owners (seen-more a is-whole ∙ append-nil (seen old))) lived)
      (λ m apart. refl)
