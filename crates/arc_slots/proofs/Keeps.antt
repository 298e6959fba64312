-- Where the windows of a table and the passes of their blocks belong together, they do after what a
-- command adds.
use Rattle.std.proofs.Common.{inl, inr, ◌≡◌, ℕ, ◌==◌, Bool, true, false, if◌then◌else◌, List, []}
use Rattle.std.proofs.Common.{◌∷◌, ◌++◌, length, Option, Some, None, slice_get, slice_set, refl}
use Rattle.std.proofs.Common.{sym, ap, ◌∙◌, subst, arith}
use Rattle.std.specs.Option.{option_map_or}
use Rattle.std.proofs.lemmas.Bool.{eq-eqb, eqb-true}
use Rattle.std.proofs.lemmas.Option.{slice_get_cases}
use Rattle.std.proofs.lemmas.List.Sorted.{length_permutation, list_any-IsPermutation}
use Rattle.arc_owners.specs.declared.count.tokens.Pass.{Pass}
use Rattle.arc_owners.specs.declared.error.OwnerError.{OwnerError}
use Rattle.arc_owners.specs.declared.history.entry.Entry.{Entry}
use Rattle.arc_owners.specs.declared.history.entry.Entry.TheVariants as entry
use Rattle.arc_owners.specs.history.Histories.{is_counted, is_in, live_owners}
use Rattle.arc_owners.specs.count.Invariant.{BlockId}
use Rattle.arc_owners.specs.count.Calls.{Owner, Appends, seen, history_of}
use Rattle.arc_owners.proofs.Steps.{one_is}
use Rattle.arc_owners.proofs.Wholes.{may-stand}
use Rattle.arc_block.specs.declared.block.TheConstants.{MAX_OWNERS}
use Rattle.arc_block.specs.Owned.{Stand, IsKept, number_on, owners_on}
use Rattle.arc_block.specs.Table.{Row}
use Rattle.arc_block.proofs.Lists.{filter_map-in, get-set}
use Rattle.arc_block.proofs.Owned.{kept-asked, kept-begun, kept-full, kept-gone, kept-gone-nowhere}
use Rattle.arc_block.proofs.Owned.{kept-new, kept-nowhere, kept-same, kept-shared, kept-turned}
use Rattle.arc_commands.specs.Additions.{AddsAt, Enters, Founds, GivesItself, GivesOther, Goes}
use Rattle.arc_commands.specs.Additions.{MayBegin, MovesAndGives, Raises, RowAdds, Takes, asked}
use Rattle.arc_commands.specs.Additions.{ended, refused, with_stand}
use Rattle.arc_commands.specs.Changes.{Setting}
use Rattle.arc_commands.specs.Commands.{ListCmd, ListReply}
use Rattle.arc_commands.proofs.AddsEach.{row_adds_each}
use Rattle.arc_slots.specs.Answers.{live_on}
use Rattle.arc_slots.specs.Stands.{HasPassFor}
use Rattle.arc_slots.proofs.Added.{entries-refused}
use Rattle.arc_slots.proofs.Taken.{set-back, set-twice}

number_here : (n : ℕ) (o : Owner) → number_on n (Some (n, o)) ≡ Some o.number
number_here n o = ap (λ b. if b then Some o.number else None) (eq-eqb n n refl)

-- an owner that is there lives, and where it ends the others stay
module _ {H : Type 0} (stands : List Stand) (passes : List (Pass H))
    (k : IsKept MAX_OWNERS stands passes) (i : ℕ) where
  -- an owner that stands here lives
  lives : (n : ℕ) (o : Owner) → slice_get stands i ≡ Some (Some (n, o)) → (p : Pass H)
      → slice_get passes n ≡ Some p → is_in o.number (live_owners (seen p)) ≡ true
  lives n o at p was =
      list_any-IsPermutation (λ m. m == o.number) _ _ (k.live n p was)
      ∙ filter_map-in (number_on n) stands i (Some (n, o)) o.number at (number_here n o)

  pub gone-at : (here : Stand) → slice_get stands i ≡ Some here → (passes' : List (Pass H))
      → AddsAt here ended passes passes'
      → IsKept MAX_OWNERS (slice_set stands i None) passes'
  gone-at None at passes' adds =
      subst (λ ps. IsKept MAX_OWNERS (slice_set stands i None) ps) (sym adds)
      (kept-gone-nowhere i k at)
  gone-at (Some (n, o)) at passes' adds =
      let xs = live_owners (seen adds.before) in
      subst (λ ps. IsKept MAX_OWNERS (slice_set stands i None) ps) (sym adds.others)
      (kept-gone i n k at adds.was {last = length xs == 1} (record {
        before = history_of adds.before;
        added = adds.added;
        exact = (
          λ one. one_is xs o.number (lives n o at adds.before adds.was)
              (eqb-true (length xs) 1 one),
          λ alone. eq-eqb (length xs) 1 (ap length alone),
        );
      }))

module _ {H : Type 0} (stands : List Stand) (passes : List (Pass H))
    (k : IsKept MAX_OWNERS stands passes) (i : ℕ) where
  pub known-pass : (s : Stand) → slice_get stands i ≡ Some s → HasPassFor passes s
  known-pass None at = tt
  known-pass (Some (n, o)) at =
      let has = k.known i n o at in
      elim (slice_get_cases passes n).1 [
        | inl there ↦
            (let is = (has.1 there.0 there.2).1 in
            let fits = k.passes_fit n there.0 there.2 in (
              has,
              ap (λ (t : BlockId). t.whole) (sym is) ∙ fits.whole,
              ap (λ (t : BlockId). t.most) (sym is) ∙ fits.most,
              lives stands passes k i n o at,
            ))
        | inr past ↦ absurd (omega (arith, has.0, past.0))
      ]

  -- as many owners live as stand on its block
  pub many-live : (n : ℕ) (o : Owner) → slice_get stands i ≡ Some (Some (n, o))
      → length (owners_on n stands) ≡ live_on passes (Some (n, o))
  many-live n o at =
      let has = k.known i n o at in
      elim (slice_get_cases passes n).1 [
        | inl there ↦
            length_permutation _ _ (k.live n there.0 there.2)
            ∙ sym (ap (λ x. option_map_or (λ p. length (live_owners (seen p))) x 0) there.2)
        | inr past ↦ absurd (omega (arith, has.0, past.0))
      ]

  module _ (here : Stand) (at : slice_get stands i ≡ Some here) (passes' : List (Pass H)) where
    abbrev Keeps : Stand → Option Stand → Type 0
    Keeps there made =
        IsKept MAX_OWNERS (with_stand (slice_set stands i there) made) passes'

    -- nothing changes where it stands
    same-place : IsKept MAX_OWNERS stands passes' → (there : Stand) → there ≡ here
        → (made : Option Stand) → made ≡ None → Keeps there made
    same-place kept there is made none =
        subst (Keeps there) (sym none)
        (subst (λ x. IsKept MAX_OWNERS x passes')
        (sym (ap (slice_set stands i) is ∙ set-back stands i here at)) kept)

  -- what was asked, or refused, changes no owner
  asked-kept : (n : ℕ) (o : Owner) → slice_get stands i ≡ Some (Some (n, o)) → (found b : Bool)
      → (p q : Pass H) → slice_get passes n ≡ Some p → b ≡ is_counted o.block.began (seen p)
      → Appends o.block p q (history_of p) (if b then entry.Alone o.number found ∷ [] else [])
      → IsKept MAX_OWNERS stands (slice_set passes n q)
  asked-kept n o at found false p q was is added = kept-same i n k at was added
  asked-kept n o at found true p q was is added =
      kept-asked i n k at was (record {
        before = history_of p;
        added =
            subst (λ c. Appends o.block p q (history_of p)
            (if c then entry.Alone o.number found ∷ [] else [])) is added;
        exact = (may-stand added).2;
      })

  asked-at : (here : Stand) → slice_get stands i ≡ Some here → (found : Bool)
      (passes' : List (Pass H)) → AddsAt here (asked found) passes passes'
      → IsKept MAX_OWNERS stands passes'
  asked-at None at found passes' adds = subst (IsKept MAX_OWNERS stands) (sym adds) k
  asked-at (Some (n, o)) at found passes' adds =
      subst (IsKept MAX_OWNERS stands) (sym adds.others)
      (asked-kept n o at found _ adds.before adds.after adds.was refl adds.added)

  refused-at : (here : Stand) → slice_get stands i ≡ Some here → (e : OwnerError)
      (passes' : List (Pass H)) → AddsAt here (refused e) passes passes'
      → IsKept MAX_OWNERS stands passes'
  refused-at None at e passes' adds = subst (IsKept MAX_OWNERS stands) (sym adds) k
  refused-at (Some (n, o)) at e passes' adds =
      let added = λ (es : List Entry). Appends o.block adds.before adds.after
      (history_of adds.before) es in
      subst (IsKept MAX_OWNERS stands) (sym adds.others)
      (elim (entries-refused e o (seen adds.before)) [
        | inl full ↦
            let fills : Appends o.block adds.before adds.after (history_of adds.before)
            (entry.Full o.number ∷ []) = subst added full adds.added in
            kept-full i n k at adds.was (record {
              middle = adds.before;
              joined = inl refl;
              before = history_of adds.before;
              added = fills;
              full = (may-stand fills).2;
            })
        | inr nothing ↦ kept-same i n k at adds.was (subst added nothing adds.added)
      ])

  raised-at : (here other : Stand) → slice_get stands i ≡ Some here → (passes' : List (Pass H))
      → Raises here other passes passes' → IsKept MAX_OWNERS (stands ++ other ∷ []) passes'
  raised-at here None at passes' adds =
      subst (λ ps. IsKept MAX_OWNERS (stands ++ None ∷ []) ps) (sym adds) (kept-nowhere k)
  raised-at None (Some made) at passes' adds = absurd adds
  raised-at (Some (n, o)) (Some made) at passes' adds =
      let a = adds.1 in
      subst (λ (m : ℕ). IsKept MAX_OWNERS (stands ++ Some (m, made.1) ∷ []) passes') (sym adds.0)
      (subst (λ ps. IsKept MAX_OWNERS (stands ++ Some (n, made.1) ∷ []) ps) (sym a.others)
      (kept-shared i n k at a.was (record {
        middle = a.before;
        joined = inl refl;
        before = history_of a.before;
        added =
            subst (λ (m : ℕ). Appends o.block a.before a.after (history_of a.before)
            ((if is_counted o.block.began (seen a.before) then entry.Up o.number m else
            entry.Promote o.number m) ∷ [])) refl a.added;
        made = adds.2;
      })))

  begins-at : (here there : Stand) → slice_get stands i ≡ Some here → (passes' : List (Pass H))
      → MayBegin here there passes passes' → IsKept MAX_OWNERS (slice_set stands i there) passes'
  begins-at (Some here) there at passes' adds =
      subst (λ ps. IsKept MAX_OWNERS (slice_set stands i there) ps) (sym adds.1)
      (subst (λ x. IsKept MAX_OWNERS x passes)
      (sym (ap (slice_set stands i) adds.0 ∙ set-back stands i (Some here) at)) k)
  begins-at None None at passes' adds =
      subst (λ ps. IsKept MAX_OWNERS (slice_set stands i None) ps) (sym adds)
      (kept-gone-nowhere i k at)
  begins-at None (Some (number, o)) at passes' adds =
      let p = adds.2 in
      subst (λ ps. IsKept MAX_OWNERS (slice_set stands i (Some (number, o))) ps) (sym adds.4)
      (subst (λ n. IsKept MAX_OWNERS (slice_set stands i (Some (n, o))) (passes ++ p ∷ []))
      (sym adds.0) (kept-begun i p k at adds.1 adds.3))

  -- a window was made of a list
  pub founded-kept : (stand : Stand) (passes' : List (Pass H)) → Founds stand passes passes'
      → IsKept MAX_OWNERS (stands ++ stand ∷ []) passes'
  founded-kept None passes' adds =
      subst (λ ps. IsKept MAX_OWNERS (stands ++ None ∷ []) ps) (sym adds) (kept-nowhere k)
  founded-kept (Some (number, o)) passes' adds =
      let p = adds.2 in
      subst (λ ps. IsKept MAX_OWNERS (stands ++ Some (number, o) ∷ []) ps) (sym adds.4)
      (subst (λ (n : ℕ). IsKept MAX_OWNERS (stands ++ Some (n, o) ∷ []) (passes ++ p ∷ []))
      (sym adds.0) (kept-new p k adds.1 adds.3))

-- A window left a vector for a block more, on which another was made.
module _ {H : Type 0} (stands : List Stand) (passes : List (Pass H))
    (k : IsKept MAX_OWNERS stands passes) (i : ℕ) (here : Stand)
    (at : slice_get stands i ≡ Some here) (passes' : List (Pass H)) (there : Stand)
    (made : Option Stand) where
  pub moves-kept : MovesAndGives here there made passes passes'
      → IsKept MAX_OWNERS (with_stand (slice_set stands i there) made) passes'
  moves-kept m =
      let left = slice_set stands i None in
      let one : IsKept MAX_OWNERS left m.between =
      gone-at stands passes k i here at m.between m.left in
      let two : IsKept MAX_OWNERS (slice_set stands i there) m.begun_with =
      subst (λ ss. IsKept MAX_OWNERS ss m.begun_with) (set-twice stands i None there)
      (begins-at left m.between one i None there (get-set stands i here None at) m.begun_with
      m.begins) in
      subst (λ x. IsKept MAX_OWNERS (with_stand (slice_set stands i there) x) passes')
      (sym m.handed_out)
      (raised-at (slice_set stands i there) m.begun_with two i there m.other
      (get-set stands i here there at) passes' m.raises)

module _ {H : Type 0} (stands : List Stand) (passes : List (Pass H))
    (k : IsKept MAX_OWNERS stands passes) (i : ℕ) where
  module _ (here : Stand) (at : slice_get stands i ≡ Some here) (passes' : List (Pass H))
      (there : Stand) (made : Option Stand) where
    abbrev Kept : Type 0
    Kept = IsKept MAX_OWNERS (with_stand (slice_set stands i there) made) passes'

    enters-kept : (entries : _) → IsKept MAX_OWNERS stands passes'
        → Enters entries here there made passes passes' → Kept
    enters-kept entries kept adds = same-place stands passes k i here at passes' kept there adds.0
        made adds.1

    none-kept : (there ≡ here) × (made ≡ None) × (passes' ≡ passes) → Kept
    none-kept adds =
        same-place stands passes k i here at passes' (subst (IsKept MAX_OWNERS stands)
        (sym adds.2) k) there adds.0 made
        adds.1

    -- another window was handed out, or it itself
    other-kept : GivesOther here there made passes passes' → Kept
    other-kept adds =
        subst (λ m. IsKept MAX_OWNERS (with_stand (slice_set stands i there) m) passes')
        (sym adds.handed_out)
        (subst (λ ss. IsKept MAX_OWNERS (ss ++ adds.other ∷ []) passes')
        (sym (ap (slice_set stands i) adds.stays ∙ set-back stands i here at))
        (raised-at stands passes k i here adds.other at passes' adds.raises))

    itself-kept : GivesItself here there made passes passes' → Kept
    itself-kept adds =
        subst (λ m. IsKept MAX_OWNERS (with_stand (slice_set stands i there) m) passes')
        (sym adds.handed_out)
        (kept-turned stands i here there
        (raised-at stands passes k i here there at passes' adds.raises) at)

    stays-kept : MayBegin here there passes passes' × (made ≡ None) → Kept
    stays-kept adds =
        subst (λ m. IsKept MAX_OWNERS (with_stand (slice_set stands i there) m) passes')
        (sym adds.1) (begins-at stands passes k i here there at passes' adds.0)

    goes-kept : Goes ended here there made passes passes' → Kept
    goes-kept adds =
        subst (λ m. IsKept MAX_OWNERS (with_stand (slice_set stands i there) m) passes')
        (sym adds.1)
        (subst (λ st. IsKept MAX_OWNERS (slice_set stands i st) passes') (sym adds.0)
        (gone-at stands passes k i here at passes' adds.2))

    -- what it stood on was taken out
    takes-kept : Takes here there made passes passes' → Kept
    takes-kept adds =
        subst (λ m. IsKept MAX_OWNERS (with_stand (slice_set stands i there) m) passes')
        (sym adds.1)
        (subst (λ st. IsKept MAX_OWNERS (slice_set stands i st) passes') (sym adds.0)
        (gone-at stands adds.2
        (asked-at stands passes k i here at true adds.2 adds.3) i here at passes' adds.4))

    -- what a command on a row adds keeps them together
    pub row-kept : {T M : Type 0} (setting : Setting T) (row : Row T M) (c : ListCmd T M)
        (r : ListReply T M) → RowAdds setting row c r here there made passes passes' → Kept
    row-kept =
        row_adds_each (record {
          other = other-kept;
          itself = itself-kept;
          moves = moves-kept stands passes k i here at passes' there made;
          asks = λ alone adds. enters-kept (asked alone) (asked-at stands passes k i here at alone
              passes' adds.2) adds;
          refuses = λ e adds. enters-kept (refused e) (refused-at stands passes k i here at e
              passes' adds.2) adds;
          stays = stays-kept;
          goes = goes-kept;
          takes = takes-kept;
          none = none-kept;
        })
