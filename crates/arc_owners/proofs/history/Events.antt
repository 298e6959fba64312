-- Each entry that may follow a legal history is one step of the word machine: an event, or on a
-- lone word the end without a step.
use Rattle.std.proofs.Common.{inl, inr, ◌≡◌, ℕ, ◌-◌, ◌<◌, Bool, true, false, eqb, ltb, List, []}
use Rattle.std.proofs.Common.{◌∷◌, ◌++◌, length, refl, sym, ap, ◌∙◌, subst, arith, length-append}
use Rattle.std.proofs.lemmas.Bool.{cases_Bool, eq-eqb, eqb-true, lt-ltb, false≢true}
use Rattle.arc_owners.specs.declared.history.entry.Entry.{Entry}
use Rattle.arc_owners.specs.declared.history.entry.Entry.TheVariants.{Up, Full, Down, Alone}
use Rattle.arc_owners.specs.declared.history.entry.Entry.TheVariants.{Promote, Joined}
use Rattle.arc_owners.specs.declared.history.event.Event.TheVariants.{ExchangeWon, ExchangeLost}
use Rattle.arc_owners.specs.declared.history.event.Event.TheVariants.{CountUp, FullFound, CountDown}
use Rattle.arc_owners.specs.declared.history.event.Event.TheVariants.{UniquenessLoad}
use Rattle.arc_owners.specs.history.Histories.{Beginning, is_in}
use Rattle.arc_owners.specs.history.Histories.{owners_ended, live_owners, is_counted, MayFollow}
use Rattle.arc_owners.specs.history.Histories.{IsLegal, NeverLived}
use Rattle.arc_owners.specs.history.Machine.{Machine, is_fresh, changed, without_number}
use Rattle.arc_owners.specs.history.Agreement.{Tells, IsOneEvent, IsEndWithoutStep, IsOneStep}
use Rattle.arc_owners.proofs.history.LoneWords.{promoted-counted}
use Rattle.arc_owners.proofs.history.Numbers.{length-without, times-in}
use Rattle.arc_owners.proofs.history.Owned.{live-same, live-ended}
use Rattle.arc_owners.proofs.history.Steps.{one_is, counted-more, counted-won}
use Rattle.arc_owners.proofs.history.Told.{Owned, grown, unended, lived, legal-owned}

-- an entry of a step on a count
abbrev pub IsStep : Entry → Type 0
IsStep (Up by new) = Unit {0}
IsStep (Full by) = Unit {0}
IsStep (Down owner) = Unit {0}
IsStep (Alone by found) = Unit {0}
IsStep (Promote by new) = ⊥
IsStep (Joined by) = ⊥

module _ (most : ℕ) (began : Beginning) (h : List Entry) (legal : IsLegal most began h) where
  owned : Owned h
  owned = legal-owned most began h legal

  not_living : (new : ℕ) → NeverLived new h → is_in new (live_owners h) ≡ false
  not_living new never = elim (cases_Bool (is_in new (live_owners h))) [
    | inl lives ↦ absurd (false≢true (sym never ∙ lived h new lives))
    | inr no_more ↦ no_more
  ]

  fresh : (m : Machine) (new : ℕ) → Tells began m h → NeverLived new h → is_fresh new m ≡ true
  unfolding is_fresh
  fresh m new t never =
      let a : is_in new m.live ≡ false = ap (is_in new) t.live ∙ not_living new never in
      let b : is_in new (owners_ended m.entries) ≡ false = ap
      (λ (es : List Entry). is_in new (owners_ended es)) t.entries
      ∙ unended h new never owned in rw (a, b) refl

module _ (most : ℕ) (began : Beginning) (h : List Entry) (legal : IsLegal most began h)
    (c : is_counted began h ≡ true) where
  tells-more : (m : Machine) (e : Entry) → m.counted ≡ true → m.entries ≡ h ++ e ∷ []
      → m.live ≡ live_owners (h ++ e ∷ []) → m.count ≡ length (live_owners (h ++ e ∷ []))
      → Tells began m (h ++ e ∷ [])
  tells-more m e counted entries live count =
      record {
        entries = entries;
        live = live;
        count = count;
        counted = counted
            ∙ sym (counted-more began h e c);
        lone =
            λ no_count. absurd (false≢true (sym no_count ∙ counted));
      }

  pub one-full : (by : ℕ) → MayFollow most began h (Full by) → IsOneEvent most began h (Full by)
  one-full by may m thread t ready = let e = Full by in
      let same : live_owners (h ++ e ∷ []) ≡ live_owners h = live-same h e refl refl in
      let at : is_in by m.live ≡ true = ap (is_in by) t.live ∙ may.0 in
      let counted : m.counted ≡ true = t.counted ∙ c in
      let full : eqb m.count most ≡ true = eq-eqb m.count most (t.count ∙ may.2) in (
        FullFound thread by,
        refl,
        rw (at, counted, full) refl,
        tells-more
            (changed m (FullFound thread by)) e counted
            (ap (λ (es : List Entry). es ++ e ∷ []) t.entries) (t.live ∙ sym same) (t.count
            ∙ ap length (sym same)),
      )

  found-is : (by n : ℕ) (found : Bool) → MayFollow most began h (Alone by found)
      → n ≡ length (live_owners h) → eqb n 1 ≡ found
  found-is by n true may is = eq-eqb n 1 (is ∙ ap length (may.2.0 refl))
  found-is by n false may is = elim (cases_Bool (eqb n 1)) [
    | inl one ↦ absurd
        (false≢true (may.2.1 (one_is (live_owners h) by may.0 (sym is ∙ eqb-true n 1 one))))
    | inr more ↦ more
  ]

  pub one-look : (by : ℕ) (found : Bool) → MayFollow most began h (Alone by found)
      → IsOneEvent most began h (Alone by found)
  one-look by found may m thread t ready = let e = Alone by found in
      let same : live_owners (h ++ e ∷ []) ≡ live_owners h = live-same h e refl refl in
      let at : is_in by m.live ≡ true = ap (is_in by) t.live ∙ may.0 in
      let counted : m.counted ≡ true = t.counted ∙ c in
      let here : eqb m.count m.count ≡ true = eq-eqb m.count m.count refl in (
        UniquenessLoad thread by m.count,
        refl,
        rw (at, counted, here) refl,
        tells-more (changed m (UniquenessLoad thread by m.count)) e counted
            (ap (λ (es : List Entry). es ++ Alone by (eqb m.count 1) ∷ []) t.entries
            ∙ ap (λ (b : Bool). h ++ Alone by b ∷ []) (found-is by m.count found may t.count))
            (t.live ∙ sym same) (t.count ∙ ap length (sym same)),
      )

  pub one-down : (owner : ℕ) → MayFollow most began h (Down owner)
      → IsOneEvent most began h (Down owner)
  one-down owner may m thread t ready = let e = Down owner in
      let gone : live_owners (h ++ e ∷ []) ≡ without_number owner (live_owners h) = live-ended h
      owner in
      let at : is_in owner m.live ≡ true = ap (is_in owner) t.live ∙ may in
      let counted : m.counted ≡ true = t.counted ∙ c in
      let here : eqb m.count m.count ≡ true = eq-eqb m.count m.count refl in
      let less : m.count - 1 ≡ length (without_number owner (live_owners h)) = omega (
        arith,
        t.count,
        length-without owner (live_owners h),
        times-in owner (live_owners h) may,
        (owned most began h legal).once owner,
      ) in (
        CountDown thread owner m.count,
        refl,
        rw (at, counted, here) refl,
        tells-more (changed m (CountDown thread owner m.count)) e counted
            (ap (λ (es : List Entry). es ++ e ∷ []) t.entries) (ap (without_number owner) t.live
            ∙ sym gone) (less ∙ ap length (sym gone)),
      )

  pub one-up : (by new : ℕ) → MayFollow most began h (Up by new)
      → IsOneEvent most began h (Up by new)
  unfolding is_fresh
  one-up by new may m thread t ready = let e = Up by new in
      let more : live_owners (h ++ e ∷ []) ≡ live_owners h ++ new ∷ [] = grown h e new refl refl
      may.1 (owned most began h legal) in
      let at : is_in by m.live ≡ true = ap (is_in by) t.live ∙ may.0 in
      let counted : m.counted ≡ true = t.counted ∙ c in
      let here : eqb m.count m.count ≡ true = eq-eqb m.count m.count refl in
      let room : length (live_owners h) < most = may.3 in
      let below : ltb m.count most ≡ true = lt-ltb m.count most (omega (arith, t.count)) in (
        CountUp thread by m.count new,
        refl,
        rw (at, counted, here, below, fresh most began h legal m new t may.1) refl,
        tells-more (changed m (CountUp thread by m.count new)) e counted
            (ap (λ (es : List Entry). es ++ e ∷ []) t.entries)
            (ap (λ (xs : List ℕ). xs ++ new ∷ []) t.live ∙ sym more)
            (omega (arith, t.count, ap length more, length-append (live_owners h) (new ∷ []))),
      )

  pub one_event : (e : Entry) → IsStep e → MayFollow most began h e → IsOneEvent most began h e
  one_event (Up by new) step may = one-up by new may
  one_event (Full by) step may = one-full by may
  one_event (Down owner) step may = one-down owner may
  one_event (Alone by found) step may = one-look by found may
  one_event (Promote by new) step may = absurd step
  one_event (Joined by) step may = absurd step

  -- an exchange that lost
  pub one-lost : (by : ℕ) → MayFollow most began h (Joined by) → IsOneEvent most began h (Joined by)
  one-lost by may m thread t ready = let e = Joined by in
      let same : live_owners (h ++ e ∷ []) ≡ live_owners h = live-same h e refl refl in
      let at : is_in by m.live ≡ true = ap (is_in by) t.live ∙ may.0 in
      let counted : m.counted ≡ true = t.counted ∙ c in (
        ExchangeLost thread by,
        refl,
        rw (at, counted, ready refl) refl,
        tells-more
            (changed m (ExchangeLost thread by)) e counted
            (ap (λ (es : List Entry). es ++ e ∷ []) t.entries) (t.live ∙ sym same) (t.count
            ∙ ap length (sym same)),
      )

in_alone : (n : ℕ) → is_in n (n ∷ []) ≡ true
in_alone n = rw (eq-eqb n n refl) refl

module _ (most : ℕ) (began : Beginning) (h : List Entry) (legal : IsLegal most began h) where
  -- an exchange that won
  one-won : (by new : ℕ) → MayFollow most began h (Promote by new)
      → IsOneEvent most began h (Promote by new)
  unfolding is_fresh
  one-won by new may m thread t ready =
      let e = Promote by new in let owned : Owned h = legal-owned most began h legal in
      let more : live_owners (h ++ e ∷ []) ≡ live_owners h ++ new ∷ [] = grown h e new refl refl
      may.1 owned in
      let alone : m.live ≡ by ∷ [] = t.live ∙ may.0 in
      let at : is_in by m.live ≡ true = ap (is_in by) alone ∙ in_alone by in
      let lone : m.counted ≡ false = t.counted ∙ may.2 in (
        ExchangeWon thread by new,
        refl,
        rw (at, lone, ready refl, fresh most began h legal m new t may.1) refl,
        record {
          entries = ap (λ (es : List Entry). es ++ e ∷ []) t.entries;
          live = ap (λ (xs : List ℕ). xs ++ new ∷ []) t.live ∙ sym more;
          count = sym (ap length more ∙ ap (λ (xs : List ℕ). length (xs ++ new ∷ [])) may.0);
          counted = sym (counted-won began h by new may.2);
          lone = λ (x : true ≡ false). absurd (false≢true (sym x));
        },
      )

  -- an owner of a lone word ends without a step
  ends-lone : (owner : ℕ) → is_counted began h ≡ false → MayFollow most began h (Down owner)
      → IsEndWithoutStep began h (Down owner)
  ends-lone owner lone may m t = inr (
    owner,
    t.live ∙ one_is (live_owners h) owner may (t.lone (t.counted ∙ lone)),
    subst (λ (es : List Entry). Tells began m es) (sym t.entries) t,
    ap (λ (es : List Entry). es ++ Down owner ∷ []) (sym t.entries),
  )

  -- each entry that may follow is one step, on a word with a count and on a lone one
  pub one_step : (e : Entry) → MayFollow most began h e → IsOneStep most began h e
  one_step (Up by new) may = inl (one-up most began h legal may.2 by new may)
  one_step (Full by) may = inl (one-full most began h legal may.1 by may)
  one_step (Down owner) may = elim (cases_Bool (is_counted began h)) [
    | inl c ↦ inl (one-down most began h legal c owner may)
    | inr lone ↦ inr (lone, ends-lone owner lone may)
  ]
  one_step (Alone by found) may = inl (one-look most began h legal may.1 by found may)
  one_step (Promote by new) may = inl (one-won by new may)
  one_step (Joined by) may = inl (one-lost most began h legal (promoted-counted began h may.1) by may)
