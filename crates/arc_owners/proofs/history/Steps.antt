-- What holds of the word machine after every run, and that each event keeps it.
use Rattle.std.proofs.Common.{inl, inr, ◌≡◌, ℕ, ◌+◌, ◌-◌, ◌≤◌, ◌<◌, true, false, eqb, ltb, List, []}
use Rattle.std.proofs.Common.{◌∷◌, ◌++◌, length, take, get_or, None, refl, sym, ◌∙◌, ap, arith}
use Rattle.std.proofs.Common.{length-append, not, ◌&&◌, ◌||◌}
use Rattle.std.proofs.lemmas.List.Sums.{fold_more}
use Rattle.std.proofs.lemmas.Bool.{cases_Bool, eqb-true, eq-eqb, ltb-true, false≢true, not-true}
use Rattle.std.proofs.lemmas.Bool.{and_parts, or_left, or_right}
use Rattle.std.proofs.Math.Bool.{or-false}
use Rattle.arc_owners.specs.declared.history.entry.Entry.{Entry}
use Rattle.arc_owners.specs.declared.history.entry.Entry.TheVariants.{Up, Full, Down, Alone}
use Rattle.arc_owners.specs.declared.history.entry.Entry.TheVariants.{Promote, Joined}
use Rattle.arc_owners.specs.declared.history.event.Event.{Event}
use Rattle.arc_owners.specs.declared.history.event.Event.TheVariants.{Load, ExchangeWon}
use Rattle.arc_owners.specs.declared.history.event.Event.TheVariants.{ExchangeLost, CountUp}
use Rattle.arc_owners.specs.declared.history.event.Event.TheVariants.{FullFound, CountDown}
use Rattle.arc_owners.specs.declared.history.event.Event.TheVariants.{UniquenessLoad}
use Rattle.arc_owners.specs.history.Histories.{Beginning, Lone, Counted, is_in, owner_made}
use Rattle.arc_owners.specs.history.Histories.{owner_ended, is_promotion, owners_ever, owners_ended}
use Rattle.arc_owners.specs.history.Histories.{live_owners, is_promoted, is_counted, MayFollow}
use Rattle.arc_owners.specs.history.Histories.{IsLegal}
use Rattle.arc_owners.specs.history.Machine.{Machine, opening, begins_counted, is_fresh, may_happen}
use Rattle.arc_owners.specs.history.Machine.{with_number, without_number, changed, step, run}
use Rattle.arc_owners.specs.history.Machine.{after_events}
use Rattle.arc_owners.proofs.history.Numbers.{times, length-without, times-in, times-one}
use Rattle.arc_owners.proofs.history.Numbers.{times-filter, times-made}
use Rattle.arc_owners.proofs.history.Owned.{live-same, live-made, live-ended, never_lived}
use Rattle.arc_owners.proofs.history.Owned.{promoted-append}
use Rattle.arc_owners.proofs.history.Legality.{legal-nil, legal-append}

-- the machine stands as its entries tell
pub record Stands (most : ℕ) (began : Beginning) (m : Machine) : Type 0 where
  pub live : m.live ≡ live_owners m.entries
  pub count : m.count ≡ length m.live
  pub within : m.count ≤ most
  pub once : (n : ℕ) → times n m.live ≤ 1
  pub counted : m.counted ≡ is_counted began m.entries
  pub lone : m.counted ≡ false → (m.live ≡ 0 ∷ []) × (m.entries ≡ [])
  pub ready : begins_counted began ≡ true → m.ready ≡ []
  pub legal : IsLegal most began m.entries

-- a list with a number that stands once, and one place, is that number alone
pub one_is : (xs : List ℕ) (n : ℕ) → is_in n xs ≡ true → length xs ≡ 1 → xs ≡ n ∷ []
one_is [] n h k = absurd (false≢true h)
one_is (x ∷ []) n h k =
    elim (cases_Bool (eqb x n)) [
      | inl e ↦ ap (λ y. y ∷ []) (eqb-true x n e)
      | inr e ↦
          absurd (false≢true (rw e at h))
    ]
one_is (x ∷ y ∷ xs) n h k = absurd (omega arith)

pub fresh_parts : (new : ℕ) (m : Machine) → is_fresh new m ≡ true → (is_in new m.live ≡ false)
    × (is_in new (owners_ended m.entries) ≡ false)
unfolding is_fresh
fresh_parts new m h =
    let parts = and_parts (not (is_in new m.live)) (not (is_in new (owners_ended m.entries))) h in
    (not-true (is_in new m.live) parts.0, not-true (is_in new (owners_ended m.entries)) parts.1)

pub counted-more : (began : Beginning) (h : List Entry) (e : Entry) → is_counted began h ≡ true
    → is_counted began (h ++ e ∷ []) ≡ true
unfolding is_counted
counted-more Counted h e c = refl
counted-more Lone h e c = promoted-append h e ∙ or_left (is_promoted h) (is_promotion e || false) c

-- an end leaves the word as it was
pub counted-ended : (began : Beginning) (h : List Entry) (owner : ℕ)
    → is_counted began (h ++ Down owner ∷ []) ≡ is_counted began h
unfolding is_counted
counted-ended Counted h owner = refl
counted-ended Lone h owner = promoted-append h (Down owner) ∙ or-false (is_promoted h)

pub counted-won : (began : Beginning) (h : List Entry) (by new : ℕ) → is_counted began h ≡ false
    → is_counted began (h ++ Promote by new ∷ []) ≡ true
unfolding is_counted
counted-won Counted h by new c = refl
counted-won Lone h by new c =
    promoted-append h (Promote by new) ∙ or_right (is_promoted h) true refl

-- a word that has a count, and that a thread found lone, was promoted
pub promoted-ready : (began : Beginning) (h : List Entry) (thread : ℕ) (ready : List ℕ)
    → is_counted began h ≡ true → (begins_counted began ≡ true → ready ≡ [])
    → is_in thread ready ≡ true → is_promoted h ≡ true
unfolding is_counted
promoted-ready Counted h thread ready c none found =
    absurd (false≢true (ap (is_in thread) (sym (none refl)) ∙ found))
promoted-ready Lone h thread ready c none found = c

pub opening-counted : (began : Beginning) → begins_counted began ≡ is_counted began []
unfolding is_counted is_promoted
opening-counted Lone = refl
opening-counted Counted = refl

-- a block that began with a count has one
pub begun-counted : (began : Beginning) (h : List Entry) → begins_counted began ≡ true
    → is_counted began h ≡ true
unfolding is_counted
begun-counted Counted h c = refl
begun-counted Lone h c = absurd (false≢true c)

-- the machine stands so as a block begins
pub opening-stands : (most : ℕ) (began : Beginning) → 2 ≤ most → Stands most began (opening began)
unfolding live_owners owners_ever owners_ended
opening-stands most began two = record {
  live = refl;
  count = refl;
  within = omega arith;
  once = λ n. times-one n 0;
  counted = opening-counted began;
  lone = λ c. (refl, refl);
  ready = λ c. refl;
  legal = legal-nil most began;
}

module _ (most : ℕ) (began : Beginning) (m : Machine) (s : Stands most began m) where
  lives : (by : ℕ) → is_in by m.live ≡ true → is_in by (live_owners m.entries) ≡ true
  lives by h = ap (is_in by) (sym s.live) ∙ h

  never : (new : ℕ) → is_fresh new m ≡ true → is_in new (owners_ever m.entries) ≡ false
  never new h = let parts = fresh_parts new m h in
      never_lived m.entries new (ap (is_in new) (sym s.live) ∙ parts.0) parts.1

  has_count : m.counted ≡ true → is_counted began m.entries ≡ true
  has_count c = sym s.counted ∙ c

  -- an entry that makes no owner and ends none
  quiet : (e : Entry) → m.counted ≡ true → owner_made e ≡ None → owner_ended e ≡ None
      → MayFollow most began m.entries e
      → Stands most began (record m { entries = m.entries ++ e ∷ [] })
  quiet e c made ends may = record {
    live = s.live ∙ sym (live-same m.entries e made ends);
    count = s.count;
    within = s.within;
    once = s.once;
    counted = c ∙ sym (counted-more began m.entries e (has_count c));
    lone = λ f. absurd (false≢true (sym f ∙ c));
    ready = s.ready;
    legal = legal-append most began m.entries e s.legal may;
  }

  loaded : (thread : ℕ) → m.counted ≡ false
      → Stands most began (record m { ready = with_number thread m.ready })
  loaded thread c = record {
    live = s.live;
    count = s.count;
    within = s.within;
    once = s.once;
    counted = s.counted;
    lone = s.lone;
    ready = λ b. absurd (false≢true (sym c ∙ (s.counted ∙ begun-counted began m.entries b)));
    legal = s.legal;
  }

  won : (by new : ℕ) → 2 ≤ most → m.counted ≡ false → is_in by m.live ≡ true → is_fresh new m ≡ true
      → Stands most began
      (record m {
        counted = true;
        count = 2;
        live = m.live ++ new ∷ [];
        entries =
            m.entries ++ Promote by new ∷ [];
      })
  won by new two c by_lives fresh =
      let parts = fresh_parts new m fresh in
      let alone : m.live ≡ by ∷ [] = one_is m.live by by_lives (ap length (s.lone c).0) in
      record {
        live = ap (λ xs. xs ++ new ∷ []) s.live
            ∙ sym (live-made m.entries (Promote by new) new refl refl parts.1);
        count = sym (ap (λ xs. length (xs ++ new ∷ [])) alone);
        within = two;
        once = times-made m.live new parts.0 s.once;
        counted = sym (counted-won began m.entries by new (sym s.counted ∙ c));
        lone = λ f. absurd (false≢true (sym f));
        ready = s.ready;
        legal = legal-append most began m.entries (Promote by new) s.legal (
          sym s.live
              ∙ alone,
          never new fresh,
          sym s.counted ∙ c,
        );
      }

  raised : (by new : ℕ) → m.counted ≡ true → is_in by m.live ≡ true → m.count < most
      → is_fresh new m ≡ true
      → Stands most began (record m {
        count = m.count + 1;
        live = m.live ++ new ∷ [];
        entries =
            m.entries ++ Up by new ∷ [];
      })
  raised by new c by_lives below fresh =
      let parts = fresh_parts new m fresh in
      let few : length (live_owners m.entries) < most = omega
      (arith, s.count, ap length s.live, below) in
      record {
        live = ap (λ xs. xs ++ new ∷ []) s.live
            ∙ sym (live-made m.entries (Up by new) new refl refl parts.1);
        count = omega (arith, s.count, length-append m.live (new ∷ []));
        within = omega arith;
        once = times-made m.live new parts.0 s.once;
        counted = c ∙ sym (counted-more began m.entries (Up by new) (has_count c));
        lone = λ f. absurd (false≢true (sym f ∙ c));
        ready = s.ready;
        legal = legal-append most began m.entries (Up by new) s.legal
            (lives by by_lives, never new fresh, has_count c, few);
      }

  lowered : (by : ℕ) → m.counted ≡ true → is_in by m.live ≡ true
      → Stands most began
      (record m {
        count = m.count - 1;
        live = without_number by m.live;
        entries =
            m.entries ++ Down by ∷ [];
      })
  lowered by c by_lives =
      record {
        live = ap (without_number by) s.live ∙ sym (live-ended m.entries by);
        count = omega (
          arith,
          s.count,
          length-without by m.live,
          times-in by m.live by_lives,
          s.once
              by,
        );
        within = omega (arith, s.within);
        once = λ n. omega (arith, times-filter n (λ x. not (eqb x by)) m.live, s.once n);
        counted = c ∙ sym (counted-more began m.entries (Down by) (has_count c));
        lone = λ f. absurd (false≢true (sym f ∙ c));
        ready = s.ready;
        legal = legal-append most began m.entries (Down by) s.legal (lives by by_lives);
      }

  asked : (by : ℕ) → m.counted ≡ true → is_in by m.live ≡ true
      → Stands most began (record m { entries = m.entries ++ Alone by (eqb m.count 1) ∷ [] })
  asked by c by_lives =
      quiet (Alone by (eqb m.count 1)) c refl refl (
        lives by by_lives,
        has_count c,
        (
          λ found. sym s.live ∙ one_is m.live by by_lives (sym s.count ∙ eqb-true m.count 1 found),
          λ alone. eq-eqb m.count 1 (s.count ∙ (ap length s.live ∙ ap length alone)),
        ),
      )

  -- an event that may happen
  changed-stands : 2 ≤ most → (event : Event) → may_happen most m event ≡ true
      → Stands most began (changed m event)
  changed-stands two (Load thread by) h =
      let p = and_parts (is_in by m.live) (not m.counted) h in
      loaded thread (not-true m.counted p.1)
  changed-stands two (ExchangeWon thread by new) h =
      let p = and_parts (is_in by m.live && not m.counted && is_in thread m.ready) (is_fresh new m)
      h in
      let q = and_parts (is_in by m.live && not m.counted) (is_in thread m.ready) p.0 in
      let r = and_parts (is_in by m.live) (not m.counted) q.0 in
      won by new two (not-true m.counted r.1) r.0 p.1
  changed-stands two (ExchangeLost thread by) h =
      let p = and_parts (is_in by m.live && m.counted) (is_in thread m.ready) h in
      let q = and_parts (is_in by m.live) m.counted p.0 in
      quiet (Joined by) q.1 refl refl (
        lives by q.0,
        promoted-ready began m.entries thread m.ready
            (has_count q.1) s.ready p.1,
      )
  changed-stands two (CountUp thread by seen new) h =
      let p = and_parts (is_in by m.live && m.counted && (eqb m.count seen) && ltb seen most)
      (is_fresh new m) h in
      let q = and_parts (is_in by m.live && m.counted && (eqb m.count seen)) (ltb seen most) p.0 in
      let r = and_parts (is_in by m.live && m.counted) (eqb m.count seen) q.0 in
      let t = and_parts (is_in by m.live) m.counted r.0 in
      let below : m.count < most = omega (arith, eqb-true m.count seen r.1, ltb-true seen most q.1)
      in
      raised by new t.1 t.0 below p.1
  changed-stands two (FullFound thread by) h =
      let p = and_parts (is_in by m.live && m.counted) (eqb m.count most) h in
      let q = and_parts (is_in by m.live) m.counted p.0 in
      quiet (Full by) q.1 refl refl (
        lives by q.0,
        has_count q.1,
        sym (ap length s.live)
            ∙ (sym s.count ∙ eqb-true m.count most p.1),
      )
  changed-stands two (CountDown thread by seen) h =
      let p = and_parts (is_in by m.live && m.counted) (eqb m.count seen) h in
      let q = and_parts (is_in by m.live) m.counted p.0 in
      lowered by q.1 q.0
  changed-stands two (UniquenessLoad thread by seen) h =
      let p = and_parts (is_in by m.live && m.counted) (eqb m.count seen) h in
      let q = and_parts (is_in by m.live) m.counted p.0 in
      asked by q.1 q.0

  pub step-stands : 2 ≤ most → (event : Event) → Stands most began (step most m event)
  unfolding step
  step-stands two event = elim (cases_Bool (may_happen most m event)) [
    | inl h ↦ rw h (changed-stands two event h)
    | inr h ↦ rw h s
  ]

pub run-stands : (most : ℕ) (began : Beginning) (m : Machine) (events : List Event) → 2 ≤ most
    → Stands most began m → Stands most began (run most m events)
run-stands most began m [] two s = s
run-stands most began m (event ∷ events) two s =
    run-stands most began (step most m event) events two (step-stands most began m s two event)

-- the word counts its live owners after every run
pub run-count : (most : ℕ) (began : Beginning) (events : List Event) → 2 ≤ most
    → (after_events most began events).count ≡ length (after_events most began events).live
run-count most began events two =
    (run-stands most began (opening began) events two (opening-stands most began two)).count

-- one event more after a run
pub next_run : (most : ℕ) (began : Beginning) (events : List Event) (i : ℕ) (d : Event)
    (m new : Machine) → m ≡ after_events most began (take i events) → i < length events
    → new ≡ step most m (get_or events i d) → new ≡ after_events most began (take (i + 1) events)
next_run most began events i d m new before inside is =
    is ∙ ap (λ k. step most k (get_or events i d)) before
    ∙ sym (fold_more (step most) (opening began) events i d inside)
