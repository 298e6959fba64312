-- What legal histories tell, and that runs agree with them.
use Rattle.std.proofs.Common.{inl, inr, ◌≡◌, ℕ, ◌≤◌, true, false, eqb, List, [], ◌∷◌, ◌++◌, length}
use Rattle.std.proofs.Common.{Some, None, refl, sym, ◌∙◌, ap, subst, arith, length-append}
use Rattle.std.proofs.Common.{append_assoc, not, ◌||◌}
use Rattle.std.specs.List.{filter, cons_option}
use Rattle.std.proofs.lemmas.List.{append-nil}
use Rattle.std.proofs.lemmas.List.Folds.{list_any-append}
use Rattle.std.proofs.lemmas.Bool.{cases_Bool, eqb-true, eq-eqb, or_left, false≢true, and_left}
use Rattle.std.proofs.lemmas.Bool.{or_cases}
use Rattle.arc_owners.specs.declared.history.entry.Entry.{Entry}
use Rattle.arc_owners.specs.declared.history.entry.Entry.TheVariants.{Up, Full, Down, Alone}
use Rattle.arc_owners.specs.declared.history.entry.Entry.TheVariants.{Promote, Joined}
use Rattle.arc_owners.specs.declared.history.event.Event.{Event}
use Rattle.arc_owners.specs.declared.history.event.Event.TheVariants.{Load, ExchangeWon}
use Rattle.arc_owners.specs.declared.history.event.Event.TheVariants.{ExchangeLost, CountUp}
use Rattle.arc_owners.specs.declared.history.event.Event.TheVariants.{FullFound, CountDown}
use Rattle.arc_owners.specs.declared.history.event.Event.TheVariants.{UniquenessLoad}
use Rattle.arc_owners.specs.history.Histories.{Beginning, is_in, owner_made, owner_ended}
use Rattle.arc_owners.specs.history.Histories.{is_promotion, owners_ever, owners_ended, live_owners}
use Rattle.arc_owners.specs.history.Histories.{is_counted, LivesAlone, MayFollow, IsLegal}
use Rattle.arc_owners.specs.history.Laws.{PromotedOnce, LosersAfterWinner, NothingAfterLast}
use Rattle.arc_owners.specs.history.Laws.{ReleasedByLast, AloneIsExact, OneIsLast}
use Rattle.arc_owners.specs.history.Agreement.{Tells, Agrees}
use Rattle.arc_owners.specs.history.Machine.{Machine, opening, may_happen, without_number, step}
use Rattle.arc_owners.specs.history.Machine.{run, after_events}
use Rattle.arc_owners.proofs.history.Numbers.{times, length-without, times-in, times-one}
use Rattle.arc_owners.proofs.history.Numbers.{times-filter, times-made, in-unfiltered}
use Rattle.arc_owners.proofs.history.Owned.{live-same, live-made, live-ended, ended-append}
use Rattle.arc_owners.proofs.history.Owned.{ever-append}
use Rattle.arc_owners.proofs.history.Legality.{IsLegalAfter, legal-after, legal-append, legal-at}
use Rattle.arc_owners.proofs.history.Legality.{legal-front}
use Rattle.arc_owners.proofs.history.Steps.{Stands, opening-stands, run-stands, one_is}
use Rattle.arc_owners.proofs.history.Steps.{counted-more, counted-won}

-- where nobody lives no entry may follow
none_follows : (most : ℕ) (began : Beginning) (h : List Entry) (e : Entry) → live_owners h ≡ []
    → MayFollow most began h e → ⊥
none_follows most began h (Up by new) none may = false≢true (ap (is_in by) (sym none) ∙ may.0)
none_follows most began h (Full by) none may = false≢true (ap (is_in by) (sym none) ∙ may.0)
none_follows most began h (Down owner) none may = false≢true (ap (is_in owner) (sym none) ∙ may)
none_follows most began h (Alone by found) none may = false≢true (ap (is_in by) (sym none) ∙ may.0)
none_follows most began h (Promote by new) none may = let e : [] ≡ by ∷ [] = sym none ∙ may.0 in cc
none_follows most began h (Joined by) none may = false≢true (ap (is_in by) (sym none) ∙ may.0)

pub nothing_after_last : (most : ℕ) (began : Beginning) (h : List Entry) → IsLegal most began h
    → NothingAfterLast h
nothing_after_last most began h legal before [] split none = refl
nothing_after_last most began h legal before (e ∷ after) split none =
    absurd (none_follows most began before e none (legal-at most began h before e after legal
    split))

pub alone_is_exact : (most : ℕ) (began : Beginning) (h : List Entry) → IsLegal most began h
    → AloneIsExact most h
alone_is_exact most began h legal before after by found split =
    (legal-at most began h before (Alone by found) after legal split).2

pub losers_after_winner : (most : ℕ) (began : Beginning) (h : List Entry) → IsLegal most began h
    → LosersAfterWinner h
losers_after_winner most began h legal before after by split =
    (legal-at most began h before (Joined by) after legal split).1

-- after a history in which the word has a count no promotion stands
none_promoted : (most : ℕ) (began : Beginning) (before rest : List Entry)
    → is_counted began before ≡ true → IsLegalAfter most began before rest
    → length (filter is_promotion rest) ≡ 0
none_promoted most began before [] c legal = refl
none_promoted most began before (Up by new ∷ rest) c legal =
    none_promoted most began (before ++ Up by new ∷ []) rest
    (counted-more began before (Up by new) c) legal.1
none_promoted most began before (Full by ∷ rest) c legal =
    none_promoted most began (before ++ Full by ∷ []) rest (counted-more began before (Full by) c)
    legal.1
none_promoted most began before (Down owner ∷ rest) c legal =
    none_promoted most began (before ++ Down owner ∷ []) rest
    (counted-more began before (Down owner) c) legal.1
none_promoted most began before (Alone by found ∷ rest) c legal =
    none_promoted most began (before ++ Alone by found ∷ []) rest
    (counted-more began before (Alone by found) c) legal.1
none_promoted most began before (Promote by new ∷ rest) c legal =
    absurd (false≢true (sym legal.0.2 ∙ c))
none_promoted most began before (Joined by ∷ rest) c legal =
    none_promoted most began (before ++ Joined by ∷ []) rest
    (counted-more began before (Joined by) c) legal.1

once_promoted : (most : ℕ) (began : Beginning) (before rest : List Entry)
    → IsLegalAfter most began before rest → length (filter is_promotion rest) ≤ 1
once_promoted most began before [] legal = omega arith
once_promoted most began before (Up by new ∷ rest) legal =
    once_promoted most began (before ++ Up by new ∷ []) rest legal.1
once_promoted most began before (Full by ∷ rest) legal =
    once_promoted most began (before ++ Full by ∷ []) rest legal.1
once_promoted most began before (Down owner ∷ rest) legal =
    once_promoted most began (before ++ Down owner ∷ []) rest legal.1
once_promoted most began before (Alone by found ∷ rest) legal =
    once_promoted most began (before ++ Alone by found ∷ []) rest legal.1
once_promoted most began before (Promote by new ∷ rest) legal =
    omega (
      arith,
      none_promoted most began (before ++ Promote by new ∷ []) rest
          (counted-won began before by new legal.0.2) legal.1,
    )
once_promoted most began before (Joined by ∷ rest) legal =
    once_promoted most began (before ++ Joined by ∷ []) rest legal.1

pub promoted_once : (most : ℕ) (began : Beginning) (h : List Entry) → IsLegal most began h
    → PromotedOnce h
promoted_once most began h legal = once_promoted most began [] h (legal-after most began h legal)

-- the owners of a legal history: each lives once, and each that ended lived
pub record Owned (h : List Entry) : Type 0 where
  pub once : (n : ℕ) → times n (live_owners h) ≤ 1
  pub ended : (n : ℕ) → is_in n (owners_ended h) ≡ true → is_in n (owners_ever h) ≡ true

in-append : (n : ℕ) (xs ys : List ℕ) → is_in n xs ≡ true → is_in n (xs ++ ys) ≡ true
in-append n xs ys h = list_any-append (λ x. eqb x n) xs ys ∙ or_left (is_in n xs) (is_in n ys) h

-- each live owner lived
pub lived : (h : List Entry) (n : ℕ) → is_in n (live_owners h) ≡ true
    → is_in n (owners_ever h) ≡ true
unfolding live_owners
lived h n live = in-unfiltered n (λ x. not (is_in x (owners_ended h))) (owners_ever h) live

owned-same : (h : List Entry) (e : Entry) → owner_made e ≡ None → owner_ended e ≡ None → Owned h
    → Owned (h ++ e ∷ [])
owned-same h e made ends o = record {
  once = λ n. subst (λ (xs : List ℕ). times n xs ≤ 1) (sym (live-same h e made ends)) (o.once n);
  ended = λ n g. ap (is_in n) (ever-append h e)
      ∙ in-append n (owners_ever h) (cons_option (owner_made e) [])
      (o.ended n (sym (ap (is_in n) (ended-append h e ∙ (rw ends (append-nil (owners_ended h)))))
      ∙ g));
}

-- in a history whose owners stand so, a number that never lived did not end
pub unended : (h : List Entry) (new : ℕ) → is_in new (owners_ever h) ≡ false → Owned h
    → is_in new (owners_ended h) ≡ false
unended h new never o = elim (cases_Bool (is_in new (owners_ended h)))
    [ inl g ↦ absurd (false≢true (sym never ∙ o.ended new g)) | inr g ↦ g ]

pub grown : (h : List Entry) (e : Entry) (new : ℕ) → owner_made e ≡ Some new → owner_ended e ≡ None
    → is_in new (owners_ever h) ≡ false → Owned h → live_owners (h ++ e ∷ []) ≡ live_owners
    h ++ new ∷ []
grown h e new made ends never o = live-made h e new made ends (unended h new never o)

owned-made : (h : List Entry) (e : Entry) (new : ℕ) → owner_made e ≡ Some new → owner_ended e ≡ None
    → is_in new (owners_ever h) ≡ false → Owned h → Owned (h ++ e ∷ [])
owned-made h e new made ends never o =
    let fresh_live : is_in new (live_owners h) ≡ false =
    elim (cases_Bool (is_in new (live_owners h)))
    [ inl g ↦ absurd (false≢true (sym never ∙ lived h new g)) | inr g ↦ g ] in
    record {
      once = λ n. subst (λ (xs : List ℕ). times n xs ≤ 1) (sym (grown h e new made ends never o))
          (times-made (live_owners h) new fresh_live o.once n);
      ended = λ n g. ap (is_in n) (ever-append h e)
          ∙ in-append n (owners_ever h) (cons_option (owner_made e) [])
          (o.ended n (sym (ap (is_in n) (ended-append h e
          ∙ (rw ends (append-nil (owners_ended h))))) ∙ g));
    }

owned-ended : (h : List Entry) (owner : ℕ) → is_in owner (live_owners h) ≡ true → Owned h
    → Owned (h ++ Down owner ∷ [])
owned-ended h owner lives o = record {
  once = λ n. subst (λ (xs : List ℕ). times n xs ≤ 1) (sym (live-ended h owner))
      (omega (arith, times-filter n (λ x. not (eqb x owner)) (live_owners h), o.once n));
  ended = λ n g. ap (is_in n) (ever-append h (Down owner)) ∙ in-append n (owners_ever h) []
      (elim (or_cases (is_in n (owners_ended h)) (eqb owner n || false)
      (sym (list_any-append (λ x. eqb x n) (owners_ended h) (owner ∷ []))
      ∙ (sym (ap (is_in n) (ended-append h (Down owner))) ∙ g))) [
        | inl before ↦ o.ended n before
        | inr now ↦ (elim (or_cases (eqb owner n) false now) [
          | inl same ↦ subst (λ (x : ℕ). is_in x (owners_ever h) ≡ true) (eqb-true owner n same)
              (lived h owner lives)
          | inr never ↦ absurd (false≢true never)
        ])
      ]);
}

owned-more : (most : ℕ) (began : Beginning) (h : List Entry) (e : Entry) → Owned h
    → MayFollow most began h e → Owned (h ++ e ∷ [])
owned-more most began h (Up by new) o may = owned-made h (Up by new) new refl refl may.1 o
owned-more most began h (Full by) o may = owned-same h (Full by) refl refl o
owned-more most began h (Down owner) o may = owned-ended h owner may o
owned-more most began h (Alone by found) o may = owned-same h (Alone by found) refl refl o
owned-more most began h (Promote by new) o may = owned-made h (Promote by new) new refl refl may.1 o
owned-more most began h (Joined by) o may = owned-same h (Joined by) refl refl o

owned-after : (most : ℕ) (began : Beginning) (before rest : List Entry) → Owned before
    → IsLegalAfter most began before rest → Owned (before ++ rest)
owned-after most began before [] o legal = subst Owned (sym (append-nil before)) o
owned-after most began before (e ∷ rest) o legal =
    subst Owned (append_assoc before (e ∷ []) rest) (owned-after most began (before ++ e ∷ []) rest
    (owned-more most began before e o legal.0) legal.1)

owned-none : Owned []
unfolding live_owners owners_ever owners_ended
owned-none = record { once = λ n. times-one n 0; ended = λ n g. absurd (false≢true g) }

-- the last entry before nobody lives is the Down of an owner that lived alone
released : (most : ℕ) (began : Beginning) (before : List Entry) (entry : Entry) → Owned before
    → MayFollow most began before entry → live_owners (before ++ entry ∷ []) ≡ [] → (owner : ℕ)
    × (entry ≡ Down owner) × LivesAlone owner before
released most began before (Up by new) o may none =
    absurd (omega (
      arith,
      ap length (sym (grown before (Up by new) new refl refl may.1 o) ∙ none),
      length-append (live_owners before) (new ∷ []),
    ))
released most began before (Full by) o may none =
    absurd (none_follows most began before (Full by) (sym (live-same before (Full by) refl refl)
    ∙ none) may)
released most began before (Down owner) o may none =
    let rest : length (without_number owner (live_owners before)) ≡ 0 = ap length
    (sym (live-ended before owner) ∙ none) in
    let one : length (live_owners before) ≡ 1 = omega (
      arith,
      rest,
      length-without owner (live_owners before),
      times-in owner (live_owners before)
          may,
      o.once owner,
    ) in
    (owner, refl, one_is (live_owners before) owner may one)
released most began before (Alone by found) o may none =
    absurd (none_follows most began before (Alone by found)
    (sym (live-same before (Alone by found) refl refl) ∙ none) may)
released most began before (Promote by new) o may none =
    absurd (omega (
      arith,
      ap length (sym (grown before (Promote by new) new refl refl may.1 o)
          ∙ none),
      length-append (live_owners before) (new ∷ []),
    ))
released most began before (Joined by) o may none =
    absurd (none_follows most began before (Joined by) (sym (live-same before (Joined by) refl refl)
    ∙ none) may)

-- in a legal history each owner lives once, and each that ended lived
pub legal-owned : (most : ℕ) (began : Beginning) (h : List Entry) → IsLegal most began h → Owned h
legal-owned most began h legal =
    owned-after most began [] h owned-none (legal-after most began h legal)

pub released_by_last : (most : ℕ) (began : Beginning) (h : List Entry) → IsLegal most began h
    → ReleasedByLast most h
released_by_last most began h legal before after entry split none =
    released most began before entry
    (legal-owned most began before (legal-front most began h before (entry ∷ after) legal split))
    (legal-at most began h before entry after legal split) none

-- nobody lives after the Down of who lived alone
alone-ended : (h : List Entry) (owner : ℕ) → LivesAlone owner h
    → live_owners (h ++ Down owner ∷ []) ≡ []
alone-ended h owner alone =
    live-ended h owner
    ∙ (ap (without_number owner) alone ∙ rw (eq-eqb owner owner refl) refl)

one-lives : length (live_owners []) ≡ 1
unfolding live_owners owners_ever owners_ended
one-lives = refl

-- a list's last element, behind the others
last-of : (e : Entry) (h : List Entry)
    → (before : List Entry) × (last : Entry) × (e ∷ h ≡ before ++ last ∷ [])
last-of e [] = ([], e, refl)
last-of e (next ∷ h) = let rest = last-of next h in
    (e ∷ rest.0, rest.1, ap (λ l. e ∷ l) rest.2)

-- of owners that have all ended one was the last
pub one_is_last : (most : ℕ) (began : Beginning) (h : List Entry) → IsLegal most began h
    → live_owners h ≡ [] → OneIsLast most h
one_is_last most began [] legal none =
    absurd (omega (arith, one-lives, ap length none))
one_is_last most began (e ∷ h) legal none =
    let split = last-of e h in
    let told = released_by_last most began (e ∷ h) legal split.0 [] split.1 split.2
    (sym (ap live_owners split.2) ∙ none) in record {
      before = split.0;
      owner = told.0;
      ends = split.2 ∙ ap (λ last. split.0 ++ last ∷ []) told.1;
      alone = told.2;
      only = λ earlier later other is alone.
          nothing_after_last most began (e ∷ h) legal (earlier ++ Down other ∷ []) later
          (is ∙ sym (append_assoc earlier (Down other ∷ []) later))
          (alone-ended earlier other alone);
    }

-- where nobody lives no event may happen
may_not : (most : ℕ) (m : Machine) (event : Event) → m.live ≡ [] → may_happen most m event ≡ false
may_not most m (Load thread by) none = and_left _ _ (ap (is_in by) none)
may_not most m (ExchangeWon thread by new) none =
    and_left _ _ (and_left _ _ (and_left _ _ (ap (is_in by) none)))
may_not most m (ExchangeLost thread by) none = and_left _ _ (and_left _ _ (ap (is_in by) none))
may_not most m (CountUp thread by seen new) none =
    and_left _ _ (and_left _ _ (and_left _ _ (and_left _ _ (ap (is_in by) none))))
may_not most m (FullFound thread by) none = and_left _ _ (and_left _ _ (ap (is_in by) none))
may_not most m (CountDown thread by seen) none = and_left _ _ (and_left _ _ (ap (is_in by) none))
may_not most m (UniquenessLoad thread by seen) none =
    and_left _ _ (and_left _ _ (ap (is_in by) none))

stopped : (most : ℕ) (m : Machine) (event : Event) → m.live ≡ [] → step most m event ≡ m
unfolding step
stopped most m event none = rw (may_not most m event none) refl

-- where nobody lives no event does anything
pub stays : (most : ℕ) (m : Machine) (events : List Event) → m.live ≡ [] → run most m events ≡ m
stays most m [] none = refl
stays most m (event ∷ events) none =
    ap (λ (k : Machine). run most k events) (stopped most m event none) ∙ stays most m events none

pub tells : (most : ℕ) (began : Beginning) (m : Machine) → Stands most began m
    → Tells began m m.entries
tells most began m s = record {
  entries = refl;
  live = s.live;
  count = s.count ∙ ap length s.live;
  counted = s.counted;
  lone = λ c. sym (ap length s.live) ∙ ap length (s.lone c).0;
}

-- each history with which a machine that stands so agrees is legal
pub agrees-legal : (most : ℕ) (began : Beginning) (m : Machine) (h : List Entry)
    → Stands most began m → Agrees began m h → IsLegal most began h
agrees-legal most began m h s (inl t) =
    subst (λ (l : List Entry). IsLegal most began l) t.entries s.legal
agrees-legal most began m h s (inr (owner, alone, t, whole)) =
    subst (λ (l : List Entry). IsLegal most began l) (sym whole)
    (legal-append most began m.entries (Down owner) s.legal (ap (is_in owner) (sym s.live ∙ alone)
    ∙ or_left (eqb owner owner) false (eq-eqb owner owner refl)))

-- nobody lives after the Down of a sole owner
pub sole-ended : (most : ℕ) (began : Beginning) (m : Machine) (owner : ℕ) → Stands most began m
    → m.live ≡ owner ∷ [] → live_owners (m.entries ++ Down owner ∷ []) ≡ []
sole-ended most began m owner s alone =
    live-ended m.entries owner ∙ (ap (without_number owner) (sym s.live ∙ alone)
    ∙ rw (eq-eqb owner owner refl) refl)

pub stands : (most : ℕ) (began : Beginning) (events : List Event) → 2 ≤ most
    → Stands most began (after_events most began events)
stands most began events two =
    run-stands most began (opening began) events two (opening-stands most began two)
