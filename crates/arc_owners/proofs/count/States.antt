-- A state stays true where one more line is written by a pass, with what that line does to the
-- roll.
use Rattle.std.proofs.Common.{inl, inr, ◌≡◌, ℕ, suc, ◌+◌, ◌<◌, ◌≤◌, Bool, true, false, eqb, List}
use Rattle.std.proofs.Common.{[], ◌∷◌, ◌++◌, length, get_or, set, Some, None, refl, sym, ap, ◌∙◌, subst}
use Rattle.std.proofs.Common.{arith, length-append, length-set}
use Rattle.std.proofs.lemmas.Bool.{eqb-true, eqb-false, cases_Bool, false≢true}
use Rattle.std.proofs.lemmas.List.{append-nil}
use Rattle.std.specs.List.{cons_option}
use Rattle.arc_owners.specs.declared.history.entry.Entry.{Entry}
use Rattle.arc_owners.specs.declared.history.entry.Entry.TheVariants.{Up, Full, Down, Alone}
use Rattle.arc_owners.specs.history.Histories.{Beginning, is_in, owner_made, owner_ended}
use Rattle.arc_owners.specs.history.Histories.{live_owners, owners_ever, is_counted, MayFollow}
use Rattle.arc_owners.specs.history.Histories.{IsLegal, Lives, NeverLived}
use Rattle.arc_owners.specs.history.Machine.{without_number}
use Rattle.arc_owners.specs.count.Invariant.{BlockId, entries_of, made_by, Lease, no_lease, Seat}
use Rattle.arc_owners.specs.count.Invariant.{fresh_seat, living, upto, how_many, State, Fits}
use Rattle.arc_owners.proofs.history.Owned.{live-same, live-ended, ever-append}
use Rattle.arc_owners.proofs.history.Legality.{legal-append}
use Rattle.arc_owners.proofs.history.Numbers.{length-without, times-in, times-one}
use Rattle.arc_owners.proofs.history.Steps.{one_is}
use Rattle.arc_owners.proofs.history.Told.{grown, legal-owned}
use Rattle.arc_owners.proofs.count.Rolls.{entries-append, made-own, made-other, living-made}
use Rattle.arc_owners.proofs.count.Rolls.{living-ended, living-in, living-relet, in_one, upto-fresh}
use Rattle.arc_owners.proofs.count.Rolls.{upto-more, get-set, get-set_other, get-more, get-last}

abbrev pub seat_of : List (Bool × Seat) → ℕ → Bool × Seat
seat_of seats p = get_or seats p (false, fresh_seat)

abbrev pub seat_set : List (Bool × Seat) → ℕ → Bool → List Entry → List (Bool × Seat)
seat_set seats p ready made = set seats p (true, (ready, made))

-- the state with one more line by the pass p, and this roll and lease
abbrev pub wrote_for : Lease → State → ℕ → Bool → Entry → List (Bool × Lease) → State
wrote_for l a p ready e roll = record {
  lines = a.lines ++ (p, e) ∷ [];
  roll = roll;
  seats = seat_set a.seats p ready (made_by p a.lines ++ e ∷ []);
  lease = l;
}

abbrev pub wrote : State → ℕ → Bool → Entry → List (Bool × Lease) → State
wrote a = wrote_for a.lease a

-- the state with the lease of the owner o, its only one, set anew
abbrev pub relet : State → ℕ → Lease → State
relet a o l = record { lines = a.lines; roll = set a.roll o (true, l); seats = a.seats; lease = l }

pub one-lives : (roll : List (Bool × Lease)) (o : ℕ) (l : Lease)
    → get_or roll o (false, no_lease) ≡ (true, l) → 0 < how_many roll
one-lives roll o l is = omega (
  arith,
  length-without o (living 0 roll),
  times-in o (living 0 roll)
      (living-in 0 o o roll l (omega arith) is),
)

-- whoever lives beside a sole owner is that one
sole-is : (t : BlockId) (a : State) → Fits t a → (o i : ℕ) (l m : Lease)
    → get_or a.roll o (false, no_lease) ≡ (true, l) → get_or a.roll i (false, no_lease) ≡ (true, m)
    → how_many a.roll ≡ 1 → o ≡ i
sole-is t a f o i l m is there one = let alone : living 0 a.roll ≡ o
    ∷ [] = one_is (living 0 a.roll) o (living-in 0 o o a.roll l (omega arith) is) one in
    in_one o i (subst (λ (ns : List ℕ). is_in i ns ≡ true) alone
    (living-in 0 i i a.roll m (omega arith) there))

relet-leased : (t : BlockId) (a : State) → Fits t a → (o : ℕ) (k l : Lease) → o < length a.roll
    → get_or a.roll o (false, no_lease) ≡ (true, k) → how_many a.roll ≡ 1 → (i : ℕ) (m : Lease)
    → get_or (set a.roll o (true, l)) i (false, no_lease) ≡ (true, m) → m ≡ l
relet-leased t a f o k l low is one i m there = elim (cases_Bool (eqb o i)) [
  | inl same ↦ ap (λ (x : Bool × Lease). x.1) (sym there
      ∙ (ap (λ (j : ℕ). get_or (set a.roll o (true, l)) j (false, no_lease))
      (sym (eqb-true o i same)) ∙ get-set a.roll o (true, l) (false, no_lease) low))
  | inr other ↦ absurd (eqb-false o i other (sole-is t a f o i k m is
      (sym (get-set_other a.roll o i (true, l) (false, no_lease) (eqb-false o i other))
      ∙ there) one))
]

-- the block is lent anew to its sole owner, or taken back by it
pub fits-relet : (t : BlockId) (a : State) → Fits t a → (o : ℕ) (k l : Lease) → o < length a.roll
    → get_or a.roll o (false, no_lease) ≡ (true, k) → how_many a.roll ≡ 1 → Fits t (relet a o l)
fits-relet t a f o k l low is one = let same : living 0 (set a.roll o (true, l)) ≡ living 0 a.roll =
    living-relet 0 o a.roll k l is in record {
      legal = f.legal;
      live = f.live ∙ sym same;
      ever = f.ever ∙ ap (upto 0) (sym (length-set a.roll o (true, l)));
      made = f.made;
      leased = relet-leased t a f o k l low is one;
      within = subst (λ (ns : List ℕ). length ns ≤ t.most) (sym same) f.within;
      least = f.least;
      small = f.small;
    }

module _ (t : BlockId) (a : State) (f : Fits t a) (p : ℕ) (ready : Bool)
    (seated : p < length a.seats) where
  abbrev h : List Entry
  h = entries_of a.lines

  abbrev began : Beginning
  began = t.began

  made-wrote : (e : Entry) (roll : List (Bool × Lease)) (j : ℕ)
      → (seat_of (wrote a p ready e roll).seats j).1.1 ≡ made_by j (wrote a p ready e roll).lines
  made-wrote e roll j = elim (cases_Bool (eqb p j)) [
    | inl same ↦ (let is : p ≡ j = eqb-true p j same in
        subst (λ (i : ℕ). (seat_of (wrote a p ready e roll).seats i).1.1 ≡ made_by i
        (wrote a p ready e roll).lines) is
        (ap (λ (s : Bool × Seat). s.1.1) (get-set a.seats p
        (true, (ready, made_by p a.lines ++ e ∷ [])) (false, fresh_seat) seated)
        ∙ sym (made-own p a.lines e)))
    | inr other ↦ ap (λ (s : Bool × Seat). s.1.1)
        (get-set_other a.seats p j (true, (ready, made_by p a.lines ++ e ∷ [])) (false, fresh_seat)
        (eqb-false p j other)) ∙ (f.made j ∙ sym (made-other j p a.lines e other))
  ]

  legal-wrote : (e : Entry) → MayFollow t.most began h e
      → IsLegal t.most began (entries_of (a.lines ++ (p, e) ∷ []))
  legal-wrote e may = subst (λ (es : List Entry). IsLegal t.most began es)
      (sym (entries-append a.lines p e)) (legal-append t.most began h e f.legal may)

  -- an entry that neither makes nor ends an owner
  pub fits-aside : (e : Entry) → owner_made e ≡ None → owner_ended e ≡ None
      → MayFollow t.most began h e → Fits t (wrote a p ready e a.roll)
  fits-aside e made ends may = record {
    legal = legal-wrote e may;
    live = ap live_owners (entries-append a.lines p e) ∙ (live-same h e made ends ∙ f.live);
    ever = ap owners_ever (entries-append a.lines p e)
        ∙ (ever-append h e ∙ (rw made (append-nil (owners_ever h)) ∙ f.ever));
    made = made-wrote e a.roll;
    leased = f.leased;
    within = f.within;
    least = f.least;
    small = f.small;
  }

  abbrev pub raised : List (Bool × Lease)
  raised = a.roll ++ (true, a.lease) ∷ []

  pub never : NeverLived (length a.roll) h
  never = ap (is_in (length a.roll)) f.ever ∙ upto-fresh (length a.roll) 0 (length a.roll)
      (omega arith)

  raised-leased : (o : ℕ) (l : Lease) → get_or raised o (false, no_lease) ≡ (true, l) → l ≡ a.lease
  raised-leased o l is = elim (cases_Bool (eqb (length a.roll) o)) [
    | inl same ↦ ap (λ (x : Bool × Lease). x.1) (sym is
        ∙ (ap (λ (i : ℕ). get_or raised i (false, no_lease)) (sym (eqb-true (length a.roll) o same))
        ∙ get-last a.roll (true, a.lease) (false, no_lease)))
    | inr other ↦ f.leased o l (sym (get-more a.roll (true, a.lease) (false, no_lease) o
        (eqb-false (length a.roll) o other)) ∙ is)
  ]

  pub how_many-raised : how_many raised ≡ how_many a.roll + 1
  how_many-raised = ap length (living-made 0 a.roll a.lease) ∙ length-append (living 0 a.roll)
      ((0 + length a.roll) ∷ [])

  -- an entry that makes an owner, whose number is how many there ever were
  pub fits-made : (e : Entry) → owner_made e ≡ Some (length a.roll) → owner_ended e ≡ None
      → MayFollow t.most began h e → how_many a.roll < t.most → Fits t (wrote a p ready e raised)
  fits-made e made ends may below = let new = length a.roll in record {
    legal = legal-wrote e may;
    live = ap live_owners (entries-append a.lines p e)
        ∙ (grown h e new made ends never (legal-owned t.most began h f.legal)
        ∙ (ap (λ (ns : List ℕ). ns ++ new ∷ []) f.live
        ∙ sym (living-made 0 a.roll a.lease ∙ ap (λ (n : ℕ). living 0 a.roll ++ n ∷ [])
        (let z : 0 + new ≡ new = omega arith in z))));
    ever = ap owners_ever (entries-append a.lines p e)
        ∙ (ever-append h e ∙ (ap (λ m. owners_ever h ++ cons_option m []) made
        ∙ (ap (λ (ns : List ℕ). ns ++ new ∷ []) f.ever
        ∙ (ap (λ (n : ℕ). upto 0 new ++ n ∷ []) (let z : new ≡ 0 + new = omega arith in z)
        ∙ (upto-more 0 new
        ∙ ap (upto 0) (sym (length-append a.roll ((true, a.lease) ∷ [])
        ∙ (let z : new + 1 ≡ suc new = omega arith in z))))))));
    made = made-wrote e raised;
    leased = raised-leased;
    within = omega (arith, how_many-raised);
    least = f.least;
    small = f.small;
  }

  pub fits-raised : (by : ℕ) → MayFollow t.most began h (Up by (length a.roll))
      → Fits t (wrote a p ready (Up by (length a.roll)) raised)
  fits-raised by may = let below : length (live_owners h) < t.most = may.3 in
      fits-made (Up by (length a.roll)) refl refl may (omega (arith, ap length f.live))

  -- the pass stands so, ready or not
  abbrev pub reseated : Bool → State
  reseated r = record {
    lines = a.lines;
    roll = a.roll;
    seats = seat_set a.seats p r (made_by p a.lines);
    lease = a.lease;
  }

  made-reseated : (r : Bool) (j : ℕ) → (seat_of (reseated r).seats j).1.1 ≡ made_by j a.lines
  made-reseated r j = let s : Bool × Seat = (true, (r, made_by p a.lines)) in
      elim (cases_Bool (eqb p j)) [
        | inl same ↦
            subst (λ (i : ℕ). (seat_of (reseated r).seats i).1.1 ≡ made_by i a.lines)
            (eqb-true p j same)
            (ap (λ (x : Bool × Seat). x.1.1) (get-set a.seats p s (false, fresh_seat) seated))
        | inr other ↦ ap (λ (x : Bool × Seat). x.1.1)
            (get-set_other a.seats p j s (false, fresh_seat) (eqb-false p j other)) ∙ f.made j
      ]

  pub fits-reseated : (r : Bool) → Fits t (reseated r)
  fits-reseated r = record {
    legal = f.legal;
    live = f.live;
    ever = f.ever;
    made = made-reseated r;
    leased = f.leased;
    within = f.within;
    least = f.least;
    small = f.small;
  }

  abbrev pub lowered : ℕ → List (Bool × Lease)
  lowered o = set a.roll o (false, a.lease)

  lowered-leased : (o : ℕ) → o < length a.roll → (i : ℕ) (l : Lease)
      → get_or (lowered o) i (false, no_lease) ≡ (true, l) → l ≡ a.lease
  lowered-leased o low i l is = elim (cases_Bool (eqb o i)) [
    | inl same ↦ absurd (false≢true (ap (λ (x : Bool × Lease). x.0)
        (sym (ap (λ (j : ℕ). get_or (lowered o) j (false, no_lease)) (sym (eqb-true o i same))
        ∙ get-set a.roll o (false, a.lease) (false, no_lease) low) ∙ is)))
    | inr other ↦ f.leased i l (sym (get-set_other a.roll o i (false, a.lease) (false, no_lease)
        (eqb-false o i other)) ∙ is)
  ]

  pub how_many-lowered : (o : ℕ) (l : Lease) → get_or a.roll o (false, no_lease) ≡ (true, l)
      → how_many a.roll ≡ how_many (lowered o) + 1
  how_many-lowered o l is = let owned = legal-owned t.most began h f.legal in
      omega (
        arith,
        ap length (living-ended 0 o o a.roll l a.lease (omega arith) is),
        length-without o (living 0 a.roll),
        times-in o (living 0 a.roll)
            (living-in 0 o o a.roll l (omega arith) is),
        (subst (λ (ns : List ℕ). Rattle.arc_owners.proofs.history.Numbers.times o ns ≤ 1) f.live
            (owned.once o)),
      )

  -- an owner ends
  pub fits-lowered : (o : ℕ) (l : Lease) → o < length a.roll
      → get_or a.roll o (false, no_lease) ≡ (true, l) → MayFollow t.most began h (Down o)
      → Fits t (wrote a p ready (Down o) (lowered o))
  fits-lowered o l low is may = let e = Down o in record {
    legal = legal-wrote e may;
    live = ap live_owners (entries-append a.lines p e)
        ∙ (live-ended h o ∙ (ap (without_number o) f.live
        ∙ sym (living-ended 0 o o a.roll l a.lease (omega arith) is)));
    ever = ap owners_ever (entries-append a.lines p e)
        ∙ (ever-append h e ∙ (append-nil (owners_ever h)
        ∙ (f.ever ∙ ap (upto 0) (sym (length-set a.roll o (false, a.lease))))));
    made = made-wrote e (lowered o);
    leased = lowered-leased o low;
    within = omega (arith, f.within, how_many-lowered o l is);
    least = f.least;
    small = f.small;
  }

  -- what a share of an owner's right says of the history
  pub lives : (o : ℕ) (l : Lease) → get_or a.roll o (false, no_lease) ≡ (true, l) → Lives o h
  lives o l is = ap (is_in o) f.live ∙ living-in 0 o o a.roll l (omega arith) is

  abbrev counted_there : Type 0
  counted_there = is_counted began h ≡ true

  pub may-load : (o : ℕ) (l : Lease) → get_or a.roll o (false, no_lease) ≡ (true, l) → counted_there
      → MayFollow t.most began h (Alone o (eqb (how_many a.roll) 1))
  may-load o l is c = (
    lives o l is,
    c,
    (
      (λ (one : eqb (how_many a.roll) 1 ≡ true). one_is (live_owners h) o (lives o l is)
          (ap length f.live ∙ eqb-true (how_many a.roll) 1 one)),
      (λ (alone : live_owners h ≡ o ∷ []). Rattle.std.proofs.lemmas.Bool.eq-eqb (how_many a.roll) 1
          (sym (ap length f.live) ∙ ap length alone)),
    ),
  )

  pub may-raise : (o : ℕ) (l : Lease) → get_or a.roll o (false, no_lease) ≡ (true, l)
      → counted_there → how_many a.roll < t.most → MayFollow t.most began h (Up o (length a.roll))
  may-raise o l is c room = (
    lives o l is,
    never,
    c,
    (let e : length (live_owners h) ≡ how_many a.roll = ap length f.live in omega arith),
  )

  pub may-full : (o : ℕ) (l : Lease) → get_or a.roll o (false, no_lease) ≡ (true, l) → counted_there
      → how_many a.roll ≡ t.most → MayFollow t.most began h (Full o)
  may-full o l is c full = (lives o l is, c, ap length f.live ∙ full)

  pub some-live : (o : ℕ) (l : Lease) → get_or a.roll o (false, no_lease) ≡ (true, l)
      → 0 < how_many a.roll
  some-live o l is = one-lives a.roll o l is
