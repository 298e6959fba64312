-- Lines and rolls as plain data: what one more line, owner or end does to them.
use Rattle.std.proofs.Common.{inl, inr, ◌≡◌, ℕ, zero, suc, ◌+◌, ◌<◌, ◌≤◌, Bool, true, false, eqb}
use Rattle.std.proofs.Common.{List, [], ◌∷◌, ◌++◌, length, get_or, set, refl, sym, ap, ◌∙◌, arith}
use Rattle.std.proofs.lemmas.Bool.{eq-eqb, eqb-true, ne_eqb, cases_Bool, false≢true}
use Rattle.arc_owners.specs.declared.history.entry.Entry.{Entry}
use Rattle.arc_owners.specs.history.Histories.{is_in}
use Rattle.arc_owners.specs.history.Machine.{without_number}
use Rattle.arc_owners.specs.count.Invariant.{Line, entries_of, made_by, Lease, no_lease, living}
use Rattle.arc_owners.specs.count.Invariant.{upto}

pub entries-append : (ls : List Line) (p : ℕ) (e : Entry)
    → entries_of (ls ++ (p, e) ∷ []) ≡ entries_of ls ++ e ∷ []
entries-append [] p e = refl
entries-append (l ∷ ls) p e = ap (λ (es : List Entry). l.1 ∷ es) (entries-append ls p e)

pub entries-after : (ls more : List Line) → entries_of (ls ++ more) ≡ entries_of ls ++ entries_of
    more
entries-after [] more = refl
entries-after (l ∷ ls) more = ap (λ (es : List Entry). l.1 ∷ es) (entries-after ls more)

pub made-after : (p : ℕ) (xs ys : List Line) → made_by p (xs ++ ys) ≡ made_by p xs ++ made_by p ys
made-after p [] ys = refl
made-after p (x ∷ xs) ys = elim (cases_Bool (eqb x.0 p)) [
  | inl h ↦ rw h (ap (λ (es : List Entry). x.1 ∷ es) (made-after p xs ys))
  | inr h ↦ rw h (made-after p xs ys)
]

pub made-own : (p : ℕ) (ls : List Line) (e : Entry) → made_by p (ls ++ (p, e) ∷ []) ≡ made_by p
    ls ++ e ∷ []
made-own p [] e = rw (eq-eqb p p refl) refl
made-own p (l ∷ ls) e = elim (cases_Bool (eqb l.0 p)) [
  | inl h ↦ rw h (ap (λ (es : List Entry). l.1 ∷ es) (made-own p ls e))
  | inr h ↦ rw h (made-own p ls e)
]

pub made-other : (j p : ℕ) (ls : List Line) (e : Entry) → eqb p j ≡ false
    → made_by j (ls ++ (p, e) ∷ []) ≡ made_by j ls
made-other j p [] e other = rw other refl
made-other j p (l ∷ ls) e other = elim (cases_Bool (eqb l.0 j)) [
  | inl h ↦ rw h (ap (λ (es : List Entry). l.1 ∷ es) (made-other j p ls e other))
  | inr h ↦ rw h (made-other j p ls e other)
]

pub living-made : (k : ℕ) (xs : List (Bool × Lease)) (l : Lease)
    → living k (xs ++ (true, l) ∷ []) ≡ living k xs ++ (k + length xs) ∷ []
living-made k [] l = ap (λ (n : ℕ). n ∷ []) (let e : k ≡ k + 0 = omega arith in e)
living-made k ((true, v) ∷ xs) l = ap (λ (ns : List ℕ). k ∷ ns) (living-made (suc k) xs l
    ∙ ap (λ (n : ℕ). living (suc k) xs ++ n ∷ [])
    (let e : suc k + length xs ≡ k + suc (length xs) = omega arith in e))
living-made k ((false, v) ∷ xs) l = living-made (suc k) xs l
    ∙ ap (λ (n : ℕ). living (suc k) xs ++ n ∷ [])
    (let e : suc k + length xs ≡ k + suc (length xs) = omega arith in e)

without-low : (n k : ℕ) (xs : List (Bool × Lease)) → n < k → without_number n (living k xs) ≡ living
    k xs
without-low n k [] low = refl
without-low n k ((true, v) ∷ xs) low =
    let no : eqb k n ≡ false = ne_eqb k n (λ (e : k ≡ n). omega arith) in
    rw no (ap (λ (ns : List ℕ). k ∷ ns) (without-low n (suc k) xs (omega arith)))
without-low n k ((false, v) ∷ xs) low = without-low n (suc k) xs (omega arith)

pub living-ended : (k i j : ℕ) (xs : List (Bool × Lease)) (l m : Lease) → j ≡ k + i
    → get_or xs i (false, no_lease) ≡ (true, l) → living k (set xs i (false, m)) ≡ without_number j
    (living k xs)
living-ended k i j [] l m is here = refl
living-ended k zero j ((true, v) ∷ xs) l m is here = let same : eqb k j ≡ true = eq-eqb k j
    (omega arith) in rw same (sym (without-low j (suc k) xs (omega arith)))
living-ended k zero j ((false, v) ∷ xs) l m is here =
    absurd (false≢true (ap (λ (x : Bool × Lease). x.0) here))
living-ended k (suc i) j ((true, v) ∷ xs) l m is here = let no : eqb k j ≡ false = ne_eqb k j
    (λ (e : k ≡ j). omega arith) in
    rw no (ap (λ (ns : List ℕ). k ∷ ns) (living-ended (suc k) i j xs l m (omega arith) here))
living-ended k (suc i) j ((false, v) ∷ xs) l m is here =
    living-ended (suc k) i j xs l m (omega arith) here

pub living-in : (k i j : ℕ) (xs : List (Bool × Lease)) (l : Lease) → j ≡ k + i
    → get_or xs i (false, no_lease) ≡ (true, l) → is_in j (living k xs) ≡ true
living-in k i j [] l is here = absurd (false≢true (ap (λ (x : Bool × Lease). x.0) here))
living-in k zero j ((true, v) ∷ xs) l is here =
    let same : eqb k j ≡ true = eq-eqb k j (omega arith) in rw same refl
living-in k zero j ((false, v) ∷ xs) l is here =
    absurd (false≢true (ap (λ (x : Bool × Lease). x.0) here))
living-in k (suc i) j ((true, v) ∷ xs) l is here = let no : eqb k j ≡ false = ne_eqb k j
    (λ (e : k ≡ j). omega arith) in rw no (living-in (suc k) i j xs l (omega arith) here)
living-in k (suc i) j ((false, v) ∷ xs) l is here = living-in (suc k) i j xs l (omega arith) here

pub living-relet : (k i : ℕ) (xs : List (Bool × Lease)) (l m : Lease)
    → get_or xs i (false, no_lease) ≡ (true, l) → living k (set xs i (true, m)) ≡ living k xs
living-relet k i [] l m here = refl
living-relet k zero ((true, v) ∷ xs) l m here = refl
living-relet k zero ((false, v) ∷ xs) l m here = absurd
    (false≢true (ap (λ (x : Bool × Lease). x.0) here))
living-relet k (suc i) ((true, v) ∷ xs) l m here = ap (λ (ns : List ℕ). k ∷ ns)
    (living-relet (suc k) i xs l m here)
living-relet k (suc i) ((false, v) ∷ xs) l m here = living-relet (suc k) i xs l m here

pub in_one : (o i : ℕ) → is_in i (o ∷ []) ≡ true → o ≡ i
in_one o i there = elim (cases_Bool (eqb o i)) [
  | inl same ↦ eqb-true o i same
  | inr other ↦ absurd (false≢true (sym (rw other refl) ∙ there))
]

pub upto-fresh : (n k m : ℕ) → k + m ≤ n → is_in n (upto k m) ≡ false
upto-fresh n k zero past = refl
upto-fresh n k (suc m) past = let no : eqb k n ≡ false = ne_eqb k n (λ (e : k ≡ n). omega arith) in
    rw no (upto-fresh n (suc k) m (omega arith))

pub upto-more : (k m : ℕ) → upto k m ++ (k + m) ∷ [] ≡ upto k (suc m)
upto-more k zero = ap (λ (n : ℕ). n ∷ []) (let e : k + 0 ≡ k = omega arith in e)
upto-more k (suc m) =
    ap (λ (ns : List ℕ). k ∷ ns) (ap (λ (n : ℕ). upto (suc k) m ++ n ∷ [])
    (let e : k + suc m ≡ suc k + m = omega arith in e) ∙ upto-more (suc k) m)

-- a lookup after one place was set, at that place and at others
pub get-set : {X : Type 0} (xs : List X) (i : ℕ) (x d : X) → i < length xs
    → get_or (set xs i x) i d ≡ x
get-set [] i x d l = absurd (omega arith)
get-set (y ∷ xs) zero x d l = refl
get-set (y ∷ xs) (suc i) x d l = get-set xs i x d (omega arith)

pub get-set_other : {X : Type 0} (xs : List X) (i j : ℕ) (x d : X) → ¬ (i ≡ j)
    → get_or (set xs i x) j d ≡ get_or xs j d
get-set_other [] i j x d apart = refl
get-set_other (y ∷ xs) zero zero x d apart = absurd (apart refl)
get-set_other (y ∷ xs) zero (suc j) x d apart = refl
get-set_other (y ∷ xs) (suc i) zero x d apart = refl
get-set_other (y ∷ xs) (suc i) (suc j) x d apart =
    get-set_other xs i j x d (λ (e : i ≡ j). apart (ap suc e))

pub get-more : {X : Type 0} (xs : List X) (x d : X) (j : ℕ) → ¬ (length xs ≡ j)
    → get_or (xs ++ x ∷ []) j d ≡ get_or xs j d
get-more [] x d zero apart = absurd (apart refl)
get-more [] x d (suc j) apart = refl
get-more (y ∷ xs) x d zero apart = refl
get-more (y ∷ xs) x d (suc j) apart = get-more xs x d j (λ (e : length xs ≡ j). apart (ap suc e))

pub get-last : {X : Type 0} (xs : List X) (x d : X) → get_or (xs ++ x ∷ []) (length xs) d ≡ x
get-last [] x d = refl
get-last (y ∷ xs) x d = get-last xs x d

pub get-past : {X : Type 0} (xs : List X) (d : X) → get_or xs (length xs) d ≡ d
get-past [] d = refl
get-past (y ∷ xs) d = get-past xs d

pub length-upto : (k n : ℕ) → length (upto k n) ≡ n
length-upto k zero = refl
length-upto k (suc n) = ap suc (length-upto (suc k) n)
