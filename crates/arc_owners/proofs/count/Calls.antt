-- What a step of the word leaves, as contracts say it.
use Rattle.std.proofs.Common.{if◌then◌else◌, inl, inr, ◌≡◌, ℕ, Bool, true, false, eqb, List, []}
use Rattle.std.proofs.Common.{◌∷◌, ◌++◌, refl, sym, ap, ◌∙◌, subst}
use Rattle.std.specs.List.{All}
use Rattle.std.proofs.lemmas.Bool.{cases_Bool, eqb-false, false≢true}
use Rattle.std.proofs.lemmas.List.{append-nil, append_cancel_left, same_from_push}
use Rattle.std.proofs.lemmas.List.Elements.{All-nil, All-cons}
use mathlib.Core.List.{IsPrefix}
use Rattle.arc_owners.specs.declared.history.entry.Entry.{Entry}
use Rattle.arc_owners.specs.declared.history.entry.Entry.TheVariants.{Up, Full, Down, Alone}
use Rattle.arc_owners.specs.declared.history.entry.Entry.TheVariants.{Promote}
use Rattle.arc_owners.specs.declared.count.tokens.Pass.{Pass}
use Rattle.arc_owners.specs.declared.count.word.OwnerToken.{OwnerToken}
use Rattle.arc_owners.specs.declared.count.word.PassState.{PassState}
use Rattle.arc_owners.specs.count.Invariant.{BlockId, Line, entries_of, made_by, next_owner}
use Rattle.arc_owners.specs.count.Invariant.{AddedTo}
use Rattle.arc_owners.specs.history.Histories.{Beginning, Counted, LivesAlone, owners_ever}
use Rattle.arc_owners.specs.history.Histories.{owners_ended, live_owners, is_counted, IsLegal}
use Rattle.arc_owners.specs.history.Agreement.{Tells, Agrees}
use Rattle.arc_owners.specs.count.Steps.{IsOf, SamePass, Wrote, FullIf, RaisedIf, Ends, IsOpened}
use Rattle.arc_owners.specs.count.Steps.{EndsWithNew, SeesSole}
use Rattle.arc_owners.specs.count.Calls.{Owner, Appends, Asks, MakesAnother, FindsFull, Leaves}
use Rattle.arc_owners.specs.count.Calls.{SeesAlone, EndsInOneStep, EndsWithoutStep, EndsByItself}
use Rattle.arc_owners.specs.count.Calls.{IsFirst, HasCountIn, history_of}
use Rattle.arc_owners.proofs.history.Legality.{legal-front, legal-at}
use Rattle.arc_owners.proofs.count.Rolls.{entries-append, made-after}
use Rattle.arc_owners.proofs.history.Events.{one_step}

-- two lists that end in one line each are the same where they are in front
abbrev Ending : Type 0
Ending = List Line × Line

last-is : (front before : List Line) (x y : Line) → front ++ x ∷ [] ≡ before ++ y ∷ []
    → ◌≡◌ {A = Ending} (front, x) (before, y)
last-is front before x y e = let parts = same_from_push front before x y e in
    λ i. (parts.0 i, parts.1 i)

-- lines of which this pass made none are those of others
pub others : (p : ℕ) (ls : List Line) → made_by p ls ≡ [] → All (λ (l : Line). ¬ (l.0 ≡ p)) ls
others p [] none = All-nil (λ (l : Line). ¬ (l.0 ≡ p))
others p (l ∷ ls) none = elim (cases_Bool (eqb l.0 p)) [
  | inl own ↦ (let e : l.1 ∷ made_by p ls ≡ [] = subst
      (λ (b : Bool). (if b then l.1 ∷ made_by p ls else made_by p ls) ≡ []) own none in absurd cc)
  | inr other ↦ All-cons (λ (x : Line). ¬ (x.0 ≡ p)) l ls (eqb-false l.0 p other)
      (others p ls (subst (λ (b : Bool). (if b then l.1 ∷ made_by p ls else made_by p ls) ≡ [])
      other none))
]

pub none_own : (p : ℕ) (seen before : List Line) (a : IsPrefix seen before)
    → made_by p before ≡ made_by p seen → made_by p a.0 ≡ []
none_own p seen before a own = append_cancel_left (made_by p seen) (made_by p a.0) []
    (sym (made-after p seen a.0) ∙ (ap (made_by p) a.1 ∙ (own ∙ sym (append-nil (made_by p seen)))))

module _ {H : Type 0} (t : BlockId) (p r : Pass H) where
  abbrev Added : (List Line → Entry) → List Line → Type 0
  Added e before = AddedTo t p.trace.number p.trace.lines e before r.trace.lines

  pub appends : (e : List Line → Entry) (before : List Line) → SamePass t p.trace r.trace
      → Added e before → Appends t p r before (e before ∷ [])
  appends e before same a = record {
    same = ((same.0, same.1), same.2, λ (is : p.trace.ready ≡ true). same.3 ∙ is);
    since = a.0.after_seen.0;
    after_seen = sym a.0.after_seen.1;
    of_others = others p.trace.number a.0.after_seen.0 (none_own p.trace.number p.trace.lines before
        a.0.after_seen a.0.own);
    undisturbed = λ (whole : t.whole ≡ true). append_cancel_left p.trace.lines a.0.after_seen.0 []
        (a.0.after_seen.1 ∙ (sym (a.0.undisturbed whole) ∙ sym (append-nil p.trace.lines)));
    seen_now = a.1;
    legal = subst (λ (ls : List Line). IsLegal t.most t.began (entries_of ls)) (sym a.1) a.0.legal;
  }

module _ {H : Type 0} (o : Owner) (p r : Pass H) where
  abbrev t : BlockId
  t = o.block

  -- uniqueness was read where the word has a count
  pub asks_of : (b : Bool) → SamePass t p.trace r.trace → Wrote t p.trace r.trace (Alone o.number b)
      → Asks o p r b
  asks_of b same (before, a) = record {
    before = before;
    added = subst (λ (c : Bool). Appends t p r before (if c then Alone o.number b ∷ [] else []))
        (sym a.0.may.1) (appends t p r (λ _. Alone o.number b) before same a);
    exact = a.0.may.2;
  }

  -- the count was found at its greatest
  pub full_of : SamePass t p.trace r.trace → Wrote t p.trace r.trace (Full o.number)
      → FindsFull o p r
  full_of same (before, a) = record {
    middle = p;
    joined = inl refl;
    before = before;
    added =
        appends t p r (λ _. Full o.number) before same a;
    full = a.0.may.2;
  }

  -- a new owner was made where the word has a count
  pub made_of : (by new : OwnerToken H) → by.owner ≡ o.number → SamePass t p.trace r.trace
      → RaisedIf t p.trace r.trace by new true
      → MakesAnother o p r (record { block = new.block; number = new.owner; born = new.born })
  made_of by new is same raised = let before : List Line = raised.0.0 in let a = raised.0.1 in
      let here = appends t p r (λ h. Up by.owner (next_owner h)) before same a in record {
        middle = p;
        joined = inl refl;
        before = before;
        added = subst (λ (c : Bool × (ℕ × ℕ)). Appends t p r before
            ((if c.0 then Up c.1.0 c.1.1 else Promote c.1.0 c.1.1) ∷ []))
            (λ i. (sym a.0.may.2 i, (is i, sym raised.0.3 i))) here;
        made = λ i. record { block = raised.1 i; number = raised.0.3 i; born = raised.3 i };
      }

  -- the owner ended
  pub leaves_of : (last : Bool) → SamePass t p.trace r.trace → Ends t p.trace r.trace o.number last
      → Leaves o p r last
  leaves_of last same (before, a, exact) =
      record {
        before = before;
        added = appends t p r (λ _. Down o.number) before same a;
        exact =
            exact;
      }

-- the last line of a legal history is one step
pub legal_step : (t : BlockId) (ls : List Line) → IsLegal t.most t.began (entries_of ls)
    → EndsInOneStep t ls
legal_step t ls legal = record {
  last = λ before line split. let h : List Entry = entries_of before in
      let is : entries_of ls ≡ h ++ line.1 ∷ [] = ap entries_of split
      ∙ entries-append before line.0 line.1 in
      one_step t.most t.began h (legal-front t.most t.began (entries_of ls) h (line.1 ∷ []) legal
      is) line.1 (legal-at t.most t.began (entries_of ls) h line.1 [] legal is);
}

module _ {H : Type 0} (t : BlockId) (p r : Pass H) where
  pub wrote_step : (e : Entry) → SamePass t p.trace r.trace × Wrote t p.trace r.trace e
      → EndsInOneStep t (history_of r)
  wrote_step e (same, (before, a)) =
      legal_step t r.trace.lines (subst (λ (ls : List Line). IsLegal t.most t.began (entries_of ls))
      (sym a.1) a.0.legal)

  pub filled_step : (by : OwnerToken H) (b : Bool) → b ≡ true → SamePass t p.trace r.trace
      × FullIf t p.trace r.trace by b → EndsInOneStep t (history_of r)
  filled_step by true k so = wrote_step (Full by.owner) so
  filled_step by false k so = absurd (false≢true k)

  pub raised_step : (by new : OwnerToken H) (b : Bool) → b ≡ true → SamePass t p.trace r.trace
      × RaisedIf t p.trace r.trace by new b → EndsInOneStep t (history_of r)
  raised_step by new false k so = absurd (false≢true k)
  raised_step by new true k (same, raised) = let a = raised.0.1 in
      legal_step t r.trace.lines (subst (λ (ls : List Line). IsLegal t.most t.began (entries_of ls))
      (sym a.1) a.0.legal)

  pub ended_step : (owner : ℕ) (last : Bool) → Ends t p.trace r.trace owner last
      → EndsInOneStep t (history_of r)
  ended_step owner last (before, a, exact) =
      legal_step t r.trace.lines (subst (λ (ls : List Line). IsLegal t.most t.began (entries_of ls))
      (sym a.1) a.0.legal)

  -- a sole owner ended without a step
  pub ended_without : (owner : ℕ) → Ends t p.trace r.trace owner true
      → EndsWithoutStep t (history_of r)
  ended_without owner (before, a, exact) = record {
    last = λ front line split m tells. let same : front ++ line ∷ [] ≡ before ++ (
      p.trace.number,
      Down owner,
    ) ∷ [] = sym split ∙ a.1 in
        let parts = last-is front before line (p.trace.number, Down owner) same in
        subst (λ (k : Ending). Tells t.began m (entries_of k.0)
        → Agrees t.began m (entries_of k.0 ++ k.1.1 ∷ [])) (sym parts)
        (λ (tells' : Tells t.began m (entries_of before)). inr (
          owner,
          tells'.live ∙ exact.0 refl,
          subst (λ (es : List Entry). Tells t.began m es) (sym tells'.entries) tells',
          ap (λ (es : List Entry). es ++ Down owner ∷ []) (sym tells'.entries),
        )) tells;
  }

-- the first owner of a new block
pub first_of : {K : Type 0} (most : ℕ) (began : Beginning) (whole lent : Bool) (t : BlockId)
    (r : OwnerToken K) (p : PassState) → IsOpened most began whole lent t r p
    → IsFirst most whole began (record { block = r.block; number = r.owner; born = r.born })
first_of most began whole lent t r p so = let same : r.block ≡ t = so.3.1 in record {
  number = so.5;
  born = so.6;
  most = ap (λ (k : BlockId). k.most) same ∙ so.0;
  whole = ap (λ (k : BlockId). k.whole) same ∙ so.2;
  began = ap (λ (k : BlockId). k.began) same ∙ so.1;
}

-- its word has a count
pub begins_counted : (t : BlockId) → t.began ≡ Counted → HasCountIn t []
unfolding is_counted
begins_counted t began = ap (λ (b : Beginning). is_counted b []) began

-- a sole owner showed the pass the whole history
pub sees_alone : {H : Type 0} (own : OwnerToken H) (p r : Pass H) → SeesSole own p.trace r.trace
    → SeesAlone (record { block = own.block; number = own.owner; born = own.born }) p r
sees_alone own p r so = record {
  same = ((so.0.0, so.0.1), so.0.2, λ (is : p.trace.ready ≡ true). so.0.3 ∙ is);
  kept = so.1;
  own = ap (λ (n : ℕ). made_by n r.trace.lines) so.0.2 ∙ so.2;
  undisturbed = so.3;
  alone = so.4;
}

-- the first owner lives alone after nothing
pub alone_first : {K : Type 0} (most : ℕ) (began : Beginning) (whole lent : Bool) (t : BlockId)
    (r : OwnerToken K) (p : PassState) → IsOpened most began whole lent t r p
    → LivesAlone r.owner (entries_of p.lines)
unfolding live_owners owners_ever owners_ended
alone_first most began whole lent t r p so =
    ap (λ (ls : List Line). live_owners (entries_of ls)) so.9 ∙ ap (λ (n : ℕ). n ∷ []) (sym so.5)

-- an owner that was dropped, where the mark has many passes
pub ended_by_itself : {H : Type 0} (own : OwnerToken H) (r : Pass H) (last : Bool)
    → EndsWithNew own r.trace last
    → EndsByItself (record { block = own.block; number = own.owner; born = own.born }) r last
ended_by_itself own r last so =
    let o : Owner = record { block = own.block; number = own.owner; born = own.born } in
    let new : Pass _ = record { trace = so.new; mark = r.mark } in record {
      new = new;
      made = (so.made.0, so.made.2, so.made.3);
      left = leaves_of o new r last so.same so.ended;
    }

-- the same of an owner by another name, and of an answer that is known
pub ended_at : {H : Type 0} (o : Owner) (own : OwnerToken H) (r : Pass H) (found said : Bool)
    → record { block = own.block; number = own.owner; born = own.born } ≡ o → found ≡ said
    → EndsWithNew own r.trace found → EndsByItself o r said
ended_at o own r found said is answer so =
    subst (λ b. EndsByItself o r b) answer
    (subst (λ k. EndsByItself k r found) is (ended_by_itself own r found so))

-- the same pass of a block, which has seen no more, is the pass as it was
same_trace : (t : BlockId) (p r : PassState) → IsOf t p → SamePass t p r → r.lines ≡ p.lines → r ≡ p
same_trace t p r was same lines =
    λ i. record {
      marker = r.marker;
      bound = (same.0 ∙ sym was.0) i;
      block =
          (same.1 ∙ sym was.1) i;
      number = same.2 i;
      ready = same.3 i;
      lines = lines i;
    }

pub same_pass : {H : Type 0} (t : BlockId) (p r : Pass H) → IsOf t p.trace
    → SamePass t p.trace r.trace → r.trace.lines ≡ p.trace.lines → r.mark ≡ p.mark → r ≡ p
same_pass t p r was same lines marks = let e : r.trace ≡ p.trace = same_trace t p.trace r.trace was
    same lines in λ i. record { trace = e i; mark = marks i }

-- a raise whose exchange won made another owner
pub made_raised : {H : Type 0} (t : BlockId) (p m r : Pass H) (by new : OwnerToken H) (b c : Bool)
    → b ≡ false → c ≡ true → by.block ≡ t → IsOf t p.trace → SamePass t p.trace m.trace
    × FullIf t p.trace m.trace by b
    → SamePass t m.trace r.trace × RaisedIf t m.trace r.trace by new c → m.mark ≡ p.mark
    → MakesAnother (record { block = by.block; number = by.owner; born = by.born }) p r
    (record { block = new.block; number = new.owner; born = new.born })
made_raised t p m r by new true c k k' at was looked raised e = absurd (false≢true (sym k))
made_raised t p m r by new false false k k' at was looked raised e = absurd (false≢true k')
made_raised {H = H} t p m r by new false true k k' at was looked raised e =
    let o : Owner = record { block = by.block; number = by.owner; born = by.born } in
    let other : Owner = record { block = new.block; number = new.owner; born = new.born } in
    subst (λ (q : Pass H). MakesAnother o q r other) (same_pass t p m was looked.0 looked.1 e)
    (subst (λ (u : BlockId). SamePass u m.trace r.trace × RaisedIf u m.trace r.trace by new true
    → MakesAnother o m r other) at
    (λ (x : SamePass by.block m.trace r.trace × RaisedIf by.block m.trace r.trace by new true).
    made_of o m r by new refl x.0 x.1) raised)

-- the count was found at its greatest through an owner of this block
pub full_at : {H : Type 0} (t : BlockId) (p r : Pass H) (by : OwnerToken H) (b : Bool) → b ≡ true
    → by.block ≡ t → SamePass t p.trace r.trace × FullIf t p.trace r.trace by b
    → FindsFull (record { block = by.block; number = by.owner; born = by.born }) p r
full_at t p r by false k at looked = absurd (false≢true k)
full_at t p r by true k at looked =
    let o : Owner = record { block = by.block; number = by.owner; born = by.born } in
    subst (λ (u : BlockId). SamePass u p.trace r.trace × FullIf u p.trace r.trace by true
    → FindsFull o p r) at
    (λ (x : SamePass by.block p.trace r.trace × FullIf by.block p.trace r.trace by true). full_of o
    p r x.0 x.1) looked

-- a raise whose exchange was lost leaves the pass as it was
pub not_raised : {H : Type 0} (t : BlockId) (p m r : Pass H) (by new : OwnerToken H) (b c : Bool)
    → b ≡ false → c ≡ false → IsOf t p.trace → SamePass t p.trace m.trace
    × FullIf t p.trace m.trace by b
    → SamePass t m.trace r.trace × RaisedIf t m.trace r.trace by new c → m.mark ≡ p.mark
    → r.mark ≡ m.mark → r ≡ p
not_raised t p m r by new true c k k' was looked raised e e' = absurd (false≢true (sym k))
not_raised t p m r by new false true k k' was looked raised e e' = absurd (false≢true (sym k'))
not_raised t p m r by new false false k k' was looked raised e e' =
    same_pass t m r (looked.0.0, looked.0.1) raised.0 raised.1.0.0 e'
    ∙ same_pass t p m was looked.0 looked.1 e

-- The same of an owner of this block, by what the call answers and what it leaves of the pass.
module _ {H : Type 0} (o : Owner) {t : BlockId} (of : o.block ≡ t) (p : Pass H) (left : PassState)
    {found said : Bool}
    (answer : said ≡ found) (same : SamePass t p.trace left) where
  abbrev r : Pass H
  r = record { trace = left; mark = p.mark }

  same-here : SamePass o.block p.trace left
  same-here = subst (λ b. SamePass b p.trace left) (sym of) same

  pub asks_at : Wrote t p.trace left (Alone o.number found) → Asks o p r said
  asks_at wrote =
      subst (λ b. Asks o p r b) (sym answer) (asks_of o p r found same-here
      (subst (λ b. Wrote b p.trace left (Alone o.number found)) (sym of) wrote))

  pub leaves_at : Ends t p.trace left o.number found → Leaves o p r said
  leaves_at ends =
      subst (λ b. Leaves o p r b) (sym answer) (leaves_of o p r found same-here
      (subst (λ b. Ends b p.trace left o.number found) (sym of) ends))
