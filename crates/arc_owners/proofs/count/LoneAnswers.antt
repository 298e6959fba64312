-- What calls on a lone count show, by what a load of the cell found, and by the step on the count
-- that may follow.
use Rattle.std.proofs.Common.{◌≡◌, ℕ, Bool, true, List, [], ◌∷◌, ◌++◌, sym, ap, ◌∙◌}
use Rattle.std.proofs.Common.{subst}
use Rattle.std.proofs.lemmas.Bool.{false≢true}
use Rattle.std.proofs.lemmas.List.{append-nil, append_assoc, append_cancel_left}
use mathlib.Core.List.{IsPrefix}
use Rattle.arc_owners.specs.declared.history.entry.Entry.{Entry}
use Rattle.arc_owners.specs.declared.history.entry.Entry.TheVariants.{Down, Alone}
use Rattle.arc_owners.specs.declared.count.tokens.Pass.{Pass}
use Rattle.arc_owners.specs.declared.count.word.OwnerToken.{OwnerToken}
use Rattle.arc_owners.specs.declared.count.word.PassState.{PassState}
use Rattle.arc_owners.specs.history.Histories.{IsLegal, is_counted}
use Rattle.arc_owners.specs.count.Invariant.{BlockId, Line, entries_of, made_by, AddedTo}
use Rattle.arc_owners.specs.count.Steps.{SamePass, Wrote, Ends, Looked}
use Rattle.arc_owners.specs.count.Calls.{Owner, Appends, Asks, Leaves, Looks, HasCountIn}
use Rattle.arc_owners.proofs.history.LoneWords.{counted-after}
use Rattle.arc_owners.proofs.count.Rolls.{entries-after}
use Rattle.arc_owners.proofs.count.Calls.{others, none_own, asks_at, leaves_at}
use Rattle.arc_owners.proofs.count.LoneCalls.{looks_of}

-- the pass that has this trace
abbrev pub with_trace : {H : Type 0} → Pass H → PassState → Pass H
with_trace p r = record { trace = r; mark = p.mark }

pub looks_at : {H : Type 0} (by : OwnerToken H) (p : Pass H) (r : PassState) {found lone : Bool}
    → found ≡ lone → Looked by p.trace r found
    → Looks (record { block = by.block; number = by.owner; born = by.born }) p (with_trace p r) lone
looks_at by p r {lone = lone} is so = looks_of by p (with_trace p r) lone
    (subst (λ (y : Bool). Looked by p.trace r y) is so)

prefix_trans : (xs ys zs : List Line) → IsPrefix xs ys → IsPrefix ys zs → IsPrefix xs zs
prefix_trans xs ys zs a b = (
  a.0 ++ b.0,
  sym (append_assoc xs a.0 b.0) ∙ (ap (λ (ls : List Line). ls ++ b.0) a.1 ∙ b.1),
)

-- A step on the count of an owner of this block, after a load of the cell that left the pass as it
-- was.
module _ {H : Type 0} (o : Owner) {t : BlockId} (of : o.block ≡ t) (p : Pass H)
    (mid left : PassState) (same : mid ≡ p.trace) {n : ℕ} (by : n ≡ o.number) {found said : Bool}
    (answer : said ≡ found) where
  pub asks_after : SamePass t mid left × Wrote t mid left (Alone n found)
      → Asks o p (with_trace p left) said
  asks_after did = let k : PassState × ℕ → Type 0 =
      λ z. SamePass t z.0 left × Wrote t z.0 left (Alone z.1 found) in
      let did' : k (p.trace, o.number) = subst k (λ i. (same i, by i)) did in
      asks_at o of p left answer did'.0 did'.1

  pub leaves_after : SamePass t mid left × Ends t mid left n found
      → Leaves o p (with_trace p left) said
  leaves_after did = let k : PassState × ℕ → Type 0 =
      λ z. SamePass t z.0 left × Ends t z.0 left z.1 found in
      let did' : k (p.trace, o.number) = subst k (λ i. (same i, by i)) did in
      leaves_at o of p left answer did'.0 did'.1

module _ {H : Type 0} (by : OwnerToken H) (p : Pass H) (mid : PassState) where
  abbrev o : Owner
  o = record { block = by.block; number = by.owner; born = by.born }

  -- an entry after a load by which the pass has seen all of the history
  added_after : {lone : Bool} (left : PassState) (e : Entry) (before : List Line)
      → Looked by p.trace mid lone → SamePass by.block mid left
      → AddedTo by.block mid.number mid.lines (λ _. e) before left.lines
      → Appends by.block p (with_trace p left) before (e ∷ [])
  added_after left e before look same a = let n : ℕ = p.trace.number in
      let front : IsPrefix p.trace.lines before =
      prefix_trans p.trace.lines mid.lines before look.kept a.0.after_seen in
      let own : made_by n before ≡ made_by n p.trace.lines =
      subst (λ (m : ℕ). made_by m before ≡ made_by m mid.lines) look.same.2 a.0.own ∙ look.own in
      record {
        same = ((same.0, same.1), same.2 ∙ look.same.2, λ is. same.3 ∙ look.ready.1 is);
        since = front.0;
        after_seen = sym front.1;
        of_others = others n front.0 (none_own n p.trace.lines before front own);
        undisturbed = λ whole. append_cancel_left p.trace.lines front.0 []
            (front.1 ∙ (sym (look.undisturbed whole ∙ a.0.undisturbed whole)
            ∙ sym (append-nil p.trace.lines)));
        seen_now = a.1 ∙ ap (λ (m : ℕ). before ++ (m, e) ∷ []) look.same.2;
        legal = subst (λ (ls : List Line). IsLegal by.block.most by.block.began (entries_of ls))
            (sym a.1) a.0.legal;
      }

  -- an owner that found the word lone, and has the block back, ended
  pub leaves_lone : (left : PassState) {b : BlockId} → b ≡ by.block → {n : ℕ} → n ≡ by.owner
      → Looked by p.trace mid true → SamePass b mid left → Ends b mid left n true
      → Leaves o p (with_trace p left) true
  leaves_lone left at is look same ends =
      let k : BlockId × ℕ → Type 0 = λ z. SamePass z.0 mid left × Ends z.0 mid left z.1 true in
      let did : k (by.block, by.owner) = subst k (λ i. (at i, is i)) (same, ends) in record {
        before = did.1.0;
        added = added_after left (Down by.owner) did.1.0 look did.0 did.1.1;
        exact = did.1.2;
      }

  -- a pass that has seen a count finds none that is lone
  pub has_count : {t : BlockId} → by.block ≡ t → HasCountIn t (entries_of p.trace.lines)
      → Looked by p.trace mid true → ⊥
  has_count {t = t} at counted look = let h : List Entry = entries_of p.trace.lines in
      let more : List Entry = entries_of look.kept.0 in
      let here : is_counted by.block.began h ≡ true =
      subst (λ (b : BlockId). is_counted b.began h ≡ true) (sym at) counted in
      let is : entries_of mid.lines ≡ h ++ more =
      ap entries_of (sym look.kept.1) ∙ entries-after p.trace.lines look.kept.0 in
      false≢true (sym look.told ∙ (ap (is_counted by.block.began) is
      ∙ counted-after by.block.began h more here))
