-- What a call's record says of the history before it, where the word has a count; what a pass has
-- seen under `Whole`, where nothing comes between two calls of the one pass; and who lives then.
use Rattle.std.proofs.Common.{inl, inr, ◌≡◌, ◌⊎◌, ℕ, ◌<◌, ◌≤◌, arith, Bool, true, false, List, []}
use Rattle.std.proofs.Common.{◌∷◌, ◌++◌, length, Some, None, refl, sym, ap, ◌∙◌, subst, append-nil}
use Rattle.std.specs.Prelude.{if◌then◌else◌, IsTrue, ◌↔◌, map}
use Rattle.std.proofs.lemmas.Bool.{eq-eqb, ne_eqb, false≢true}
use Rattle.std.specs.List.{All}
use Rattle.std.proofs.lemmas.List.Elements.{All-head, All-tail}
use Rattle.arc_owners.specs.declared.history.entry.Entry.{Entry}
use Rattle.arc_owners.specs.declared.history.entry.Entry.TheVariants.{Up, Full, Alone, Promote}
use Rattle.arc_owners.specs.declared.history.entry.Entry.TheVariants.{Joined}
use Rattle.arc_owners.specs.declared.error.OwnerError.{OwnerError}
use Rattle.arc_owners.specs.declared.error.OwnerError.TheVariants.{AllocError, CountFull}
use Rattle.arc_owners.specs.declared.count.tokens.Pass.{Pass}
use Rattle.arc_owners.specs.count.Invariant.{BlockId, Line, entries_of, made_by, next_owner}
use Rattle.arc_owners.specs.history.Histories.{Beginning, LivesAlone, NeverLived, owner_made}
use Rattle.arc_owners.specs.history.Histories.{owner_ended, owners_ever, live_owners, is_counted}
use Rattle.arc_owners.specs.history.Histories.{MayFollow, Counted}
use Rattle.arc_owners.specs.history.Machine.{without_number}
use Rattle.arc_owners.specs.count.Calls.{Owner, Appends, Asks, MayJoin, MakesAnother, FindsFull}
use Rattle.arc_owners.specs.count.Calls.{RefusesOwner, Leaves, HasCountIn, IsFirst, IsFreshPass}
use Rattle.arc_owners.specs.count.Calls.{IsPassOf, IsNewPass, IsSamePass, mine, seen}
use Rattle.arc_owners.proofs.history.Legality.{legal-at, legal-front}
use Rattle.arc_owners.proofs.history.Owned.{live-same, live-ended, ever-append}
use Rattle.arc_owners.proofs.history.LoneWords.{counted-after}
pub use Rattle.arc_owners.proofs.history.LoneWords.{promoted-counted}
use Rattle.arc_owners.proofs.history.Told.{Owned, grown, legal-owned}
use Rattle.arc_owners.proofs.count.Calls.{begins_counted}
use Rattle.arc_owners.proofs.count.Rolls.{entries-after, made-after}

-- lines that one pass made
entries-all : (p : ℕ) (es : List Entry) → entries_of (map (λ e. (p, e)) es) ≡ es
entries-all p [] = refl
entries-all p (e ∷ es) = ap (λ (xs : List Entry). e ∷ xs) (entries-all p es)

made-all : (p : ℕ) (es : List Entry) → made_by p (map (λ e. (p, e)) es) ≡ es
made-all p [] = refl
made-all p (e ∷ es) = rw (eq-eqb p p refl) (ap (λ (xs : List Entry). e ∷ xs) (made-all p es))

-- lines of others
made-others : (p : ℕ) (ls : List Line) → All (λ (l : Line). ¬ (l.0 ≡ p)) ls → made_by p ls ≡ []
made-others p [] all = refl
made-others p (l ∷ ls) all =
    rw (ne_eqb l.0 p (All-head (λ (x : Line). ¬ (x.0 ≡ p)) l ls all))
    (made-others p ls (All-tail (λ (x : Line). ¬ (x.0 ≡ p)) l ls all))

-- a word that began with a count has one after every history
pub counted_ever : (t : BlockId) (h : List Entry) → HasCountIn t [] → HasCountIn t h
counted_ever t h c = counted-after t.began [] h c

module _ {H : Type 0} {t : BlockId} {old new : Pass H} {before : List Line} {es : List Entry}
    (a : Appends t old new before es) where
  -- the pass has seen the history before, and these entries
  pub seen-after : seen new ≡ entries_of before ++ es
  seen-after = ap entries_of a.seen_now
      ∙ (entries-after before (map (λ e. (old.trace.number, e)) es)
      ∙ ap (λ (xs : List Entry). entries_of before ++ xs) (entries-all old.trace.number es))

  own-before : made_by old.trace.number before ≡ mine old
  own-before =
      ap (made_by old.trace.number) a.after_seen
      ∙ (made-after old.trace.number old.trace.lines a.since
      ∙ (ap (λ (es : List Entry). mine old ++ es) (made-others old.trace.number a.since a.of_others)
      ∙ append-nil (mine old)))

  -- it made these entries, and no others since
  pub mine-more : mine new ≡ mine old ++ es
  mine-more =
      ap (λ (p : ℕ). made_by p new.trace.lines) a.same.1 ∙ (ap (made_by old.trace.number) a.seen_now
      ∙ (made-after old.trace.number before (map (λ e. (old.trace.number, e)) es)
      ∙ (λ i. own-before i ++ made-all old.trace.number es i)))

  -- under `Whole` the history before is what the pass had seen
  pub before-is : t.whole ≡ true → entries_of before ≡ seen old
  before-is whole =
      ap entries_of (a.after_seen
      ∙ (ap (λ (ls : List Line). old.trace.lines ++ ls) (a.undisturbed whole)
      ∙ append-nil old.trace.lines))

  pub seen-more : t.whole ≡ true → seen new ≡ seen old ++ es
  seen-more whole = seen-after ∙ ap (λ (h : List Entry). h ++ es) (before-is whole)

  -- where the pass knew that the word has a count, it had one before the call, and has one after it
  pub counted-before : HasCountIn t (seen old) → HasCountIn t (entries_of before)
  counted-before c =
      subst (λ (h : List Entry). is_counted t.began h ≡ true)
      (sym (ap entries_of a.after_seen ∙ entries-after old.trace.lines a.since))
      (counted-after t.began (seen old) (entries_of a.since) c)

  pub counted-still : HasCountIn t (seen old) → HasCountIn t (seen new)
  counted-still c = subst (λ (h : List Entry). is_counted t.began h ≡ true) (sym seen-after)
      (counted-after t.began (entries_of before) es (counted-before c))

  pub owned-before : Owned (entries_of before)
  owned-before = legal-owned t.most t.began (entries_of before)
      (legal-front t.most t.began (seen new) (entries_of before) es a.legal seen-after)

-- the entry may follow the history before it
pub may-stand : {H : Type 0} {t : BlockId} {old new : Pass H} {before : List Line} {e : Entry}
    → Appends t old new before (e ∷ []) → MayFollow t.most t.began (entries_of before) e
may-stand {t = t} {new = new} {before = before} {e = e} a =
    legal-at t.most t.began (seen new) (entries_of before) e [] a.legal (seen-after a)

-- nothing was joined on a word that the pass knows to be counted
unjoined : {H : Type 0} (o : Owner) {old middle : Pass H} → HasCountIn o.block (seen old)
    → MayJoin o old middle → middle ≡ old
unjoined o c (inl same) = same
unjoined o c (inr joined) = absurd (false≢true (sym joined.1 ∙ c))

-- a pass whose exchange was lost knows since that the word has a count
joined-counted : {H : Type 0} (o : Owner) {old new : Pass H} {before : List Line}
    → Appends o.block old new before (Joined o.number ∷ []) → HasCountIn o.block (seen new)
joined-counted o {before = before} a =
    subst (λ (h : List Entry). is_counted o.block.began h ≡ true) (sym (seen-after a))
    (counted-after o.block.began (entries_of before) (Joined o.number ∷ [])
    (promoted-counted o.block.began (entries_of before) (may-stand a).1))

-- attempts that were lost, and then one that wasn't, are one call
pub joins-again : {H : Type 0} (o : Owner) {old middle new : Pass H} → MayJoin o old middle
    → MayJoin o middle new → MayJoin o old new
joins-again o {new = new} (inl same) again = subst (λ (p : Pass _). MayJoin o p new) same again
joins-again o {old = old} (inr joined) again =
    subst (λ (p : Pass _). MayJoin o old p) (sym (unjoined o (joined-counted o joined.2) again))
    (inr joined)

pub joins-makes : {H : Type 0} (o : Owner) {old middle new : Pass H} {other : Owner}
    → MayJoin o old middle → MakesAnother o middle new other → MakesAnother o old new other
joins-makes o lost makes = record {
  middle = makes.middle;
  joined = joins-again o lost makes.joined;
  before = makes.before;
  added = makes.added;
  made = makes.made;
}

-- Why no owner more was made: the count was at its greatest, or memory was refused. What else is
-- known of a refusal goes by this, so that no other proof matches on the error.
pub why-refused : {H : Type 0} (wants : Bool) (o : Owner) (old new : Pass H) (e : OwnerError)
    → RefusesOwner wants o old new e
    → ((e ≡ CountFull) × FindsFull o old new)
    ⊎ ((e ≡ AllocError) × RefusesOwner wants o old new AllocError)
why-refused wants o old new CountFull full = inl (refl, full)
why-refused wants o old new AllocError why = inr (refl, why)

joins-full : {H : Type 0} (o : Owner) {old middle new : Pass H} → MayJoin o old middle
    → FindsFull o middle new → FindsFull o old new
joins-full o lost full = record {
  middle = full.middle;
  joined = joins-again o lost full.joined;
  before = full.before;
  added = full.added;
  full = full.full;
}

joins-memory : {H : Type 0} (o : Owner) {old middle new : Pass H} (wants : Bool)
    → MayJoin o old middle → RefusesOwner wants o middle new AllocError
    → RefusesOwner wants o old new AllocError
joins-memory o {new = new} wants (inl same) why =
    subst (λ (p : Pass _). RefusesOwner wants o p new AllocError) same why
joins-memory o wants (inr joined) why = absurd (false≢true (sym why.1 ∙ joined-counted o joined.2))

pub joins-refuses : {H : Type 0} (o : Owner) (old middle new : Pass H) (wants : Bool)
    (e : OwnerError) → MayJoin o old middle → RefusesOwner wants o middle new e
    → RefusesOwner wants o old new e
joins-refuses o old middle new wants e lost why =
    elim (why-refused wants o middle new e why) [
      | inl full ↦
          subst (λ (x : OwnerError). RefusesOwner wants o old new x) (sym full.0)
          (joins-full o lost full.1)
      | inr memory ↦
          subst (λ (x : OwnerError). RefusesOwner wants o old new x) (sym memory.0)
          (joins-memory o wants lost memory.1)
    ]

-- the pass is of the same block after an exchange that was lost
pub joins-pass : {H : Type 0} (o : Owner) {old middle : Pass H} → MayJoin o old middle
    → IsPassOf o.block old → IsPassOf o.block middle
joins-pass o (inl same) of = subst (λ (p : Pass _). IsPassOf o.block p) (sym same) of
joins-pass o (inr joined) of = joined.2.same.0

-- the entry by which a new owner is made
abbrev making : Bool → ℕ → ℕ → Entry
making c by new = if c then Up by new else Promote by new

-- the new owner's number is how many the history had
makes-next : {H : Type 0} {o : Owner} {old new : Pass H} {other : Owner}
    (makes : MakesAnother o old new other)
    → Appends o.block makes.middle new makes.before
    (making (is_counted o.block.began (entries_of makes.before)) o.number
    (next_owner makes.before) ∷ [])
makes-next {o = o} {new = new} makes =
    subst (λ (n : ℕ). Appends o.block makes.middle new makes.before
    (making (is_counted o.block.began (entries_of makes.before)) o.number n ∷ []))
    (ap (λ (x : Owner). x.number) makes.made) makes.added

-- what a call adds on a word that its pass knows to be counted: the one entry, and nothing was
-- joined
module _ {H : Type 0} {o : Owner} {old new : Pass H} (c : HasCountIn o.block (seen old)) where
  pub counted-makes : {other : Owner} → MakesAnother o old new other
      → (before : List Line) × Appends o.block old new before (Up o.number (next_owner before) ∷ [])
      × (other.block ≡ o.block) × (other.number ≡ next_owner before)
  counted-makes makes =
      let here = subst (λ (p : Pass H). Appends o.block p new makes.before
      (making (is_counted o.block.began (entries_of makes.before)) o.number
      (next_owner makes.before) ∷ [])) (unjoined o c makes.joined) (makes-next makes) in (
        makes.before,
        subst (λ (b : Bool). Appends o.block old new makes.before
            (making b o.number (next_owner makes.before) ∷ [])) (counted-before here c) here,
        ap (λ (x : Owner). x.block) makes.made,
        ap (λ (x : Owner). x.number) makes.made,
      )

  pub counted-full : FindsFull o old new → (before : List Line)
      × Appends o.block old new before (Full o.number ∷ [])
      × (length (live_owners (entries_of before)) ≡ o.block.most)
  counted-full full = (
    full.before,
    subst (λ (p : Pass H). Appends o.block p new full.before (Full o.number ∷ []))
        (unjoined o c full.joined) full.added,
    full.full,
  )

same-joined : {H : Type 0} (o : Owner) {old middle : Pass H} → MayJoin o old middle
    → (middle.trace.number ≡ old.trace.number)
    × (old.trace.ready ≡ true → middle.trace.ready ≡ true)
same-joined {H = H} o (inl same) =
    (ap (λ (p : Pass H). p.trace.number) same, λ is. ap (λ (p : Pass H). p.trace.ready) same ∙ is)
same-joined o (inr joined) = (joined.2.same.1, joined.2.same.2)

same-after : {H : Type 0} (o : Owner) {old middle : Pass H} (new : Pass H) → MayJoin o old middle
    → IsSamePass o.block middle new → IsSamePass o.block old new
same-after o new joined same =
    let first = same-joined o joined in (same.0, same.1 ∙ first.0, λ is. same.2 (first.1 is))

-- each call is of the same pass
module _ {H : Type 0} {o : Owner} {old new : Pass H} where
  pub same-asked : {found : Bool} → Asks o old new found → IsSamePass o.block old new
  same-asked asks = asks.added.same

  pub same-left : {last : Bool} → Leaves o old new last → IsSamePass o.block old new
  same-left leaves = leaves.added.same

  pub same-made : {other : Owner} → MakesAnother o old new other → IsSamePass o.block old new
  same-made makes = same-after o new makes.joined makes.added.same

  pub same-full : FindsFull o old new → IsSamePass o.block old new
  same-full full = same-after o new full.joined full.added.same

-- a pass that knew before a call that the word has a count knows it after the call
module _ {H : Type 0} {o : Owner} {old new : Pass H} (c : HasCountIn o.block (seen old)) where
  pub still-left : {last : Bool} → Leaves o old new last → HasCountIn o.block (seen new)
  still-left leaves = counted-still leaves.added c

  pub still-made : {other : Owner} → MakesAnother o old new other → HasCountIn o.block (seen new)
  still-made makes = counted-still (counted-makes c makes).1 c

  pub still-full : FindsFull o old new → HasCountIn o.block (seen new)
  still-full full = counted-still (counted-full c full).1 c

-- a pass of this block, which knows that the word has a count
abbrev pub KnowsCount : {H : Type 0} → BlockId → Pass H → Type 0
KnowsCount t p = IsPassOf t p × HasCountIn t (seen p)

module _ {H : Type 0} {o : Owner} {t : BlockId} {old new : Pass H} (at : o.block ≡ t)
    (k : KnowsCount t old) where
  pub knows-made : {other : Owner} → MakesAnother o old new other → KnowsCount t new
      × (other.block ≡ t)
  knows-made {other = other} makes = (
    subst (λ (b : BlockId). KnowsCount b old → KnowsCount b new) at
        (λ (j : KnowsCount o.block old). ((same-made makes).0, still-made j.1 makes)) k,
    ap
        (λ (x : Owner). x.block) makes.made ∙ at,
  )

  pub knows-full : FindsFull o old new → KnowsCount t new
  knows-full full = subst (λ (b : BlockId). KnowsCount b old → KnowsCount b new) at
      (λ (j : KnowsCount o.block old). ((same-full full).0, still-full j.1 full)) k

  pub knows-left : {last : Bool} → Leaves o old new last → KnowsCount t new
  knows-left leaves = subst (λ (b : BlockId). KnowsCount b old → KnowsCount b new) at
      (λ (j : KnowsCount o.block old). ((same-left leaves).0, still-left j.1 leaves)) k

-- a new pass knows it where the owner was made on such a word
pub counted-new : {H : Type 0} (o : Owner) (p : Pass H) → HasCountIn o.block (entries_of o.born)
    → IsNewPass o p → HasCountIn o.block (seen p)
counted-new o p c new =
    subst (λ (h : List Entry). is_counted o.block.began h ≡ true)
    (sym (entries-after o.born new.1.0) ∙ ap entries_of new.1.1)
    (counted-after o.block.began (entries_of o.born) (entries_of new.1.0) c)

-- so do the first pass of a block that began with a count, and each new one
pub counted_first : {H : Type 0} {most : ℕ} {whole : Bool} {o : Owner} (p : Pass H)
    → IsFirst most whole Counted o → IsFreshPass o p → HasCountIn o.block (seen p)
counted_first {o = o} p first fresh = subst (λ (ls : List Line). HasCountIn o.block (entries_of ls))
    (sym fresh.1) (begins_counted o.block first.began)

pub counted_forked : {H : Type 0} {most : ℕ} {whole : Bool} {o : Owner} (p : Pass H)
    → IsFirst most whole Counted o → IsNewPass o p → HasCountIn o.block (seen p)
counted_forked {o = o} p first new =
    counted-new o p (subst (λ (ls : List Line). HasCountIn o.block (entries_of ls)) (sym first.born)
    (begins_counted o.block first.began)) new

-- what an entry does by which an owner is made
making-made : (c : Bool) (by new : ℕ) → owner_made (making c by new) ≡ Some new
making-made true by new = refl
making-made false by new = refl

making-ended : (c : Bool) (by new : ℕ) → owner_ended (making c by new) ≡ None
making-ended true by new = refl
making-ended false by new = refl

making-never : (c : Bool) (by new most : ℕ) (began : Beginning) (h : List Entry)
    → MayFollow most began h (making c by new) → NeverLived new h
making-never true by new most began h may = may.1
making-never false by new most began h may = may.1

module _ {H : Type 0} {t : BlockId} {old new : Pass H} (whole : t.whole ≡ true) {before : List Line}
  where
    -- an entry that neither makes nor ends an owner
    lives-same : (e : Entry) → owner_made e ≡ None → owner_ended e ≡ None
        → Appends t old new before (e ∷ []) → live_owners (seen new) ≡ live_owners (seen old)
    lives-same e made ends a = ap live_owners (seen-more a whole) ∙ live-same (seen old) e made ends

    lives-read : (by : ℕ) (c : Bool) (found : Bool)
        → Appends t old new before (if c then Alone by found ∷ [] else [])
        → live_owners (seen new) ≡ live_owners (seen old)
    lives-read by true found a = lives-same (Alone by found) refl refl a
    lives-read by false found a = ap live_owners (seen-more a whole ∙ append-nil (seen old))

-- who lives after each call, under `Whole`
module _ {H : Type 0} {o : Owner} {old new : Pass H} (whole : o.block.whole ≡ true) where
  pub lives-asked : {found : Bool} → Asks o old new found → live_owners (seen new) ≡ live_owners
      (seen old)
  lives-asked {found = found} asks =
      lives-read whole o.number (is_counted o.block.began (entries_of asks.before)) found asks.added

  pub found-exact : {found : Bool} → Asks o old new found → IsTrue found ↔ LivesAlone o.number
      (seen old)
  found-exact {found = found} asks =
      subst (λ (h : List Entry). IsTrue found ↔ LivesAlone o.number h) (before-is asks.added whole)
      asks.exact

  pub lives-left : {last : Bool} → Leaves o old new last → live_owners (seen new) ≡ without_number
      o.number (live_owners (seen old))
  lives-left leaves = ap live_owners (seen-more leaves.added whole) ∙ live-ended (seen old) o.number

  pub last-exact : {last : Bool} → Leaves o old new last → IsTrue last ↔ LivesAlone o.number
      (seen old)
  last-exact {last = last} leaves = subst (λ (h : List Entry). IsTrue last ↔ LivesAlone o.number h)
      (before-is leaves.added whole) leaves.exact

-- the same owners live, and ever lived, after an exchange that lost
module _ {H : Type 0} (o : Owner) {old middle : Pass H} (whole : o.block.whole ≡ true) where
  lives-joined : MayJoin o old middle → live_owners (seen middle) ≡ live_owners (seen old)
  lives-joined (inl same) = ap (λ (p : Pass H). live_owners (seen p)) same
  lives-joined (inr joined) = lives-same whole (Joined o.number) refl refl joined.2

  ever-joined : MayJoin o old middle → owners_ever (seen middle) ≡ owners_ever (seen old)
  ever-joined (inl same) = ap (λ (p : Pass H). owners_ever (seen p)) same
  ever-joined (inr joined) = ap owners_ever (seen-more joined.2 whole)
      ∙ (ever-append (seen old) (Joined o.number) ∙ append-nil (owners_ever (seen old)))

module _ {H : Type 0} {o : Owner} {old new : Pass H} (whole : o.block.whole ≡ true) where
  -- the count was found at its greatest
  pub lives-full : FindsFull o old new → live_owners (seen new) ≡ live_owners (seen old)
  lives-full full =
      lives-same whole (Full o.number) refl refl full.added ∙ lives-joined o whole full.joined

  pub full-exact : FindsFull o old new → length (live_owners (seen old)) ≡ o.block.most
  full-exact full = ap length (sym (lives-joined o whole full.joined))
      ∙ (ap (λ (h : List Entry). length (live_owners h)) (sym (before-is full.added whole))
      ∙ full.full)

  -- an owner was made: whether the count was raised, or the word promoted, or the exchange for that
  -- lost first
  pub lives-made : {other : Owner} → MakesAnother o old new other
      → live_owners (seen new) ≡ live_owners (seen old) ++ other.number ∷ []
  lives-made makes =
      let c = is_counted o.block.began (entries_of makes.before) in
      let n : ℕ = next_owner makes.before in let e = making c o.number n in
      let never = making-never c o.number n o.block.most o.block.began (entries_of makes.before)
      (may-stand (makes-next makes)) in
      ap live_owners (seen-after (makes-next makes))
      ∙ (grown (entries_of makes.before) e n (making-made c o.number n) (making-ended c o.number n)
      never (owned-before (makes-next makes))
      ∙ (λ i. (ap live_owners (before-is makes.added whole) ∙ lives-joined o whole makes.joined)
      i ++ sym (ap (λ (x : Owner). x.number) makes.made) i ∷ []))

  -- its number is how many owners there have been
  pub made-number : {other : Owner} → MakesAnother o old new other
      → other.number ≡ length (owners_ever (seen old))
  made-number makes =
      ap (λ (x : Owner). x.number) makes.made
      ∙ (ap (λ (h : List Entry). length (owners_ever h)) (before-is makes.added whole)
      ∙ ap length (ever-joined o whole makes.joined))

-- an owner more is made only where fewer live than may
making-room : (c : Bool) (by new most : ℕ) (began : Beginning) (h : List Entry) → 2 ≤ most
    → MayFollow most began h (making c by new) → length (live_owners h) < most
making-room true by new most began h two may = may.3
making-room false by new most began h two may =
    let one : length (live_owners h) ≡ 1 = ap length may.0 in omega (arith, two, one)

pub room-made : {H : Type 0} {o : Owner} {old new : Pass H} {other : Owner}
    → o.block.whole ≡ true → 2 ≤ o.block.most → MakesAnother o old new other
    → length (live_owners (seen old)) < o.block.most
room-made {o = o} whole two makes =
    let h = entries_of makes.before in
    let c = is_counted o.block.began h in
    let room =
    making-room c o.number (next_owner makes.before) o.block.most o.block.began h two
    (may-stand (makes-next makes)) in
    let same = ap live_owners (before-is (makes-next makes) whole)
    ∙ lives-joined o whole makes.joined in
    subst (λ (ns : List ℕ). length ns < o.block.most) same room
