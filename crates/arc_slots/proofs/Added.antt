-- What a call by a slot's window adds to the histories of the blocks. Under `Whole` it comes at
-- once behind all that the block's pass had seen.
use Rattle.std.proofs.Common.{inl, inr, ◌≡◌, ◌⊎◌, ℕ, Bool, true, List, [], ◌∷◌}
use Rattle.std.proofs.Common.{◌++◌, length, Option, Some, None, refl, sym, ap}
use Rattle.std.proofs.Common.{◌∙◌}
use Rattle.std.proofs.Common.{subst, IsTrue}
use Rattle.std.proofs.lemmas.Bool.{false≢true}
use Rattle.std.proofs.lemmas.List.{append-nil}
use Rattle.arc_owners.specs.declared.count.tokens.Pass.{Pass}
use Rattle.arc_owners.specs.declared.history.entry.Entry.{Entry}
use Rattle.arc_owners.specs.declared.history.entry.Entry.TheVariants as entry
use Rattle.arc_owners.specs.declared.error.OwnerError.{OwnerError}
use Rattle.arc_owners.specs.declared.error.OwnerError.TheVariants.{AllocError, CountFull}
use Rattle.arc_owners.specs.history.Histories.{is_promoted}
use Rattle.arc_owners.specs.history.Histories.{owners_ever}
use Rattle.arc_owners.specs.count.Invariant.{BlockId, Line, entries_of}
use Rattle.arc_owners.specs.count.Calls.{Owner, Appends, Asks, MakesAnother, FindsFull, MayJoin}
use Rattle.arc_owners.specs.count.Calls.{Leaves}
use Rattle.arc_owners.specs.count.Calls.{history_of, seen}
use Rattle.arc_owners.proofs.Wholes.{before-is, may-stand, promoted-counted}
use Rattle.arc_block.specs.Block.{Sort}
use Rattle.arc_block.specs.Owned.{Stand}
use Rattle.arc_block.specs.Place.{Place}
use Rattle.arc_commands.specs.Additions.{AddsAt, Raises}
use Rattle.arc_commands.specs.Additions.{raised, asked, refused}
use Rattle.arc_slots.specs.Calls.{Along, Beside, FindsFullAt, RefusesAt, AddsNothing}
use Rattle.arc_slots.proofs.Told.{why-refused-at}

-- what the end of a window adds
abbrev pub Ended : {H : Type 0} → Owner → Pass H → Pass H → Type 0
Ended o p q = (last : Bool) × Leaves o p q last

-- what a refusal adds: that the block was full, or nothing
pub entries-refused : (e : OwnerError) (o : Owner) (history : List Entry)
    → (refused e o history ≡ entry.Full o.number ∷ []) ⊎ (refused e o history ≡ [])
entries-refused CountFull o history = inl refl
entries-refused AllocError o history = inr refl

module _ {H : Type 0} where
  before-lines : {t : BlockId} {old new : Pass H} {before : List Line} {es : List Entry}
      → Appends t old new before es → t.whole ≡ true → before ≡ history_of old
  before-lines {old = old} a whole =
      a.after_seen ∙ ap (λ (ls : List Line). old.trace.lines ++ ls) (a.undisturbed whole)
      ∙ append-nil old.trace.lines

  -- the entries, which may go by what stood before them, come at once
  at-once : (t : BlockId) (old new : Pass H) (before : List Line)
      (es : List Entry → List Entry) → t.whole ≡ true
      → Appends t old new before (es (entries_of before))
      → Appends t old new (history_of old) (es (seen old))
  at-once t old new before es whole a =
      subst (λ (ls : List Line). Appends t old new ls (es (entries_of ls))) (before-lines a whole) a

  -- no exchange is lost where there is one pass
  not-joined : (o : Owner) (old middle : Pass H) → o.block.whole ≡ true → MayJoin o old middle
      → middle ≡ old
  not-joined o old middle whole (inl same) = same
  not-joined o old middle whole (inr joined) =
      absurd (false≢true (sym joined.1 ∙ promoted-counted o.block.began (seen old)
      (subst (λ (h : List Entry). IsTrue (is_promoted h)) (before-is joined.2 whole)
      (may-stand joined.2).1)))

  -- what a call adds comes at once
  abbrev Comes : (Owner → Pass H → Pass H → Type 0) → (Owner → List Entry → List Entry) → Type 0
  Comes call entries = (o : Owner) (old new : Pass H) → o.block.whole ≡ true → call o old new
      → Appends o.block old new (history_of old) (entries o (seen old))

  pub asked-comes : (found : Bool) → Comes (λ o p q. Asks o p q found) (asked found)
  asked-comes found o old new whole asks =
      at-once o.block old new asks.before (asked found o) whole asks.added

  pub nothing-comes : Comes AddsNothing (refused AllocError)
  nothing-comes o old new whole adds =
      at-once o.block old new adds.0 (refused AllocError o) whole adds.1

  full-comes : Comes FindsFull (refused CountFull)
  full-comes o old new whole full =
      at-once o.block old new full.before (refused CountFull o) whole
      (subst (λ (m : Pass H). Appends o.block m new full.before (entry.Full o.number ∷ []))
      (not-joined o old full.middle whole full.joined) full.added)

  pub ended-comes : Comes Ended (λ o history. entry.Down o.number ∷ [])
  ended-comes o old new whole ends =
      at-once o.block old new ends.1.before (λ history. entry.Down o.number ∷ []) whole ends.1.added

  module _ (o : Owner) (old new : Pass H) (made : Owner) (whole : o.block.whole ≡ true)
      (makes : MakesAnother o old new made) where
    raised-before : Appends o.block old new makes.before
        (raised made.number o (entries_of makes.before))
    raised-before =
        subst (λ (m : Pass H). Appends o.block m new makes.before
        (raised made.number o (entries_of makes.before)))
        (not-joined o old makes.middle whole makes.joined) makes.added

    raised-comes : Appends o.block old new (history_of old) (raised made.number o (seen old))
    raised-comes = at-once o.block old new makes.before (raised made.number o) whole raised-before

    raised-next : made ≡ record {
      block = o.block;
      number = length (owners_ever (seen old));
      born = history_of new;
    }
    raised-next =
        makes.made ∙ ap (λ (ls : List Line). record {
          block = o.block;
          number = length (owners_ever (entries_of ls));
          born = history_of new;
        }) (before-lines raised-before whole)

  module _ (passes passes' : List (Pass H)) where
    pub enters-along : (call : Owner → Pass H → Pass H → Type 0)
        (entries : Owner → List Entry → List Entry) (comes : Comes call entries) (s : Stand)
        → Along s passes passes' call → AddsAt s entries passes passes'
    enters-along call entries comes None along = along
    enters-along call entries comes (Some (n, o)) along = record {
      before = along.before;
      after = along.after;
      was = along.was;
      pass = along.pass;
      added = comes o along.before along.after along.whole along.called;
      others = along.others;
    }

    pub raises-beside : (s made : Stand) → Beside s passes passes' made
        → Raises s made passes passes'
    raises-beside s None same = same
    raises-beside None (Some made) joins = absurd joins
    raises-beside (Some (n, o)) (Some (m, made)) joins =
        let through = joins.1 in (
          joins.0,
          record {
            before = through.before;
            after = through.after;
            was = through.was;
            pass = through.pass;
            added = raised-comes o through.before through.after made through.whole through.called;
            others = through.others;
          },
          raised-next o through.before through.after made through.whole through.called,
        )

    full-adds : {M : Type 0} (place : Place (Option ℕ) M) (s : Stand)
        → FindsFullAt place s passes passes' → AddsAt s (refused CountFull) passes passes'
    full-adds place None full = absurd full
    full-adds place (Some (n, o)) full =
        enters-along FindsFull (refused CountFull) full-comes (Some (n, o)) full.1

    pub refuses-at : {M : Type 0} (wants : Sort → Bool) (place : Place (Option ℕ) M)
        (e : OwnerError) (s : Stand)
        → RefusesAt wants place s passes passes' e → AddsAt s (refused e) passes passes'
    refuses-at wants place e s why =
        elim (why-refused-at passes passes' wants place s e why) [
          | inl full ↦
              subst (λ (x : OwnerError). AddsAt s (refused x) passes passes') (sym full.0)
              (full-adds place s full.1)
          | inr memory ↦
              subst (λ (x : OwnerError). AddsAt s (refused x) passes passes') (sym memory.0)
              (enters-along AddsNothing (refused AllocError) nothing-comes s memory.1.1)
        ]
