-- Each legal history of a word that begins with a count is that of a run of the word machine.
use Rattle.std.proofs.Common.{◌≡◌, ℕ, true, false, List, [], ◌∷◌, ◌++◌, refl, sym, ◌∙◌, subst}
use Rattle.std.proofs.Common.{append_assoc}
use Rattle.std.proofs.lemmas.Bool.{false≢true}
use Rattle.std.proofs.lemmas.List.{append-nil}
use Rattle.core.proofs.iter.runs.Lists.{fold-append}
use Rattle.arc_owners.specs.declared.history.entry.Entry.{Entry}
use Rattle.arc_owners.specs.declared.history.entry.Entry.TheVariants.{Up, Full, Down, Alone}
use Rattle.arc_owners.specs.declared.history.entry.Entry.TheVariants.{Promote, Joined}
use Rattle.arc_owners.specs.declared.history.event.Event.{Event}
use Rattle.arc_owners.specs.history.Histories.{Counted, owners_ever, owners_ended, live_owners}
use Rattle.arc_owners.specs.history.Histories.{is_promotion, is_promoted, is_counted, MayFollow}
use Rattle.arc_owners.specs.history.Histories.{IsLegal}
use Rattle.arc_owners.specs.history.Machine.{Machine, step, changed, opening, after_events}
use Rattle.arc_owners.specs.history.Agreement.{Tells, is_exchange}
use Rattle.arc_owners.proofs.history.Owned.{promoted-append}
use Rattle.arc_owners.proofs.history.Legality.{IsLegalAfter, legal-after, legal-nil, legal-append}
use Rattle.arc_owners.proofs.history.Events.{IsStep, one_event}

counted : (h : List Entry) → is_counted Counted h ≡ true
unfolding is_counted
counted h = refl

opens : Tells Counted (opening Counted) []
unfolding is_counted live_owners owners_ever owners_ended
opens = record {
  entries = refl;
  live = refl;
  count = refl;
  counted = refl;
  lone =
      λ e. absurd (false≢true (sym e));
}

none_promoted : is_promoted [] ≡ false
unfolding is_promoted
none_promoted = refl

is_step : (most : ℕ) (h : List Entry) (e : Entry) → is_promoted h ≡ false
    → MayFollow most Counted h e → IsStep e
is_step most h (Up by new) n may = tt
is_step most h (Full by) n may = tt
is_step most h (Down owner) n may = tt
is_step most h (Alone by found) n may = tt
is_step most h (Promote by new) n may = false≢true (sym may.2 ∙ counted h)
is_step most h (Joined by) n may = false≢true (sym n ∙ may.1)

-- a step is no promotion, and no exchange
no_other : (e : Entry) → IsStep e → (is_promotion e ≡ false) × (is_exchange e ≡ false)
no_other (Up by new) s = (refl, refl)
no_other (Full by) s = (refl, refl)
no_other (Down owner) s = (refl, refl)
no_other (Alone by found) s = (refl, refl)
no_other (Promote by new) s = absurd s
no_other (Joined by) s = absurd s

still_none : (h : List Entry) (e : Entry) → is_promoted h ≡ false → IsStep e
    → is_promoted (h ++ e ∷ []) ≡ false
still_none h e n s = promoted-append h e ∙ rw (n, (no_other e s).0) refl

happens : (most : ℕ) (m : Machine) (e : Event) → Rattle.arc_owners.specs.history.Machine.may_happen
    most m e ≡ true → step most m e ≡ changed m e
unfolding step
happens most m e may = rw may refl

module _ (most : ℕ) where
  abbrev Tells_after : List Event → List Entry → Type 0
  Tells_after events h = Tells Counted (after_events most Counted events) h

  realizes : (before rest : List Entry) (events : List Event) → Tells_after events before
      → IsLegal most Counted before → is_promoted before ≡ false → IsLegalAfter most Counted before
      rest → (all : List Event) × Tells_after all (before ++ rest)
  realizes before [] events t l n r =
      (events, subst (λ (h : List Entry). Tells_after events h) (sym (append-nil before)) t)
  realizes before (e ∷ rest) events t l n r =
      let m : Machine = after_events most Counted events in
      let s : IsStep e = is_step most before e n r.0 in
      let one = one_event most Counted before l (counted before) e s r.0 m 1 t
      (λ (x : is_exchange e ≡ true). absurd (false≢true (sym (no_other e s).1 ∙ x))) in
      let all : List Event = events ++ one.0 ∷ [] in
      let next : after_events most Counted all ≡ changed m one.0 = fold-append (step most)
      (opening Counted) events (one.0 ∷ []) ∙ happens most m one.0 one.2 in
      subst (λ (h : List Entry). (es : List Event) × Tells_after es h)
      (append_assoc before (e ∷ []) rest)
      (realizes (before ++ e ∷ []) rest all
      (subst (λ (x : Machine). Tells Counted x (before ++ e ∷ [])) (sym next) one.3)
      (legal-append most Counted before e l r.0) (still_none before e n s) r.1)

  pub realized : (h : List Entry) → IsLegal most Counted h → (events : List Event)
      × Tells_after events h
  realized h l = realizes [] h [] opens (legal-nil most Counted) none_promoted
      (legal-after most Counted h l)
