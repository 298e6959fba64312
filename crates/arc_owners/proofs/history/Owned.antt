-- What one more entry does to the owners of a history.
use Rattle.std.proofs.Common.{inl, inr, ◌≡◌, ℕ, false, eqb, List, [], ◌∷◌, ◌++◌, Some, None, refl}
use Rattle.std.proofs.Common.{sym, ◌∙◌, ap, not, ◌&&◌, ◌||◌}
use Rattle.std.specs.List.{list_any, cons_option}
use Rattle.std.proofs.lemmas.Bool.{cases_Bool, false≢true}
use Rattle.std.proofs.lemmas.List.{append-nil}
use Rattle.std.proofs.lemmas.List.Folds.{list_any-append}
use Rattle.std.proofs.lemmas.List.Elements.{filter-append, filter_map-append, filter_agree}
use Rattle.arc_owners.specs.declared.history.entry.Entry.{Entry}
use Rattle.arc_owners.specs.declared.history.entry.Entry.TheVariants.{Up, Full, Down, Alone}
use Rattle.arc_owners.specs.declared.history.entry.Entry.TheVariants.{Promote, Joined}
use Rattle.arc_owners.specs.contracts.history.entry.EntryPartialEq.TheImpl.{ghosts}
use Rattle.arc_owners.specs.history.Histories.{is_in, owner_made, owner_ended, is_promotion}
use Rattle.arc_owners.specs.history.Histories.{owners_ever, owners_ended, live_owners, is_promoted}
use Rattle.arc_owners.specs.history.Machine.{without_number}
use Rattle.arc_owners.proofs.history.Numbers.{eqb_sym, filter-filter, in-filter}

pub ended-append : (h : List Entry) (e : Entry) → owners_ended (h ++ e ∷ []) ≡ owners_ended
    h ++ cons_option (owner_ended e) []
unfolding owners_ended
ended-append h e = filter_map-append owner_ended h (e ∷ [])

pub ever-append : (h : List Entry) (e : Entry) → owners_ever (h ++ e ∷ []) ≡ owners_ever
    h ++ cons_option (owner_made e) []
unfolding owners_ever
ever-append h e = ap (λ xs. 0 ∷ xs) (filter_map-append owner_made h (e ∷ []))

pub promoted-append : (h : List Entry) (e : Entry)
    → is_promoted (h ++ e ∷ []) ≡ (is_promoted h || (is_promotion e || false))
unfolding is_promoted
promoted-append h e = list_any-append is_promotion h (e ∷ [])

-- an entry that neither makes nor ends an owner leaves the live ones
pub live-same : (h : List Entry) (e : Entry) → owner_made e ≡ None → owner_ended e ≡ None
    → live_owners (h ++ e ∷ []) ≡ live_owners h
unfolding live_owners
live-same h e made ends =
    let ever : owners_ever (h ++ e ∷ []) ≡ owners_ever h = ever-append h e
    ∙ (rw made (append-nil (owners_ever h))) in
    let ended : owners_ended (h ++ e ∷ []) ≡ owners_ended h = ended-append h e
    ∙ (rw ends (append-nil (owners_ended h))) in
    rw (ever, ended) refl

-- a number that never ended is among the live ones as soon as it is made
pub live-made : (h : List Entry) (e : Entry) (new : ℕ) → owner_made e ≡ Some new
    → owner_ended e ≡ None → is_in new (owners_ended h) ≡ false
    → live_owners (h ++ e ∷ []) ≡ live_owners h ++ new ∷ []
unfolding live_owners
live-made h e new made ends fresh =
    let ever : owners_ever (h ++ e ∷ []) ≡ owners_ever h ++ new ∷ [] = ever-append h e
    ∙ (rw made refl) in
    let ended : owners_ended (h ++ e ∷ []) ≡ owners_ended h = ended-append h e
    ∙ (rw ends (append-nil (owners_ended h))) in
    rw (ever, ended) (filter-append (λ x. not (is_in x (owners_ended h))) (owners_ever h) (new ∷ [])
    ∙ rw fresh refl)

in_ended-append : (x owner : ℕ) (ended : List ℕ) → (not (is_in x ended) && not (eqb x owner)) ≡ not
    (is_in x (ended ++ owner ∷ []))
in_ended-append x owner ended =
    rw (list_any-append (λ y. eqb y x) ended (owner ∷ []), eqb_sym x owner)
    (elim (cases_Bool (is_in x ended)) [
      | inl h ↦ rw h refl
      | inr h ↦ rw h (elim (cases_Bool (eqb owner x)) [ inl k ↦ rw k refl | inr k ↦ rw k refl ])
    ])

-- a release takes its owner from the live ones
pub live-ended : (h : List Entry) (owner : ℕ) → live_owners (h ++ Down owner ∷ []) ≡ without_number
    owner (live_owners h)
unfolding live_owners
live-ended h owner =
    let ever : owners_ever (h ++ Down owner ∷ []) ≡ owners_ever h = ever-append h (Down owner)
    ∙ append-nil (owners_ever h) in
    let ended : owners_ended (h ++ Down owner ∷ []) ≡ owners_ended h ++ owner ∷ [] = ended-append h
    (Down owner) in
    rw (ever, ended)
    (sym (filter-filter (λ x. not (is_in x (owners_ended h))) (λ x. not (eqb x owner))
    (owners_ever h)
    ∙ filter_agree (λ x. not (is_in x (owners_ended h)) && not (eqb x owner))
    (λ x. not (is_in x (owners_ended h ++ owner ∷ [])))
    (λ x. in_ended-append x owner (owners_ended h)) (owners_ever h)))

-- a number that neither lives nor ended never lived
pub never_lived : (h : List Entry) (new : ℕ) → is_in new (live_owners h) ≡ false
    → is_in new (owners_ended h) ≡ false → is_in new (owners_ever h) ≡ false
unfolding live_owners
never_lived h new live ended =
    elim (cases_Bool (is_in new (owners_ever h))) [
      | inl ever ↦ absurd
          (false≢true (sym live ∙ in-filter new (λ x. not (is_in x (owners_ended h)))
          (owners_ever h) ever (rw ended refl)))
      | inr never ↦ never
    ]

-- an owner ended where its release stands among the entries
pub any_down : (h : List Entry) (owner : ℕ) → list_any (λ e. ghosts.eq e (Down owner)) h ≡ is_in
    owner (owners_ended h)
unfolding owners_ended
any_down [] owner = refl
any_down (Up by new ∷ h) owner = any_down h owner
any_down (Full by ∷ h) owner = any_down h owner
any_down (Down ended ∷ h) owner = ap (λ b. eqb ended owner || b) (any_down h owner)
any_down (Alone by found ∷ h) owner = any_down h owner
any_down (Promote by new ∷ h) owner = any_down h owner
any_down (Joined by ∷ h) owner = any_down h owner
