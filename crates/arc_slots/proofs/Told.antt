-- What the pass of a window's block tells of the rest of its table.
use Rattle.std.proofs.Common.{inl, inr, ◌≡◌, ◌⊎◌, ℕ, ◌&&◌, Bool, true, false, List, length}
use Rattle.std.proofs.Common.{[], ◌∷◌}
use Rattle.std.proofs.Common.{Option, Some, None, is_some, refl, sym, ap, ◌∙◌, arith, slice_get}
use Rattle.std.specs.Option.{option_map, option_map_or}
use Rattle.std.proofs.lemmas.Bool.{cases_Bool, eq-eqb, ne_eqb, false≢true}
use Rattle.std.proofs.lemmas.List.{length-append, length-set}
use Rattle.arc_owners.specs.declared.count.tokens.Pass.{Pass}
use Rattle.arc_owners.specs.declared.error.OwnerError.{OwnerError}
use Rattle.arc_owners.specs.declared.error.OwnerError.TheVariants.{AllocError, CountFull}
use Rattle.arc_owners.specs.history.Histories.{live_owners}
use Rattle.arc_owners.specs.count.Calls.{Owner, Asks, FindsFull, MakesAnother, seen}
use Rattle.arc_owners.proofs.Steps.{one_is}
use Rattle.arc_owners.proofs.Wholes.{found-exact, full-exact, room-made}
use Rattle.arc_block.specs.declared.block.TheConstants.{MAX_OWNERS}
use Rattle.arc_block.specs.Block.{Sort}
use Rattle.arc_block.specs.Owned.{Stand}
use Rattle.arc_block.specs.Place.{Place, nowhere, static_data, on_block}
use Rattle.arc_block.specs.Table.{Row, block_of}
use Rattle.arc_commands.specs.Additions.{Founds}
use Rattle.arc_commands.specs.Changes.{of_clones, is_wanting}
use Rattle.arc_commands.specs.Step.{with_block}
use Rattle.arc_slots.specs.Answers.{around_in, live_on}
use Rattle.arc_slots.specs.Calls.{Through, Along, Beside, FindsFullAt, RefusesAt, AddsNothing}
use Rattle.arc_slots.specs.Slots.{SlotView, row_of, stand_of}
use Rattle.arc_slots.specs.Stands.{HasPassFor, numbered, stand_at}

-- the block of a stand
abbrev pub stand_block : Stand → Option ℕ
stand_block stand = option_map (λ s. s.0) stand

pub place_agrees : {M : Type 0} (b : Option ℕ) (place : Place (Option Owner) M)
    → block_of (numbered b place) ≡ stand_block (stand_at b place)
place_agrees b nowhere = refl
place_agrees b static_data = refl
place_agrees b (on_block None offset facts) = refl
place_agrees None (on_block (Some owner) offset facts) = refl
place_agrees (Some n) (on_block (Some owner) offset facts) = refl

-- a slot's row stands on the block on which its window stands
pub row-block : {T M : Type 0} (s : SlotView T M)
    → block_of (row_of s).place ≡ stand_block (stand_of (Some s))
row-block s = place_agrees s.block s.window.place

-- and so does a row that is a slot's
module _ {T M : Type 0} (s : SlotView T M) (r : Row T M) where
  pub row-begins : row_of s ≡ r
      → is_some (block_of r.place) ≡ is_some (stand_block (stand_of (Some s)))
  row-begins is =
      ap (λ (x : Row T M). is_some (block_of x.place)) (sym is) ∙ ap is_some (row-block s)

-- where a block was founded there is a pass more
pub many-founded : {H : Type 0} (passes passes' : List (Pass H)) (st : Stand)
    → Founds st passes passes'
    → length passes' ≡ with_block (is_some (stand_block st)) (length passes)
many-founded passes passes' None founds = ap length founds
many-founded passes passes' (Some (number, o)) founds =
    ap length founds.4 ∙ length-append passes (founds.2 ∷ [])

-- where a row stands on no block, no owner stands
pub none-stands : (st : Stand) → is_some (stand_block st) ≡ false → st ≡ None
none-stands None off = refl
none-stands (Some here) off = absurd (false≢true (sym off))

and-false : (b : Bool) → (b && false) ≡ false
and-false true = refl
and-false false = refl

module _ {H : Type 0} (passes passes' : List (Pass H)) where
  -- there are as many passes
  pub many_along : (s : Stand) (call : Owner → Pass H → Pass H → Type 0)
      → Along s passes passes' call → length passes' ≡ length passes
  many_along None call along = ap length along
  many_along (Some (n, o)) call along =
      ap length along.others ∙ length-set passes n along.after

  pub many-beside : (s made : Stand) → Beside s passes passes' made
      → length passes' ≡ length passes
  many-beside s None same = ap length same
  many-beside None (Some made) joins = absurd joins
  many-beside (Some (n, o)) (Some made) joins =
      ap length joins.1.others ∙ length-set passes n joins.1.after

  -- Why no window was made beside one that stands here: its block was full, or memory was refused.
  -- What else is known of a refusal goes by this, so that no other proof matches on the error.
  pub why-refused-at : {M : Type 0} (wants : Sort → Bool) (place : Place (Option ℕ) M) (s : Stand)
      (e : OwnerError) → RefusesAt wants place s passes passes' e
      → ((e ≡ CountFull) × FindsFullAt place s passes passes')
      ⊎ ((e ≡ AllocError) × RefusesAt wants place s passes passes' AllocError)
  why-refused-at wants place s CountFull full = inl (refl, full)
  why-refused-at wants place s AllocError why = inr (refl, why)

  wants-none : {M : Type 0} (place : Place (Option ℕ) M)
      → is_wanting of_clones (λ sort. false) place ≡ true → ⊥
  wants-none nowhere wants = false≢true wants
  wants-none static_data wants = false≢true wants
  wants-none (on_block block offset info) wants = false≢true wants

  -- where no memory is wanted the block was full
  pub full-at : {M : Type 0} (place : Place (Option ℕ) M) (s : Stand) (e : OwnerError)
      → RefusesAt (λ sort. false) place s passes passes' e
      → (e ≡ CountFull) × FindsFullAt place s passes passes'
  full-at place s e why =
      elim (why-refused-at (λ sort. false) place s e why) [
        | inl full ↦ full
        | inr memory ↦ absurd (wants-none place memory.1.0)
      ]

  many-full : {M : Type 0} (place : Place (Option ℕ) M) (s : Stand)
      → FindsFullAt place s passes passes' → length passes' ≡ length passes
  many-full place None full = absurd full
  many-full place (Some (n, o)) full =
      ap length full.1.others ∙ length-set passes n full.1.after

  pub many-refused : {M : Type 0} (wants : Sort → Bool) (place : Place (Option ℕ) M) (s : Stand)
      (e : OwnerError) → RefusesAt wants place s passes passes' e
      → length passes' ≡ length passes
  many-refused wants place s e why =
      elim (why-refused-at wants place s e why) [
        | inl full ↦ many-full place s full.1
        | inr memory ↦ many_along s AddsNothing memory.1.1
      ]

  module _ (windows : ℕ) where
    -- how many owners live, where this pass of the block was found
    live-is : (n : ℕ) (o : Owner) (p : Pass H) → slice_get passes n ≡ Some p
        → live_on passes (Some (n, o)) ≡ length (live_owners (seen p))
    live-is n o p was = ap (λ x. option_map_or (λ p. length (live_owners (seen p))) x 0) was

    -- what was asked is whether the window is alone
    pub alone-told : (found : Bool) (here : Stand) → HasPassFor passes here
        → Along here passes passes' (λ o p q. Asks o p q found) → (here ≡ None → found ≡ false)
        → (around_in 0 windows passes here).alone ≡ found
    alone-told found None has along none = sym (none refl)
    alone-told found (Some (n, o)) has along none =
        let p = along.before in
        let exact = found-exact along.whole along.called in
        let many = live-is n o p along.was in
        elim (cases_Bool found) [
          | inl sole ↦
              eq-eqb (live_on passes (Some (n, o))) 1 (many ∙ ap length (exact.0 sole)) ∙ sym sole
          | inr shared ↦
              ne_eqb (live_on passes (Some (n, o))) 1 (λ one.
              false≢true (sym shared ∙ exact.1 (one_is (live_owners (seen p)) o.number
              (has.3 p along.was) (sym many ∙ one)))) ∙ sym shared
        ]

    full-told : (n : ℕ) (o : Owner) → HasPassFor passes (Some (n, o))
        → Through n o passes passes' FindsFull
        → (around_in 0 windows passes (Some (n, o))).full ≡ true
    full-told n o has found =
        eq-eqb (live_on passes (Some (n, o))) MAX_OWNERS
        (live-is n o found.before found.was ∙ full-exact found.whole found.called ∙ has.2)

    -- where none was made beside it, since its block had as many owners as it may have
    pub full-beside : {M : Type 0} (place : Place (Option ℕ) M) (here : Stand)
        → HasPassFor passes here → FindsFullAt place here passes passes'
        → ((around_in 0 windows passes here).full && is_some (block_of place)) ≡ true
    full-beside place None has why = absurd why
    full-beside place (Some (n, o)) has why =
        ap (λ b. b && is_some (block_of place)) (full-told n o has why.1) ∙ ap is_some why.0

    room-told : (n : ℕ) (o other : Owner) → HasPassFor passes (Some (n, o))
        → Through n o passes passes' (λ o p q. MakesAnother o p q other)
        → (around_in 0 windows passes (Some (n, o))).full ≡ false
    room-told n o other has made =
        let room =
        room-made made.whole (omega (arith, has.2)) made.called in
        ne_eqb (live_on passes (Some (n, o))) MAX_OWNERS
        (λ e. omega (arith, room, has.2, live-is n o made.before made.was, e))

    -- where a window was made beside it, its block had room for an owner more, or none was wanted
    pub room-beside : (here st : Stand) → HasPassFor passes here → Beside here passes passes' st
        → ((around_in 0 windows passes here).full && is_some (stand_block st)) ≡ false
    room-beside here None has joins = and-false (around_in 0 windows passes here).full
    room-beside None (Some made) has joins = absurd joins
    room-beside (Some (n, o)) (Some made) has joins =
        ap (λ b. b && true) (room-told n o made.1 has joins.1)
