-- What a call by a slot's window adds to the pass of its block, it adds to the passes of the table,
-- where that pass was taken out for it and is put back.
use Rattle.std.proofs.Common.{inl, inr, ◌≡◌, ℕ, Bool, true, false, if◌then◌else◌, List}
use Rattle.std.proofs.Common.{Option, Some, None, slice_set, refl, sym, ap}
use Rattle.std.proofs.Common.{◌∙◌, subst}
use Rattle.std.proofs.lemmas.Bool.{false≢true}
use Rattle.arc_owners.specs.declared.count.tokens.Pass.{Pass}
use Rattle.arc_owners.specs.count.Calls.{Owner, MakesAnother, FindsFull}
use Rattle.arc_owners.proofs.Wholes.{why-refused}
use Rattle.arc_owners.specs.declared.error.OwnerError.{OwnerError}
use Rattle.arc_block.specs.Block.{Sort, BlockInfo}
use Rattle.arc_block.specs.Place.{Place, nowhere, static_data, on_block, at_owner, moved}
use Rattle.arc_parts.specs.Steps.{IsPassAt, Shares, Refuses}
use Rattle.arc_block.specs.Table.{Row, Role, reader}
use Rattle.arc_parts.specs.Window.{Window, PartsView}
use Rattle.arc_parts.specs.Writers.{sole_at}
use Rattle.arc_slots.specs.Slots.{AnyWindow, SlotView, held, may_be_shared, read_slot, role_fits}
use Rattle.arc_slots.specs.Slots.{role_in, row_of, window_in}
use Rattle.arc_slots.specs.Slots.{stand_of, writer_slot}
use Rattle.arc_slots.specs.declared.window.Held.TheVariants.{Read}
use Rattle.arc_slots.specs.Calls.{Through, Along, Beside, RefusesAt, AddsNothing}
use Rattle.arc_slots.specs.Stands.{numbered, is_numbered, stand_at, HasPassFor, TakenOut, put_back}
use Rattle.arc_slots.specs.Stands.{HasNumber}
use Rattle.arc_slots.proofs.Taken.{back-same, left-number}

-- where a window stands, by its owner
abbrev At : Type 0 → Type 0
At M = Place (Option Owner) M

-- what is said of a slot's window is said of that which it is
module _ {T M K : Type 0} (h v : AnyWindow T M K) (is : h ≡ v) where
  pub role-as : role_fits h ≡ true → role_fits v ≡ true
  role-as fits = ap role_fits (sym is) ∙ fits

  pub shares-as : (shares : Bool) → may_be_shared shares h ≡ true → may_be_shared shares v ≡ true
  shares-as shares may = ap (may_be_shared shares) (sym is) ∙ may

  module _ (small : K → PartsView T M) (b : Option ℕ) where
    pub held-as : held small h b ≡ held small v b
    held-as = ap (λ x. held small x b) is

    pub fits-as : is_numbered b (window_in small h).place ≡ true
        → is_numbered b (window_in small v).place ≡ true
    fits-as fits = ap (λ x. is_numbered b (window_in small x).place) (sym is) ∙ fits

-- what a call by a slot finds whose window has this role: how it is seen, that its number is that
-- of its place, and that the passes have the one of its block, which was taken out of them
pub record SlotCall {T M H : Type 0} (w : Window T M) (role : Role) (b : Option ℕ)
    (s : SlotView T M) (passes left : List (Pass H)) (p : Pass H) : Type 0 where
  pub view : record { window = w; role = role; block = b } ≡ s
  pub fits : is_numbered b w.place ≡ true
  pub has : HasPassFor passes (stand_at b w.place)
  pub took : TakenOut passes b p left

pub held-call : {T M K H : Type 0} (small : K → PartsView T M) (h : AnyWindow T M K)
    {b : Option ℕ} {s : SlotView T M} {passes left : List (Pass H)} {p : Pass H}
    → held small h b ≡ s → is_numbered b (window_in small h).place ≡ true
    → HasPassFor passes (stand_of (Some s)) → TakenOut passes b p left
    → SlotCall (window_in small h) (role_in h) b s passes left p
held-call small h {passes = passes} seen fits has took = record {
  view = seen;
  fits = fits;
  has = subst (λ x. HasPassFor passes (stand_of (Some x))) (sym seen) has;
  took = took;
}

-- the same of one whose window is read
abbrev pub ReadCall : {T M H : Type 0} → Window T M → Option ℕ → SlotView T M → List (Pass H)
    → List (Pass H) → Pass H → Type 0
ReadCall w b s passes left p = SlotCall w reader b s passes left p

pub read-call : {T M K H : Type 0} (small : K → PartsView T M) (h : AnyWindow T M K)
    (w : Window T M) {b : Option ℕ} {s : SlotView T M} {passes left : List (Pass H)} {p : Pass H}
    → h ≡ Read w → held small h b ≡ s → is_numbered b (window_in small h).place ≡ true
    → HasPassFor passes (stand_of (Some s)) → TakenOut passes b p left
    → ReadCall w b s passes left p
read-call small h w {b = b} {s = s} {passes = passes} is seen fits has took =
    let view : read_slot w b ≡ s = sym (held-as h (Read w) is small b) ∙ seen in
    record {
      view = view;
      fits = fits-as h (Read w) is small b fits;
      has = subst (λ x. HasPassFor passes (stand_of (Some x))) (sym view) has;
      took = took;
    }

-- what a call does to the pass of the owner by which it goes
abbrev Call : Type 0 → Type 1
Call H = Owner → Pass H → Pass H → Type 0

-- the part of a place stands on the same block, as the same owner
abbrev pub part_at : {M : Type 0} → Bool → ℕ → At M → At M
part_at nothing start place = if nothing then nowhere else moved start place

-- a place further in has the same number, and the same stand
moved-same : {M : Type 0} (b : Option ℕ) (start : ℕ) (place : At M)
    → (numbered b (moved start place) ≡ moved start (numbered b place))
    × (stand_at b (moved start place) ≡ stand_at b place)
moved-same b start nowhere = (refl, refl)
moved-same b start static_data = (refl, refl)
moved-same b start (on_block None offset facts) = (refl, refl)
moved-same None start (on_block (Some owner) offset facts) = (refl, refl)
moved-same (Some n) start (on_block (Some owner) offset facts) = (refl, refl)

pub moved-numbered : {M : Type 0} (b : Option ℕ) (start : ℕ) (place : At M)
    → numbered b (moved start place) ≡ moved start (numbered b place)
moved-numbered b start place = (moved-same b start place).0

pub moved-stand : {M : Type 0} (b : Option ℕ) (start : ℕ) (place : At M)
    → stand_at b (moved start place) ≡ stand_at b place
moved-stand b start place = (moved-same b start place).1

pub moved-fits : {M : Type 0} (b : Option ℕ) (start : ℕ) (place : At M)
    → is_numbered b (moved start place) ≡ is_numbered b place
moved-fits None start nowhere = refl
moved-fits None start static_data = refl
moved-fits None start (on_block None offset facts) = refl
moved-fits None start (on_block (Some owner) offset facts) = refl
moved-fits (Some n) start nowhere = refl
moved-fits (Some n) start static_data = refl
moved-fits (Some n) start (on_block None offset facts) = refl
moved-fits (Some n) start (on_block (Some owner) offset facts) = refl

-- a part with no items has no block where it stands on nothing
pub part-numbered : {M : Type 0} (nothing : Bool) (start : ℕ) (b : Option ℕ) (place : At M)
    → numbered (if nothing then None else b) (part_at nothing start place)
    ≡ (if nothing then nowhere else moved start (numbered b place))
part-numbered true start b place = refl
part-numbered false start b place = moved-numbered b start place

-- what stands where a window does is on a block with the same number
pub shares-numbered : {M H : Type 0} (p new : Pass H) (b : Option ℕ) (place there : At M)
    → Shares place p new there → numbered b there ≡ numbered b place
shares-numbered p new b nowhere there made = ap (numbered b) made.0
shares-numbered p new b static_data there made = ap (numbered b) made.0
shares-numbered p new b (on_block None offset facts) there made = ap (numbered b) made.0
shares-numbered p new None (on_block (Some o) offset facts) there made = ap (numbered None) made.2
shares-numbered p new (Some n) (on_block (Some o) offset facts) there made =
    ap (numbered (Some n)) made.2

-- rows of the same items at the same place, of the same role
abbrev any_row : {T M : Type 0} → Role → List T → Place (Option ℕ) M → Row T M
any_row role items place = record { items = items; place = place; role = role }

pub same-row : {T M : Type 0} {items items' : List T} {place place' : Place (Option ℕ) M}
    {role role' : Role} → items' ≡ items → place' ≡ place → role' ≡ role
    → any_row role' items' place' ≡ any_row role items place
same-row {items = items} {place = place} {place' = place'} {role' = role'} same there can =
    ap (λ xs. any_row role' xs place') same ∙ ap (any_row role' items) there
    ∙ ap (λ r. any_row r items place) can

-- a sole writer stands where the reader stood
pub sole-stand : {T M : Type 0} (drops : Bool) (b : Option ℕ) (items : List T) (place : At M)
    → stand_at b (sole_at drops items place).place ≡ stand_at b place
sole-stand drops b items nowhere = refl
sole-stand drops b items static_data = refl
sole-stand drops b items (on_block owner offset info) = refl

-- the only writer of what stands on a block with this number is one of that number's row
pub sole-numbered : {T M : Type 0} (drops : Bool) (b : Option ℕ) (items : List T) (place : At M)
    → is_numbered b place ≡ true
    → row_of (writer_slot (sole_at drops items place) b) ≡ sole_at drops items (numbered b place)
sole-numbered drops b items nowhere fits = refl
sole-numbered drops b items static_data fits = refl
sole-numbered drops None items (on_block None offset facts) fits = refl
sole-numbered drops None items (on_block (Some o) offset facts) fits = absurd (false≢true fits)
sole-numbered drops (Some n) items (on_block None offset facts) fits = absurd (false≢true fits)
sole-numbered drops (Some n) items (on_block (Some o) offset facts) fits = refl

-- a call through the one pass of a block
module _ {H : Type 0} (passes left : List (Pass H)) (p new : Pass H) where
  through : (n : ℕ) (owner : Owner) (call : Call H) → HasPassFor passes (Some (n, owner))
      → TakenOut passes (Some n) p left → call owner p new
      → Through n owner passes (slice_set left n new) call
  through n owner call has took called = record {
    before = p;
    after = new;
    was = took.0;
    pass = has.0.1 p took.0;
    whole = has.1;
    called = called;
    others = took.1 new;
  }

module _ {M H : Type 0} (passes : List (Pass H)) where
  pub has-number : (b : Option ℕ) (place : At M) → is_numbered b place ≡ true
      → HasPassFor passes (stand_at b place) → HasNumber passes b
  has-number None place fits has = tt
  has-number (Some n) nowhere fits has = absurd (false≢true fits)
  has-number (Some n) static_data fits has = absurd (false≢true fits)
  has-number (Some n) (on_block None offset facts) fits has = absurd (false≢true fits)
  has-number (Some n) (on_block (Some owner) offset facts) fits has = has.0.0

  module _ (left : List (Pass H)) (p : Pass H) where
    pub window-pass : (b : Option ℕ) (place : At M) → is_numbered b place ≡ true
        → HasPassFor passes (stand_at b place) → TakenOut passes b p left → IsPassAt place p
    window-pass None nowhere fits has took = took.0
    window-pass None static_data fits has took = took.0
    window-pass None (on_block None offset facts) fits has took = took.0
    window-pass None (on_block (Some o) offset facts) fits has took = absurd (false≢true fits)
    window-pass (Some n) nowhere fits has took = absurd (false≢true fits)
    window-pass (Some n) static_data fits has took = absurd (false≢true fits)
    window-pass (Some n) (on_block None offset facts) fits has took = absurd (false≢true fits)
    window-pass (Some n) (on_block (Some owner) offset facts) fits has took = has.0.1 p took.0

    pub still-number : (b : Option ℕ) (place : At M) → is_numbered b place ≡ true
        → HasPassFor passes (stand_at b place) → TakenOut passes b p left → HasNumber left b
    still-number b place fits has took =
        left-number passes left p b took (has-number b place fits has)

    module _ (new : Pass H) where
      -- a call by a window, which adds nothing where the window is no owner
      pub along : (none : Type 0) (call : Call H) (b : Option ℕ) (place : At M)
          → is_numbered b place ≡ true → HasPassFor passes (stand_at b place)
          → TakenOut passes b p left → (none → new ≡ p) → at_owner place none (λ o. call o p new)
          → Along (stand_at b place) passes (put_back left b new) call
      along none call b nowhere fits has took same called =
          back-same passes left p b took new (same called)
      along none call b static_data fits has took same called =
          back-same passes left p b took new (same called)
      along none call None (on_block None offset facts) fits has took same called =
          back-same passes left p None took new (same called)
      along none call None (on_block (Some o) offset facts) fits has took same called =
          absurd (false≢true fits)
      along none call (Some n) (on_block None offset facts) fits has took same called =
          absurd (false≢true fits)
      along none call (Some n) (on_block (Some owner) offset facts) fits has took same called =
          through passes left p new n owner call has took called

      -- a window was made that stands where this one does
      pub shares : (b : Option ℕ) (place there : At M) → is_numbered b place ≡ true
          → HasPassFor passes (stand_at b place) → TakenOut passes b p left
          → Shares place p new there
          → Beside (stand_at b place) passes (put_back left b new) (stand_at b there)
      shares b nowhere there fits has took made =
          subst (λ q. Beside None passes (put_back left b new) (stand_at b q)) (sym made.0)
          (back-same passes left p b took new made.1)
      shares b static_data there fits has took made =
          subst (λ q. Beside None passes (put_back left b new) (stand_at b q)) (sym made.0)
          (back-same passes left p b took new made.1)
      shares None (on_block None offset facts) there fits has took made =
          subst (λ q. Beside None passes (put_back left None new) (stand_at None q)) (sym made.0)
          (back-same passes left p None took new made.1)
      shares None (on_block (Some o) offset facts) there fits has took made =
          absurd (false≢true fits)
      shares (Some n) (on_block None offset facts) there fits has took made =
          absurd (false≢true fits)
      shares (Some n) (on_block (Some owner) offset facts) there fits has took made =
          subst (λ q. Beside (Some (n, owner)) passes (slice_set left n new) (stand_at (Some n) q))
          (sym made.2) (
            refl,
            through passes left p new n owner (λ o q r. MakesAnother o q r made.0) has took
                made.1,
          )

      -- none was made
      pub refuses : (wants : Sort → Bool) (e : OwnerError) (b : Option ℕ) (place : At M)
          → is_numbered b place ≡ true → HasPassFor passes (stand_at b place)
          → TakenOut passes b p left → Refuses wants place p new e
          → RefusesAt wants (numbered b place) (stand_at b place) passes (put_back left b new) e
      refuses wants e b nowhere fits has took why = absurd why
      refuses wants e b static_data fits has took why = absurd why
      refuses wants e None (on_block None offset facts) fits has took why =
          subst (λ (x : OwnerError). RefusesAt wants (on_block None offset facts) None passes
          (put_back left None new) x) (sym why.0)
          (why.1, back-same passes left p None took new why.2)
      refuses wants e None (on_block (Some o) offset facts) fits has took why =
          absurd (false≢true fits)
      refuses wants e (Some n) (on_block None offset facts) fits has took why =
          absurd (false≢true fits)
      refuses wants e (Some n) (on_block (Some owner) offset facts) fits has took why =
          elim (why-refused (wants facts.sort) owner p new e why) [
            | inl full ↦
                subst (λ (x : OwnerError). RefusesAt wants (on_block (Some n) offset facts)
                (Some (n, owner)) passes (slice_set left n new) x) (sym full.0)
                (refl, through passes left p new n owner FindsFull has took full.1)
            | inr memory ↦
                subst (λ (x : OwnerError). RefusesAt wants (on_block (Some n) offset facts)
                (Some (n, owner)) passes (slice_set left n new) x) (sym memory.0) (
                  memory.1.0,
                  through passes left p new n owner AddsNothing has took (memory.1.2, memory.1.3),
                )
          ]

      -- the same for a part
      pub shares-part : (nothing : Bool) (start : ℕ) (b : Option ℕ) (place there : At M)
          → is_numbered b place ≡ true → HasPassFor passes (stand_at b place)
          → TakenOut passes b p left → Shares (part_at nothing start place) p new there
          → Beside (stand_at b place) passes (put_back left b new)
          (stand_at (if nothing then None else b) there)
      shares-part true start b place there fits has took made =
          subst (λ q. Beside (stand_at b place) passes (put_back left b new) (stand_at None q))
          (sym made.0) (back-same passes left p b took new made.1)
      shares-part false start b place there fits has took made =
          subst (λ s. Beside s passes (put_back left b new) (stand_at b there))
          (moved-stand b start place)
          (shares b (moved start place) there (moved-fits b start place ∙ fits)
          (subst (HasPassFor passes) (sym (moved-stand b start place)) has) took made)

      pub refuses-part : (nothing : Bool) (wants : Sort → Bool) (e : OwnerError) (start : ℕ)
          (b : Option ℕ) (place : At M) → is_numbered b place ≡ true
          → HasPassFor passes (stand_at b place) → TakenOut passes b p left
          → Refuses wants (part_at nothing start place) p new e
          → RefusesAt wants (if nothing then nowhere else moved start (numbered b place))
          (stand_at b place) passes (put_back left b new) e
      refuses-part true wants e start b place fits has took why = absurd why
      refuses-part false wants e start b place fits has took why =
          subst (λ s. RefusesAt wants (moved start (numbered b place)) s passes
          (put_back left b new) e) (moved-stand b start place)
          (subst (λ q. RefusesAt wants q (stand_at b (moved start place)) passes
          (put_back left b new) e) (moved-numbered b start place)
          (refuses wants e b (moved start place) (moved-fits b start place ∙ fits)
          (subst (HasPassFor passes) (sym (moved-stand b start place)) has) took why))

-- the pass that was taken out for a slot's window is that of its block
module _ {T M H : Type 0} {w : Window T M} {role : Role} {b : Option ℕ} {s : SlotView T M}
    {passes left : List (Pass H)} {p : Pass H} (call : SlotCall w role b s passes left p) where
  pub call-pass : IsPassAt w.place p
  call-pass = window-pass passes left p b w.place call.fits call.has call.took

-- the new window stands on the block with the same number
module _ {M H : Type 0} (p new : Pass H) where
  for-fits : (b : Option ℕ) (owner other : Owner) (offset : ℕ) (facts : BlockInfo M)
      → is_numbered b (on_block (Some owner) offset facts) ≡ true
      → is_numbered b (on_block (Some other) offset facts) ≡ true
  for-fits None owner other offset facts fits = fits
  for-fits (Some n) owner other offset facts fits = fits

  pub shares-fits : (b : Option ℕ) (place there : At M) → is_numbered b place ≡ true
      → Shares place p new there → is_numbered b there ≡ true
  shares-fits b nowhere there fits made = ap (is_numbered b) made.0 ∙ fits
  shares-fits b static_data there fits made = ap (is_numbered b) made.0 ∙ fits
  shares-fits b (on_block None offset facts) there fits made = ap (is_numbered b) made.0 ∙ fits
  shares-fits b (on_block (Some owner) offset facts) there fits made =
      ap (is_numbered b) made.2 ∙ for-fits b owner made.0 offset facts fits

  pub part-fits : (nothing : Bool) (start : ℕ) (b : Option ℕ) (place there : At M)
      → is_numbered b place ≡ true → Shares (part_at nothing start place) p new there
      → is_numbered (if nothing then None else b) there ≡ true
  part-fits true start b place there fits made = ap (is_numbered None) made.0
  part-fits false start b place there fits made =
      shares-fits b (moved start place) there (moved-fits b start place ∙ fits) made
