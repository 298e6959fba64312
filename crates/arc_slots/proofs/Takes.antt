-- What a slot's window stands on, taken out by its parts.
use Rattle.std.proofs.Common.{◌≡◌, ℕ, Bool, true, false, List, length, Option, Some, None, refl}
use Rattle.std.proofs.Common.{sym, ap, ◌∙◌, subst}
use Rattle.std.proofs.lemmas.Bool.{cases_Bool}
use Rattle.std.proofs.Common.{inl, inr}
use Rattle.arc_owners.specs.declared.count.tokens.Pass.{Pass}
use Rattle.arc_owners.specs.count.Calls.{Leaves, Owner}
use Rattle.arc_block.specs.Owned.{Stand}
use Rattle.arc_block.specs.Place.{Place, nowhere, static_data, on_block, at_owner, size_at}
use Rattle.arc_parts.specs.Steps.{IsPassAt, TakesAt, RefusesTaking}
use Rattle.arc_block.specs.Table.{Role, reader}
use Rattle.arc_parts.specs.Window.{Window, PartsView, parts_of, window_of}
use Rattle.arc_slots.specs.Calls.{Along, RefusesOut, TakesOut}
use Rattle.arc_slots.specs.Slots.{AnyWindow, SlotView, held, row_of, stand_of, window_in}
use Rattle.arc_slots.specs.Slots.{writer_slot}
use Rattle.arc_slots.specs.Stands.{HasPassFor, TakenOut, is_numbered, numbered, put_back}
use Rattle.arc_slots.specs.Stands.{stand_at}
use Rattle.arc_slots.specs.Taking.{CanHave, can_have}
use Rattle.arc_slots.specs.declared.take.Taking.{Taking}
use Rattle.arc_slots.specs.declared.window.Held.TheVariants.{Read}
use Rattle.arc_slots.proofs.Have.{have-is, have-numbered, have-says}
use Rattle.arc_slots.proofs.Native.{refuses-out, takes}
use Rattle.arc_slots.proofs.Slots.{along, fits-as, held-as, window-pass}
use Rattle.arc_slots.proofs.Taken.{back-same}

-- the block of a place has as many places, by its number and by its owner
size-numbered : {M : Type 0} (b : Option ℕ) (place : Place (Option Owner) M)
    → size_at (numbered b place) ≡ size_at place
size-numbered b nowhere = refl
size-numbered b static_data = refl
size-numbered b (on_block None offset info) = refl
size-numbered b (on_block (Some o) offset info) = refl

-- What a call finds that takes apart a slot's window of this role: its parts are those that the
-- slot shows, on a block of the slot's number, and the pass of that was taken out of the passes.
pub record TakenApart {T M H : Type 0} (b : Option ℕ) (s : SlotView T M) (role : Role)
    (q : PartsView T M) (passes left : List (Pass H)) (p : Pass H) : Type 0 where
  pub view : record { window = window_of q; role = role; block = b } ≡ s
  pub fits : is_numbered b q.place ≡ true
  pub has : HasPassFor passes (stand_of (Some s))
  pub took : TakenOut passes b p left

module _ {T M H : Type 0} {b : Option ℕ} {s : SlotView T M} {q : PartsView T M}
    {passes left : List (Pass H)} {p : Pass H} where
  pub apart-reader : {K : Type 0} (small : K → PartsView T M) (h : AnyWindow T M K)
      (w : Window T M) → h ≡ Read w → held small h b ≡ s
      → is_numbered b (window_in small h).place ≡ true → q ≡ parts_of w
      → HasPassFor passes (stand_of (Some s)) → TakenOut passes b p left
      → TakenApart b s reader q passes left p
  apart-reader small h w is view fits parts has took = record {
    view =
        ap (λ (r : PartsView T M). record { window = window_of r; role = reader; block = b }) parts
        ∙ sym (held-as h (Read w) is small b) ∙ view;
    fits =
        ap (λ (r : PartsView T M). is_numbered b r.place) parts
        ∙ fits-as h (Read w) is small b fits;
    has = has;
    took = took;
  }

  pub apart-writer : (w : PartsView T M) → writer_slot w b ≡ s → is_numbered b w.place ≡ true
      → q ≡ w → HasPassFor passes (stand_of (Some s)) → TakenOut passes b p left
      → TakenApart b s w.role q passes left p
  apart-writer w view fits parts has took = record {
    view =
        ap (λ (r : PartsView T M). record { window = window_of r; role = w.role; block = b }) parts
        ∙ view;
    fits = ap (λ (r : PartsView T M). is_numbered b r.place) parts ∙ fits;
    has = has;
    took = took;
  }

module _ {T M H : Type 0} {b : Option ℕ} {s : SlotView T M} {role : Role} {q : PartsView T M}
    {passes left : List (Pass H)} {p : Pass H} (t : TakenApart b s role q passes left p) where
  parts-has : HasPassFor passes (stand_at b q.place)
  parts-has = subst (λ (x : SlotView T M). HasPassFor passes (stand_of (Some x))) (sym t.view) t.has

  pub parts-pass : IsPassAt q.place p
  parts-pass = window-pass passes left p b q.place t.fits parts-has t.took

  -- the block of the parts has as many places as that of the row
  pub parts-size : size_at q.place ≡ size_at (row_of s).place
  parts-size =
      sym (size-numbered b q.place)
      ∙ ap (λ (v : SlotView T M). size_at (row_of v).place) t.view

  -- what is wanted of the place, by its block's number and by its owner
  module _ (drops : Bool) (what : Taking) where
    abbrev wanted : Bool
    wanted = can_have drops what (row_of s).place (length s.window.items)

    abbrev wanted_there : Bool
    wanted_there = can_have drops what q.place (length q.items)

    abbrev Wanted : Type 0
    Wanted = CanHave drops what q.items q.place

    seen-so : (P : Bool → Stand → Type 0) → P wanted_there (stand_at b q.place)
        → P wanted (stand_of (Some s))
    seen-so P x =
        subst (λ (v : SlotView T M). P (can_have drops what (row_of v).place
        (length v.window.items)) (stand_of (Some v))) t.view
        (subst (λ v. P v (stand_at b q.place))
        (sym (have-numbered b drops what q.place (length q.items))) x)

    -- by a sole writer, who asks nobody
    pub sole-wanted : Wanted → wanted ≡ true
    sole-wanted want = seen-so (λ v st. v ≡ true) (have-says q.items drops what q.place want)

    pub sole-unwanted : ¬ Wanted → wanted ≡ false
    sole-unwanted none =
        seen-so (λ v st. v ≡ false)
        (elim (cases_Bool wanted_there) [
          | inl want ↦ absurd (none (have-is q.items drops what q.place want))
          | inr not ↦ not
        ])

    module _ (new : Pass H) (after : List (Pass H)) (back : after ≡ put_back left b new) where
      pub slot-takes : Wanted → TakesAt q.place p new
          → TakesOut wanted (stand_of (Some s)) passes after
      slot-takes want did =
          seen-so (λ v st. TakesOut v st passes after)
          (subst (λ ps. TakesOut wanted_there (stand_at b q.place) passes ps) (sym back)
          (takes passes left p new wanted_there Wanted (have-is q.items drops what q.place)
          (have-says q.items drops what q.place) b q.place t.fits parts-has t.took want did))

      pub slot-refuses : RefusesTaking Wanted q.place p new
          → RefusesOut wanted (stand_of (Some s)) passes after
      slot-refuses did =
          seen-so (λ v st. RefusesOut v st passes after)
          (subst (λ ps. RefusesOut wanted_there (stand_at b q.place) passes ps) (sym back)
          (refuses-out passes left p new wanted_there Wanted (have-is q.items drops what q.place)
          (have-says q.items drops what q.place) b q.place t.fits parts-has t.took did))

  module _ (new : Pass H) (after : List (Pass H)) (back : after ≡ put_back left b new) where
    pub sole-leaves : at_owner q.place ⊥ (λ o. Leaves o p new true)
        → Along (stand_of (Some s)) passes after (λ o p q. Leaves o p q true)
    sole-leaves did =
        subst (λ (v : SlotView T M). Along (stand_of (Some v)) passes after
        (λ o p q. Leaves o p q true)) t.view
        (subst (λ ps. Along (stand_at b q.place) passes ps (λ o p q. Leaves o p q true)) (sym back)
        (along passes left p new ⊥ (λ o p q. Leaves o p q true) b q.place t.fits parts-has t.took
        (λ none. absurd none) did))

    pub sole-back : new ≡ p → after ≡ passes
    sole-back same = back ∙ back-same passes left p b t.took new same
