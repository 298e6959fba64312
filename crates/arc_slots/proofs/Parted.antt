-- How the places of a window of several writers are split: what it keeps, what is handed out, where
-- both stand, and how a window leaves a vector before.
use Rattle.std.proofs.Common.{◌≡◌, ℕ, Bool, true, false, List, [], ◌∷◌, ◌++◌, length, Option, Some}
use Rattle.std.proofs.Common.{None, slice_get, refl, sym, ap, ◌∙◌, subst, arith}
use Rattle.std.proofs.Common.{inl, inr, ◌-◌, append-nil}
use Rattle.std.proofs.lemmas.Bool.{false≢true}
use Rattle.std.proofs.lemmas.Option.{same_Some, slice_get_cases, slice_get_within}
use Rattle.std.proofs.lemmas.List.{length-append, length-set, set-append_left}
use Rattle.arc_owners.specs.declared.mark.Whole.{Whole}
use Rattle.arc_owners.specs.declared.count.tokens.Pass.{Pass}
use Rattle.arc_owners.specs.declared.error.OwnerError.{OwnerError}
use Rattle.arc_owners.specs.history.Histories.{IsLegal, live_owners, owners_ended, owners_ever}
use Rattle.arc_owners.specs.history.Histories.{is_in}
use Rattle.arc_owners.specs.count.Invariant.{BlockId, Line, entries_of}
use Rattle.arc_owners.specs.count.Calls.{IsPassFor, Owner, RefusesOwner, history_of, seen}
use Rattle.arc_owners.proofs.Wholes.{full-exact}
use Rattle.arc_block.specs.Block.{Sort, native, vector, buffer, raw}
use Rattle.arc_block.specs.Owned.{Stand}
use Rattle.arc_block.specs.Place.{Place, nowhere, static_data, on_block, moved}
use Rattle.arc_parts.specs.Shared.{LeavesVector, RefusesSplit, RefusesSplitAt, SplitsWriter}
use Rattle.arc_parts.specs.Shared.{StandsToSplit, StandsToSplitAt, front_of, is_vector}
use Rattle.arc_parts.specs.Shared.{is_vector_at, on_native}
use Rattle.arc_parts.specs.Steps.{Refuses, Shares}
use Rattle.arc_block.specs.Table.{Row, block_of}
use Rattle.arc_parts.specs.Window.{PartsView}
use Rattle.arc_parts.specs.Writers.{after_advance, capacity_of, with_capacity}
use Rattle.arc_block.proofs.Lists.{get-push}
use Rattle.arc_commands.specs.Additions.{Founds}
use Rattle.arc_commands.specs.Blocks.{is_several}
use Rattle.arc_commands.proofs.Roles.{several-with}
use Rattle.arc_slots.specs.Calls.{AddsNothing, Along, Beside, FindsFullAt, Through}
use Rattle.arc_kinds.specs.Passes.{is_any}
use Rattle.arc_slots.specs.Several.{MovesTo, RefusesPlaces, SplitsThere, handed_places}
use Rattle.arc_slots.specs.Several.{kept_places}
use Rattle.arc_slots.specs.Slots.{AnyWindow, SlotView, held, row_of}
use Rattle.arc_slots.specs.Slots.{stand_of, window_in, writer_slot}
use Rattle.arc_slots.specs.Stands.{HasNumber, HasPassFor, IsAttested, TakenOut, is_numbered}
use Rattle.arc_slots.specs.Stands.{numbered, put_back, stand_at}
use Rattle.arc_slots.specs.declared.part.Part.{Part}
use Rattle.arc_slots.specs.declared.part.Part.TheVariants.{Back, Front}
use Rattle.arc_slots.specs.declared.window.Held.TheVariants.{Several}
use Rattle.arc_slots.proofs.Added.{Ended}
use Rattle.arc_slots.proofs.Slots.{along, fits-as, held-as, moved-fits, moved-numbered}
use Rattle.arc_slots.proofs.Slots.{moved-stand, refuses}
use Rattle.arc_slots.proofs.Slots.{same-row, shares, shares-fits, shares-numbered, still-number}
use Rattle.arc_slots.proofs.Taken.{set-back}
use Rattle.arc_slots.proofs.Told.{full-at}

-- where a window stands, by its owner
abbrev At : Type 0 → Type 0
At M = Place (Option Owner) M

-- ---- a place on a vector

-- it lies on one whatever the block goes by
pub vector-numbered : {M : Type 0} (b : Option ℕ) (place : At M)
    → is_vector_at (numbered b place) ≡ is_vector_at place
vector-numbered b nowhere = refl
vector-numbered b static_data = refl
vector-numbered b (on_block None offset info) = refl
vector-numbered b (on_block (Some o) offset info) = refl

-- ---- the places that a window keeps, and those that are handed out

module _ {T M : Type 0} (b : Option ℕ) (w : PartsView T M) where
  abbrev row : Row T M
  row = row_of (writer_slot w b)

  -- some of the window's places, as these are of its row: on the same block, and one writer's of
  -- several
  record AreOf (v : PartsView T M) (r : Row T M) : Type 0 where
    row_is : row_of (writer_slot v b) ≡ r
    stand : stand_at b v.place ≡ stand_at b w.place
    numbers : is_numbered b w.place ≡ true → is_numbered b v.place ≡ true
    several : is_several w.role ≡ true → is_several v.role ≡ true

  shares-with : (places : ℕ) → is_several w.role ≡ true
      → is_several (with_capacity w.role places) ≡ true
  shares-with places is = ap is_several (several-with w.role places is)

  front-of : (at : ℕ) → AreOf (front_of at w) (front_of at row)
  front-of at = record {
    row_is = refl;
    stand = refl;
    numbers = λ fits. fits;
    several = shares-with at;
  }

  behind : (at : ℕ) → AreOf (after_advance at w) (after_advance at row)
  behind at = record {
    row_is =
        ap {B = Row T M} (λ q. record {
          items = (after_advance at row).items;
          place = q;
          role = (after_advance at row).role;
        }) (moved-numbered b at w.place);
    stand = moved-stand b at w.place;
    numbers = λ fits. moved-fits b at w.place ∙ fits;
    several = shares-with (capacity_of w.role - at);
  }

  kept-of : (part : Part) → AreOf (kept_places part w) (kept_places part row)
  kept-of (Back at) = front-of at
  kept-of (Front at) = behind at

  handed-of : (part : Part) → AreOf (handed_places part w) (handed_places part row)
  handed-of (Back at) = behind at
  handed-of (Front at) = front-of at

-- a part of a row stands on the same block, or on none
moved-block : {M : Type 0} (at : ℕ) (place : Place (Option ℕ) M)
    → block_of (moved at place) ≡ block_of place
moved-block at nowhere = refl
moved-block at static_data = refl
moved-block at (on_block block offset info) = refl

pub handed-block : {T M : Type 0} (part : Part) (r : Row T M)
    → block_of (handed_places part r).place ≡ block_of r.place
handed-block (Back at) r = moved-block at r.place
handed-block (Front at) r = refl

-- ---- a split where the window stands

-- on no vector it stays where it stands
module _ {T M : Type 0} (H : Type 0) (real : BlockId → ℕ → List Line → Type 0)
    (drops one_pass : Bool) (w v : PartsView T M) (p q : Pass H) where
  stays-by : (sort : Sort) → is_vector sort ≡ false
      → StandsToSplit H real drops one_pass w v p q sort → (v ≡ w) × (q ≡ p)
  stays-by native none stands = stands
  stays-by vector none stands = absurd (false≢true (sym none))
  stays-by (buffer writable) none stands = absurd stands
  stays-by raw none stands = absurd stands

  stays-at : (place : At M) → is_vector_at place ≡ false
      → StandsToSplitAt H real drops one_pass w v p q place → (v ≡ w) × (q ≡ p)
  stays-at nowhere none stands = stands
  stays-at static_data none stands = absurd stands
  stays-at (on_block owner offset info) none stands = stays-by info.sort none stands

-- none is refused there but for an owner more, which wants no memory
refused-by : {H : Type 0} (sort : Sort) (o : Owner) (p q : Pass H) (e : OwnerError)
    → is_vector sort ≡ false → RefusesSplit sort o p q e → RefusesOwner false o p q e
refused-by native o p q e none why = why
refused-by vector o p q e none why = absurd (false≢true (sym none))
refused-by (buffer writable) o p q e none why = absurd why
refused-by raw o p q e none why = absurd why

refused-at : {M H : Type 0} (place : At M) (p q : Pass H) (e : OwnerError)
    → is_vector_at place ≡ false → RefusesSplitAt place p q e
    → Refuses (λ sort. false) place p q e
refused-at nowhere p q e none why = absurd why
refused-at static_data p q e none why = absurd why
refused-at (on_block None offset info) p q e none why = absurd why
refused-at (on_block (Some o) offset info) p q e none why = refused-by info.sort o p q e none why

-- ---- the passes, while that of a vector is taken out

-- there are as many
pub left-many : {H : Type 0} (passes left : List (Pass H)) (p : Pass H) (b : Option ℕ)
    → TakenOut passes b p left → length left ≡ length passes
left-many passes left p None took = ap length took.1
left-many passes left p (Some n) took =
    sym (length-set left n p) ∙ ap length (took.1 p) ∙ length-set passes n p

put-many : {H : Type 0} (left : List (Pass H)) (q : Pass H) (b : Option ℕ)
    → length (put_back left b q) ≡ length left
put-many left q None = refl
put-many left q (Some n) = length-set left n q

-- it comes back to its place, also where one more stands behind the others
pub still-more : {H : Type 0} (left : List (Pass H)) (first : Pass H) (b : Option ℕ)
    → HasNumber left b → HasNumber (left ++ first ∷ []) b
still-more left first None has = tt
still-more left first (Some n) has = omega (arith, has, length-append left (first ∷ []))

put-behind : {H : Type 0} (left : List (Pass H)) (first q : Pass H) (b : Option ℕ)
    → HasNumber left b → put_back (left ++ first ∷ []) b q ≡ put_back left b q ++ first ∷ []
put-behind left first q None has = refl
put-behind left first q (Some n) has = set-append_left left (first ∷ []) n q has

-- a slot that was on a vector is on a block more, with this window, which is one of several still
pub record LeftVector {T M : Type 0} (s : SlotView T M) (v : PartsView T M) (n : Option ℕ)
    (before after : List (Pass Whole)) : Type 0 where
  pub fits : is_numbered n v.place ≡ true
  pub shares : is_several v.role ≡ true
  pub row : row_of (writer_slot v n) ≡ on_native false (Some (length before)) (row_of s)
  pub moved : MovesTo (stand_of (Some s)) (stand_of (Some (writer_slot v n))) before after

-- ---- a slot whose window is one of several
module _ {T M K : Type 0} (small : K → PartsView T M) (h : AnyWindow T M K) (w : PartsView T M)
    (b : Option ℕ) (is : h ≡ Several w) where
  module _ (s : SlotView T M) (view : held small h b ≡ s)
      (numbers : is_numbered b (window_in small h).place ≡ true) where
    pub shared-seen : writer_slot w b ≡ s
    shared-seen = sym (held-as h (Several w) is small b) ∙ view

    fits : is_numbered b w.place ≡ true
    fits = fits-as h (Several w) is small b numbers

    -- whether it stands on a vector
    pub shared-vector : is_vector_at w.place ≡ is_vector_at (row_of s).place
    shared-vector =
        sym (vector-numbered b w.place)
        ∙ ap (λ (x : SlotView T M). is_vector_at (row_of x).place) shared-seen

  module _ (s : SlotView T M) (view : held small h b ≡ s)
      (numbers : is_numbered b (window_in small h).place ≡ true) (passes left : List (Pass Whole))
      (p : Pass Whole) (has : HasPassFor passes (stand_of (Some s)))
      (took : TakenOut passes b p left) where
    seen-as : writer_slot w b ≡ s
    seen-as = shared-seen s view numbers

    its-number : is_numbered b w.place ≡ true
    its-number = fits s view numbers

    its-pass : HasPassFor passes (stand_at b w.place)
    its-pass = subst (λ x. HasPassFor passes (stand_of (Some x))) (sym seen-as) has

    -- the pass comes back to its place
    pub shared-still : HasNumber left b
    shared-still = still-number passes left p b w.place its-number its-pass took

    -- it stands on no vector
    module _ (none : is_vector_at (row_of s).place ≡ false) (part : Part) (q : Pass Whole)
        (after : List (Pass Whole)) (back : after ≡ put_back left b q) where
      off : is_vector_at w.place ≡ false
      off = shared-vector s view numbers ∙ none

      module _ (kept made : PartsView T M)
          (splits : SplitsWriter Whole is_any false true (kept_places part) (handed_places part)
          w kept made p q) where
        stays : (splits.whole ≡ w) × (splits.between ≡ p)
        stays =
            stays-at Whole is_any false true w splits.whole p splits.between w.place off
            splits.stands

        kept-is : kept ≡ kept_places part w
        kept-is = splits.stays ∙ ap (kept_places part) stays.0

        abbrev handed : PartsView T M
        handed = handed_places part w

        made-is : (made.items ≡ handed.items) × (made.role ≡ handed.role)
        made-is = (
          splits.items ∙ ap (λ (x : PartsView T M). (handed_places part x).items) stays.0,
          splits.role ∙ ap (λ (x : PartsView T M). (handed_places part x).role) stays.0,
        )

        made-shares : Shares handed.place p q made.place
        made-shares =
            subst (λ r. Shares handed.place r q made.place) stays.1
            (subst (λ (x : PartsView T M). Shares (handed_places part x).place splits.between q
            made.place) stays.0 splits.shares)

        one : AreOf b w (kept_places part w) (kept_places part (row_of (writer_slot w b)))
        one = kept-of b w part

        other : AreOf b w handed (handed_places part (row_of (writer_slot w b)))
        other = handed-of b w part

        -- both are windows of a slot on the same block, each one of several
        pub kept-fits : is_several w.role ≡ true
            → (is_numbered b kept.place ≡ true) × (is_several kept.role ≡ true)
        kept-fits several = (
          ap (λ (x : PartsView T M). is_numbered b x.place) kept-is ∙ one.numbers its-number,
          ap (λ (x : PartsView T M). is_several x.role) kept-is ∙ one.several several,
        )

        pub made-fits : is_several w.role ≡ true
            → (is_numbered b made.place ≡ true) × (is_several made.role ≡ true)
        made-fits several = (
          shares-fits p q b handed.place made.place (other.numbers its-number) made-shares,
          ap is_several made-is.1 ∙ other.several several,
        )

        added : Beside (stand_at b w.place) passes after (stand_at b made.place)
        added =
            subst (λ ps. Beside (stand_at b w.place) passes ps (stand_at b made.place)) (sym back)
            (subst (λ st. Beside st passes (put_back left b q) (stand_at b made.place)) other.stand
            (shares passes left p q b handed.place made.place (other.numbers its-number)
            (subst (HasPassFor passes) (sym other.stand) its-pass) took made-shares))

        pub splits-there : SplitsThere part s (writer_slot kept b) (writer_slot made b) passes after
        splits-there =
            subst (λ (x : SlotView T M). SplitsThere part x (writer_slot kept b)
            (writer_slot made b) passes after) seen-as (record {
              stays = ap (λ x. row_of (writer_slot x b)) kept-is ∙ one.row_is;
              made =
                  same-row made-is.0
                  (shares-numbered p q b handed.place made.place made-shares) made-is.1
                  ∙ other.row_is;
              stand = ap (λ (x : PartsView T M). stand_at b x.place) kept-is ∙ one.stand;
              beside = added;
            })

      pub places-refused : (e : OwnerError) → RefusesSplitAt w.place p q e
          → RefusesPlaces (row_of s).place (stand_of (Some s)) passes after e
      places-refused e why =
          subst (λ (x : SlotView T M). RefusesPlaces (row_of x).place (stand_of (Some x)) passes
          after e) seen-as
          (subst (λ ps. RefusesPlaces (numbered b w.place) (stand_at b w.place) passes ps e)
          (sym back)
          (refuses passes left p q (λ sort. false) e b w.place its-number its-pass took
          (refused-at w.place p q e off why)))

    -- it leaves a vector, and the new block's pass comes behind the others
    module _ (v : PartsView T M) (q first : Pass Whole)
        (leaves : LeavesVector false true w v p q first) (n : Option ℕ)
        (more after : List (Pass Whole)) (number : n ≡ Some (length left))
        (pushed : more ≡ left ++ first ∷ []) (back : after ≡ put_back more b q) where
      abbrev native-one : PartsView T M
      native-one = on_native false (Some leaves.owner) w

      moved-by-number : is_numbered n v.place ≡ true
      moved-by-number =
          ap (λ m. is_numbered m v.place) number
          ∙ ap (λ (x : PartsView T M). is_numbered (Some (length left)) x.place) leaves.made

      moved-several : is_several w.role ≡ true → is_several v.role ≡ true
      moved-several several = ap (λ (x : PartsView T M). is_several x.role) leaves.made ∙ several

      moved-row : row_of (writer_slot v n) ≡ on_native false (Some (length passes)) (row_of s)
      moved-row =
          ap (λ (x : PartsView T M). row_of (writer_slot x n)) leaves.made
          ∙ ap (λ m. row_of (writer_slot native-one m)) number
          ∙ ap (λ m. row_of (writer_slot native-one (Some m))) (left-many passes left p b took)
          ∙ ap (λ (x : SlotView T M). on_native false (Some (length passes)) (row_of x)) seen-as

      behind-others : after ≡ put_back left b q ++ first ∷ []
      behind-others =
          back ∙ ap (λ ps. put_back ps b q) pushed
          ∙ put-behind left first q b shared-still

      moved-to : MovesTo (stand_of (Some s)) (stand_of (Some (writer_slot v n))) passes after
      moved-to =
          let ends : Along (stand_of (Some s)) passes (put_back left b q) Ended =
          subst (λ (x : SlotView T M). Along (stand_of (Some x)) passes (put_back left b q) Ended)
          seen-as
          (along passes left p q ⊥ Ended b w.place its-number its-pass took (λ none. absurd none)
          leaves.ended) in
          subst (λ (x : PartsView T M). MovesTo (stand_of (Some s)) (stand_at n x.place) passes
          after) (sym leaves.made)
          (subst (λ m. MovesTo (stand_of (Some s)) (stand_at m native-one.place) passes after)
          (sym number) (record {
            between = put_back left b q;
            left = ends;
            stands = refl;
            begins = (sym (put-many left q b), leaves.first, first, leaves.pass, behind-others);
          }))

      pub left-vector : is_several w.role ≡ true → LeftVector s v n passes after
      left-vector several = record {
        fits = moved-by-number;
        shares = moved-several several;
        row = moved-row;
        moved = moved-to;
      }

-- ---- a block that was founded

-- who lives at the beginning
live-first : live_owners [] ≡ 0 ∷ []
unfolding live_owners owners_ever owners_ended
live-first = refl

module _ {H : Type 0} (old new : List (Pass H)) where
  module _ (n : ℕ) (o : Owner) (founds : Founds (Some (n, o)) old new) where
    first-pass : slice_get new n ≡ Some founds.2
    first-pass =
        ap (slice_get new) founds.0 ∙ ap (λ (ps : List (Pass H)). slice_get ps (length old))
        founds.4
        ∙ get-push old founds.2

    first-is : (q : Pass H) → slice_get new n ≡ Some q → founds.2 ≡ q
    first-is q here = same_Some founds.2 q (sym first-pass ∙ here)

    first-lives : (q : Pass H) → slice_get new n ≡ Some q → live_owners (seen q) ≡ 0 ∷ []
    first-lives q here =
        ap (λ (r : Pass H). live_owners (seen r)) (sym (first-is q here))
        ∙ ap (λ (ls : List Line). live_owners (entries_of ls)) founds.3.1 ∙ live-first

  -- it has its pass
  pub founded-has : (there : Stand) → Founds there old new → HasPassFor new there
  founded-has None founds = tt
  founded-has (Some (n, o)) founds = (
    (
      slice_get_within new n founds.2 (first-pass n o founds),
      λ q here. subst (IsPassFor o) (first-is n o founds q here) founds.3.0,
    ),
    founds.1.whole,
    founds.1.most,
    λ q here.
        ap (is_in o.number) (first-lives n o founds q here)
        ∙ ap (λ k. is_in k (0 ∷ [])) founds.1.number,
  )

  -- and room for an owner more
  pub founded-room : {M : Type 0} (place : Place (Option ℕ) M) (there : Stand)
      (after : List (Pass H)) → Founds there old new → FindsFullAt place there new after → ⊥
  founded-room place None after founds full = full
  founded-room place (Some (n, o)) after founds full =
      let found = full.1 in
      let one : length (live_owners (seen found.before)) ≡ 1 =
      ap length (first-lives n o founds found.before found.was) in
      omega (arith, one, full-exact found.whole found.called, founds.1.most)

  -- so no split is refused there
  pub founded-splits : {M : Type 0} (place : Place (Option ℕ) M) (there : Stand)
      (after : List (Pass H)) (e : OwnerError) → Founds there old new
      → RefusesPlaces place there new after e → ⊥
  founded-splits place there after e founds why =
      founded-room place there after founds (full-at new after place there e why).1

-- ---- a window adds nothing to its block's history, which is legal

module _ {H : Type 0} (passes : List (Pass H)) where
  adds-nothing : (n : ℕ) (o : Owner) → HasPassFor passes (Some (n, o)) → IsAttested passes (Some n)
      → Through n o passes passes AddsNothing
  adds-nothing n o has legal =
      elim (slice_get_cases passes n).1 [
        | inl there ↦
            (let p = there.0 in
            let for = has.0.1 p there.2 in
            record {
              before = p;
              after = p;
              was = there.2;
              pass = for;
              whole = has.1;
              called = (
                history_of p,
                record {
                  same = (for, refl, λ ready. ready);
                  since = [];
                  after_seen = sym (append-nil (history_of p));
                  of_others = λ k line within. absurd (omega (arith, within));
                  undisturbed = λ whole. refl;
                  seen_now = sym (append-nil (history_of p));
                  legal =
                      subst (λ (t : BlockId). IsLegal t.most t.began (seen p)) for.1
                      (legal p there.2 for.0);
                },
              );
              others = sym (set-back passes n p there.2);
            })
        | inr past ↦ absurd (omega (arith, has.0.0, past.0))
      ]

  pub nothing-along : {M : Type 0} (b : Option ℕ) (place : At M)
      → HasPassFor passes (stand_at b place) → IsAttested passes b
      → Along (stand_at b place) passes passes AddsNothing
  nothing-along b nowhere has legal = refl
  nothing-along b static_data has legal = refl
  nothing-along b (on_block None offset info) has legal = refl
  nothing-along None (on_block (Some o) offset info) has legal = refl
  nothing-along (Some n) (on_block (Some o) offset info) has legal = adds-nothing n o has legal

-- the pass of a slot's window came back as it was
pub slot-nothing : {T M H : Type 0} (passes after : List (Pass H)) (s : SlotView T M)
    → HasPassFor passes (stand_of (Some s)) → after ≡ passes → IsAttested after s.block
    → Along (stand_of (Some s)) passes after AddsNothing
slot-nothing passes after s has same legal =
    subst (λ ps. Along (stand_of (Some s)) passes ps AddsNothing) (sym same)
    (nothing-along passes s.block s.window.place has
    (subst (λ ps. IsAttested ps s.block) same legal))
