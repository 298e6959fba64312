-- What is written into the window of one of several writers: he asks whether he is alone where he
-- has to be, and then has the room that the only writer has.
use Rattle.std.proofs.Common.{◌≡◌, ℕ, ◌-◌, ◌<◌, ◌==◌, ◌&&◌, Bool, true, false, List}
use Rattle.std.proofs.Common.{if◌then◌else◌}
use Rattle.std.proofs.Common.{[], ◌∷◌, ◌++◌, length, Option, Some, None, Result, Ok, Err}
use Rattle.std.proofs.Common.{slice_get, refl, sym, ap, ◌∙◌, subst}
use Rattle.std.specs.Prelude.{nat_lt}
use Rattle.std.specs.Result.{OnOk}
use Rattle.std.proofs.lemmas.List.{append-nil}
use Rattle.arc_owners.specs.declared.mark.Whole.{Whole}
use Rattle.arc_owners.specs.declared.count.tokens.Pass.{Pass}
use Rattle.arc_owners.specs.declared.error.TryReserveError.{TryReserveError}
use Rattle.arc_owners.specs.declared.error.TryReserveError.TheVariants.{NotUnique}
use Rattle.arc_owners.specs.count.Calls.{Owner, Asks, IsPassOfNone}
use Rattle.arc_block.specs.Block.{BlockInfo, IsMemory, buffer}
use Rattle.arc_block.specs.Place.{Place, on_block}
use Rattle.arc_parts.specs.Shared.{AsksAlone, IsSharedPlace, MakesRoomBeside, MakesRoomIf}
use Rattle.arc_parts.specs.Shared.{MakesSharedRoom, PushesShared, ReclaimsIf, ReclaimsShared}
use Rattle.arc_parts.specs.Shared.{as_shared, as_unique, asks_alone, extended, is_on_block}
use Rattle.arc_block.specs.Table.{Row, RowOf, one_writer_of_several}
use Rattle.arc_parts.specs.Window.{PartsView}
use Rattle.arc_parts.specs.Writers.{capacity_of, new_writer, room, room_for, with_more, with_room}
use Rattle.arc_parts.specs.declared.room.Room.{Room}
use Rattle.arc_parts.specs.declared.room.Room.TheVariants.{Spare, Fresh, Behind, Front}
use Rattle.arc_parts.specs.declared.room.Room.TheVariants.{Growth, Own, Refused}
use Rattle.arc_block.proofs.Lists.{get-set}
use Rattle.arc_parts.proofs.More.{more_none}
use Rattle.arc_writer_parts.proofs.Rooms.{several_again}
use Rattle.arc_commands.specs.Blocks.{is_several}
use Rattle.arc_commands.proofs.Roles.{several-is}
use Rattle.arc_slots.specs.Several.{AsksAt, FillsAlone, FillsBeside, FillsIf, RoomBeside, RoomIf}
use Rattle.arc_slots.specs.Slots.{AnyWindow, SlotView, held, may_be_shared, role_fits, row_of}
use Rattle.arc_slots.specs.Slots.{stand_of, window_in, writer_slot}
use Rattle.arc_slots.specs.Stands.{HasPassFor, TakenOut, is_numbered, numbered}
use Rattle.arc_slots.specs.Stands.{put_back, stand_at}
use Rattle.arc_slots.specs.Writing.{Fills, IsUnchanged, is_fresh}
use Rattle.arc_slots.specs.declared.window.Held.TheVariants.{Several}
use Rattle.arc_slots.proofs.Filled.{fills, keeps-several, none-fresh, numbered_each, reclaims}
use Rattle.arc_slots.proofs.Filled.{room-same, room_each, unchanged}
use Rattle.arc_slots.proofs.Slots.{along, fits-as, held-as, role-as, shares-as}
use Rattle.arc_slots.proofs.Taken.{back-same, set-twice}

-- where a window stands, by its owner
abbrev At : Type 0 → Type 0
At M = Place (Option Owner) M

-- ---- the question

-- on no block nobody was asked
asked-none : (passes left : List (Pass Whole)) (p mid : Pass Whole) (found : Bool)
    → TakenOut passes None p left → (found ≡ false) × (mid ≡ p)
    → ((found ≡ false) × (left ≡ passes)) × TakenOut left None mid left
asked-none passes left p mid found took asks =
    ((asks.0, took.1), (subst IsPassOfNone (sym asks.1) took.0, refl))

-- What asking adds to the pass that was lent for it, it adds to the passes once that is put back.
-- Then it may be taken out again, and what was left of them is left.
module _ {M : Type 0} (passes left : List (Pass Whole)) (p mid : Pass Whole) (found : Bool) where
  abbrev AskedAt : Option ℕ → At M → Type 0
  AskedAt b place = HasPassFor passes (stand_at b place) → TakenOut passes b p left
      → AsksAlone place p mid found
      → AsksAt (stand_at b place) passes (put_back left b mid) found
      × TakenOut (put_back left b mid) b mid left

  pub asked-at : (b : Option ℕ) (place : At M) → is_numbered b place ≡ true → AskedAt b place
  asked-at =
      numbered_each AskedAt (λ has took asks. asked-none passes left p mid found took asks)
      (λ has took asks. asked-none passes left p mid found took asks)
      (λ offset info has took asks. asked-none passes left p mid found took asks)
      (λ n o offset info has took asks. (
        along passes left p mid ⊥ (λ o q r. Asks o q r found) (Some n)
            (on_block (Some o) offset info) refl has took (λ none. absurd none) asks,
        (
          ap (λ ps. slice_get ps n) (took.1 mid) ∙ get-set passes n p mid took.0,
          λ q. sym (set-twice left n mid q),
        ),
      ))

-- ---- the room

-- no caller's buffer makes it
abbrev pub IsSharedRoom : Room → Type 0
IsSharedRoom Spare = Unit {0}
IsSharedRoom (Fresh places) = Unit {0}
IsSharedRoom Behind = Unit {0}
IsSharedRoom Front = Unit {0}
IsSharedRoom (Growth places) = Unit {0}
IsSharedRoom (Own additional) = ⊥
IsSharedRoom (Refused e) = Unit {0}

-- the only writer's room, who is one of several then, is that of one of several
module _ {N T M : Type 0} where
  roomed-several : (x : Room) (items : List T) (place : Place N M) (places : ℕ)
      → let row : RowOf N T M =
      record { items = items; place = place; role = one_writer_of_several places } in
      as_shared (with_room x (as_unique row)) ≡ with_room x row
  roomed-several Spare items place places = refl
  roomed-several (Fresh n) items place places = refl
  roomed-several Behind items place places = refl
  roomed-several Front items place places = refl
  roomed-several (Growth n) items place places = refl
  roomed-several (Own n) items place places = refl
  roomed-several (Refused e) items place places = refl

  shared-room : (x : Room) (row : RowOf N T M) → is_several row.role ≡ true
      → as_shared (with_room x (as_unique row)) ≡ with_room x row
  shared-room x row several =
      subst (λ role. let r : RowOf N T M = record row { role = role } in
      as_shared (with_room x (as_unique r)) ≡ with_room x r) (sym (several-is row.role several))
      (roomed-several x row.items row.place (capacity_of row.role))

module _ {T M : Type 0} (b : Option ℕ) (w : PartsView T M) (fits : is_numbered b w.place ≡ true)
  where
    -- he has to be alone where his row has
    pub asks-same : (k : ℕ) → asks_alone (row_of (writer_slot w b)) k ≡ asks_alone w k
    asks-same k =
        ap (λ on. nat_lt (capacity_of w.role - length w.items) k && on)
        (numbered_each (λ n place. is_on_block (numbered n place) ≡ is_on_block place) refl refl
        (λ offset info. refl) (λ n o offset info. refl) b w.place fits)

-- one of several stands on no caller's buffer
module _ {M : Type 0} where
  no-buffer : (block : Option Owner) (offset : ℕ) (info : BlockInfo M) (writable : Bool)
      → info.sort ≡ buffer writable → IsSharedPlace (on_block block offset info) → ⊥
  no-buffer None offset info writable sort there = there
  no-buffer (Some o) offset info writable sort there = subst IsMemory sort there

-- so none makes room for him
shared-rooms : {T M : Type 0} (drops : Bool) (first size : ℕ) (w : PartsView T M) (k : ℕ)
    → IsSharedPlace w.place → IsSharedRoom (room drops first size w k)
shared-rooms drops first size w k there =
    room_each drops first size w k IsSharedRoom tt (λ off places. tt) tt tt tt tt (λ places. tt)
    (λ block offset info writable is sort. no-buffer block offset info writable sort
    (subst IsSharedPlace is there))

-- where no items are written, there is room and nothing else
pub nothing-beside : {T M : Type 0} (asks : Bool) (x : Room) (w v : PartsView T M)
    (p q : Pass Whole) (r : Result (Unit {0}) TryReserveError)
    → MakesSharedRoom asks true x w v p q r
    → OnOk r (PushesShared asks true x [] w v p q)
nothing-beside asks x w v p q (Ok done) made = record {
  between = v;
  makes = made;
  pushed = λ i. record v { items = sym (append-nil v.items) i };
}
nothing-beside asks x w v p q (Err e) made = tt

module _ {T M : Type 0} (b : Option ℕ) (w : PartsView T M) (fits : is_numbered b w.place ≡ true)
    (several : is_several w.role ≡ true) (first size k : ℕ) where
  abbrev needed : Room
  needed = room false first size w k

  abbrev row : Row T M
  row = row_of (writer_slot w b)

  -- the slot's facts
  abbrev Fitting : PartsView T M → Option ℕ → Type 0
  Fitting v n = (is_numbered n v.place ≡ true) × (is_several v.role ≡ true)

  -- one of several again, who was the only writer, with these items behind the others
  module _ (items : List T) (sole : PartsView T M) (n : Option ℕ) (before after : List (Pass Whole))
    where
      abbrev shared : PartsView T M
      shared = extended items (as_shared sole)

      roomed-as : (x : Room)
          → row_of (writer_slot sole n) ≡ with_more [] (with_room x (as_unique row))
          → row_of (writer_slot shared n) ≡ extended items (with_room x row)
      roomed-as x is =
          ap (λ (r : Row T M). extended items (as_shared r))
          (is ∙ more_none (with_room x (as_unique row)))
          ∙ ap (extended items) (shared-room x row several)

      from-sole : (x : Room) → IsSharedRoom x
          → Fills false x [] (writer_slot (as_unique w) b) (writer_slot sole n) before after (Ok tt)
          → FillsAlone x items (writer_slot w b) (writer_slot shared n) before after (Ok tt)
      from-sole (Fresh places) memory did = (
        ap (λ (r : Row T M). extended items (as_shared r))
            (did.0 ∙ more_none (new_writer false (Some (length before)) [] places)),
        did.1,
      )
      from-sole (Own additional) memory did = absurd memory
      from-sole (Refused e) memory did =
          let fine : ◌≡◌ {A = Result (Unit {0}) TryReserveError} (Ok tt) (Err e) = did.0 in
          absurd (cc)
      from-sole Spare memory did = (did.0, roomed-as Spare did.1, did.2, did.3)
      from-sole Behind memory did = (did.0, roomed-as Behind did.1, did.2, did.3)
      from-sole Front memory did = (did.0, roomed-as Front did.1, did.2, did.3)
      from-sole (Growth places) memory did = (did.0, roomed-as (Growth places) did.1, did.2, did.3)

  module _ (there : IsSharedPlace w.place) (items : List T) (left : List (Pass Whole)) where
    memory : IsSharedRoom needed
    memory = shared-rooms false first size w k there

    -- by a pass that was taken out of these
    module _ (before : List (Pass Whole)) (m q : Pass Whole) (took : TakenOut before b m left) where
      filled : (u v : PartsView T M) (n : Option ℕ) (after : List (Pass Whole))
          → MakesRoomBeside true needed (as_unique w) u m q (Ok tt) → v ≡ extended items u
          → (is_fresh needed ≡ false → (n ≡ b) × (after ≡ put_back left b q))
          → (is_fresh needed ≡ true → (n ≡ Some (length left)) × (after ≡ left ++ q ∷ []))
          → FillsAlone needed items (writer_slot w b) (writer_slot v n) before after (Ok tt)
          × Fitting v n
      filled u v n after made pushed same new =
          let sole = made.sole in
          let all = fills b (as_unique w) fits refl false first size k [] before left m q took
          needed refl sole n after (sole, made.makes, sym (more_none sole)) same new in
          let is : v ≡ extended items (as_shared sole) = pushed ∙ ap (extended items) made.shared in
          subst (λ y. FillsAlone needed items (writer_slot w b) (writer_slot y n) before after
          (Ok tt) × Fitting y n) (sym is)
          (from-sole items sole n before after needed memory all.0, (all.1.0, refl))

      -- nothing changed
      still : (v : PartsView T M) (after : List (Pass Whole)) → v ≡ w → after ≡ put_back left b q
          → q ≡ m
          → IsUnchanged (writer_slot w b) (writer_slot v b) before after × Fitting v b
      still v after same back none = (
        (ap (λ u. writer_slot u b) same, back ∙ back-same before left m b took q none),
        (
          ap (λ (u : PartsView T M). is_numbered b u.place) same ∙ fits,
          ap (λ (u : PartsView T M). is_several u.role) same ∙ several,
        ),
      )

      stays : (v sole : PartsView T M) → v ≡ as_shared sole → sole ≡ as_unique w → v ≡ w
      stays v sole is same =
          is ∙ ap as_shared same ∙ several_again w (several-is w.role several)

      refused : (x : Room) → IsSharedRoom x → (e : TryReserveError) (v : PartsView T M)
          (after : List (Pass Whole)) → MakesRoomBeside true x (as_unique w) v m q (Err e)
          → after ≡ put_back left b q
          → FillsAlone x items (writer_slot w b) (writer_slot v b) before after (Err e)
          × Fitting v b
      refused (Fresh places) shares e v after made back =
          let did = made.makes in
          let un = still v after (stays v made.sole made.shared did.1) back did.2 in
          ((did.0, un.0), un.1)
      refused (Growth places) shares e v after made back =
          let did = made.makes in
          let un = still v after (stays v made.sole made.shared did.1) back did.2 in
          ((did.0, un.0), un.1)
      refused (Own additional) shares e v after made back = absurd shares
      refused (Refused refusal) shares e v after made back =
          let did = made.makes in
          let un = still v after (stays v made.sole made.shared did.1) back did.2 in
          ((did.0, un.0), un.1)
      refused Spare shares e v after made back =
          let fine : ◌≡◌ {A = Result (Unit {0}) TryReserveError} (Err e) (Ok tt) = made.makes.0 in
          absurd (cc)
      refused Behind shares e v after made back =
          let fine : ◌≡◌ {A = Result (Unit {0}) TryReserveError} (Err e) (Ok tt) = made.makes.0 in
          absurd (cc)
      refused Front shares e v after made back =
          let fine : ◌≡◌ {A = Result (Unit {0}) TryReserveError} (Err e) (Ok tt) = made.makes.0 in
          absurd (cc)

      -- where he asked, by what he was told
      filled-if : (found : Bool) (u v : PartsView T M) (n : Option ℕ) (after : List (Pass Whole))
          → MakesRoomIf found true needed w u m q (Ok tt) → v ≡ extended items u
          → (is_fresh needed ≡ false → (n ≡ b) × (after ≡ put_back left b q))
          → (is_fresh needed ≡ true → (n ≡ Some (length left)) × (after ≡ left ++ q ∷ []))
          → FillsIf found needed items (writer_slot w b) (writer_slot v n) before after (Ok tt)
          × Fitting v n
      filled-if true u v n after made pushed same new = filled u v n after made pushed same new
      filled-if false u v n after made pushed same new =
          let fine : ◌≡◌ {A = Result (Unit {0}) TryReserveError} (Ok tt) (Err NotUnique) = made.0 in
          absurd (cc)

      refused-if : (found : Bool) (e : TryReserveError) (v : PartsView T M)
          (after : List (Pass Whole)) → MakesRoomIf found true needed w v m q (Err e)
          → after ≡ put_back left b q
          → FillsIf found needed items (writer_slot w b) (writer_slot v b) before after (Err e)
          × Fitting v b
      refused-if true e v after made back = refused needed memory e v after made back
      refused-if false e v after made back =
          let un = still v after made.1 back made.2 in ((made.0, un.0), un.1)

    module _ (passes : List (Pass Whole)) (p q : Pass Whole)
        (has : HasPassFor passes (stand_at b w.place)) (took : TakenOut passes b p left) where
      pub fills-beside : (asks : Bool) (v : PartsView T M) (n : Option ℕ)
          (after : List (Pass Whole)) → PushesShared asks true needed items w v p q
          → (is_fresh needed ≡ false → (n ≡ b) × (after ≡ put_back left b q))
          → (is_fresh needed ≡ true → (n ≡ Some (length left)) × (after ≡ left ++ q ∷ []))
          → FillsBeside asks needed items (writer_slot w b) (writer_slot v n) passes after (Ok tt)
          × Fitting v n
      fills-beside true v n after did same new =
          let makes = did.makes in
          let a = asked-at passes left p makes.1 makes.0 b w.place fits has took makes.2 in
          let f = filled-if (put_back left b makes.1) makes.1 q a.1 makes.0 did.between v n after
          makes.3 did.pushed same new in
          ((makes.0, put_back left b makes.1, a.0, f.0), f.1)
      fills-beside false v n after did same new =
          filled passes p q took did.between v n after did.makes did.pushed same new

      pub unfills-beside : (asks : Bool) (e : TryReserveError) (v : PartsView T M)
          (after : List (Pass Whole)) → MakesSharedRoom asks true needed w v p q (Err e)
          → after ≡ put_back left b q
          → FillsBeside asks needed items (writer_slot w b) (writer_slot v b) passes after (Err e)
          × Fitting v b
      unfills-beside true e v after made back =
          let a = asked-at passes left p made.1 made.0 b w.place fits has took made.2 in
          let f = refused-if (put_back left b made.1) made.1 q a.1 made.0 e v after made.3 back in
          ((made.0, put_back left b made.1, a.0, f.0), f.1)
      unfills-beside false e v after made back =
          refused passes p q took needed memory e v after made back

  -- room without memory
  abbrev Kept : PartsView T M → Bool → Type 0
  Kept v answer = (is_numbered b v.place ≡ true) × (is_several v.role ≡ true)
      × (stand_at b v.place ≡ stand_at b w.place) × (answer ≡ false → v ≡ w)

  reclaims-if : (found : Bool) (v : PartsView T M) (answer : Bool)
      → ReclaimsIf found needed w v answer
      → RoomIf found needed row (row_of (writer_slot v b)) answer × Kept v answer
  reclaims-if true v answer did =
      let r = reclaims is_several keeps-several b w fits several needed v answer did in
      (r.0, (r.1, r.2, r.3, r.4))
  reclaims-if false v answer did =
      let r = unchanged is_several keeps-several b w fits several v answer did in
      (r.0, (r.1, r.2, r.3, r.4))

  pub reclaims-beside : (passes left : List (Pass Whole)) (p q : Pass Whole)
      → HasPassFor passes (stand_at b w.place) → TakenOut passes b p left
      → (asks : Bool) (v : PartsView T M) (answer : Bool)
      → ReclaimsShared asks needed w v p q answer
      → RoomBeside asks needed (stand_at b w.place) row (row_of (writer_slot v b)) passes
      (put_back left b q) answer × Kept v answer
  reclaims-beside passes left p q has took true v answer did =
      let a = asked-at passes left p q did.0 b w.place fits has took did.1 in
      let r = reclaims-if did.0 v answer did.2 in
      ((did.0, a.0, r.0), r.1)
  reclaims-beside passes left p q has took false v answer did =
      let r = reclaims-if true v answer did.1 in
      ((back-same passes left p b took q did.0, r.0), r.1)

-- ---- the same of a slot, whose window is that of one of several

-- one of several was to write these items, and so is the slot with this window, on a block of this
-- number
pub record SlotFillsBeside {T M : Type 0} (shares drops : Bool) (size k : ℕ) (items : List T)
    (s : SlotView T M) (v : PartsView T M) (n : Option ℕ) (before after : List (Pass Whole))
    (answer : Result (Unit {0}) TryReserveError) : Type 0 where
  pub fills : FillsBeside (asks_alone (row_of s) k) (room_for drops size (row_of s) k) items s
      (writer_slot v n) before after answer
  pub fits : (is_numbered n v.place ≡ true) × (is_several v.role ≡ true) × (shares ≡ true)

-- or was to have room without memory
pub record SlotReclaimsBeside {T M : Type 0} (shares drops : Bool) (size k : ℕ) (b : Option ℕ)
    (s : SlotView T M) (v : PartsView T M) (before after : List (Pass Whole)) (answer : Bool)
    : Type 0 where
  pub row : RoomBeside (asks_alone (row_of s) k) (room_for drops size (row_of s) k)
      (stand_of (Some s)) (row_of s) (row_of (writer_slot v b)) before after answer
  pub fits : (is_numbered b v.place ≡ true) × (is_several v.role ≡ true) × (shares ≡ true)
  pub stand : stand_of (Some (writer_slot v b)) ≡ stand_of (Some s)
  pub kept : answer ≡ false → writer_slot v b ≡ s

module _ {T M K : Type 0} (small : K → PartsView T M) (h : AnyWindow T M K) (w : PartsView T M)
    (b : Option ℕ) (is : h ≡ Several w) (s : SlotView T M) (view : held small h b ≡ s)
    (shares : Bool) (fact : (is_numbered b (window_in small h).place ≡ true)
    × (role_fits h ≡ true) × (may_be_shared shares h ≡ true)) where
  pub beside-seen : writer_slot w b ≡ s
  beside-seen = sym (held-as h (Several w) is small b) ∙ view

  fit : is_numbered b w.place ≡ true
  fit = fits-as h (Several w) is small b fact.0

  one : is_several w.role ≡ true
  one = role-as h (Several w) is fact.1

  kind : shares ≡ true
  kind = shares-as h (Several w) is shares fact.2

  module _ (passes : List (Pass Whole)) (has : HasPassFor passes (stand_of (Some s))) where
    pub beside-has : HasPassFor passes (stand_at b w.place)
    beside-has = subst (λ t. HasPassFor passes (stand_of (Some t))) (sym beside-seen) has

    -- what he asked by it is asked of the table
    pub beside-asked : (left : List (Pass Whole)) (p mid : Pass Whole) → TakenOut passes b p left
        → (after : List (Pass Whole)) → after ≡ put_back left b mid → (found : Bool)
        → AsksAlone w.place p mid found → AsksAt (stand_of (Some s)) passes after found
    beside-asked left p mid took after back found asks =
        subst (λ (t : SlotView T M). AsksAt (stand_of (Some t)) passes after found) beside-seen
        (subst (λ ps. AsksAt (stand_at b w.place) passes ps found) (sym back)
        (asked-at passes left p mid found b w.place fit beside-has took asks).0)

  module _ (drops : Bool) (undropped : drops ≡ false) (size k : ℕ) where
    abbrev first : ℕ
    first = if size == 1 then 8 else 4

    abbrev asks : Bool
    asks = asks_alone (row_of s) k

    abbrev wants : Room
    wants = room drops first size (row_of s) k

    asks-seen : asks_alone w k ≡ asks
    asks-seen = sym (asks-same b w fit k) ∙ ap (λ t. asks_alone (row_of t) k) beside-seen

    wants-seen : room false first size w k ≡ wants
    wants-seen =
        sym (room-same b w fit false first size k)
        ∙ ap (λ t. room false first size (row_of t) k) beside-seen
        ∙ ap (λ d. room d first size (row_of s) k) (sym undropped)

    module _ (passes left : List (Pass Whole)) (p q : Pass Whole)
        (took : TakenOut passes b p left) where
      -- there is room for a first block's pass, also where one was taken out
      pub beside-room : (m : ℕ) → (is_fresh wants ≡ true → length passes < m)
          → is_fresh wants ≡ true → length left < m
      beside-room m room fresh =
          let none = none-fresh b w fit false first size k (ap is_fresh wants-seen ∙ fresh) in
          let all : left ≡ passes = (subst (λ c. TakenOut passes c p left) none took).1 in
          subst (λ (ps : List (Pass Whole)). length ps < m) (sym all) (room fresh)

      module _ (has : HasPassFor passes (stand_of (Some s))) where
        module _ (there : IsSharedPlace w.place) (items : List T) where
          as-seen : (v : PartsView T M) (n : Option ℕ) (after : List (Pass Whole))
              (reply : Result (Unit {0}) TryReserveError)
              → FillsBeside (asks_alone w k) (room false first size w k) items (writer_slot w b)
              (writer_slot v n) passes after reply
              → FillsBeside asks wants items s (writer_slot v n) passes after reply
          as-seen v n after reply did =
              subst (λ t. FillsBeside asks wants items t (writer_slot v n) passes after reply)
              beside-seen
              (subst (λ r. FillsBeside asks r items (writer_slot w b) (writer_slot v n) passes after
              reply) wants-seen
              (subst (λ a. FillsBeside a (room false first size w k) items (writer_slot w b)
              (writer_slot v n) passes after reply) asks-seen did))

          pub slot-fills-beside : (v : PartsView T M) (n : Option ℕ) (after : List (Pass Whole))
              → PushesShared (asks_alone w k) true (room false first size w k) items w v p q
              → (is_fresh wants ≡ false → (n ≡ b) × (after ≡ put_back left b q))
              → (is_fresh wants ≡ true → (n ≡ Some (length left)) × (after ≡ left ++ q ∷ []))
              → SlotFillsBeside shares drops size k items s v n passes after (Ok tt)
          slot-fills-beside v n after did same new =
              let all = fills-beside b w fit one first size k there items left passes p q
              (beside-has passes has) took (asks_alone w k) v n after did
              (λ old. same (sym (ap is_fresh wants-seen) ∙ old))
              (λ fresh. new (sym (ap is_fresh wants-seen) ∙ fresh)) in
              record {
                fills = as-seen v n after (Ok tt) all.0;
                fits = (all.1.0, all.1.1, kind);
              }

          pub slot-unfills-beside : (e : TryReserveError) (v : PartsView T M)
              (after : List (Pass Whole))
              → MakesSharedRoom (asks_alone w k) true (room false first size w k) w v p q (Err e)
              → after ≡ put_back left b q
              → SlotFillsBeside shares drops size k items s v b passes after (Err e)
          slot-unfills-beside e v after made back =
              let all = unfills-beside b w fit one first size k there items left passes p q
              (beside-has passes has) took (asks_alone w k) e v after made back in
              record {
                fills = as-seen v b after (Err e) all.0;
                fits = (all.1.0, all.1.1, kind);
              }

        pub slot-reclaims-beside : (v : PartsView T M) (answer : Bool) (after : List (Pass Whole))
            → ReclaimsShared (asks_alone w k) (room false first size w k) w v p q answer
            → after ≡ put_back left b q
            → SlotReclaimsBeside shares drops size k b s v passes after answer
        slot-reclaims-beside v answer after did back =
            let all = reclaims-beside b w fit one first size k passes left p q
            (beside-has passes has) took (asks_alone w k) v answer did in
            let at = subst (λ a. RoomBeside a (room false first size w k) (stand_at b w.place)
            (row_of (writer_slot w b)) (row_of (writer_slot v b)) passes (put_back left b q) answer)
            asks-seen all.0 in
            let by = subst (λ r. RoomBeside asks r (stand_at b w.place)
            (row_of (writer_slot w b)) (row_of (writer_slot v b)) passes (put_back left b q) answer)
            wants-seen at in
            record {
              row =
                  subst (λ t. RoomBeside asks wants (stand_of (Some t)) (row_of t)
                  (row_of (writer_slot v b)) passes after answer) beside-seen
                  (subst (λ ps. RoomBeside asks wants (stand_at b w.place)
                  (row_of (writer_slot w b)) (row_of (writer_slot v b)) passes ps answer)
                  (sym back) by);
              fits = (all.1.0, all.1.1, kind);
              stand =
                  subst (λ t. stand_of (Some (writer_slot v b)) ≡ stand_of (Some t)) beside-seen
                  all.1.2;
              kept = λ none. ap (λ u. writer_slot u b) (all.1.3 none) ∙ beside-seen;
            }
