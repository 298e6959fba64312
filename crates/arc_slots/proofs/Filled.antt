-- What is written into a slot's window: what becomes of its row, of where it stands, and of the
-- passes of the blocks.
use Rattle.std.proofs.Common.{◌≡◌, ℕ, ◌-◌, ◌==◌, ◌&&◌, not, Bool, true, false, ◌<◌}
use Rattle.std.proofs.Common.{if◌then◌else◌, List, [], ◌∷◌, ◌++◌, length, Option, Some, None}
use Rattle.std.proofs.Common.{Result, Ok, Err, refl, sym, ap, ◌∙◌, subst}
use Rattle.std.specs.Result.{OnOk}
use Rattle.arc_parts.proofs.More.{more_none}
use Rattle.std.specs.Prelude.{nat_lt, ◌+◌, ◌≤◌}
use Rattle.std.proofs.lemmas.Bool.{false≢true}
use Rattle.arc_owners.specs.declared.mark.Whole.{Whole}
use Rattle.arc_owners.specs.declared.count.tokens.Pass.{Pass}
use Rattle.arc_owners.specs.declared.error.TryReserveError.{TryReserveError}
use Rattle.arc_owners.specs.declared.error.TryReserveError.TheVariants.{Unsupported}
use Rattle.arc_owners.specs.declared.error.TryReserveError.TheVariants.{CapacityOverflow}
use Rattle.arc_owners.specs.count.Calls.{Owner}
use Rattle.arc_block.specs.Block.{Sort, native, vector, buffer, raw, BlockInfo}
use Rattle.arc_block.specs.Place.{Place, nowhere, static_data, on_block}
use Rattle.arc_parts.specs.Room.{ends_full, growth, room_in}
use Rattle.arc_parts.specs.Shared.{is_on_block}
use Rattle.arc_block.specs.Table.{Row, RowOf, Role}
use Rattle.arc_parts.specs.Window.{PartsView}
use Rattle.arc_parts.specs.Writers.{capacity_of, room, room_at, room_for, with_room, with_more}
use Rattle.arc_parts.specs.Writers.{with_full}
use Rattle.arc_parts.specs.Writers.{new_writer, MakesRoom, Pushes, Reclaims}
use Rattle.arc_parts.specs.Writers.{with_capacity}
use Rattle.arc_block.specs.Place.{offset_at}
use Rattle.arc_parts.specs.declared.room.Room.{Room}
use Rattle.arc_parts.specs.declared.room.Room.TheVariants.{Spare, Fresh, Behind, Front}
use Rattle.arc_parts.specs.declared.room.Room.TheVariants.{Growth, Own, Refused}
use Rattle.arc_commands.specs.Blocks.{is_several, is_sole}
use Rattle.arc_slots.specs.Slots.{AnyWindow, SlotView, held, role_fits, row_of, stand_of}
use Rattle.arc_slots.specs.Slots.{window_in, writer_slot}
use Rattle.arc_slots.specs.Stands.{TakenOut, is_numbered, numbered}
use Rattle.arc_slots.specs.Stands.{put_back, stand_at}
use Rattle.arc_slots.specs.Writing.{is_fresh, Fills}
use Rattle.arc_slots.specs.declared.window.Held.TheVariants.{Write}
use Rattle.arc_commands.proofs.Parts.{sole-with}
use Rattle.arc_commands.proofs.Roles.{several-with}
use Rattle.arc_slots.proofs.Slots.{fits-as, held-as, role-as}
use Rattle.arc_slots.proofs.Taken.{back-same}

-- where no items are written, there is room and nothing else
pub nothing-written : {T M : Type 0} (drops : Bool) (x : Room) (w v : PartsView T M)
    (p q : Pass Whole) (r : Result (Unit {0}) TryReserveError) → MakesRoom drops true x w v p q r
    → OnOk r (Pushes drops true x [] w v p q)
nothing-written drops x w v p q (Ok done) made = (v, made, sym (more_none v))
nothing-written drops x w v p q (Err e) made = tt

-- where a window stands, by its owner
abbrev pub At : Type 0 → Type 0
At M = Place (Option Owner) M

-- what holds of each place that fits its block's number
pub numbered_each : {M : Type 0} (P : Option ℕ → At M → Type 0) → P None nowhere
    → P None static_data
    → ((offset : ℕ) (info : BlockInfo M) → P None (on_block None offset info))
    → ((n : ℕ) (o : Owner) (offset : ℕ) (info : BlockInfo M)
    → P (Some n) (on_block (Some o) offset info)) → (b : Option ℕ) (place : At M)
    → is_numbered b place ≡ true → P b place
numbered_each P none static uncounted block None nowhere fits = none
numbered_each P none static uncounted block None static_data fits = static
numbered_each P none static uncounted block None (on_block None offset info) fits =
    uncounted offset info
numbered_each P none static uncounted block None (on_block (Some o) offset info) fits =
    absurd (false≢true fits)
numbered_each P none static uncounted block (Some n) nowhere fits = absurd (false≢true fits)
numbered_each P none static uncounted block (Some n) static_data fits = absurd (false≢true fits)
numbered_each P none static uncounted block (Some n) (on_block None offset info) fits =
    absurd (false≢true fits)
numbered_each P none static uncounted block (Some n) (on_block (Some o) offset info) fits =
    block n o offset info

-- what holds of each room that a block may have holds of what it has: only a caller's buffer makes
-- its own
module _ {M : Type 0} (drops : Bool) (size : ℕ) (info : BlockInfo M) (offset len k : ℕ)
    (P : Room → Type 0) (unsupported : P (Refused Unsupported))
    (overflow : P (Refused CapacityOverflow)) (behind : P Behind) (front : P Front)
    (grown : (places : ℕ) → P (Growth places))
    (own : (writable : Bool) → info.sort ≡ buffer writable → P (Own k)) where
  grown-either : (b : Bool) (places : ℕ) → P (if b then Refused CapacityOverflow else Growth places)
  grown-either true places = overflow
  grown-either false places = grown places

  growth_each : (sort : Sort) → info.sort ≡ sort
      → P (growth sort size info.size (offset + len) k)
  growth_each native is = grown-either _ _
  growth_each vector is = grown-either _ _
  growth_each (buffer writable) is = own writable is
  growth_each raw is = unsupported

  pub room-in_each : P (room_in drops size info offset len k)
  room-in_each = first (drops && not (ends_full info (offset + len)))
    where
      third : (b : Bool) → P (if b then Front else
          growth info.sort size info.size (offset + len) k)
      third true = front
      third false = growth_each info.sort refl

      second : (b : Bool) → P (if b then Behind else
          if not drops && not (nat_lt offset len) && not (nat_lt (info.size - len) k) then Front
          else
          growth info.sort size info.size (offset + len) k)
      second true = behind
      second false =
          third (not drops && not (nat_lt offset len) && not (nat_lt (info.size - len) k))

      first : (b : Bool) → P (if b then Refused Unsupported else
          if not (nat_lt (info.size - offset - len) k) then Behind else
          if not drops && not (nat_lt offset len) && not (nat_lt (info.size - len) k) then Front
          else
          growth info.sort size info.size (offset + len) k)
      first true = unsupported
      first false = second (not (nat_lt (info.size - offset - len) k))

-- a first block is made only where there is none
fresh-in : {M : Type 0} (drops : Bool) (size : ℕ) (info : BlockInfo M) (offset len k : ℕ)
    → is_fresh (room_in drops size info offset len k) ≡ false
fresh-in drops size info offset len k =
    room-in_each drops size info offset len k (λ r. is_fresh r ≡ false) refl refl refl refl
    (λ places. refl) (λ writable is. refl)

-- what holds of each room that a writer may have holds of what he has, in the table or not
pub room_each : {N T M : Type 0} (drops : Bool) (first size : ℕ) (row : RowOf N T M) (k : ℕ)
    (P : Room → Type 0) → P Spare
    → (is_on_block row.place ≡ false → (places : ℕ) → P (Fresh places))
    → P (Refused Unsupported) → P (Refused CapacityOverflow) → P Behind → P Front
    → ((places : ℕ) → P (Growth places))
    → ((block : N) (offset : ℕ) (info : BlockInfo M) (writable : Bool)
    → row.place ≡ on_block block offset info → info.sort ≡ buffer writable → P (Own k))
    → P (room drops first size row k)
room_each {N} {T} {M} drops first size row k P spare fresh unsupported overflow behind front grown
    own =
    either (not (nat_lt (capacity_of row.role - length row.items) k))
  where
    there : (place : Place N M) → row.place ≡ place
        → P (room_at drops first size place (length row.items) k)
    there nowhere is = fresh (ap is_on_block is) _
    there static_data is = fresh (ap is_on_block is) _
    there (on_block block offset info) is =
        room-in_each drops size info offset (length row.items) k P unsupported overflow behind front
        grown (λ writable sort. own block offset info writable is sort)

    either : (b : Bool) → P (if b then Spare else
        room_at drops first size row.place (length row.items) k)
    either true = spare
    either false = there row.place refl

module _ {T M : Type 0} (b : Option ℕ) (w : PartsView T M) (fits : is_numbered b w.place ≡ true)
  where
    -- a writer's row in the table
    abbrev row : Row T M
    row = row_of (writer_slot w b)

    -- it has room where the window has it
    pub room-same : (drops : Bool) (first size k : ℕ)
        → room drops first size row k ≡ room drops first size w k
    room-same drops first size k =
        let len = length w.items in
        ap (λ r. if not (nat_lt (capacity_of w.role - len) k) then Spare else r)
        (numbered_each (λ n place. room_at drops first size (numbered n place) len k
        ≡ room_at drops first size place len k) refl refl (λ offset info. refl)
        (λ n o offset info. refl) b w.place
        fits)

    pub none-fresh : (drops : Bool) (first size k : ℕ)
        → is_fresh (room drops first size w k) ≡ true → b ≡ None
    none-fresh drops first size k =
        either (not (nat_lt (capacity_of w.role - length w.items) k))
      where
        either : (x : Bool) → is_fresh (if x then Spare else
            room_at drops first size w.place (length w.items) k) ≡ true → b ≡ None
        either true fresh = absurd (false≢true fresh)
        either false fresh =
            numbered_each (λ n place. is_fresh (room_at drops first size place (length w.items) k)
            ≡ true → n ≡ None) (λ fresh. refl) (λ fresh. refl) (λ offset info fresh. refl)
            (λ n o offset info fresh. absurd
            (false≢true (sym (fresh-in drops size info offset (length w.items) k) ∙ fresh)))
            b w.place fits fresh

    -- a window that has become another one, at the same place of the same block, of the same role
    record Became (mine : Role → Bool) (v : PartsView T M) (new : Row T M) : Type 0 where
      numbers : is_numbered b v.place ≡ true
      writes : mine v.role ≡ true
      row_is : row_of (writer_slot v b) ≡ new
      stand : stand_at b v.place ≡ stand_at b w.place

-- a role that stays one of these, with whatever many places
abbrev pub Keeps : (Role → Bool) → Type 0
Keeps mine = (role : Role) (places : ℕ) → mine role ≡ true → mine (with_capacity role places) ≡ true

pub keeps-sole : Keeps is_sole
keeps-sole role places is = sole-with role places ∙ is

pub keeps-several : Keeps is_several
keeps-several role places is = ap is_several (several-with role places is)

-- with this room
module _ {T M : Type 0} (mine : Role → Bool) (keeps : Keeps mine) (items : List T) (role : Role)
    (is : mine role ≡ true) where
  abbrev Roomed : Room → Option ℕ → At M → Type 0
  Roomed r b place =
      let w : PartsView T M = record { items = items; place = place; role = role } in
      (is_numbered b (with_room r w).place ≡ true) × (mine (with_room r w).role ≡ true)
      × (row_of (writer_slot (with_room r w) b) ≡ with_room r (row_of (writer_slot w b)))
      × (stand_at b (with_room r w).place ≡ stand_at b place)

  roomed_each : (r : Room) (b : Option ℕ) (place : At M) → is_numbered b place ≡ true
      → Roomed r b place
  roomed_each Spare =
      numbered_each (Roomed Spare) (refl, is, refl, refl) (refl, is, refl, refl)
      (λ offset info. (refl, is, refl, refl)) (λ n o offset info. (refl, is, refl, refl))
  roomed_each (Fresh n) =
      numbered_each (Roomed (Fresh n)) (refl, is, refl, refl) (refl, is, refl, refl)
      (λ offset info. (refl, is, refl, refl)) (λ n o offset info. (refl, is, refl, refl))
  roomed_each Behind =
      numbered_each (Roomed Behind) (refl, keeps role _ is, refl, refl)
      (refl, keeps role _ is, refl, refl) (λ offset info. (refl, keeps role _ is, refl, refl))
      (λ n o offset info. (refl, keeps role _ is, refl, refl))
  roomed_each Front =
      numbered_each (Roomed Front) (refl, keeps role _ is, refl, refl)
      (refl, keeps role _ is, refl, refl) (λ offset info. (refl, keeps role _ is, refl, refl))
      (λ n o offset info. (refl, keeps role _ is, refl, refl))
  roomed_each (Growth n) =
      numbered_each (Roomed (Growth n)) (refl, keeps role _ is, refl, refl)
      (refl, keeps role _ is, refl, refl) (λ offset info. (refl, keeps role _ is, refl, refl))
      (λ n o offset info. (refl, keeps role _ is, refl, refl))
  roomed_each (Own n) =
      numbered_each (Roomed (Own n)) (refl, is, refl, refl) (refl, is, refl, refl)
      (λ offset info. (refl, is, refl, refl)) (λ n o offset info. (refl, is, refl, refl))
  roomed_each (Refused e) =
      numbered_each (Roomed (Refused e)) (refl, is, refl, refl) (refl, is, refl, refl)
      (λ offset info. (refl, is, refl, refl)) (λ n o offset info. (refl, is, refl, refl))

module _ {T M : Type 0} (mine : Role → Bool) (keeps : Keeps mine) (b : Option ℕ)
    (w : PartsView T M) (fits : is_numbered b w.place ≡ true) (is : mine w.role ≡ true) where
  roomed : (r : Room)
      → Became b w fits mine (with_room r w) (with_room r (row_of (writer_slot w b)))
  roomed r =
      let all = roomed_each mine keeps w.items w.role is r b w.place fits in
      record { numbers = all.0; writes = all.1; row_is = all.2; stand = all.3 }

  -- with these items behind the others
  filled-with : (items : List T) → Became b w fits mine (with_more items w)
      (with_more items (row_of (writer_slot w b)))
  filled-with items =
      let k = length items in
      let len = length w.items in
      record {
        numbers =
            numbered_each (λ n place. is_numbered n (with_full len k place) ≡ true) refl refl
            (λ offset info. refl) (λ n o offset info. refl) b w.place fits;
        writes = is;
        row_is =
            ap {B = Row T M} (λ place. record {
              items = w.items ++ items;
              place = place;
              role = w.role;
            }) (numbered_each (λ n place. numbered n (with_full len k place)
            ≡ with_full len k (numbered n place)) refl refl (λ offset info. refl)
            (λ n o offset info. refl) b w.place fits);
        stand =
            numbered_each (λ n place. stand_at n (with_full len k place) ≡ stand_at n place) refl
            refl
            (λ offset info. refl) (λ n o offset info. refl) b w.place fits;
      }

module _ {T M : Type 0} (mine : Role → Bool) (keeps : Keeps mine) (b : Option ℕ)
    (w : PartsView T M) (fits : is_numbered b w.place ≡ true) (is : mine w.role ≡ true) where
  -- both
  roomed-with : (r : Room) (items : List T)
      → Became b w fits mine (with_more items (with_room r w))
      (with_more items (with_room r (row_of (writer_slot w b))))
  roomed-with r items =
      let one = roomed mine keeps b w fits is r in
      let two = filled-with mine keeps b (with_room r w) one.numbers one.writes items in
      record {
        numbers = two.numbers;
        writes = two.writes;
        row_is = two.row_is ∙ ap (with_more items) one.row_is;
        stand = two.stand ∙ one.stand;
      }

  -- the window stays
  pub unchanged : (v : PartsView T M) (found : Bool) → (found ≡ false) × (v ≡ w)
      → ((found ≡ false) × (row_of (writer_slot v b) ≡ row_of (writer_slot w b)))
      × (is_numbered b v.place ≡ true) × (mine v.role ≡ true)
      × (stand_at b v.place ≡ stand_at b w.place) × (found ≡ false → v ≡ w)
  unchanged v found did = (
    (did.0, ap (λ u. row_of (writer_slot u b)) did.1),
    ap (λ (u : PartsView T M). is_numbered b u.place) did.1 ∙ fits,
    ap (λ (u : PartsView T M). mine u.role) did.1 ∙ is,
    ap (λ (u : PartsView T M). stand_at b u.place) did.1,
    λ none. did.1,
  )

  -- or has the room
  became : (r : Room) (v : PartsView T M) (found : Bool) → (found ≡ true) × (v ≡ with_room r w)
      → ((found ≡ true)
      × (row_of (writer_slot v b) ≡ with_room r (row_of (writer_slot w b))))
      × (is_numbered b v.place ≡ true) × (mine v.role ≡ true)
      × (stand_at b v.place ≡ stand_at b w.place) × (found ≡ false → v ≡ w)
  became r v found did =
      let now = roomed mine keeps b w fits is r in (
        (did.0, ap (λ u. row_of (writer_slot u b)) did.1 ∙ now.row_is),
        ap (λ (u : PartsView T M). is_numbered b u.place) did.1 ∙ now.numbers,
        ap (λ (u : PartsView T M). mine u.role) did.1 ∙ now.writes,
        ap (λ (u : PartsView T M). stand_at b u.place) did.1 ∙ now.stand,
        λ none. absurd (false≢true (sym none ∙ did.0)),
      )

  -- or has it already
  stays-as : (v : PartsView T M) (found : Bool) → (found ≡ true) × (v ≡ w)
      → ((found ≡ true) × (row_of (writer_slot v b) ≡ row_of (writer_slot w b)))
      × (is_numbered b v.place ≡ true) × (mine v.role ≡ true)
      × (stand_at b v.place ≡ stand_at b w.place) × (found ≡ false → v ≡ w)
  stays-as v found did = (
    (did.0, ap (λ u. row_of (writer_slot u b)) did.1),
    ap (λ (u : PartsView T M). is_numbered b u.place) did.1 ∙ fits,
    ap (λ (u : PartsView T M). mine u.role) did.1 ∙ is,
    ap (λ (u : PartsView T M). stand_at b u.place) did.1,
    λ none. did.1,
  )

  -- room without memory
  pub reclaims : (r : Room) (v : PartsView T M) (found : Bool) → Reclaims r w v found
      → Reclaims r (row_of (writer_slot w b)) (row_of (writer_slot v b)) found
      × (is_numbered b v.place ≡ true) × (mine v.role ≡ true)
      × (stand_at b v.place ≡ stand_at b w.place) × (found ≡ false → v ≡ w)
  reclaims (Fresh n) v found did = unchanged v found did
  reclaims (Growth n) v found did = unchanged v found did
  reclaims (Own n) v found did = unchanged v found did
  reclaims (Refused e) v found did = unchanged v found did
  reclaims Spare v found did = stays-as v found did
  reclaims Behind v found did = became Behind v found did
  reclaims Front v found did = became Front v found did

module _ {T M : Type 0} (b : Option ℕ) (w : PartsView T M) (fits : is_numbered b w.place ≡ true)
    (sole : is_sole w.role ≡ true) where
  module _ (drops : Bool) (first size k : ℕ) (items : List T) (passes left : List (Pass Whole))
      (p q : Pass Whole) (took : TakenOut passes b p left) where
    -- the slot's facts
    abbrev Fitting : PartsView T M → Option ℕ → Type 0
    Fitting v n = (is_numbered n v.place ≡ true) × (is_sole v.role ≡ true)

    stayed : (x : Room) (v : PartsView T M) (n : Option ℕ) (passes' : List (Pass Whole))
        → v ≡ with_more items (with_room x w) → n ≡ b → passes' ≡ put_back left b q → q ≡ p
        → ((◌≡◌ {A = Result (Unit {0}) TryReserveError} (Ok tt) (Ok tt))
        × (row_of (writer_slot v n) ≡ with_more items (with_room x (row_of (writer_slot w b))))
        × (stand_of (Some (writer_slot v n)) ≡ stand_of (Some (writer_slot w b)))
        × (passes' ≡ passes)) × Fitting v n
    stayed x v n passes' made same back none =
        let now = roomed-with is_sole keeps-sole b w fits sole x items in (
          (
            refl,
            ap (λ u. row_of (writer_slot u n)) made
                ∙ ap (λ m. row_of (writer_slot (with_more items (with_room x w)) m)) same
                ∙ now.row_is,
            ap (λ (u : PartsView T M). stand_at n u.place) made
                ∙ ap (λ m. stand_at m (with_more items (with_room x w)).place) same ∙ now.stand,
            back ∙ back-same passes left p b took q none,
          ),
          (
            ap (λ (u : PartsView T M). is_numbered n u.place) made
                ∙ ap (λ m. is_numbered m (with_more items (with_room x w)).place) same
                ∙ now.numbers,
            ap (λ (u : PartsView T M). is_sole u.role) made ∙ now.writes,
          ),
        )

    -- room was made, and the items stand behind the others
    pub fills : (x : Room) → x ≡ room drops first size w k → (v : PartsView T M) (n : Option ℕ)
        (passes' : List (Pass Whole)) → Pushes drops true x items w v p q
        → (is_fresh x ≡ false → (n ≡ b) × (passes' ≡ put_back left b q))
        → (is_fresh x ≡ true → (n ≡ Some (length left)) × (passes' ≡ left ++ q ∷ []))
        → Fills drops x items (writer_slot w b) (writer_slot v n) passes passes' (Ok tt)
        × Fitting v n
    fills (Fresh places) is v n passes' pushed same new =
        let m = pushed.1 in
        let u : PartsView T M =
        with_more items (new_writer drops (Some m.owner) [] places) in
        let made : v ≡ u = pushed.2 ∙ ap (with_more items) m.made in
        let none = none-fresh b w fits drops first size k (ap is_fresh (sym is)) in
        let all : left ≡ passes = (subst (λ c. TakenOut passes c p left) none took).1 in
        let number : n ≡ Some (length passes) =
        (new refl).0 ∙ ap (λ (ps : List (Pass Whole)). Some (length ps)) all in
        let after : passes' ≡ passes ++ q ∷ [] =
        (new refl).1 ∙ ap (λ ps. ps ++ q ∷ []) all in
        let base : Fills drops (Fresh places) items (writer_slot w b)
        (writer_slot u (Some (length passes))) passes (passes ++ q ∷ []) (Ok tt)
        × Fitting u (Some (length passes)) =
        ((refl, (refl, m.first, q, m.pass, refl)), (refl, refl)) in
        subst (λ x. Fills drops (Fresh places) items (writer_slot w b) (writer_slot x n) passes
        passes' (Ok tt) × Fitting x n) (sym made)
        (subst (λ c. Fills drops (Fresh places) items (writer_slot w b) (writer_slot u c) passes
        passes' (Ok tt) × Fitting u c) (sym number)
        (subst (λ ps. Fills drops (Fresh places) items (writer_slot w b)
        (writer_slot u (Some (length passes))) passes ps (Ok tt)
        × Fitting u (Some (length passes))) (sym after) base))
    fills (Refused e) is v n passes' pushed same new =
        let refused : ◌≡◌ {A = Result (Unit {0}) TryReserveError} (Ok tt) (Err e) = pushed.1.0 in
        absurd (cc)
    fills Spare is v n passes' pushed same new =
        stayed Spare v n passes' (pushed.2 ∙ ap (with_more items) pushed.1.1) (same refl).0
        (same refl).1 pushed.1.2
    fills Behind is v n passes' pushed same new =
        stayed Behind v n passes' (pushed.2 ∙ ap (with_more items) pushed.1.1) (same refl).0
        (same refl).1 pushed.1.2
    fills Front is v n passes' pushed same new =
        stayed Front v n passes' (pushed.2 ∙ ap (with_more items) pushed.1.1) (same refl).0
        (same refl).1 pushed.1.2
    fills (Own additional) is v n passes' pushed same new =
        let made = pushed.1 in
        let done =
        stayed (Growth made.0) v n passes' (pushed.2 ∙ ap (with_more items) made.2)
        (same refl).0 (same refl).1 made.3 in
        let enough =
        numbered_each (λ m place. offset_at (numbered m place) ≡ offset_at place) refl refl
        (λ offset info. refl) (λ m o offset info. refl) b w.place fits in (
          (
            made.0,
            subst (λ o. o + length w.items + additional ≤ made.0) (sym enough) made.1,
            done.0.1,
            done.0.2,
            done.0.3,
          ),
          done.1,
        )
    fills (Growth places) is v n passes' pushed same new =
        stayed (Growth places) v n passes' (pushed.2 ∙ ap (with_more items) pushed.1.1)
        (same refl).0 (same refl).1 pushed.1.2

    still : (v : PartsView T M) (passes' : List (Pass Whole)) → v ≡ w
        → passes' ≡ put_back left b q → q ≡ p
        → ((writer_slot v b ≡ writer_slot w b) × (passes' ≡ passes)) × Fitting v b
    still v passes' same back none = (
      (ap (λ u. writer_slot u b) same, back ∙ back-same passes left p b took q none),
      (
        ap (λ (u : PartsView T M). is_numbered b u.place) same ∙ fits,
        ap (λ (u : PartsView T M). is_sole u.role) same ∙ sole,
      ),
    )

    -- room was refused
    pub unfilled : (x : Room) (e : TryReserveError) (v : PartsView T M)
        (passes' : List (Pass Whole)) → MakesRoom drops true x w v p q (Err e)
        → passes' ≡ put_back left b q
        → Fills drops x items (writer_slot w b) (writer_slot v b) passes passes' (Err e)
        × Fitting v b
    unfilled (Fresh places) e v passes' made back =
        let same = still v passes' made.1 back made.2 in ((made.0, same.0), same.1)
    unfilled (Growth places) e v passes' made back =
        let same = still v passes' made.1 back made.2 in ((made.0, same.0), same.1)
    unfilled (Own additional) e v passes' made back =
        let same = still v passes' made.1 back made.2 in ((made.0, same.0), same.1)
    unfilled (Refused refusal) e v passes' made back =
        let same = still v passes' made.1 back made.2 in ((made.0, same.0), same.1)
    unfilled Spare e v passes' made back =
        let fine : ◌≡◌ {A = Result (Unit {0}) TryReserveError} (Err e) (Ok tt) = made.0 in
        absurd (cc)
    unfilled Behind e v passes' made back =
        let fine : ◌≡◌ {A = Result (Unit {0}) TryReserveError} (Err e) (Ok tt) = made.0 in
        absurd (cc)
    unfilled Front e v passes' made back =
        let fine : ◌≡◌ {A = Result (Unit {0}) TryReserveError} (Err e) (Ok tt) = made.0 in
        absurd (cc)

-- whether a first block is wanted, by how many items are counted
pub fresh-by : {T M : Type 0} (drops : Bool) (size : ℕ) (row : Row T M) {n k : ℕ} {begins : Bool}
    → n ≡ k → begins ≡ is_fresh (room_for drops size row n)
    → begins ≡ is_fresh (room_for drops size row k)
fresh-by drops size row counted is =
    is ∙ ap (λ m. is_fresh (room_for drops size row m)) counted

-- a slot's window was filled, or wasn't, and so is the slot with this window, on a block of this
-- number, whose only writer has it
pub record SlotFills {T M : Type 0} (drops : Bool) (size k : ℕ) (items : List T) (s : SlotView T M)
    (v : PartsView T M) (n : Option ℕ) (before after : List (Pass Whole))
    (answer : Result (Unit {0}) TryReserveError) : Type 0 where
  pub fills : Fills drops (room_for drops size (row_of s) k) items s (writer_slot v n) before after
      answer
  pub fits : is_numbered n v.place ≡ true
  pub writes : is_sole v.role ≡ true

-- or it was to have room without memory
pub record SlotReclaims {T M : Type 0} (drops : Bool) (size k : ℕ) (b : Option ℕ)
    (s : SlotView T M) (v : PartsView T M) (found : Bool) : Type 0 where
  pub row : Reclaims (room_for drops size (row_of s) k) (row_of s) (row_of (writer_slot v b)) found
  pub fits : is_numbered b v.place ≡ true
  pub writes : is_sole v.role ≡ true
  pub stand : stand_of (Some (writer_slot v b)) ≡ stand_of (Some s)
  pub kept : found ≡ false → writer_slot v b ≡ s

-- the same of a slot, whose window is written
module _ {T M K : Type 0} (small : K → PartsView T M) (h : AnyWindow T M K) (w : PartsView T M)
    (b : Option ℕ) (is : h ≡ Write w) (s : SlotView T M) (view : held small h b ≡ s)
    (fact : (is_numbered b (window_in small h).place ≡ true) × (role_fits h ≡ true)) where
  seen : writer_slot w b ≡ s
  seen = sym (held-as h (Write w) is small b) ∙ view

  fit : is_numbered b w.place ≡ true
  fit = fits-as h (Write w) is small b fact.0

  writer : is_sole w.role ≡ true
  writer = role-as h (Write w) is fact.1

  module _ (drops : Bool) (size k : ℕ) where
    abbrev first : ℕ
    first = if size == 1 then 8 else 4

    room-seen : room drops first size w k ≡ room drops first size (row_of s) k
    room-seen =
        sym (room-same b w fit drops first size k)
        ∙ ap (λ t. room drops first size (row_of t) k) seen

    pub slot-reclaims : (v : PartsView T M) (found : Bool)
        → Reclaims (room drops first size w k) w v found
        → SlotReclaims drops size k b s v found
    slot-reclaims v found did =
        let all = reclaims is_sole keeps-sole b w fit writer (room drops first size w k) v found
        did in
        record {
          row =
              subst (λ t. Reclaims (room drops first size (row_of s) k) (row_of t)
              (row_of (writer_slot v b)) found) seen
              (subst (λ r. Reclaims r (row_of (writer_slot w b)) (row_of (writer_slot v b)) found)
              room-seen all.0);
          fits = all.1;
          writes = all.2;
          stand =
              subst (λ t. stand_of (Some (writer_slot v b)) ≡ stand_of (Some t)) seen all.3;
          kept = λ none. ap (λ u. writer_slot u b) (all.4 none) ∙ seen;
        }

    module _ (items : List T) (passes left : List (Pass Whole)) (p q : Pass Whole)
        (took : TakenOut passes b p left) where
      -- there is room for a first block's pass, also where one was taken out
      pub room-for-pass : (m : ℕ) → (is_fresh (room drops first size (row_of s) k) ≡ true
          → length passes < m) → is_fresh (room drops first size (row_of s) k) ≡ true
          → length left < m
      room-for-pass m room fresh =
          let none =
          none-fresh b w fit drops first size k (ap is_fresh room-seen ∙ fresh) in
          let all : left ≡ passes = (subst (λ c. TakenOut passes c p left) none took).1 in
          subst (λ (ps : List (Pass Whole)). length ps < m) (sym all) (room fresh)

      as-seen : (v : PartsView T M) (n : Option ℕ) (passes' : List (Pass Whole))
          (answer : Result (Unit {0}) TryReserveError)
          → Fills drops (room drops first size w k) items (writer_slot w b) (writer_slot v n) passes
          passes' answer
          → (is_numbered n v.place ≡ true) × (is_sole v.role ≡ true)
          → SlotFills drops size k items s v n passes passes' answer
      as-seen v n passes' answer did so = record {
        fills =
            subst (λ t. Fills drops (room drops first size (row_of s) k) items t (writer_slot v n)
            passes passes' answer) seen
            (subst (λ r. Fills drops r items (writer_slot w b) (writer_slot v n) passes passes'
            answer) room-seen did);
        fits = so.0;
        writes = so.1;
      }

      pub slot-fills : (v : PartsView T M) (n : Option ℕ) (passes' : List (Pass Whole))
          → Pushes drops true (room drops first size w k) items w v p q
          → (is_fresh (room drops first size (row_of s) k) ≡ false
          → (n ≡ b) × (passes' ≡ put_back left b q))
          → (is_fresh (room drops first size (row_of s) k) ≡ true
          → (n ≡ Some (length left)) × (passes' ≡ left ++ q ∷ []))
          → SlotFills drops size k items s v n passes passes' (Ok tt)
      slot-fills v n passes' pushed same new =
          let all =
          fills b w fit writer drops first size k items passes left p q took
          (room drops first size w k) refl v n passes' pushed
          (λ old. same (sym (ap is_fresh room-seen) ∙ old))
          (λ fresh. new (sym (ap is_fresh room-seen) ∙ fresh)) in
          as-seen v n passes' (Ok tt) all.0 all.1

      pub slot-unfilled : (e : TryReserveError) (v : PartsView T M) (passes' : List (Pass Whole))
          → MakesRoom drops true (room drops first size w k) w v p q (Err e)
          → passes' ≡ put_back left b q
          → SlotFills drops size k items s v b passes passes' (Err e)
      slot-unfilled e v passes' made back =
          let all =
          unfilled b w fit writer drops first size k items passes left p q took
          (room drops first size w k) e v passes' made back in
          as-seen v b passes' (Err e) all.0 all.1

-- ---- where a first block is made

-- a window of the table on no block has no stand
pub fresh-stands : {T M : Type 0} (drops : Bool) (first size : ℕ) (s : SlotView T M) (k : ℕ)
    → is_fresh (room drops first size (row_of s) k) ≡ true → stand_of (Some s) ≡ None
fresh-stands {T} {M} drops first size s k =
    either (not (nat_lt (capacity_of (row_of s).role - length s.window.items) k))
  where
    on-none : (b : Option ℕ) (place : At M) (len : ℕ)
        → is_fresh (room_at drops first size (numbered b place) len k) ≡ true
        → stand_at b place ≡ None
    on-none b nowhere len fresh = refl
    on-none b static_data len fresh = refl
    on-none b (on_block None offset info) len fresh = refl
    on-none None (on_block (Some o) offset info) len fresh = refl
    on-none (Some n) (on_block (Some o) offset info) len fresh =
        absurd (false≢true (sym (fresh-in drops size info offset len k) ∙ fresh))

    either : (x : Bool) → is_fresh (if x then Spare else
        room_at drops first size (row_of s).place (length s.window.items) k) ≡ true
        → stand_of (Some s) ≡ None
    either true fresh = absurd (false≢true fresh)
    either false fresh = on-none s.block s.window.place (length s.window.items) fresh
