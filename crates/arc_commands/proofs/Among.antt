-- Rows of several writers lie within their blocks: those that turn, are split and joined, move to
-- another block and get room.
use Rattle.std.proofs.Common.{◌≡◌, ℕ, ◌+◌, ◌-◌, ◌≤◌, ◌==◌, not, Bool, true, false}
use Rattle.std.proofs.Common.{if◌then◌else◌, List, length, take, drop, ◌++◌, Option, Some, None}
use Rattle.std.proofs.Common.{is_some, refl, sym, ◌∙◌, subst, arith}
use Rattle.std.specs.Prelude.{nat_lt}
use Rattle.std.specs.Option.{option_map_or}
use Rattle.std.proofs.lemmas.Bool.{and_parts, eqb-true, false≢true, ltb-false}
use Rattle.std.proofs.lemmas.List.{length-append, length-drop, length-take}
use Rattle.arc_block.specs.Block.{Sort, native, vector, buffer, raw, BlockInfo, IsMemory}
use Rattle.arc_block.specs.Block.{memory_info}
use Rattle.arc_block.specs.Place.{Place, nowhere, static_data, on_block, moved}
use Rattle.arc_parts.specs.Shared.{as_shared, as_unique, can_join, ends_at, extended, front_of}
use Rattle.arc_parts.specs.Shared.{joined_row, on_native}
use Rattle.arc_block.specs.Table.{Row, Role, one_writer_of_several}
use Rattle.arc_parts.specs.Writers.{after_advance, capacity_of, room, room_at, with_capacity}
use Rattle.arc_parts.specs.Writers.{with_room}
use Rattle.arc_parts.specs.declared.room.Room.{Room}
use Rattle.arc_parts.specs.declared.room.Room.TheVariants.{Spare, Fresh, Behind, Front}
use Rattle.arc_parts.specs.declared.room.Room.TheVariants.{Growth, Own, Refused}
use Rattle.arc_parts.specs.Room.{room_in}
use Rattle.arc_commands.specs.Blocks.{is_several, is_small, is_sole}
use Rattle.arc_commands.specs.Fits.{FitsBeside, HasPlaces, HasSharedPlaces, LieWithin, RowFits}
use Rattle.arc_commands.specs.Fits.{counts_full}
use Rattle.arc_commands.specs.Several.{can_share, is_memory}
use Rattle.arc_commands.proofs.Fits.{among-moved, counted}
use Rattle.arc_commands.proofs.FitsRoom.{IsMade, Tells, room-tells}
use Rattle.arc_commands.proofs.Parts.{KeepsFit}
use Rattle.arc_commands.proofs.Roles.{several-is, several-small, several-with, sole_each}

-- memory of ours is counted only where items are dropped one by one
uncounted : (sort : Sort) → IsMemory sort → counts_full false sort ≡ false
uncounted native memory = refl
uncounted vector memory = refl
uncounted (buffer writable) memory = absurd memory
uncounted raw memory = absurd memory

memory-is : (sort : Sort) → is_memory sort ≡ true → IsMemory sort
memory-is native is = tt
memory-is vector is = tt
memory-is (buffer writable) is = absurd (false≢true is)
memory-is raw is = absurd (false≢true is)

none-full : (full : Option ℕ) (size : ℕ) → is_some full ≡ false
    → option_map_or (λ f. f) full size ≡ size
none-full None size none = refl
none-full (Some f) size none = absurd (false≢true (sym none))

module _ {M : Type 0} where
  -- a block says how many of its places are full exactly where it counts them
  abbrev pub IsCountedAs : Bool → Place (Option ℕ) M → Type 0
  IsCountedAs drops nowhere = Unit {0}
  IsCountedAs drops static_data = Unit {0}
  IsCountedAs drops (on_block block offset info) = is_some info.full ≡ counts_full drops info.sort

  counted-at : (drops small : Bool) (place : Place (Option ℕ) M) (len : ℕ)
      → LieWithin drops small place len → IsCountedAs drops place
  counted-at drops small nowhere len w = tt
  counted-at drops small static_data len w = tt
  counted-at drops small (on_block block offset info) len w = w.0

  counted-moved : (drops : Bool) (place : Place (Option ℕ) M) (by : ℕ) → IsCountedAs drops place
      → IsCountedAs drops (moved by place)
  counted-moved drops nowhere by c = tt
  counted-moved drops static_data by c = tt
  counted-moved drops (on_block block offset info) by c = c

  -- what has places for so many items has them within its block
  lies-among : (place : Place (Option ℕ) M) (len places : ℕ) → HasSharedPlaces place places
      → IsCountedAs false place → len ≤ places → LieWithin false false place len
  lies-among nowhere len places has c less = λ large. omega (arith, has, less)
  lies-among static_data len places has c less = absurd has
  lies-among (on_block None offset info) len places has c less = absurd has
  lies-among (on_block (Some block) offset info) len places has c less =
      let full : option_map_or (λ f. f) info.full info.size ≡ info.size =
      none-full info.full info.size (c ∙ uncounted info.sort has.0) in
      (c, omega (arith, full, has.1, less), omega (arith, full))

  -- the first of its places
  fewer-places : (place : Place (Option ℕ) M) (many few : ℕ) → few ≤ many
      → HasSharedPlaces place many → HasSharedPlaces place few
  fewer-places nowhere many few less has = omega (arith, has, less)
  fewer-places static_data many few less has = absurd has
  fewer-places (on_block None offset info) many few less has = absurd has
  fewer-places (on_block (Some block) offset info) many few less has =
      (has.0, omega (arith, has.1, less))

  -- as the only writer
  unique-places : (place : Place (Option ℕ) M) (len places : ℕ) → HasSharedPlaces place places
      → len ≤ places → HasPlaces false place len places
  unique-places nowhere len places has less = has
  unique-places static_data len places has less = absurd has
  unique-places (on_block None offset info) len places has less = absurd has
  unique-places (on_block (Some block) offset info) len places has less = (less, has.1)

  -- two rows stand on one block, which has as many places for both
  abbrev pub IsOneSize : Place (Option ℕ) M → Place (Option ℕ) M → Type 0
  IsOneSize (on_block (Some one) offset info) (on_block (Some other) there its) =
      info.size ≡ its.size
  IsOneSize here there = Unit {0}

  joined-places : (here there : Place (Option ℕ) M) (few more : ℕ) → IsOneSize here there
      → ends_at few here there ≡ true → HasSharedPlaces here few → HasSharedPlaces there more
      → HasSharedPlaces here (few + more)
  joined-places nowhere nowhere few more same ends one other = omega (arith, one, other)
  joined-places nowhere static_data few more same ends one other = absurd other
  joined-places nowhere (on_block c p k) few more same ends one other = absurd (false≢true ends)
  joined-places static_data there few more same ends one other = absurd one
  joined-places (on_block None o i) there few more same ends one other = absurd one
  joined-places (on_block (Some b) o i) nowhere few more same ends one other =
      absurd (false≢true ends)
  joined-places (on_block (Some b) o i) static_data few more same ends one other = absurd other
  joined-places (on_block (Some b) o i) (on_block None p k) few more same ends one other =
      absurd other
  joined-places (on_block (Some b) o i) (on_block (Some c) p k) few more same ends one other =
      let begins : o + few ≡ p = eqb-true (o + few) p ends in
      (one.0, omega (arith, begins, same, other.1))

-- ---- rows

module _ {T M : Type 0} where
  -- one of several with so many places
  pub among-fits : (drops : Bool) (items : List T) (place : Place (Option ℕ) M) (places : ℕ)
      → drops ≡ false → HasSharedPlaces place places → IsCountedAs drops place
      → length items ≤ places
      → RowFits drops (record {
        items = items;
        place = place;
        role = one_writer_of_several places;
      })
  among-fits true items place places kept has c less = absurd (false≢true (sym kept))
  among-fits false items place places kept has c less = record {
    within = lies-among place (length items) places has c less;
    writer = λ sole. absurd (false≢true sole);
    shared = λ several. record { kept = refl; places = has; room = less };
  }

  among-with : (drops : Bool) (items : List T) (place : Place (Option ℕ) M) (role : Role)
      (places : ℕ) → is_several role ≡ true → drops ≡ false → HasSharedPlaces place places
      → IsCountedAs drops place → length items ≤ places
      → RowFits drops (record { items = items; place = place; role = with_capacity role places })
  among-with drops items place role places several kept has c less =
      subst (λ r. RowFits drops (record { items = items; place = place; role = r }))
      (sym (several-with role places several)) (among-fits drops items place places kept has c less)

  among-as : (drops : Bool) (items : List T) (place : Place (Option ℕ) M) (role : Role)
      → is_several role ≡ true → drops ≡ false → HasSharedPlaces place (capacity_of role)
      → IsCountedAs drops place → length items ≤ capacity_of role
      → RowFits drops (record { items = items; place = place; role = role })
  among-as drops items place role several kept has c less =
      subst (λ r. RowFits drops (record { items = items; place = place; role = r }))
      (sym (several-is role several))
      (among-fits drops items place (capacity_of role) kept has c less)

  module _ (drops : Bool) (row : Row T M) (several : is_several row.role ≡ true) where
    counted-here : RowFits drops row → IsCountedAs drops row.place
    counted-here f = counted-at drops (is_small row.role) row.place (length row.items) f.within

    -- ---- splits

    pub front-fits : (at : ℕ) → (RowFits drops row → at ≤ capacity_of row.role)
        → KeepsFit drops row (front_of at row)
    front-fits at within f =
        let b = f.shared several in
        let long = length-take at row.items in
        among-with drops (take at row.items) row.place row.role at several b.kept
        (fewer-places row.place (capacity_of row.role) at (within f) b.places) (counted-here f)
        (omega (arith, long))

    pub back-fits : (at : ℕ) → (RowFits drops row → at ≤ capacity_of row.role)
        → KeepsFit drops row (after_advance at row)
    back-fits at within f =
        let b = f.shared several in
        let long = length-drop at row.items in
        among-with drops (drop at row.items) (moved at row.place) row.role
        (capacity_of row.role - at) several b.kept
        (among-moved row.place at (capacity_of row.role) (within f) b.places)
        (counted-moved drops row.place at (counted-here f)) (omega (arith, long, b.room))

    -- moved to the front of a native block with as many places
    pub native-fits : (block : ℕ) → KeepsFit drops row (on_native drops (Some block) row)
    native-fits block f =
        let b = f.shared several in
        let info : BlockInfo M =
        memory_info native drops (capacity_of row.role) (length row.items) in
        among-as drops row.items (on_block (Some block) 0 info) row.role several b.kept
        (tt, omega arith) (counted drops (length row.items)) b.room

    -- ---- roles

    pub unique-fits : KeepsFit drops row (as_unique row)
    unique-fits f =
        let b = f.shared several in
        record {
          within =
              subst (λ s. LieWithin drops s row.place (length row.items))
              (several-small row.role several) f.within;
          writer = λ sole.
              subst (λ d. HasPlaces d row.place (length row.items) (capacity_of row.role))
              (sym b.kept)
              (unique-places row.place (length row.items) (capacity_of row.role) b.places b.room);
          shared = λ both. absurd (false≢true both);
        }

    -- ---- items behind the others, where there are places for them

    pub extended-fits : (items : List T)
        → (RowFits drops row → length row.items + length items ≤ capacity_of row.role)
        → KeepsFit drops row (extended items row)
    extended-fits items within f =
        let b = f.shared several in
        let long = length-append row.items items in
        among-as drops (row.items ++ items) row.place row.role several b.kept b.places
        (counted-here f) (omega (arith, long, within f))

    -- ---- a join

    pub joined-fits : (other : Row T M) → is_several other.role ≡ true → RowFits drops other
        → IsOneSize row.place other.place → can_join row other ≡ true
        → KeepsFit drops row (joined_row row other)
    joined-fits other also its same can f =
        let b = f.shared several in
        let c = its.shared also in
        let long = length-append row.items other.items in
        let ends = (and_parts (length row.items == capacity_of row.role)
        (ends_at (capacity_of row.role) row.place other.place) can).1 in
        among-with drops (row.items ++ other.items) row.place row.role
        (capacity_of row.role + capacity_of other.role) several b.kept
        (joined-places row.place other.place (capacity_of row.role) (capacity_of other.role) same
        ends b.places c.places) (counted-here f) (omega (arith, long, b.room, c.room))

-- ---- a sole writer becomes one of several

module _ {T M : Type 0} where
  shared-at : (drops : Bool) (items : List T) (place : Place (Option ℕ) M) (places : ℕ)
      → can_share drops place ≡ true → LieWithin drops false place (length items)
      → HasPlaces drops place (length items) places
      → RowFits drops (record {
        items = items;
        place = place;
        role = one_writer_of_several places;
      })
  shared-at true items nowhere places can w has = absurd (false≢true can)
  shared-at true items static_data places can w has = absurd (false≢true can)
  shared-at true items (on_block None offset info) places can w has = absurd (false≢true can)
  shared-at true items (on_block (Some block) offset info) places can w has =
      absurd (false≢true can)
  shared-at false items nowhere places can w has =
      among-fits false items nowhere places refl has tt (omega (arith, w refl))
  shared-at false items static_data places can w has = absurd has
  shared-at false items (on_block None offset info) places can w has = absurd (false≢true can)
  shared-at false items (on_block (Some block) offset info) places can w has =
      among-fits false items (on_block (Some block) offset info) places refl
      (memory-is info.sort can, has.1) w.0 has.0

  pub shared-fits : (drops : Bool) (row : Row T M) → is_sole row.role ≡ true
      → can_share drops row.place ≡ true → KeepsFit drops row (as_shared row)
  shared-fits drops row sole can =
      sole_each (λ role. let r : Row T M = record row { role = role } in
      KeepsFit drops r (as_shared r))
      (λ places f. shared-at drops row.items row.place places can f.within (f.writer refl)) row.role
      sole

-- ---- room

module _ {T M : Type 0} (drops : Bool) (first size : ℕ) (old items : List T) (k : ℕ)
    (within : length items ≤ length old + k) where
  abbrev row-at : Place (Option ℕ) M → ℕ → Row T M
  row-at place places =
      record { items = old; place = place; role = one_writer_of_several places }

  -- the row with this room, and these items
  abbrev roomy : Room → Place (Option ℕ) M → ℕ → Row T M
  roomy r place places = record (with_room r (row-at place places)) { items = items }

  module _ (block offset places : ℕ) (info : BlockInfo M)
      (f : RowFits drops (row-at (on_block (Some block) offset info) places)) where
    beside : FitsBeside drops (row-at (on_block (Some block) offset info) places)
    beside = f.shared refl

    in-block : (r : Room) → Tells drops size info offset (length old) k r → IsMade r
        → RowFits drops (roomy r (on_block (Some block) offset info) places)
    in-block Spare tells made = absurd tells
    in-block (Fresh more) tells made = absurd made
    in-block (Own additional) tells made = absurd made
    in-block (Refused e) tells made = absurd made
    in-block Behind tells made =
        among-fits drops items (on_block (Some block) offset info) (info.size - offset) beside.kept
        (beside.places.0, omega (arith, beside.places.1)) f.within.0
        (omega (arith, within, tells.1, beside.places.1, beside.room))
    in-block Front tells made =
        among-fits drops items (on_block (Some block) 0 info) info.size beside.kept
        (beside.places.0, omega arith) f.within.0
        (omega (arith, within, tells.1, beside.places.1, beside.room))
    in-block (Growth more) tells made =
        among-fits drops items (on_block (Some block) offset (record info { size = more }))
        (more - offset) beside.kept (beside.places.0, omega (arith, tells.1)) f.within.0
        (omega (arith, within, tells.1))

  row-fits : (place : Place (Option ℕ) M) (places : ℕ) → RowFits drops (row-at place places)
      → (b : Bool) → nat_lt (places - length old) k ≡ b
      → IsMade (if not b then Spare else room_at drops first size place (length old) k)
      → RowFits drops (roomy (if not b then Spare else
      room_at drops first size place (length old) k) place places)
  row-fits place places f false is made =
      let b = f.shared refl in
      among-fits drops items place places b.kept b.places
      (counted-at drops false place (length old) f.within)
      (omega (arith, within, ltb-false (places - length old) k is, b.room))
  row-fits nowhere places f true is made = absurd made
  row-fits static_data places f true is made = absurd made
  row-fits (on_block None offset info) places f true is made = absurd (f.shared refl).places
  row-fits (on_block (Some block) offset info) places f true is made =
      in-block block offset places info f (room_in drops size info offset (length old) k)
      (room-tells drops size info offset (length old) k) made

-- One of several who has got room on his block, and has so many items then.
pub roomy-fits : {T M : Type 0} (drops : Bool) (first size : ℕ) (row : Row T M) (items : List T)
    (k : ℕ) → length items ≤ length row.items + k → is_several row.role ≡ true
    → IsMade (room drops first size row k)
    → KeepsFit drops row (record (with_room (room drops first size row k) row) { items = items })
roomy-fits {T} {M} drops first size row items k within several made f =
    subst (λ role. let r : Row T M = record row { role = role } in
    RowFits drops r → IsMade (room drops first size r k)
    → RowFits drops (record (with_room (room drops first size r k) r) { items = items }))
    (sym (several-is row.role several))
    (λ fits makes. row-fits drops first size row.items items k within row.place
    (capacity_of row.role) fits (nat_lt (capacity_of row.role - length row.items) k) refl makes) f
    made
