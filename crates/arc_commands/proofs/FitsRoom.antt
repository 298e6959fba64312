-- A writer that has got room, and items behind its others, still lies within its block and has the
-- places that are behind it.
use Rattle.std.proofs.Common.{inl, inr, ◌≡◌, ℕ, ◌+◌, ◌-◌, ◌≤◌, ◌<◌, ◌==◌, ◌&&◌, not, Bool, true}
use Rattle.std.proofs.Common.{false, if◌then◌else◌, List, [], ◌++◌, length, Option, Some, None}
use Rattle.std.proofs.Common.{is_some, refl, sym, ap, ◌∙◌, subst, arith}
use Rattle.std.specs.Prelude.{nat_lt, max, ◌*◌, ◌^◌}
use Rattle.std.specs.Option.{option_map, option_map_or}
use Rattle.std.proofs.lemmas.Bool.{false≢true, not-true, not-false, ltb-true, ltb-false, eq-eqb}
use Rattle.std.proofs.lemmas.Bool.{eqb-true, and_parts}
use Rattle.std.proofs.lemmas.List.{length-append}
use Rattle.arc_owners.specs.declared.error.TryReserveError.{TryReserveError}
use Rattle.arc_owners.specs.declared.error.TryReserveError.TheVariants.{AllocError, Unsupported}
use Rattle.arc_owners.specs.declared.error.TryReserveError.TheVariants.{CapacityOverflow}
use Rattle.arc_block.specs.Block.{Sort, native, BlockInfo, full_places, vector, buffer, raw}
use Rattle.arc_block.specs.Place.{Place, nowhere, static_data, on_block}
use Rattle.arc_parts.specs.Room.{ends_full, growth, room_in}
use Rattle.arc_parts.specs.Shared.{asks_alone, is_on_block}
use Rattle.arc_block.specs.Table.{Row, sole_writer}
use Rattle.arc_parts.specs.Writers.{capacity_of, room, room_at, with_room, with_more, with_full}
use Rattle.arc_parts.specs.Writers.{new_writer}
use Rattle.arc_block.specs.Place.{offset_at}
use Rattle.arc_parts.specs.declared.room.Room.{Room}
use Rattle.arc_parts.specs.declared.room.Room.TheVariants.{Spare, Fresh, Behind, Front}
use Rattle.arc_parts.specs.declared.room.Room.TheVariants.{Growth, Own, Refused}
use Rattle.arc_parts.proofs.More.{more_none}
use Rattle.arc_commands.specs.Blocks.{is_sole}
use Rattle.arc_commands.specs.Fits.{EndsAt, LieWithin, HasPlaces, RowFits, counts_full}
use Rattle.arc_commands.proofs.Fits.{counted-owned}
use Rattle.arc_commands.proofs.Roles.{sole_each}
use Rattle.arc_commands.proofs.Lists.{none-of, none-or-some}

-- what isn't both isn't the second where it is the first
ends-so : (d e : Bool) → (d && not e) ≡ false → d ≡ true → e ≡ true
ends-so true true off is = refl
ends-so true false off is = absurd (false≢true (sym off))
ends-so false e off is = absurd (false≢true is)

-- what room in a block says of the block
module _ {M : Type 0} (drops : Bool) (size : ℕ) (info : BlockInfo M) (offset len k : ℕ) where
  abbrev Ends : Type 0
  Ends = drops ≡ true → ends_full info (offset + len) ≡ true

  -- the block has no more places than are wanted
  abbrev Lacking : Type 0
  Lacking = info.size ≤ offset + len + k

  abbrev pub Tells : Room → Type 0
  Tells Spare = ⊥
  Tells (Fresh places) = ⊥
  Tells Behind = Ends × (k ≤ info.size - offset - len)
  Tells Front = (drops ≡ false) × (k ≤ info.size - len)
  Tells (Growth places) = Ends × (offset + len + k ≤ places) × Lacking
  Tells (Own additional) = Ends × (additional ≡ k) × Lacking
  Tells (Refused e) = Unit {0}

  grown : (b : Bool) (places : ℕ) → Ends → offset + len + k ≤ places → Lacking
      → Tells (if b then Refused CapacityOverflow else Growth places)
  grown true places ends enough lacks = tt
  grown false places ends enough lacks = (ends, enough, lacks)

  larger : (b : Bool) → offset + len + k
      ≤ (if b then max (2 * info.size) (offset + len + k) else offset + len + k)
  larger true = omega arith
  larger false = omega arith

  -- of a vector it may be what is needed alone
  grown-vector : (a b : Bool) (places : ℕ) → Ends → offset + len + k ≤ places → Lacking
      → Tells (if a then Refused CapacityOverflow else
      Growth (if b then offset + len + k else places))
  grown-vector true b places ends enough lacks = tt
  grown-vector false true places ends enough lacks = (ends, omega arith, lacks)
  grown-vector false false places ends enough lacks = (ends, enough, lacks)

  growth-tells : (sort : Sort) → Ends → Lacking
      → Tells (growth sort size info.size (offset + len) k)
  growth-tells native ends lacks =
      grown _ _ ends (larger (nat_lt (2 * info.size) (2 ^ 64))) lacks
  growth-tells vector ends lacks =
      grown-vector _ _ _ ends (larger (nat_lt (2 * info.size) (2 ^ 64))) lacks
  growth-tells (buffer writable) ends lacks = (ends, refl, lacks)
  growth-tells raw ends lacks = tt

  third : Ends → Lacking → (b : Bool)
      → b ≡ (not drops && not (nat_lt offset len) && not (nat_lt (info.size - len) k))
      → Tells (if b then Front else growth info.sort size info.size (offset + len) k)
  third ends lacks true is =
      let both = and_parts (not drops && not (nat_lt offset len)) (not (nat_lt (info.size - len) k))
      (sym is) in
      let first = and_parts (not drops) (not (nat_lt offset len)) both.0 in
      (not-true drops first.0, ltb-false (info.size - len) k (not-true _ both.1))
  third ends lacks false is = growth-tells info.sort ends lacks

  second : Ends → (b : Bool) → b ≡ not (nat_lt (info.size - offset - len) k)
      → Tells (if b then Behind else
      if not drops && not (nat_lt offset len) && not (nat_lt (info.size - len) k) then Front else
      growth info.sort size info.size (offset + len) k)
  second ends true is = (ends, ltb-false (info.size - offset - len) k (not-true _ (sym is)))
  second ends false is =
      let few : info.size - offset - len < k =
      ltb-true (info.size - offset - len) k (not-false _ (sym is)) in
      third ends (omega (arith, few)) _ refl

  first : (b : Bool) → b ≡ (drops && not (ends_full info (offset + len)))
      → Tells (if b then Refused Unsupported else
      if not (nat_lt (info.size - offset - len) k) then Behind else
      if not drops && not (nat_lt offset len) && not (nat_lt (info.size - len) k) then Front else
      growth info.sort size info.size (offset + len) k)
  first true is = tt
  first false is = second (ends-so drops (ends_full info (offset + len)) (sym is)) _ refl

  pub room-tells : Tells (room_in drops size info offset len k)
  room-tells = first _ refl

-- So many items, and then so many more, for which there are places, where they end where the full
-- places do if items are dropped one by one.
block-fits : {M : Type 0} (drops : Bool) (sort : Sort) (full : Option ℕ) (meta : Option M)
    (block : Option ℕ) (offset len more places : ℕ) → is_some full ≡ counts_full drops sort
    → offset + len + more ≤ places → offset + len ≤ option_map_or (λ f. f) full places
    → option_map_or (λ f. f) full places ≤ places
    → (drops ≡ true → option_map_or (λ f. offset + len == f) full true ≡ true)
    → let place : Place (Option ℕ) M = on_block block offset (record {
      sort = sort;
      size = places;
      full = option_map (λ f. f + (more - (f - (offset + len)))) full;
      given = meta;
    }) in
    LieWithin drops false place (len + more) × HasPlaces drops place (len + more) (places - offset)
block-fits false sort None meta block offset len more places counted fits within ordered ends =
    ((counted, omega (arith, fits), omega arith), (omega (arith, fits), omega (arith, fits)))
block-fits true sort None meta block offset len more places counted fits within ordered ends =
    absurd (false≢true (counted ∙ counted-owned sort))
block-fits false sort (Some f) meta block offset len more places counted fits within ordered
    ends = (
      (counted, omega (arith, within), omega (arith, fits, within, ordered)),
      (omega (arith, fits), omega (arith, fits)),
    )
block-fits true sort (Some f) meta block offset len more places counted fits within ordered ends =
    let at : offset + len ≡ f = eqb-true (offset + len) f (ends refl) in
    let full = f + (more - (f - (offset + len))) in
    let last : (offset + (len + more) == full) ≡ true =
    eq-eqb (offset + (len + more)) full (omega (arith, at)) in (
      (counted, omega (arith, at), omega (arith, at, fits)),
      sym (ap (λ b. if not b then len + more else places - offset) last),
    )

-- So it is where a sole writer has so many places, though the block may have more of them.
module _ {M : Type 0} (block : Option ℕ) (offset len more places : ℕ) (info : BlockInfo M) where
  spare-owned : (b : Bool) → not (ends_full info (offset + len)) ≡ b
      → LieWithin true false (on_block block offset info) len
      → places ≡ (if b then len else info.size - offset) → len + more ≤ places → 1 ≤ more
      → LieWithin true false (with_full len more (on_block block offset info)) (len + more)
      × HasPlaces true (with_full len more (on_block block offset info)) (len + more) places
  spare-owned true is w has fits some = absurd (omega (arith, has, fits, some))
  spare-owned false is w has fits some =
      let all =
      block-fits true info.sort info.full info.given block offset len more info.size w.0
      (omega (arith, has, fits, some)) w.1 w.2 (λ owned. not-not (ends_full info (offset + len)) is)
      in (
        all.0,
        subst (λ c. HasPlaces true (with_full len more (on_block block offset info)) (len + more) c)
            (sym has) all.1,
      )
    where
      not-not : (c : Bool) → not c ≡ false → c ≡ true
      not-not true is = refl
      not-not false is = absurd (false≢true (sym is))

  spare-block : (drops : Bool) → LieWithin drops false (on_block block offset info) len
      → EndsAt drops info offset len places → len + more ≤ places → 1 ≤ more
      → LieWithin drops false (with_full len more (on_block block offset info)) (len + more)
      × HasPlaces drops (with_full len more (on_block block offset info)) (len + more) places
  spare-block true w ends fits some =
      spare-owned (not (ends_full info (offset + len))) refl w ends fits some
  spare-block false w ends fits some =
      let all =
      block-fits false info.sort info.full info.given block offset len more info.size w.0
      (omega (arith, ends.1, fits)) w.1 w.2 (λ owned. absurd (false≢true owned)) in
      (all.0, (fits, ends.1))

-- full places that are counted within some are so within more, and what lies within them does
ends-within : (full : Option ℕ) (end size places : ℕ) → end ≤ option_map_or (λ f. f) full size
    → option_map_or (λ f. f) full size ≤ size → size ≤ places
    → (end ≤ option_map_or (λ f. f) full places) × (option_map_or (λ f. f) full places ≤ places)
ends-within None end size places within ordered more =
    (omega (arith, within, more), omega arith)
ends-within (Some f) end size places within ordered more =
    (within, omega (arith, ordered, more))

-- room was made on the row's own block
abbrev pub IsMade : Room → Type 0
IsMade (Fresh places) = ⊥
IsMade (Own additional) = ⊥
IsMade (Refused e) = ⊥
IsMade room = Unit {0}

module _ {T M : Type 0} (drops : Bool) (first size : ℕ) (old more : List T) (k : ℕ)
    (enough : length more ≤ k) where
  abbrev row-at : Place (Option ℕ) M → ℕ → Row T M
  row-at place places = record { items = old; place = place; role = sole_writer places }

  -- the row, of which is known how long it is
  fit : (place : Place (Option ℕ) M) (places : ℕ)
      → LieWithin drops false place ((length old) + (length more))
      → HasPlaces drops place ((length old) + (length more)) places
      → RowFits drops (record { items = old ++ more; place = place; role = sole_writer places })
  fit place places within has =
      let long : (length old) + (length more) ≡ length (old ++ more) = sym (length-append old more)
      in
      record {
        within = subst (λ l. LieWithin drops false place l) long within;
        writer = λ sole. subst (λ l. HasPlaces drops place l places) long has;
        shared = λ several. absurd (false≢true several);
      }

  module _ (place : Place (Option ℕ) M) (places : ℕ) (f : RowFits drops (row-at place places)) where
    -- nothing is written
    unwritten : more ≡ [] → RowFits drops (with_more more (row-at place places))
    unwritten none =
        subst (λ xs. RowFits drops (with_more xs (row-at place places))) (sym none)
        (subst (RowFits drops) (sym (more_none (row-at place places))) f)

  spare-more : (place : Place (Option ℕ) M) (places : ℕ) → RowFits drops (row-at place places)
      → nat_lt (places - (length old)) k ≡ false → 1 ≤ (length more)
      → RowFits drops (with_more more (row-at place places))
  spare-more nowhere places f spare some =
      let less : k ≤ places - (length old) = ltb-false (places - (length old)) k spare in
      let none : places ≡ 0 = f.writer refl in
      absurd (omega (arith, less, none, some, enough))
  spare-more static_data places f spare some = absurd (f.writer refl)
  spare-more (on_block block offset info) places f spare some =
      let less : k ≤ places - (length old) = ltb-false (places - (length old)) k spare in
      let all =
      spare-block block offset (length old) (length more) places info drops f.within
      (f.writer refl) (omega (arith, less, some, enough)) some in
      fit (with_full (length old) (length more) (on_block block offset info)) places all.0 all.1

  -- the places of the row are enough
  spare-fits : (place : Place (Option ℕ) M) (places : ℕ) → RowFits drops (row-at place places)
      → nat_lt (places - (length old)) k ≡ false
      → RowFits drops (with_more more (row-at place places))
  spare-fits place places f spare = elim (none-or-some (length more)) [
    | inl none ↦ unwritten place places f (none-of more none)
    | inr some ↦ spare-more place places f spare some
  ]

  -- in the block there is room
  module _ (block : Option ℕ) (offset places : ℕ) (info : BlockInfo M)
      (f : RowFits drops (row-at (on_block block offset info) places)) where
    abbrev here : Row T M
    here = row-at (on_block block offset info) places

    behind-fits : Tells drops size info offset (length old) k Behind
        → RowFits drops (with_more more (with_room Behind here))
    behind-fits tells =
        let less : k ≤ info.size - offset - (length old) = tells.1 in
        let all =
        block-fits drops info.sort info.full info.given block offset (length old)
        (length more) info.size f.within.0
        (omega (arith, less, enough, f.within.1, f.within.2)) (omega (arith, f.within.1))
        f.within.2 tells.0 in
        fit (with_full (length old) (length more) (on_block block offset info)) (info.size - offset)
        all.0 all.1

    front-fits : Tells drops size info offset (length old) k Front
        → RowFits drops (with_more more (with_room Front here))
    front-fits tells =
        let all =
        block-fits drops info.sort info.full info.given block 0 (length old) (length more)
        info.size f.within.0 (omega (arith, tells.1, enough, f.within.1, f.within.2))
        (omega (arith, f.within.1)) f.within.2
        (λ owned. absurd (false≢true (sym tells.0 ∙ owned))) in
        let whole : info.size - 0 ≡ info.size = omega arith in
        fit (with_full (length old) (length more) (on_block block 0 info)) info.size all.0
        (subst (λ c. HasPlaces drops (with_full (length old) (length more) (on_block block 0 info))
        ((length old) + (length more)) c) whole all.1)

    growth-fits : (made : ℕ) → Tells drops size info offset (length old) k (Growth made)
        → RowFits drops (with_more more (with_room (Growth made) here))
    growth-fits made tells =
        let ends =
        ends-within info.full (offset + length old) info.size made f.within.1 f.within.2
        (omega (arith, tells.1, tells.2)) in
        let all =
        block-fits drops info.sort info.full info.given block offset (length old)
        (length more) made f.within.0 (omega (arith, tells.1, enough)) ends.0 ends.1 tells.0 in
        fit (with_full (length old) (length more)
        (on_block block offset (record info { size = made }))) (made - offset)
        all.0 all.1

    in-block : (r : Room) → Tells drops size info offset (length old) k r → IsMade r
        → RowFits drops (with_more more (with_room r here))
    in-block Spare tells made = absurd tells
    in-block (Fresh places) tells made = absurd tells
    in-block Behind tells made = behind-fits tells
    in-block Front tells made = front-fits tells
    in-block (Growth places) tells made = growth-fits places tells
    in-block (Own additional) tells made = absurd made
    in-block (Refused e) tells made = absurd made

  -- whichever room it has
  row-fits : (place : Place (Option ℕ) M) (places : ℕ) → RowFits drops (row-at place places)
      → (b : Bool)
      → nat_lt (places - (length old)) k ≡ b
      → IsMade (if not b then Spare else room_at drops first size place (length old) k)
      → RowFits drops (with_more more (with_room (if not b then Spare else
      room_at drops first size place (length old) k) (row-at place places)))
  row-fits place places f false is made = spare-fits place places f is
  row-fits nowhere places f true is made = absurd made
  row-fits static_data places f true is made = absurd made
  row-fits (on_block block offset info) places f true is made =
      in-block block offset places info f (room_in drops size info offset (length old) k)
      (room-tells drops size info offset (length old) k) made

-- a row of a sole writer that has got room on its block, and items behind its others
pub room-fits : {T M : Type 0} (drops : Bool) (first size : ℕ) (row : Row T M) (more : List T)
    (k : ℕ) → length more ≤ k → is_sole row.role ≡ true → RowFits drops row
    → IsMade (room drops first size row k)
    → RowFits drops (with_more more (with_room (room drops first size row k) row))
room-fits {T} {M} drops first size row more k enough sole f made =
    sole_each (λ role. let r : Row T M = record row { role = role } in
    RowFits drops r → IsMade (room drops first size r k)
    → RowFits drops (with_more more (with_room (room drops first size r k) r)))
    (λ places fits makes. row-fits drops first size row.items more k enough row.place places fits
    (nat_lt (places - length row.items) k) refl makes) row.role sole f made

-- a caller's buffer made its own room
module _ {T M : Type 0} (drops : Bool) (first size : ℕ) (old more : List T) (k j made : ℕ)
    (enough : length more ≤ k) where
  own-at : (place : Place (Option ℕ) M) (places : ℕ)
      → RowFits drops (record { items = old; place = place; role = sole_writer places })
      → (b : Bool)
      → (if b then Spare else room_at drops first size place (length old) k) ≡ Own j
      → offset_at place + length old + j ≤ made
      → RowFits drops (with_more more (with_room (Growth made)
      (record { items = old; place = place; role = sole_writer places })))
  own-at place places f true is wide = absurd (cc)
  own-at nowhere places f false is wide = absurd (cc)
  own-at static_data places f false is wide = absurd (cc)
  own-at (on_block block offset info) places f false is wide =
      let tells = subst (Tells drops size info offset (length old) k) is
      (room-tells drops size info offset (length old) k) in
      growth-fits drops first size old more k enough block offset places info f made
      (tells.0, omega (arith, tells.1, wide), tells.2)

pub own-fits : {T M : Type 0} (drops : Bool) (first size : ℕ) (row : Row T M) (more : List T)
    (k j made : ℕ) → length more ≤ k → is_sole row.role ≡ true → RowFits drops row
    → room drops first size row k ≡ Own j
    → offset_at row.place + length row.items + j ≤ made
    → RowFits drops (with_more more (with_room (Growth made) row))
own-fits {T} {M} drops first size row more k j made enough sole f is wide =
    sole_each (λ role. let r : Row T M = record row { role = role } in
    RowFits drops r → room drops first size r k ≡ Own j
    → RowFits drops (with_more more (with_room (Growth made) r)))
    (λ places fits own. own-at drops first size row.items more k j made enough row.place places
    fits _ own wide) row.role sole f is

-- a row of a sole writer that has got room on its block
pub room-alone-fits : {T M : Type 0} (drops : Bool) (first size : ℕ) (row : Row T M) (k : ℕ)
    → is_sole row.role ≡ true → RowFits drops row → IsMade (room drops first size row k)
    → RowFits drops (with_room (room drops first size row k) row)
room-alone-fits drops first size row k sole f made =
    subst (RowFits drops) (more_none (with_room (room drops first size row k) row))
    (room-fits drops first size row [] k (omega arith) sole f made)

-- a first block is as large as is asked for
abbrev IsEnough : ℕ → Room → Type 0
IsEnough k (Fresh places) = k ≤ places
IsEnough k room = Unit {0}

tells-enough : {M : Type 0} (drops : Bool) (size : ℕ) (info : BlockInfo M) (offset len k : ℕ)
    (r : Room) → Tells drops size info offset len k r → IsEnough k r
tells-enough drops size info offset len k Spare tells = tt
tells-enough drops size info offset len k (Fresh places) tells = absurd tells
tells-enough drops size info offset len k Behind tells = tt
tells-enough drops size info offset len k Front tells = tt
tells-enough drops size info offset len k (Growth places) tells = tt
tells-enough drops size info offset len k (Own additional) tells = tt
tells-enough drops size info offset len k (Refused e) tells = tt

enough-at : {M : Type 0} (drops : Bool) (first size : ℕ) (place : Place (Option ℕ) M) (len k : ℕ)
    (b : Bool)
    → IsEnough k (if b then Spare else room_at drops first size place len k)
enough-at drops first size place len k true = tt
enough-at drops first size nowhere len k false = omega arith
enough-at drops first size static_data len k false = omega arith
enough-at drops first size (on_block block offset info) len k false =
    tells-enough drops size info offset len k (room_in drops size info offset len k)
    (room-tells drops size info offset len k)

pub room-enough : {T M : Type 0} (drops : Bool) (first size : ℕ) (row : Row T M) (k places : ℕ)
    → room drops first size row k ≡ Fresh places → k ≤ places
room-enough drops first size row k places is =
    subst (IsEnough k) is (enough-at drops first size row.place (length row.items) k
    (not (nat_lt (capacity_of row.role - length row.items) k)))

-- no room is refused for want of memory, before any is asked for
abbrev IsAmple : Room → Type 0
IsAmple (Refused e) = ¬ (e ≡ AllocError)
IsAmple room = Unit {0}

ample-growth : (b : Bool) (places : ℕ)
    → IsAmple (if b then Refused CapacityOverflow else Growth places)
ample-growth true places = λ same. absurd (cc)
ample-growth false places = tt

ample-sort : (sort : Sort) (size old end k : ℕ) → IsAmple (growth sort size old end k)
ample-sort native size old end k = ample-growth _ _
ample-sort vector size old end k = ample-growth _ _
ample-sort (buffer writable) size old end k = tt
ample-sort raw size old end k = λ same. absurd (cc)

module _ {M : Type 0} (drops : Bool) (size : ℕ) (info : BlockInfo M) (offset len k : ℕ) where
  ample-third : (b : Bool) → IsAmple (if b then Front else
      growth info.sort size info.size (offset + len) k)
  ample-third true = tt
  ample-third false = ample-sort info.sort size info.size (offset + len) k

  ample-second : (b : Bool) → IsAmple (if b then Behind else
      if not drops && not (nat_lt offset len) && not (nat_lt (info.size - len) k) then Front else
      growth info.sort size info.size (offset + len) k)
  ample-second true = tt
  ample-second false = ample-third _

  ample-first : (b : Bool) → IsAmple (if b then Refused Unsupported else
      if not (nat_lt (info.size - offset - len) k) then Behind else
      if not drops && not (nat_lt offset len) && not (nat_lt (info.size - len) k) then Front else
      growth info.sort size info.size (offset + len) k)
  ample-first true = λ same. absurd (cc)
  ample-first false = ample-second _

ample-at : {M : Type 0} (drops : Bool) (first size : ℕ) (place : Place (Option ℕ) M) (len k : ℕ)
    (b : Bool)
    → IsAmple (if b then Spare else room_at drops first size place len k)
ample-at drops first size place len k true = tt
ample-at drops first size nowhere len k false = tt
ample-at drops first size static_data len k false = tt
ample-at drops first size (on_block block offset info) len k false =
    ample-first drops size info offset len k _

pub never-short : {T M : Type 0} (drops : Bool) (first size : ℕ) (row : Row T M) (k : ℕ)
    (e : TryReserveError) → room drops first size row k ≡ Refused e → ¬ (e ≡ AllocError)
never-short drops first size row k e is =
    subst IsAmple is (ample-at drops first size row.place (length row.items) k
    (not (nat_lt (capacity_of row.role - length row.items) k)))

-- a writer's first block, and its items
pub fresh-fits : {T M : Type 0} (drops : Bool) (block places : ℕ) (more : List T)
    → length more ≤ places
    → RowFits {M = M} drops (with_more more (new_writer drops (Some block) [] places))
fresh-fits {T} {M} drops block places more less =
    let m = length more in
    let all =
    block-fits {M = M} drops native (full_places drops 0) None (Some block) 0 0 m places
    (counted drops) (omega (arith, less)) (inside drops) (ordered drops) (λ owned. empty drops) in
    let whole : places - 0 ≡ places = omega arith in
    let at : Place (Option ℕ) M = on_block (Some block) 0 (record {
      sort = native;
      size = places;
      full = option_map (λ f. f + (m - (f - (0 + 0)))) (full_places drops 0);
      given = None;
    }) in
    record {
      within = subst (λ l. LieWithin drops false at l) (none-before m) all.0;
      writer = λ sole. subst (λ l. HasPlaces drops at l places) (none-before m)
          (subst (λ c. HasPlaces drops at (0 + m) c) whole all.1);
      shared = λ several. absurd (false≢true several);
    }
  where
    counted : (d : Bool) → is_some (full_places d 0) ≡ d
    counted true = refl
    counted false = refl

    inside : (d : Bool) → 0 + 0 ≤ option_map_or (λ f. f) (full_places d 0) places
    inside true = omega arith
    inside false = omega arith

    ordered : (d : Bool) → option_map_or (λ f. f) (full_places d 0) places ≤ places
    ordered true = omega arith
    ordered false = omega arith

    empty : (d : Bool) → option_map_or (λ f. 0 + 0 == f) (full_places d 0) true ≡ true
    empty true = refl
    empty false = refl

    none-before : (l : ℕ) → 0 + l ≡ l
    none-before l = omega arith

-- there is spare room for so many items where a writer has as many places left
is-spare : {M : Type 0} (drops : Bool) (first size : ℕ) (place : Place (Option ℕ) M)
    (len left k : ℕ) (b : Bool) → nat_lt left k ≡ b
    → (if not b then Spare else room_at drops first size place len k) ≡ Spare → k ≤ left
is-spare drops first size place len left k false is spare = ltb-false left k is
is-spare drops first size nowhere len left k true is spare = absurd (cc)
is-spare drops first size static_data len left k true is spare = absurd (cc)
is-spare drops first size (on_block block offset info) len left k true is spare =
    absurd (subst (Tells drops size info offset len k) spare
    (room-tells drops size info offset len k))

pub room-spare : {T M : Type 0} (drops : Bool) (first size : ℕ) (row : Row T M) (k : ℕ)
    → room drops first size row k ≡ Spare → k ≤ capacity_of row.role - length row.items
room-spare drops first size row k spare =
    is-spare drops first size row.place (length row.items)
    (capacity_of row.role - length row.items) k _ refl spare

-- room on the row's own block, beside what is spare
abbrev pub IsMore : Room → Type 0
IsMore Behind = Unit {0}
IsMore Front = Unit {0}
IsMore (Growth places) = Unit {0}
IsMore room = ⊥

pub more-made : (r : Room) → IsMore r → IsMade r
more-made Spare more = absurd more
more-made (Fresh places) more = absurd more
more-made (Own additional) more = absurd more
more-made (Refused e) more = absurd more
more-made Behind more = tt
more-made Front more = tt
more-made (Growth places) more = tt

-- there one of several has to be alone
is-asked : {M : Type 0} (drops : Bool) (first size : ℕ) (place : Place (Option ℕ) M) (len k : ℕ)
    (b : Bool) → IsMore (if not b then Spare else room_at drops first size place len k)
    → (b && is_on_block place) ≡ true
is-asked drops first size place len k false more = absurd more
is-asked drops first size nowhere len k true more = absurd more
is-asked drops first size static_data len k true more = absurd more
is-asked drops first size (on_block block offset info) len k true more = refl

pub room-asks : {T M : Type 0} (drops : Bool) (first size : ℕ) (row : Row T M) (k : ℕ)
    → IsMore (room drops first size row k) → asks_alone row k ≡ true
room-asks drops first size row k more =
    is-asked drops first size row.place (length row.items) k _ more
