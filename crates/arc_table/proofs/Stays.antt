-- Where a row stands that comes of another one, and which items lie there.
use Rattle.std.proofs.Common.{inl, inr, ◌≡◌, ◌⊎◌, ℕ, ◌+◌, ◌-◌, ◌≤◌, ◌==◌, Bool, true, false}
use Rattle.std.proofs.Common.{if◌then◌else◌, not, List, [], ◌++◌, length, take, drop}
use Rattle.std.proofs.Common.{Option, Some, None, refl, sym, ap, ◌∙◌, subst, arith}
use Rattle.std.specs.Prelude.{nat_lt}
use Rattle.std.specs.Option.{option_map, option_map_or}
use Rattle.std.proofs.lemmas.Bool.{cases_Bool, eqb-true, false≢true, ltb-false}
use Rattle.std.proofs.lemmas.List.{append-nil, length-append}
use Rattle.arc_buffer.specs.Slice.{sub}
use Rattle.arc_block.specs.Block.{BlockInfo}
use Rattle.arc_block.specs.Place.{Place, nowhere, static_data, on_block, at_front, moved}
use Rattle.arc_block.specs.Table.{Row}
use Rattle.arc_parts.specs.Room.{ends_full, room_in}
use Rattle.arc_parts.specs.Writers.{room_at, sole_at, with_full, with_room, with_size}
use Rattle.arc_parts.specs.Writers.{writer_capacity}
use Rattle.arc_parts.specs.declared.room.Room.{Room}
use Rattle.arc_parts.specs.declared.room.Room.TheVariants as from
use Rattle.arc_commands.specs.Fits.{HasPlaces}
use Rattle.arc_commands.proofs.FitsRoom.{Tells, room-tells}
use Rattle.arc_table.proofs.Lie.{Lies, lies-drop, lies-more, lies-part, lies-take}
use Rattle.arc_commands.proofs.Lists.{none-of}
use Rattle.arc_commands.proofs.Parts.{StaysOn, stays-same}

-- ---- places

module _ {M : Type 0} where
  -- on the same block, of the same sort and with the same metadata; or on none
  abbrev pub StaysAs : Place (Option ℕ) M → Place (Option ℕ) M → Type 0
  StaysAs whole nowhere = Unit {0}
  StaysAs whole static_data = Unit {0}
  StaysAs nowhere (on_block block offset info) = ⊥
  StaysAs static_data (on_block block offset info) = ⊥
  StaysAs (on_block one here old) (on_block block offset info) =
      (one ≡ block) × (info.sort ≡ old.sort) × (info.given ≡ old.given)

  pub as-on : (whole part : Place (Option ℕ) M) → StaysOn whole part → StaysAs whole part
  as-on whole nowhere stays = tt
  as-on whole static_data stays = tt
  as-on nowhere (on_block block offset info) stays = absurd stays
  as-on static_data (on_block block offset info) stays = absurd stays
  as-on (on_block one here old) (on_block block offset info) stays = (
    stays.0,
    ap (λ (b : BlockInfo M). b.sort) (sym stays.1),
    ap (λ (b : BlockInfo M). b.given) (sym stays.1),
  )

  pub as-same : (place : Place (Option ℕ) M) → StaysAs place place
  as-same place = as-on place place (stays-same place)

  pub as-trans : (one two three : Place (Option ℕ) M) → StaysAs one two → StaysAs two three
      → StaysAs one three
  as-trans one two nowhere a b = tt
  as-trans one two static_data a b = tt
  as-trans one nowhere (on_block block offset info) a b = absurd b
  as-trans one static_data (on_block block offset info) a b = absurd b
  as-trans nowhere (on_block c p its) (on_block block offset info) a b = absurd a
  as-trans static_data (on_block c p its) (on_block block offset info) a b = absurd a
  as-trans (on_block d q old) (on_block c p its) (on_block block offset info) a b =
      (a.0 ∙ b.0, b.1 ∙ a.1, b.2 ∙ a.2)

  as-front : (place : Place (Option ℕ) M) → StaysAs place (at_front place)
  as-front nowhere = tt
  as-front static_data = tt
  as-front (on_block block offset info) = (refl, refl, refl)

  as-size : (size : ℕ) (place : Place (Option ℕ) M) → StaysAs place (with_size size place)
  as-size size nowhere = tt
  as-size size static_data = tt
  as-size size (on_block block offset info) = (refl, refl, refl)

  pub as-full : (len more : ℕ) (place : Place (Option ℕ) M)
      → StaysAs place (with_full len more place)
  as-full len more nowhere = tt
  as-full len more static_data = tt
  as-full len more (on_block block offset info) = (refl, refl, refl)

  pub as-room : {T : Type 0} (room : Room) (row : Row T M)
      → StaysAs row.place (with_room room row).place
  as-room from.Spare row = as-same row.place
  as-room (from.Fresh places) row = as-same row.place
  as-room from.Behind row = as-same row.place
  as-room from.Front row = as-front row.place
  as-room (from.Growth places) row = as-size places row.place
  as-room (from.Own additional) row = as-same row.place
  as-room (from.Refused e) row = as-same row.place

  pub as-sole : {T : Type 0} (drops : Bool) (items : List T) (place : Place (Option ℕ) M)
      → let new : Row T M = sole_at drops items place in StaysAs place new.place
  as-sole drops items nowhere = tt
  as-sole drops items static_data = tt
  as-sole drops items (on_block block offset info) = (refl, refl, refl)

  -- on the block with this number, if on one that counts its owners
  abbrev pub IsAt : ℕ → Place (Option ℕ) M → Type 0
  IsAt block nowhere = Unit {0}
  IsAt block static_data = Unit {0}
  IsAt block (on_block None offset info) = Unit {0}
  IsAt block (on_block (Some number) offset info) = number ≡ block

  pub at-if : (b : Bool) (block : ℕ) (place : Place (Option ℕ) M) → IsAt block place
      → IsAt block (if b then nowhere else place)
  at-if true block place at = tt
  at-if false block place at = at

  -- so many items end where the block's full places do, or no more of them come in
  abbrev pub EndsOr : Place (Option ℕ) M → (len more : ℕ) → Type 0
  EndsOr nowhere len more = Unit {0}
  EndsOr static_data len more = Unit {0}
  EndsOr (on_block block offset info) len more =
      (ends_full info (offset + len) ≡ true) ⊎ (more ≡ 0)

  ends-size : (size : ℕ) (place : Place (Option ℕ) M) (len more : ℕ) → EndsOr place len more
      → EndsOr (with_size size place) len more
  ends-size size nowhere len more ends = tt
  ends-size size static_data len more ends = tt
  ends-size size (on_block block offset info) len more ends = ends

  -- with this room items may come in behind so many
  abbrev pub FineAt : Room → Place (Option ℕ) M → (len more : ℕ) → Type 0
  FineAt from.Front place len more = ⊥
  FineAt from.Spare place len more = EndsOr place len more
  FineAt (from.Fresh places) place len more = EndsOr place len more
  FineAt from.Behind place len more = EndsOr place len more
  FineAt (from.Growth places) place len more = EndsOr place len more
  FineAt (from.Own additional) place len more = EndsOr place len more
  FineAt (from.Refused e) place len more = EndsOr place len more

-- ---- items

-- a block that counts so many full places has more of them
full-more : {T : Type 0} (full : Option ℕ) (all more : List T) (end : ℕ)
    → (end ≡ length all) ⊎ (length more ≡ 0) → full ≡ Some (length all)
    → option_map (λ f. f + (length more - (f - end))) full ≡ Some (length (all ++ more))
full-more full all more end ends is =
    let long : length (all ++ more) ≡ length all + length more = length-append all more in
    let many : length all + (length more - (length all - end)) ≡ length (all ++ more) =
    elim ends [
      | inl same ↦ omega (arith, same, long)
      | inr none ↦ omega (arith, none, long)
    ] in
    ap (option_map (λ f. f + (length more - (f - end)))) is ∙ ap Some many

-- where they end is told
ends-told : (full : Option ℕ) (n end : ℕ) → full ≡ Some n
    → option_map_or (λ f. end == f) full true ≡ true → end ≡ n
ends-told full n end is ends =
    eqb-true end n (subst (λ x. option_map_or (λ f. end == f) x true ≡ true) is ends)

module _ {T M : Type 0} where
  -- items lie among all that the block at this place has, which are its full places
  abbrev pub LiesOn : (all items : List T) → Place (Option ℕ) M → Type 0
  LiesOn all items nowhere = Unit {0}
  LiesOn all items static_data = Unit {0}
  LiesOn all items (on_block block offset info) =
      (info.full ≡ Some (length all)) × Lies all items offset

  pub on-none : (all items : List T) (place : Place (Option ℕ) M) → LiesOn all items place
      → LiesOn (all ++ []) items place
  on-none all items place l = subst (λ ys. LiesOn ys items place) (sym (append-nil all)) l

  pub on-drop : (all items : List T) (place : Place (Option ℕ) M) (by : ℕ) → by ≤ length items
      → LiesOn all items place → LiesOn all (drop by items) (moved by place)
  on-drop all items nowhere by within l = tt
  on-drop all items static_data by within l = tt
  on-drop all items (on_block block offset info) by within l =
      (l.0, lies-drop all items offset by within l.1)

  pub on-take : (all items : List T) (place : Place (Option ℕ) M) (len : ℕ)
      → LiesOn all items place → LiesOn all (take len items) place
  on-take all items nowhere len l = tt
  on-take all items static_data len l = tt
  on-take all items (on_block block offset info) len l =
      (l.0, lies-take all items offset len l.1)

  pub on-part : (all items : List T) (place : Place (Option ℕ) M) (start end : ℕ) → start ≤ end
      → end ≤ length items → LiesOn all items place
      → LiesOn all (sub items start end) (moved start place)
  on-part all items nowhere start end ordered within l = tt
  on-part all items static_data start end ordered within l = tt
  on-part all items (on_block block offset info) start end ordered within l =
      (l.0, lies-part all items offset start end ordered within l.1)

  pub on-if : (b : Bool) (all items : List T) (place : Place (Option ℕ) M)
      → LiesOn all items place → LiesOn all items (if b then nowhere else place)
  on-if true all items place l = tt
  on-if false all items place l = l

  pub on-sole : (drops : Bool) (all items : List T) (place : Place (Option ℕ) M)
      → LiesOn all items place
      → let new : Row T M = sole_at drops items place in LiesOn all new.items new.place
  on-sole drops all items nowhere l = tt
  on-sole drops all items static_data l = tt
  on-sole drops all items (on_block block offset info) l = l

  on-size : (all items : List T) (size : ℕ) (place : Place (Option ℕ) M) → LiesOn all items place
      → LiesOn all items (with_size size place)
  on-size all items size nowhere l = tt
  on-size all items size static_data l = tt
  on-size all items size (on_block block offset info) l = l

  on-more : (all items more : List T) (place : Place (Option ℕ) M) (k : ℕ) → length more ≤ k
      → EndsOr place (length items) k → LiesOn all items place
      → LiesOn (all ++ more) (items ++ more) (with_full (length items) (length more) place)
  on-more all items more nowhere k enough ends l = tt
  on-more all items more static_data k enough ends l = tt
  on-more all items more (on_block block offset info) k enough ends l =
      elim ends [
        | inl full ↦
            (let end : offset + length items ≡ length all =
            ends-told info.full (length all) (offset + length items) l.0 full in (
              full-more info.full all more (offset + length items) (inl end) l.0,
              lies-more all items more offset end l.1,
            ))
        | inr none ↦
            (let few : length more ≡ 0 = omega (arith, none, enough) in
            let nothing : more ≡ [] = none-of more few in (
              full-more info.full all more (offset + length items) (inr few) l.0,
              subst (λ ys. Lies (all ++ ys) (items ++ ys) offset) (sym nothing)
                  (subst (λ ys. Lies ys (items ++ []) offset) (sym (append-nil all))
                  (subst (λ ys. Lies all ys offset) (sym (append-nil items)) l.1)),
            ))
      ]

  -- ---- room

  pub on-room : (room : Room) (row : Row T M) (all : List T) (k : ℕ)
      → FineAt room row.place (length row.items) k → LiesOn all row.items row.place
      → LiesOn all (with_room room row).items (with_room room row).place
  on-room from.Spare row all k fine l = l
  on-room (from.Fresh places) row all k fine l = l
  on-room from.Behind row all k fine l = l
  on-room from.Front row all k fine l = absurd fine
  on-room (from.Growth places) row all k fine l = on-size all row.items places row.place l
  on-room (from.Own additional) row all k fine l = l
  on-room (from.Refused e) row all k fine l = l

  pub on-room-more : (room : Room) (row : Row T M) (all more : List T) (k : ℕ) → length more ≤ k
      → FineAt room row.place (length row.items) k → LiesOn all row.items row.place
      → let new = with_room room row in LiesOn (all ++ more) (new.items ++ more)
      (with_full (length new.items) (length more) new.place)
  on-room-more from.Spare row all more k enough fine l =
      on-more all row.items more row.place k enough fine l
  on-room-more (from.Fresh places) row all more k enough fine l =
      on-more all row.items more row.place k enough fine l
  on-room-more from.Behind row all more k enough fine l =
      on-more all row.items more row.place k enough fine l
  on-room-more from.Front row all more k enough fine l = absurd fine
  on-room-more (from.Growth places) row all more k enough fine l =
      on-more all row.items more (with_size places row.place) k enough
      (ends-size places row.place (length row.items) k fine)
      (on-size all row.items places row.place l)
  on-room-more (from.Own additional) row all more k enough fine l =
      on-more all row.items more row.place k enough fine l
  on-room-more (from.Refused e) row all more k enough fine l =
      on-more all row.items more row.place k enough fine l

-- there is room, on the row's block
abbrev pub IsRoomy : Room → Type 0
IsRoomy from.Spare = Unit {0}
IsRoomy (from.Fresh places) = ⊥
IsRoomy from.Behind = Unit {0}
IsRoomy from.Front = Unit {0}
IsRoomy (from.Growth places) = Unit {0}
IsRoomy (from.Own additional) = Unit {0}
IsRoomy (from.Refused e) = ⊥

-- of items that are dropped one by one, it is fine
module _ {M : Type 0} (drops : Bool) (owned : drops ≡ true) (first size len k : ℕ) where
  told-fine : (block : Option ℕ) (offset : ℕ) (info : BlockInfo M) (room : Room)
      → Tells drops size info offset len k room → IsRoomy room
      → FineAt room (on_block block offset info) len k
  told-fine block offset info from.Spare tells roomy = absurd tells
  told-fine block offset info (from.Fresh places) tells roomy = absurd tells
  told-fine block offset info from.Behind tells roomy = inl (tells.0 owned)
  told-fine block offset info from.Front tells roomy =
      absurd (false≢true (sym tells.0 ∙ owned))
  told-fine block offset info (from.Growth places) tells roomy = inl (tells.0 owned)
  told-fine block offset info (from.Own additional) tells roomy = inl (tells.0 owned)
  told-fine block offset info (from.Refused e) tells roomy = absurd roomy

  spare-ends : (info : BlockInfo M) (offset capacity : ℕ)
      → capacity ≡ writer_capacity true info offset len → k ≤ capacity - len
      → (ends_full info (offset + len) ≡ true) ⊎ (k ≡ 0)
  spare-ends info offset capacity is less = elim (cases_Bool (ends_full info (offset + len))) [
    | inl ends ↦ inl ends
    | inr past ↦
        (let own : capacity ≡ len =
        is ∙ ap (λ b. if not b then len else info.size - offset) past in
        inr (omega (arith, own, less)))
  ]

  pub room-fine : (capacity : ℕ) (b : Bool) → nat_lt (capacity - len) k ≡ b
      → (place : Place (Option ℕ) M) → HasPlaces true place len capacity
      → IsRoomy (if not b then from.Spare else room_at drops first size place len k)
      → FineAt (if not b then from.Spare else room_at drops first size place len k) place
      len k
  room-fine capacity false is nowhere has roomy = tt
  room-fine capacity false is static_data has roomy = tt
  room-fine capacity false is (on_block block offset info) has roomy =
      spare-ends info offset capacity has (ltb-false (capacity - len) k is)
  room-fine capacity true is nowhere has roomy = tt
  room-fine capacity true is static_data has roomy = tt
  room-fine capacity true is (on_block block offset info) has roomy =
      told-fine block offset info (room_in drops size info offset len k)
      (room-tells drops size info offset len k) roomy
