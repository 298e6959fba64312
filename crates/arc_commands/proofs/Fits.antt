-- Rows lie within their blocks, and what each command makes of them does too.
use Rattle.std.proofs.Common.{◌≡◌, ℕ, ◌+◌, ◌-◌, ◌≤◌, ◌<◌, ◌==◌, ◌&&◌, not, Bool, true}
use Rattle.std.proofs.Common.{false, if◌then◌else◌, List, length, take, drop, Option, Some, None}
use Rattle.std.proofs.Common.{is_some, Result, Ok, Err, refl, sym, ap, ◌∙◌, subst, arith}
use Rattle.std.specs.Prelude.{nat_lt}
use Rattle.std.specs.Option.{option_map_or}
use Rattle.std.proofs.lemmas.Bool.{false≢true, ltb-false, eq-eqb, eqb-true, ne_eqb, and_parts}
use Rattle.std.proofs.lemmas.List.{length-drop, length-take-le}
use Rattle.arc_owners.specs.declared.error.RangeError.{RangeError}
use Rattle.arc_owners.specs.declared.error.RangeError.TheVariants.{OutOfRange}
use Rattle.arc_buffer.specs.Slice.{sub, range_answer, edge_answer}
use Rattle.arc_buffer.proofs.Sub.{length-sub}
use Rattle.arc_block.specs.Block.{native_facts, partly_full, full_places, memory_info}
use Rattle.arc_block.specs.Block.{Sort, native, vector, buffer, raw, BlockInfo, buffer_info}
use Rattle.arc_block.specs.Place.{Place, nowhere, static_data, on_block, moved}
use Rattle.arc_parts.specs.Room.{ends_full}
use Rattle.arc_parts.specs.Shared.{split_answer}
use Rattle.arc_block.specs.Table.{Row, Role, reader, sole_writer, one_writer_of_several}
use Rattle.arc_block.specs.Table.{inline, forgotten}
use Rattle.arc_parts.specs.Writers.{capacity_of, with_capacity, writer_capacity, after_advance}
use Rattle.arc_parts.specs.Writers.{as_reader, as_sole, sole_at}
use Rattle.arc_commands.specs.Blocks.{is_several, is_small, is_sole, is_writer}
use Rattle.arc_commands.specs.Fits.{LieWithin, EndsAt, HasPlaces, HasSharedPlaces, FitsBeside}
use Rattle.arc_commands.specs.Fits.{RowFits, counts_full}
use Rattle.arc_commands.proofs.Roles.{reads-sole, reads-several, sole-small}
use Rattle.arc_commands.specs.Changes.{Setting, part_of, cut_row, truncated}
use Rattle.arc_commands.specs.Changes.{buffer_row, written_buffer_row, raw_row}

-- ---- ranges that were tested

abbrev Tested : Type 0
Tested = Result (Unit {0}) RangeError

not-past : (b : Bool) (m n : ℕ) (e : RangeError) (rest : Tested) → nat_lt m n ≡ b
    → (if b then Err e else rest) ≡ Ok tt → n ≤ m
not-past true m n e rest is ok = absurd (cc)
not-past false m n e rest is ok = ltb-false m n is

then-rest : (b : Bool) (e : RangeError) (rest : Tested) → (if b then Err e else rest) ≡ Ok tt
    → rest ≡ Ok tt
then-rest true e rest ok = absurd (cc)
then-rest false e rest ok = ok

module _ {T : Type 0} (boundary : List T → ℕ → Bool) (xs : List T) where
  pub in-edge : (at : ℕ) → edge_answer boundary xs at ≡ Ok tt → at ≤ length xs
  in-edge at ok = not-past (nat_lt (length xs) at) (length xs) at _ _ refl ok

  pub in-range : (start end : ℕ) → range_answer boundary xs start end ≡ Ok tt
      → (start ≤ end) × (end ≤ length xs)
  in-range start end ok = (
    not-past (nat_lt end start) end start _ _ refl
        (then-rest (nat_lt (length xs) end) OutOfRange _ ok),
    not-past (nat_lt (length xs) end) (length xs) end _ _ refl ok,
  )

  pub in-split : (capacity at : ℕ) → split_answer boundary xs capacity at ≡ Ok tt → at ≤ capacity
  in-split capacity at ok = not-past (nat_lt capacity at) capacity at _ _ refl ok

-- ---- numbers

less-by : (b : Bool) (by len capacity size offset : ℕ)
    → capacity ≡ (if b then len else size - offset)
    → capacity - by ≡ (if b then len - by else size - (offset + by))
less-by true by len capacity size offset is = ap (λ n. n - by) is
less-by false by len capacity size offset is = omega (arith, is)

ends-before : (full : Option ℕ) (size offset len n : ℕ) → is_some full ≡ true
    → offset + len ≤ option_map_or (λ f. f) full size → n < len
    → option_map_or (λ f. offset + n == f) full true ≡ false
ends-before None size offset len n counted fits less = absurd (false≢true counted)
ends-before (Some f) size offset len n counted fits less =
    ne_eqb (offset + n) f (λ e. omega (arith, fits, less, e))

pub counted : (drops : Bool) (n : ℕ) → is_some (full_places drops n) ≡ drops
counted true n = refl
counted false n = refl

ends-at : (drops : Bool) (size n : ℕ) → n ≤ size
    → (n ≤ option_map_or (λ f. f) (full_places drops n) size)
    × (option_map_or (λ f. f) (full_places drops n) size ≤ size)
ends-at true size n less = (omega arith, less)
ends-at false size n less = (less, omega arith)

-- items that are dropped one by one are counted in each block
pub counted-owned : (sort : Sort) → counts_full true sort ≡ true
counted-owned native = refl
counted-owned vector = refl
counted-owned (buffer writable) = refl
counted-owned raw = refl

-- ---- places

module _ {M : Type 0} where
  -- a sole writer's places, that much further in
  ends-moved : (drops : Bool) (info : BlockInfo M) (offset by len capacity : ℕ) → by ≤ len
      → EndsAt drops info offset len capacity
      → EndsAt drops info (offset + by) (len - by) (capacity - by)
  ends-moved false info offset by len capacity fits ends =
      (omega (arith, ends.0), omega (arith, fits, ends.0, ends.1))
  ends-moved true info offset by len capacity fits ends =
      let same : offset + len ≡ offset + by + (len - by) = omega (arith, fits) in
      less-by (not (ends_full info (offset + len))) by len capacity info.size offset ends
      ∙ ap (λ end. if not (ends_full info end) then len - by else info.size - (offset + by)) same

  -- all that are behind so many items in a block
  ends-behind : (drops : Bool) (info : BlockInfo M) (offset len : ℕ) → offset + len ≤ info.size
      → EndsAt drops info offset len (writer_capacity drops info offset len)
  ends-behind false info offset len within = (omega (arith, within), omega (arith, within))
  ends-behind true info offset len within = refl

module _ {M : Type 0} (drops : Bool) where
  module _ (small : Bool) where
    within-moved : (place : Place (Option ℕ) M) (by len n : ℕ) → LieWithin drops small place len
        → by + n ≤ len → LieWithin drops small (moved by place) n
    within-moved nowhere by len n w fits = λ none. omega (arith, w none, fits)
    within-moved static_data by len n w fits = tt
    within-moved (on_block block offset info) by len n w fits =
        (w.0, omega (arith, w.1, fits), w.2)

    within-less : (place : Place (Option ℕ) M) (len n : ℕ) → LieWithin drops small place len
        → n ≤ len → LieWithin drops small place n
    within-less nowhere len n w fits = λ none. omega (arith, w none, fits)
    within-less static_data len n w fits = tt
    within-less (on_block block offset info) len n w fits = (w.0, omega (arith, w.1, fits), w.2)

    within-if : (b : Bool) (place : Place (Option ℕ) M) (n : ℕ) → (b ≡ true → n ≡ 0)
        → LieWithin drops small place n → LieWithin drops small (if b then nowhere else place) n
    within-if true place n none w = λ is. none refl
    within-if false place n none w = w

  -- what lies within its block does so in a small window too
  within-small : (place : Place (Option ℕ) M) (len : ℕ) → LieWithin drops false place len
      → LieWithin drops true place len
  within-small nowhere len w = λ none. absurd (false≢true (sym none))
  within-small static_data len w = tt
  within-small (on_block block offset info) len w = w

  places-moved : (place : Place (Option ℕ) M) (by len capacity : ℕ) → by ≤ len
      → HasPlaces drops place len capacity
      → HasPlaces drops (moved by place) (len - by) (capacity - by)
  places-moved nowhere by len capacity fits has = omega (arith, has)
  places-moved static_data by len capacity fits has = has
  places-moved (on_block block offset info) by len capacity fits has =
      ends-moved drops info offset by len capacity fits has

-- What is not dropped one by one leaves its places when it is cut off; what is ends before the
-- block's full places then, and so has none behind it.
module _ {M : Type 0} where
  places-left : (place : Place (Option ℕ) M) (len n capacity : ℕ) → n ≤ len
      → HasPlaces false place len capacity → HasPlaces false place n capacity
  places-left nowhere len n capacity less has = has
  places-left static_data len n capacity less has = has
  places-left (on_block block offset info) len n capacity less has =
      (omega (arith, less, has.0), has.1)

  places-own : (place : Place (Option ℕ) M) (len n capacity : ℕ) → LieWithin true false place len
      → n < len → HasPlaces true place len capacity → HasPlaces true place n n
  places-own nowhere len n capacity w less has = absurd (omega (arith, w refl, less))
  places-own static_data len n capacity w less has = has
  places-own (on_block block offset info) len n capacity w less has =
      sym (ap (λ b. if not b then n else info.size - offset)
      (ends-before info.full info.size offset len n (w.0 ∙ counted-owned info.sort) w.1 less))

-- ---- roles

capacity-with : (role : Role) (n : ℕ) → is_sole (with_capacity role n) ≡ true
    → capacity_of (with_capacity role n) ≡ n
capacity-with reader n sole = absurd (false≢true sole)
capacity-with (sole_writer before) n sole = refl
capacity-with (one_writer_of_several before) n sole = absurd (false≢true sole)
capacity-with inline n sole = absurd (false≢true sole)
capacity-with forgotten n sole = absurd (false≢true sole)

sole-before : (role : Role) (n : ℕ) → is_sole (with_capacity role n) ≡ true → is_sole role ≡ true
sole-before reader n sole = sole
sole-before (sole_writer before) n sole = refl
sole-before (one_writer_of_several before) n sole = sole
sole-before inline n sole = sole
sole-before forgotten n sole = sole

pub several-before : (role : Role) (n : ℕ) → is_several (with_capacity role n) ≡ true
    → is_several role ≡ true
several-before reader n several = several
several-before (sole_writer before) n several = several
several-before (one_writer_of_several before) n several = refl
several-before inline n several = several
several-before forgotten n several = several

capacity-among : (role : Role) (n : ℕ) → is_several role ≡ true
    → capacity_of (with_capacity role n) ≡ n
capacity-among reader n several = absurd (false≢true several)
capacity-among (sole_writer before) n several = absurd (false≢true several)
capacity-among (one_writer_of_several before) n several = refl
capacity-among inline n several = absurd (false≢true several)
capacity-among forgotten n several = absurd (false≢true several)

-- a role with another capacity is a small window's where the role is
small-with : (role : Role) (n : ℕ) → is_small (with_capacity role n) ≡ is_small role
small-with reader n = refl
small-with (sole_writer before) n = refl
small-with (one_writer_of_several before) n = refl
small-with inline n = refl
small-with forgotten n = refl

-- one of several writers has that many places less, that much further in
pub among-moved : {M : Type 0} (place : Place (Option ℕ) M) (by capacity : ℕ) → by ≤ capacity
    → HasSharedPlaces place capacity → HasSharedPlaces (moved by place) (capacity - by)
among-moved nowhere by capacity less has = omega (arith, has)
among-moved static_data by capacity less has = has
among-moved (on_block None offset info) by capacity less has = has
among-moved (on_block (Some block) offset info) by capacity less has =
    (has.0, omega (arith, less, has.1))

-- ---- rows

module _ {T M : Type 0} (drops : Bool) where
  -- a row that is read, or on a static slice, has no places to tell
  pub reads-fit : (row : Row T M) → is_writer row.role ≡ false
      → LieWithin drops (is_small row.role) row.place (length row.items) → RowFits drops row
  reads-fit row reads w = record {
    within = w;
    writer = λ sole. absurd (false≢true (sym (reads-sole row.role reads) ∙ sole));
    shared = λ several. absurd (false≢true (sym (reads-several row.role reads) ∙ several));
  }

  -- a writer's row, as a reader's
  pub as-reader-fits : (row : Row T M) → is_small row.role ≡ false → RowFits drops row
      → RowFits drops (as_reader row)
  as-reader-fits row large f =
      reads-fit (as_reader row) refl
      (subst (λ b. LieWithin drops b row.place (length row.items)) large f.within)

  -- one of several writers, that much further in
  among-advanced : (row : Row T M) (by : ℕ) → by ≤ length row.items
      → is_several row.role ≡ true → FitsBeside drops row → FitsBeside drops (after_advance by row)
  among-advanced row by less several f =
      let places : capacity_of (with_capacity row.role (capacity_of row.role - by))
      ≡ capacity_of row.role - by =
      capacity-among row.role (capacity_of row.role - by) several in
      let long : length (drop by row.items) ≡ length row.items - by = length-drop by row.items in
      record {
        kept = f.kept;
        places =
            subst (λ n. HasSharedPlaces (moved by row.place) n) (sym places)
            (among-moved row.place by (capacity_of row.role) (omega (arith, less, f.room))
            f.places);
        room = omega (arith, long, places, less, f.room);
      }

  pub advance-fits : (row : Row T M) (by : ℕ) → by ≤ length row.items → RowFits drops row
      → RowFits drops (after_advance by row)
  advance-fits row by less f =
      let long : length (drop by row.items) ≡ length row.items - by = length-drop by row.items in
      record {
        within =
            subst (λ b. LieWithin drops b (moved by row.place) (length (drop by row.items)))
            (sym (small-with row.role (capacity_of row.role - by)))
            (within-moved drops (is_small row.role) row.place by (length row.items)
            (length (drop by row.items)) f.within (omega (arith, long, less)));
        writer = λ sole.
            let places : capacity_of (with_capacity row.role (capacity_of row.role - by))
            ≡ capacity_of row.role - by =
            capacity-with row.role (capacity_of row.role - by) sole in
            subst (λ n. HasPlaces drops (moved by row.place) (length (drop by row.items)) n)
            (sym places)
            (subst (λ n. HasPlaces drops (moved by row.place) n (capacity_of row.role - by))
            (sym long)
            (places-moved drops row.place by (length row.items) (capacity_of row.role) less
            (f.writer (sole-before row.role (capacity_of row.role - by) sole))));
        shared = λ several.
            let was = several-before row.role (capacity_of row.role - by) several in
            among-advanced row by less was (f.shared was);
      }

  -- as a sole writer a row has the places that its place gives
  at-fits : (small : Bool) (items : List T) (place : Place (Option ℕ) M)
      → LieWithin drops small place (length items) → RowFits drops (sole_at drops items place)
  at-fits small items nowhere w = record {
    within = λ none. refl;
    writer = λ sole. refl;
    shared = λ several. absurd (false≢true several);
  }
  at-fits small items static_data w = record {
    within = λ none. refl;
    writer = λ sole. refl;
    shared = λ several. absurd (false≢true several);
  }
  at-fits small items (on_block block offset info) w = record {
    within = w;
    writer = λ sole. ends-behind drops info offset (length items) (omega (arith, w.1, w.2));
    shared = λ several. absurd (false≢true several);
  }

  pub sole-fits : (row : Row T M) → RowFits drops row → RowFits drops (as_sole drops row)
  sole-fits row f = at-fits (is_small row.role) row.items row.place f.within

  -- a row of these items, which fill a new block; of none on no block, where it is to be so
  abbrev filling : Role → (block : ℕ) → List T → (nothing : Bool) → Row T M
  filling role block items nothing = record {
    items = items;
    place = if nothing then nowhere else
        on_block (Some block) 0 (native_facts drops (length items));
    role = role;
  }

  -- a window that is made of a list
  pub founded-fits : (block : ℕ) (items : List T) (nothing : Bool)
      → (nothing ≡ true → length items ≡ 0) → RowFits drops (filling reader block items nothing)
  founded-fits block items nothing none =
      let n = length items in
      let ends = ends-at drops n n (omega arith) in
      let place : Place (Option ℕ) M = on_block (Some block) 0 (native_facts drops n) in
      reads-fit (filling reader block items nothing) refl
      (within-if drops false nothing place n none (counted drops n, omega (arith, ends.0), ends.1))

  -- a small window that has its items in itself, or stands where a reader would
  pub inside-fits : (items : List T)
      → RowFits {M = M} drops (record { items = items; place = nowhere; role = inline })
  inside-fits items =
      reads-fit (record { items = items; place = nowhere; role = inline }) refl
      (λ none. absurd (false≢true (sym none)))

  pub small-fits : (block : ℕ) (items : List T) (nothing : Bool)
      → (nothing ≡ true → length items ≡ 0) → RowFits drops (filling inline block items nothing)
  small-fits block items nothing none =
      let row = filling inline block items nothing in
      reads-fit row refl
      (within-small drops row.place (length items) (founded-fits block items nothing none).within)

  -- a window over a vector with so many places
  pub vector-fits : (block : ℕ) (items : List T) (places : ℕ) → length items ≤ places
      → RowFits {M = M} drops (record {
        items = items;
        place = on_block (Some block) 0 (memory_info vector drops places (length items));
        role = reader;
      })
  vector-fits block items places less =
      let n = length items in
      let ends = ends-at drops places n less in
      reads-fit (record {
        items = items;
        place = on_block (Some block) 0 (memory_info vector drops places n);
        role = reader;
      }) refl (counted drops n, omega (arith, ends.0), ends.1)

  -- windows over a caller's buffer that has a place for each item at least, or over an `Arc` of one
  pub buffer-fits : (block : ℕ) (items : List T) (places : ℕ) (metadata : M)
      → length items ≤ places → RowFits drops (buffer_row block items places metadata)
  buffer-fits block items places metadata less =
      reads-fit (buffer_row block items places metadata) refl (refl, omega arith, less)

  pub raw-fits : (by_itself : Bool) (block : ℕ) (items : List T)
      → RowFits {M = M} drops (raw_row by_itself block items)
  raw-fits by_itself block items =
      reads-fit (raw_row by_itself block items) refl (refl, omega arith, omega arith)

  pub written-fits : (block : ℕ) (items : List T) (places : ℕ) (metadata : M)
      → length items ≤ places → RowFits drops (written_buffer_row block items places metadata)
  written-fits block items places metadata less = record {
    within = (refl, omega arith, less);
    writer = λ sole. whole drops;
    shared = λ several. absurd (false≢true several);
  }
    where
      info : BlockInfo M
      info = buffer_info true places (length items) (Some metadata)

      whole : (d : Bool) → EndsAt d info 0 (length items) places
      whole true =
          let end : (0 + length items == length items) ≡ true =
          eq-eqb (0 + length items) (length items) (omega arith) in
          (omega arith) ∙ sym (ap (λ b. if not b then length items else places - 0) end)
      whole false = (less, omega arith)

  -- a writer with so many places, which are at least as many as its items
  pub writer-fits : (block : ℕ) (items : List T) (places : ℕ) → length items ≤ places
      → RowFits {M = M} drops (record {
        items = items;
        place = if places == 0 then nowhere else
            on_block (Some block) 0 (partly_full drops places (length items));
        role = sole_writer places;
      })
  writer-fits block items places less =
      let n = length items in
      let ends = ends-at drops places n less in
      let place : Place (Option ℕ) M = on_block (Some block) 0 (partly_full drops places n) in
      record {
        within =
            within-if drops false (places == 0) place n
            (λ none. omega (arith, eqb-true places 0 none, less))
            (counted drops n, omega (arith, ends.0), ends.1);
        writer = λ sole. has (places == 0) refl;
        shared = λ several. absurd (false≢true several);
      }
    where
      whole : (d : Bool) (n places : ℕ) → n ≤ places
          → EndsAt {M = M} d (partly_full d places n) 0 n places
      whole true n places less =
          let end : (0 + n == n) ≡ true = eq-eqb (0 + n) n (omega arith) in
          (omega arith) ∙ sym (ap (λ b. if not b then n else places - 0) end)
      whole false n places less = (less, omega arith)

      has : (b : Bool) → (places == 0) ≡ b
          → HasPlaces {M = M} drops (if b then nowhere else
          on_block (Some block) 0 (partly_full drops places (length items))) (length items) places
      has true is = eqb-true places 0 is
      has false is = whole drops (length items) places less

-- the row's first items
pub truncate-fits : {T M : Type 0} (drops : Bool) (row : Row T M) (n : ℕ) → n < length row.items
    → RowFits drops row → RowFits drops (truncated drops row n)
truncate-fits true row n less f =
    let long : length (take n row.items) ≡ n = length-take-le n row.items (omega (arith, less)) in
    record {
      within =
          subst (λ b. LieWithin true b row.place (length (take n row.items)))
          (sym (small-with row.role n))
          (within-less true (is_small row.role) row.place (length row.items)
          (length (take n row.items)) f.within (omega (arith, long, less)));
      writer = λ sole.
          let places = capacity-with row.role n sole in
          subst (λ c. HasPlaces true row.place (length (take n row.items)) c) (sym places)
          (subst (λ m. HasPlaces true row.place m n) (sym long)
          (places-own row.place (length row.items) n (capacity_of row.role)
          (subst (λ b. LieWithin true b row.place (length row.items))
          (sole-small row.role (sole-before row.role n sole)) f.within) less
          (f.writer (sole-before row.role n sole))));
      shared = λ several. absurd
          (false≢true (sym (f.shared (several-before row.role n several)).kept));
    }
truncate-fits false row n less f =
    let long : length (take n row.items) ≡ n = length-take-le n row.items (omega (arith, less)) in
    record {
      within =
          within-less false (is_small row.role) row.place (length row.items)
          (length (take n row.items)) f.within (omega (arith, long, less));
      writer = λ sole.
          places-left row.place (length row.items) (length (take n row.items))
          (capacity_of row.role) (omega (arith, long, less)) (f.writer sole);
      shared = λ several.
          let was = f.shared several in
          record {
            kept = was.kept;
            places = was.places;
            room = omega (arith, long, less, was.room);
          };
    }

-- ---- parts of a row that is read

module _ {T M : Type 0} (setting : Setting T) (row : Row T M) (reads : is_writer row.role ≡ false)
    (f : RowFits setting.drops row) where
  lies : (start end : ℕ) → start ≤ end → end ≤ length row.items
      → LieWithin setting.drops (is_small row.role) (moved start row.place)
      (length (sub row.items start end))
  lies start end ordered within =
      within-moved setting.drops (is_small row.role) row.place start (length row.items)
      (length (sub row.items start end))
      f.within (omega (arith, length-sub row.items start end ordered within, ordered, within))

  pub part-fits : (start end : ℕ) → start ≤ end → end ≤ length row.items
      → RowFits setting.drops (part_of setting.layout.has_static row start end)
  part-fits start end ordered within =
      let items = sub row.items start end in
      let nothing = setting.layout.has_static && (length items == 0) in
      reads-fit setting.drops (part_of setting.layout.has_static row start end) reads
      (within-if setting.drops (is_small row.role) nothing (moved start row.place) (length items)
      (λ none. eqb-true (length items) 0 (and_parts setting.layout.has_static (length items == 0)
      none).1)
      (lies start end ordered within))

  pub cut-fits : (start end : ℕ) → start ≤ end → end ≤ length row.items
      → RowFits setting.drops (cut_row row start end)
  cut-fits start end ordered within =
      reads-fit setting.drops (cut_row row start end) reads (lies start end ordered within)
