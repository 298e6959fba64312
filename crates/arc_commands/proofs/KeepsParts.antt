-- Parts of a row fit where it does, and have no places beside its own.
use Rattle.std.proofs.Common.{◌≡◌, ℕ, ◌+◌, ◌-◌, ◌≤◌, ◌<◌, ◌==◌, ◌&&◌, Bool, true, false}
use Rattle.std.proofs.Common.{if◌then◌else◌, length, take, drop, List, ◌++◌, Option, refl, sym}
use Rattle.std.proofs.Common.{ap, ◌∙◌, subst}
use Rattle.std.proofs.Common.{arith}
use Rattle.std.proofs.lemmas.Bool.{false≢true}
use Rattle.std.proofs.lemmas.List.{length-drop, length-take-le}
use Rattle.arc_buffer.specs.Slice.{sub}
use Rattle.arc_buffer.proofs.Sub.{length-sub}
use Rattle.arc_block.specs.Place.{Place, nowhere, static_data, on_block, moved}
use Rattle.arc_block.specs.Table.{Row, Role, reader, sole_writer, one_writer_of_several}
use Rattle.arc_block.specs.Table.{inline, forgotten}
use Rattle.arc_parts.specs.Writers.{capacity_of, with_capacity, after_advance, as_reader}
use Rattle.arc_commands.specs.Apart.{CoversAt, role_places}
use Rattle.arc_commands.specs.Blocks.{is_several, is_sole, is_writer}
use Rattle.arc_commands.specs.Changes.{Setting, part_of, cut_row, off_part, to_part, truncated}
use Rattle.arc_commands.proofs.Fits.{advance-fits, as-reader-fits, truncate-fits, part-fits}
use Rattle.arc_commands.proofs.Fits.{cut-fits}
use Rattle.arc_parts.specs.Shared.{extended, front_of}
use Rattle.arc_commands.specs.Fits.{RowFits}
use Rattle.arc_commands.proofs.Among.{back-fits, extended-fits, front-fits}
use Rattle.arc_commands.proofs.Parts.{KeepsPart, Parts, sole-with, stays-moved, stays-same}
use Rattle.arc_commands.proofs.Parts.{writes-with}
use Rattle.arc_commands.proofs.Roles.{several_each, several-is, several-small, several-sole}
use Rattle.arc_commands.proofs.Roles.{several-with}
use Rattle.arc_commands.proofs.Several.{split_parted}

-- ---- places

module _ {M : Type 0} where
  covers-less : (place : Place (Option ℕ) M) (few many n : ℕ) → few ≤ many
      → CoversAt place few n → CoversAt place many n
  covers-less nowhere few many n less covers = covers
  covers-less static_data few many n less covers = covers
  covers-less (on_block block offset info) few many n less covers =
      (covers.0, omega (arith, covers.1, less))

  covers-moved : (place : Place (Option ℕ) M) (by few many n : ℕ) → by + few ≤ many
      → CoversAt (moved by place) few n → CoversAt place many n
  covers-moved nowhere by few many n less covers = covers
  covers-moved static_data by few many n less covers = covers
  covers-moved (on_block block offset info) by few many n less covers =
      (omega (arith, covers.0), omega (arith, covers.1, less))

  covers-if : (nothing : Bool) (place : Place (Option ℕ) M) (by few many n : ℕ) → by + few ≤ many
      → CoversAt (if nothing then nowhere else moved by place) few n → CoversAt place many n
  covers-if true place by few many n less covers = absurd covers
  covers-if false place by few many n less covers = covers-moved place by few many n less covers

-- ---- roles

read-places : (role : Role) (len : ℕ) → is_writer role ≡ false → role_places role len ≡ len
read-places reader len reads = refl
read-places (sole_writer places) len reads = absurd (false≢true (sym reads))
read-places (one_writer_of_several places) len reads = absurd (false≢true (sym reads))
read-places inline len reads = refl
read-places forgotten len reads = refl

fewer : (role : Role) (few len : ℕ) → few ≤ len → role_places role few ≤ role_places role len
fewer reader few len less = less
fewer (sole_writer places) few len less = omega arith
fewer (one_writer_of_several places) few len less = omega arith
fewer inline few len less = less
fewer forgotten few len less = less

-- of a role that is no writer's
fewer-cut : (role : Role) (few len places : ℕ) → few ≤ len → is_sole role ≡ false
    → (is_several role ≡ true → ⊥) → role_places (with_capacity role places) few ≤ role_places role
    len
fewer-cut reader few len places less sole several = less
fewer-cut (sole_writer before) few len places less sole several =
    absurd (false≢true (sym sole))
fewer-cut (one_writer_of_several before) few len places less sole several = absurd (several refl)
fewer-cut inline few len places less sole several = less
fewer-cut forgotten few len places less sole several = less

further : (role : Role) (by len : ℕ) → by ≤ len → is_sole role ≡ false
    → (is_several role ≡ true → len ≤ capacity_of role)
    → by + role_places (with_capacity role (capacity_of role - by)) (len - by) ≤ role_places role
    len
further reader by len less sole room = omega (arith, less)
further (sole_writer places) by len less sole room = absurd (false≢true (sym sole))
further (one_writer_of_several places) by len less sole room = omega (arith, less, room refl)
further inline by len less sole room = omega (arith, less)
further forgotten by len less sole room = omega (arith, less)

module _ {T M : Type 0} (drops : Bool) where
  one-part : (b : Bool) (row one other : Row T M) → KeepsPart drops row one
      → KeepsPart drops row other → KeepsPart drops row (if b then one else other)
  one-part true row one other h k = h
  one-part false row one other h k = k

  pub advance-part : (row : Row T M) (by : ℕ) → by ≤ length row.items
      → KeepsPart drops row (after_advance by row)
  advance-part row by less = record {
    fits = advance-fits drops row by less;
    writes = λ writes. sym (writes-with row.role (capacity_of row.role - by)) ∙ writes;
    places = λ sole f n covers.
        covers-moved row.place by
        (role_places (with_capacity row.role (capacity_of row.role - by)) (length row.items - by))
        (role_places row.role (length row.items)) n
        (further row.role by (length row.items) less sole (λ several. (f.shared several).room))
        (subst (λ l. CoversAt (moved by row.place)
        (role_places (with_capacity row.role (capacity_of row.role - by)) l) n)
        (length-drop by row.items) covers);
  }

pub truncate-part : {T M : Type 0} (drops : Bool) (row : Row T M) (n : ℕ) → n < length row.items
    → KeepsPart drops row (truncated drops row n)
truncate-part true row n less = record {
  fits = truncate-fits true row n less;
  writes = λ writes. sym (writes-with row.role n) ∙ writes;
  places = λ sole f m covers.
      let long : length (take n row.items) ≡ n = length-take-le n row.items (omega (arith, less)) in
      covers-less row.place (role_places (with_capacity row.role n) (length (take n row.items)))
      (role_places row.role (length row.items)) m
      (fewer-cut row.role (length (take n row.items)) (length row.items) n
      (omega (arith, long, less))
      sole (λ several. false≢true (sym (f.shared several).kept))) covers;
}
truncate-part false row n less = record {
  fits = truncate-fits false row n less;
  writes = λ writes. writes;
  places = λ sole f m covers.
      let long : length (take n row.items) ≡ n = length-take-le n row.items (omega (arith, less)) in
      covers-less row.place (role_places row.role (length (take n row.items)))
      (role_places row.role (length row.items)) m
      (fewer row.role (length (take n row.items)) (length row.items) (omega (arith, long, less)))
      covers;
}

-- one writer of several has a place for each item at least
enough : (role : Role) (len : ℕ) → is_several role ≡ true → len ≤ capacity_of role
    → len ≤ role_places role len
enough role len several =
    several_each (λ r. len ≤ capacity_of r → len ≤ role_places r len) (λ places room. room) role
    several

-- as a reader one of several has the places of his items
pub freeze-part : {T M : Type 0} (drops : Bool) (row : Row T M) → is_several row.role ≡ true
    → KeepsPart drops row (as_reader row)
freeze-part drops row several = record {
  fits = as-reader-fits drops row (several-small row.role several);
  writes = λ writes. absurd (false≢true writes);
  places = λ sole f n covers.
      covers-less row.place (length row.items) (role_places row.role (length row.items)) n
      (enough row.role (length row.items) several (f.shared several).room) covers;
}

-- ---- parts of the places of one of several writers

among-places : (role : Role) (len : ℕ) → is_several role ≡ true
    → role_places role len ≡ capacity_of role
among-places role len several =
    ap (λ r. role_places r len) (several-is role several)

with-places : (role : Role) (places len : ℕ) → is_several role ≡ true
    → role_places (with_capacity role places) len ≡ places
with-places role places len several =
    ap (λ r. role_places r len) (several-with role places several)

module _ {T M : Type 0} (drops : Bool) (row : Row T M) (several : is_several row.role ≡ true)
  where
    -- all places are his, and with so many of them he has these
    all : role_places row.role (length row.items) ≡ capacity_of row.role
    all = among-places row.role (length row.items) several

    own : (places len : ℕ) → role_places (with_capacity row.role places) len ≡ places
    own places len = with-places row.role places len several

    pub extended-part : (items : List T)
        → (RowFits drops row → length row.items + length items ≤ capacity_of row.role)
        → KeepsPart drops row (extended items row)
    extended-part items within = record {
      fits = extended-fits drops row several items within;
      writes = λ writes. writes;
      places = λ sole f n covers.
          covers-less row.place (role_places row.role (length (row.items ++ items)))
          (role_places row.role (length row.items)) n
          (omega (arith, among-places row.role (length (row.items ++ items)) several, all)) covers;
    }

    module _ (at : ℕ) (within : RowFits drops row → at ≤ capacity_of row.role) where
      front-part : KeepsPart drops row (front_of at row)
      front-part = record {
        fits = front-fits drops row several at within;
        writes = λ writes. sym (writes-with row.role at) ∙ writes;
        places = λ sole f n covers.
            covers-less row.place
            (role_places (with_capacity row.role at) (length (take at row.items)))
            (role_places row.role (length row.items)) n
            (omega (arith, own at (length (take at row.items)), all, within f)) covers;
      }

      back-part : KeepsPart drops row (after_advance at row)
      back-part = record {
        fits = back-fits drops row several at within;
        writes = λ writes. sym (writes-with row.role (capacity_of row.role - at)) ∙ writes;
        places = λ sole f n covers.
            let behind = capacity_of row.role - at in
            covers-moved row.place at
            (role_places (with_capacity row.role behind) (length (drop at row.items)))
            (role_places row.role (length row.items)) n
            (omega (arith, own behind (length (drop at row.items)), all, within f)) covers;
      }

      pub off-parts : Parts drops row (front_of at row) (after_advance at row)
      off-parts = record {
        shares = several-sole row.role several;
        first = (stays-same row.place, sole-with row.role at);
        second = (stays-moved at row.place, sole-with row.role (capacity_of row.role - at));
        keeps = front-part;
        also = back-part;
        apart = λ writes f. (split_parted row at several (within f)).apart;
      }

      pub to-parts : Parts drops row (after_advance at row) (front_of at row)
      to-parts = record {
        shares = several-sole row.role several;
        first = (stays-moved at row.place, sole-with row.role (capacity_of row.role - at));
        second = (stays-same row.place, sole-with row.role at);
        keeps = back-part;
        also = front-part;
        apart = λ writes f n one other.
            (split_parted row at several (within f)).apart n other one;
      }

-- ---- parts of a row that is read

module _ {T M : Type 0} (setting : Setting T) (row : Row T M) (reads : is_writer row.role ≡ false)
  where
    -- from start on so many items are behind it
    behind : (start end : ℕ) → start ≤ end → end ≤ length row.items
        → start + role_places row.role (length (sub row.items start end))
        ≤ role_places row.role (length row.items)
    behind start end ordered within =
        omega (
          arith,
          read-places row.role (length (sub row.items start end)) reads,
          read-places row.role (length row.items) reads,
          length-sub row.items start end ordered within,
          ordered,
          within,
        )

    pub part-part : (start end : ℕ) → start ≤ end → end ≤ length row.items
        → KeepsPart setting.drops row (part_of setting.layout.has_static row start end)
    part-part start end ordered within = record {
      fits = λ f. part-fits setting row reads f start end ordered within;
      writes = λ writes. writes;
      places = λ sole f n covers.
          covers-if (setting.layout.has_static && (length (sub row.items start end) == 0)) row.place
          start
          (role_places row.role (length (sub row.items start end)))
          (role_places row.role (length row.items)) n (behind start end ordered within) covers;
    }

    pub cut-part : (start end : ℕ) → start ≤ end → end ≤ length row.items
        → KeepsPart setting.drops row (cut_row row start end)
    cut-part start end ordered within = record {
      fits = λ f. cut-fits setting row reads f start end ordered within;
      writes = λ writes. writes;
      places = λ sole f n covers.
          covers-moved row.place start (role_places row.role (length (sub row.items start end)))
          (role_places row.role (length row.items)) n (behind start end ordered within) covers;
    }

    pub off-part : (at : ℕ) → at ≤ length row.items
        → KeepsPart setting.drops row (off_part setting.layout.has_static row at)
    off-part at within =
        one-part setting.drops (at == 0) row (part_of setting.layout.has_static row 0 0)
        (part_of setting.layout.has_static row at (length row.items))
        (part-part 0 0 (omega arith) (omega arith))
        (part-part at (length row.items) within (omega arith))

    pub to-part : (at : ℕ) → at ≤ length row.items
        → KeepsPart setting.drops row (to_part setting.layout.has_static row at)
    to-part at within =
        one-part setting.drops (at == length row.items) row
        (part_of setting.layout.has_static row at at) (part_of setting.layout.has_static row 0 at)
        (part-part at at (omega arith) within) (part-part 0 at (omega arith) within)
