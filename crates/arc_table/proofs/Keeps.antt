-- What a command on a row does to the things of the row's block, by each command: they stay, or
-- more come in, or they are handed out.
use Rattle.std.proofs.Common.{◌≡◌, ℕ, ◌+◌, ◌-◌, ◌≤◌, ◌==◌, ◌&&◌, Bool, true, false}
use Rattle.std.proofs.Common.{if◌then◌else◌, List, [], ◌∷◌, ◌++◌, length}
use Rattle.std.proofs.Common.{Option, Some, None, Result, Ok, Err, refl, sym, ap, ◌∙◌, subst, arith}
use Rattle.std.specs.Prelude.{◌||◌, is_some, nat_lt}
use Rattle.std.specs.Option.{option_map, option_map_or}
use Rattle.std.proofs.lemmas.Bool.{and_parts, eqb-true, false≢true}
use Rattle.std.proofs.lemmas.Option.{none-some, same_Some}
use Rattle.arc_owners.specs.declared.error.RangeError.{RangeError}
use Rattle.arc_owners.specs.declared.error.OwnerError.TheVariants.{AllocError, CountFull}
use Rattle.arc_owners.specs.declared.error.TryReserveError.TheVariants as reserve
use Rattle.arc_buffer.specs.Slice.{edge_answer, range_answer, sub}
use Rattle.arc_block.specs.Block.{BlockInfo, Sort, full_places}
use Rattle.arc_block.specs.Moves.{counted_move, layout_move}
use Rattle.arc_block.specs.Layouts.{LayoutFacts}
use Rattle.arc_block.specs.Block.{native, vector, buffer, raw}
use Rattle.arc_block.specs.declared.layout.Move.{Move}
use Rattle.arc_block.specs.declared.layout.Move.TheVariants as to
use Rattle.arc_block.specs.Place.{Place, nowhere, static_data, on_block, given_at}
use Rattle.arc_block.specs.Place.{moved}
use Rattle.arc_block.specs.Table.{Role, Row, block_of}
use Rattle.arc_block.specs.Table.{reader, sole_writer, one_writer_of_several, inline, forgotten}
use Rattle.arc_parts.specs.Shared.{as_shared, as_unique, extended, front_of, is_on_block}
use Rattle.arc_parts.specs.Shared.{is_vector, is_vector_at, on_native, split_answer}
use Rattle.arc_parts.specs.Writers.{after_advance, as_reader, as_sole, capacity_of, new_writer}
use Rattle.arc_parts.specs.Writers.{with_more, with_room}
use Rattle.arc_parts.specs.declared.room.Room.{Room as RoomFrom}
use Rattle.arc_parts.specs.declared.room.Room.TheVariants as from
use Rattle.arc_commands.specs.Blocks.{is_several, is_small, is_sole, is_writer}
use Rattle.arc_commands.specs.Changes.{Around, Change, Setting, Shortage, after_move, asking}
use Rattle.arc_commands.specs.Changes.{asking_block, cut_row, filled, gone, in_range, is_all_full}
use Rattle.arc_commands.specs.Changes.{is_box_whole, is_buffer, is_buffer_whole, is_free, is_now}
use Rattle.arc_commands.specs.Changes.{is_raw, is_raw_whole, is_unique_at, is_vector_part}
use Rattle.arc_commands.specs.Changes.{is_wanting, made_row, may_write, no_shortage, of_blocks}
use Rattle.arc_commands.specs.Changes.{of_buffer, of_clones, of_growth, of_table, off_part}
use Rattle.arc_commands.specs.Changes.{part_of, reclaimed, room_made, room_of, split_row}
use Rattle.arc_commands.specs.Changes.{taken_as, to_part, truncated, with_made, with_owner}
use Rattle.arc_commands.specs.Changes.{with_new_part}
use Rattle.arc_commands.specs.Commands.{ListCmd, ListReply}
use Rattle.arc_commands.specs.Fits.{HasPlaces, LieWithin, RowFits, counts_full, full_end}
use Rattle.arc_table.specs.Once.{HandsOutSort, brought, given, put_in}
use Rattle.arc_commands.specs.Several.{can_share, filled_alone, filled_shared, is_beside}
use Rattle.arc_commands.specs.Several.{moved_parts, parts_change, reclaimed_shared}
use Rattle.arc_commands.specs.Several.{split_off_change, split_to_change}
use Rattle.arc_commands.specs.Step.{answer_any, answer_row, is_allowed, is_for, written}
use Rattle.arc_commands.specs.declared.command.Cmd.TheVariants.{Clone, Sub, Uniq, Show, Len}
use Rattle.arc_commands.specs.declared.command.Cmd.TheVariants.{Off, To, Adv, Trunc, Drop}
use Rattle.arc_commands.specs.declared.command.Cmd.TheVariants.{TakeStatic, Room, Mut, Res, Push}
use Rattle.arc_commands.specs.declared.command.Cmd.TheVariants.{Ext, Rec, Freeze, Take, TakeBox}
use Rattle.arc_commands.specs.declared.command.Cmd.TheVariants.{TakeBuf, Meta, TakeRaw, Share}
use Rattle.arc_commands.specs.declared.command.Cmd.TheVariants.{Unique}
use Rattle.arc_commands.specs.declared.command.Reply.TheVariants as reply
use Rattle.arc_commands.proofs.Fits.{counted-owned, in-edge, in-range}
use Rattle.arc_table.proofs.Lie.{lies-all}
use Rattle.arc_commands.proofs.Lists.{none-of}
use Rattle.arc_commands.proofs.Parts.{stays-moved, stays-part}
use Rattle.arc_commands.proofs.Roles.{writes-sole}
use Rattle.arc_table.proofs.Stays.{FineAt, IsAt, IsRoomy, LiesOn, StaysAs, as-full, as-on}
use Rattle.arc_table.proofs.Stays.{as-room, as-same, as-sole, as-trans, on-drop, on-if}
use Rattle.arc_table.proofs.Stays.{on-none, on-part, on-room, on-room-more, on-sole, on-take}
use Rattle.arc_table.proofs.Stays.{room-fine}

-- ---- roles

-- a command that is for writers alone
pub writer-for : {T M : Type 0} (c : ListCmd T M) → is_for c reader ≡ false
    → is_for c inline ≡ false → (role : Role) → is_for c role ≡ true → is_writer role ≡ true
writer-for c none small reader is = absurd (false≢true (sym none ∙ is))
writer-for c none small (sole_writer places) is = refl
writer-for c none small (one_writer_of_several places) is = refl
writer-for c none small inline is = absurd (false≢true (sym small ∙ is))
writer-for c none small forgotten is = absurd (false≢true is)

writes-small : (role : Role) → is_writer role ≡ true → is_small role ≡ false
writes-small reader writes = absurd (false≢true writes)
writes-small (sole_writer places) writes = refl
writes-small (one_writer_of_several places) writes = refl
writes-small inline writes = absurd (false≢true writes)
writes-small forgotten writes = absurd (false≢true writes)

-- ---- what is whole

is-vector : (sort : Sort) → is_vector sort ≡ true → sort ≡ vector
is-vector native is = absurd (false≢true is)
is-vector vector is = refl
is-vector (buffer writable) is = absurd (false≢true is)
is-vector raw is = absurd (false≢true is)

is-raw : (sort : Sort) → is_raw sort ≡ true → sort ≡ raw
is-raw native is = absurd (false≢true is)
is-raw vector is = absurd (false≢true is)
is-raw (buffer writable) is = absurd (false≢true is)
is-raw raw is = refl

full-is : (full : Option ℕ) (len : ℕ) → option_map_or (λ f. f == len) full false ≡ true
    → full ≡ Some len
full-is None len is = absurd (false≢true is)
full-is (Some f) len is = ap Some (eqb-true f len is)

full-end : (full : Option ℕ) (size len : ℕ) → is_some full ≡ true
    → option_map_or (λ f. f) full size ≡ len → full ≡ Some len
full-end None size len counted is = absurd (false≢true counted)
full-end (Some f) size len counted is = ap Some is

module _ {M : Type 0} where
  all-full : (offset len : ℕ) (info : BlockInfo M) → is_all_full offset len info ≡ true
      → (offset ≡ 0) × (info.full ≡ Some len)
  all-full offset len info is =
      let both = and_parts (offset == 0) (option_map_or (λ f. f == len) info.full false) is in
      (eqb-true offset 0 both.0, full-is info.full len both.1)

  -- a reply hands out what the block at this place keeps: where items are dropped one by one, these
  -- are all of them
  abbrev pub IsWholeAt : {T : Type 0} → Bool → ListReply T M → Place (Option ℕ) M → ℕ → Type 0
  IsWholeAt drops answer nowhere len = ⊥
  IsWholeAt drops answer static_data len = ⊥
  IsWholeAt drops answer (on_block block offset info) len = HandsOutSort answer info.sort
      × (drops ≡ true → (offset ≡ 0) × (info.full ≡ Some len))

  module _ {T : Type 0} (drops : Bool) (items : List T) (len : ℕ) where
    vector-whole : (place : Place (Option ℕ) M) → is_vector_part drops place len ≡ true
        → IsWholeAt {T = T} drops (reply.Vec items) place len
    vector-whole nowhere is = absurd (false≢true is)
    vector-whole static_data is = absurd (false≢true is)
    vector-whole (on_block block offset info) is =
        let all = is_all_full offset len info in
        let both = and_parts (is_vector info.sort) (if drops then all else true) is in (
          is-vector info.sort both.0,
          λ owned. all-full offset len info
              (subst (λ d. (if d then all else true) ≡ true) owned both.1),
        )

    box-whole : (small : Bool) (place : Place (Option ℕ) M) → LieWithin drops small place len
        → is_box_whole place len ≡ true → IsWholeAt {T = T} drops (reply.Boxed items) place len
    box-whole small nowhere within is = absurd (false≢true is)
    box-whole small static_data within is = absurd (false≢true is)
    box-whole small (on_block block offset info) within is =
        let both = and_parts (is_vector info.sort) ((offset == 0) && (info.size == len)) is in
        let ends = and_parts (offset == 0) (info.size == len) both.1 in
        let front : offset ≡ 0 = eqb-true offset 0 ends.0 in
        let size : info.size ≡ len = eqb-true info.size len ends.1 in
        let end : full_end info ≡ len = omega (arith, within.1, within.2, front, size) in (
          is-vector info.sort both.0,
          λ owned. (
            front,
            full-end info.full info.size len (within.0
                ∙ ap (λ d. counts_full d info.sort) owned ∙ counted-owned info.sort) end,
          ),
        )

    buffer-whole : (place : Place (Option ℕ) M) → is_buffer_whole place len ≡ true
        → IsWholeAt {T = T} drops (reply.Buffer items) place len
    buffer-whole nowhere is = absurd (false≢true is)
    buffer-whole static_data is = absurd (false≢true is)
    buffer-whole (on_block block offset info) is =
        let both = and_parts (is_buffer info.sort) (is_all_full offset len info) is in
        (both.0, λ owned. all-full offset len info both.1)

    raw-whole : (place : Place (Option ℕ) M) → is_raw_whole place len ≡ true
        → IsWholeAt {T = T} drops (reply.Raw items) place len
    raw-whole nowhere is = absurd (false≢true is)
    raw-whole static_data is = absurd (false≢true is)
    raw-whole (on_block block offset info) is =
        let both = and_parts (is_raw info.sort) (is_all_full offset len info) is in
        (is-raw info.sort both.0, λ owned. all-full offset len info both.1)

-- ---- a move to a new block, which is for no items

abbrev is_new : Move → Bool
is_new to.Stays = false
is_new to.HandedBack = false
is_new to.NewEmpty = true
is_new to.NewCount = false
is_new to.LeavesCount = false

old-if : (b : Bool) (one other : Move) → is_new one ≡ false → is_new other ≡ false
    → is_new (if b then one else other) ≡ false
old-if true one other h k = h
old-if false one other h k = k

old-sort : (layout : LayoutFacts) (sort : Sort) → is_new (counted_move layout sort) ≡ false
old-sort layout native = refl
old-sort layout vector = old-if layout.has_any to.Stays to.HandedBack refl refl
old-sort layout (buffer writable) = old-if layout.has_any to.Stays to.HandedBack refl refl
old-sort layout raw =
    old-if layout.by_itself to.LeavesCount (if layout.has_any then to.Stays else to.HandedBack) refl
    (old-if layout.has_any to.Stays to.HandedBack refl refl)

module _ {M : Type 0} (layout : LayoutFacts) where
  new-empty : (drops : Bool) (place : Place (Option ℕ) M) (len : ℕ)
      → layout_move layout place ≡ to.NewEmpty → LieWithin drops false place len → len ≡ 0
  new-empty drops nowhere len is within = within refl
  new-empty drops static_data len is within =
      absurd (false≢true (sym (old-if layout.has_static to.Stays to.HandedBack refl refl)
      ∙ ap is_new is))
  new-empty drops (on_block None offset info) len is within =
      absurd (false≢true (sym (old-if layout.by_itself to.Stays
      (if layout.has_any then to.NewCount else to.HandedBack) refl
      (old-if layout.has_any to.NewCount to.HandedBack refl refl)) ∙ ap is_new is))
  new-empty drops (on_block (Some block) offset info) len is within =
      absurd (false≢true (sym (old-sort layout info.sort) ∙ ap is_new is))

-- ---- rows

module _ {T M : Type 0} (drops : Bool) where
  -- A row comes of another one: it stands on its block, or on none, and where items are dropped one
  -- by one, its items lie among those of the block, behind which these were put in.
  pub record Comes (row : Row T M) (put : List T) (new : Row T M) : Type 0 where
    pub stays : StaysAs row.place new.place
    pub lies : drops ≡ true → (all : List T) → LiesOn all row.items row.place
        → LiesOn (all ++ put) new.items new.place

  -- A row stands on the new block of this number, into which these were put, if it stands on one.
  pub record Begins (block : ℕ) (put : List T) (new : Row T M) : Type 0 where
    pub stands : IsAt block new.place
    pub lies : drops ≡ true → LiesOn put new.items new.place

  -- with nothing put in
  pub comes : (row new : Row T M) → StaysAs row.place new.place
      → (drops ≡ true → (all : List T) → LiesOn all row.items row.place
      → LiesOn all new.items new.place) → Comes row [] new
  comes row new stays lies = record {
    stays = stays;
    lies = λ owned all l. on-none all new.items new.place (lies owned all l);
  }

  either-comes : (row : Row T M) (b : Bool) (one other : Row T M) → Comes row [] one
      → Comes row [] other → Comes row [] (if b then one else other)
  either-comes row true one other h k = h
  either-comes row false one other h k = k

-- a row of a reader, a small window or a writer, and what is around it
module _ {T M : Type 0} (setting : Setting T) (short : Shortage) (around : Around) (row : Row T M)
    (fit : RowFits setting.drops row) where
  -- a row that is there after a command, on the old block or on a new one
  abbrev pub Each : ListCmd T M → Bool → ListReply T M → Option (Row T M) → Type 0
  Each c begins answer None = Unit {0}
  Each c false answer (Some new) = Comes setting.drops row (put_in setting c answer) new
  Each c true answer (Some new) =
      Begins setting.drops around.blocks (put_in setting c answer) new

  -- what is handed out are the row's items, and with them all that its block keeps, on which no
  -- other row stands
  pub record HandsRow (change : Change T M) (items : List T) : Type 0 where
    pub goes : change.row ≡ None
    pub single : change.made ≡ None
    pub all : row.items ≡ items
    pub only : (is_sole row.role || is_free around.alone row.place) ≡ true
    pub whole : IsWholeAt setting.drops change.reply row.place (length row.items)

  pub record Good (c : ListCmd T M) (change : Change T M) : Type 0 where
    pub keeps : Each c change.begins change.reply change.row
    pub makes : Each c change.begins change.reply change.made
    pub hands : (items : List T) → given change.reply ≡ Some items → HandsRow change items

  abbrev Part : Row T M → Type 0
  Part new = Comes setting.drops row [] new

  -- the same items at the same place
  kept : (role : Role) → Part (record row { role = role })
  kept role =
      comes setting.drops row (record row { role = role }) (as-same row.place) (λ owned all l. l)

  itself : Part row
  itself = comes setting.drops row row (as-same row.place) (λ owned all l. l)

  part-comes : (start end : ℕ) → start ≤ end → end ≤ length row.items
      → Part (part_of setting.layout.has_static row start end)
  part-comes start end ordered within =
      let none = setting.layout.has_static && (length (sub row.items start end) == 0) in
      let part = part_of setting.layout.has_static row start end in
      comes setting.drops row part
      (as-on row.place part.place (stays-part none start row.place))
      (λ owned all l. on-if none all (sub row.items start end) (moved start row.place)
      (on-part all row.items row.place start end ordered within l))

  cut-comes : (start end : ℕ) → start ≤ end → end ≤ length row.items
      → Part (cut_row row start end)
  cut-comes start end ordered within =
      comes setting.drops row (cut_row row start end)
      (as-on row.place (moved start row.place) (stays-moved start row.place))
      (λ owned all l. on-part all row.items row.place start end ordered within l)

  advance-comes : (by : ℕ) → by ≤ length row.items → Part (after_advance by row)
  advance-comes by within =
      comes setting.drops row (after_advance by row)
      (as-on row.place (moved by row.place) (stays-moved by row.place))
      (λ owned all l. on-drop all row.items row.place by within l)

  truncate-comes : (len : ℕ) → Part (truncated setting.drops row len)
  truncate-comes len =
      comes setting.drops row (truncated setting.drops row len) (as-same row.place)
      (λ owned all l. on-take all row.items row.place len l)

  sole-comes : Part (as_sole setting.drops row)
  sole-comes =
      comes setting.drops row (as_sole setting.drops row)
      (as-sole setting.drops row.items row.place)
      (λ owned all l. on-sole setting.drops all row.items row.place l)

  module _ (c : ListCmd T M) where
    -- nothing is handed out, and the row is this one
    now : (answer : ListReply T M) (new : Row T M) → given answer ≡ None
        → Comes setting.drops row (put_in setting c answer) new → Good c (is_now answer new)
    now answer new none is = record {
      keeps = is;
      makes = tt;
      hands = λ items out. absurd (none-some items (sym none ∙ out));
    }

    now-part : (answer : ListReply T M) (new : Row T M) → given answer ≡ None
        → put_in setting c answer ≡ [] → Part new → Good c (is_now answer new)
    now-part answer new none quiet part =
        now answer new none (subst (λ put. Comes setting.drops row put new) (sym quiet) part)

    same : (answer : ListReply T M) → given answer ≡ None → put_in setting c answer ≡ []
        → Good c (is_now answer row)
    same answer none quiet = now-part answer row none quiet itself

    leaves : (answer : ListReply T M) → given answer ≡ None → Good c (gone answer)
    leaves answer none = record {
      keeps = tt;
      makes = tt;
      hands = λ items out. absurd (none-some items (sym none ∙ out));
    }

    two : (one other : Row T M) → brought setting c ≡ [] → Part one → Part other
        → Good c (with_made around one other)
    two one other quiet h k = record {
      keeps = subst (λ put. Comes setting.drops row put one) (sym quiet) h;
      makes = subst (λ put. Comes setting.drops row put other) (sym quiet) k;
      hands = λ items out. absurd (none-some items out);
    }

    either-of : (b : Bool) (one other : Change T M) → (b ≡ true → Good c one)
        → (b ≡ false → Good c other) → Good c (if b then one else other)
    either-of true one other h k = h refl
    either-of false one other h k = k refl

    either : (b : Bool) (one other : Change T M) → Good c one → Good c other
        → Good c (if b then one else other)
    either b one other h k = either-of b one other (λ is. h) (λ not. k)

    ranged : (answer : Result (Unit {0}) RangeError) (change : Change T M)
        → (answer ≡ Ok tt → Good c change) → Good c (in_range answer row change)
    ranged (Ok done) change after = after refl
    ranged (Err e) change after = same (reply.Range e) refl refl

    asks : (s : Shortage) (change : Change T M) → Good c change → Good c (asking s row change)
    asks no_shortage change after = after
    asks of_table change after = same reply.Alloc refl refl
    asks of_clones change after = after
    asks of_blocks change after = after
    asks of_buffer change after = after
    asks (of_growth e) change after = after

    asks-block : (s : Shortage) (answer : ListReply T M) → given answer ≡ None
        → put_in setting c answer ≡ [] → (change : Change T M) → Good c change
        → Good c (asking_block s answer row change)
    asks-block of_blocks answer none quiet change after = same answer none quiet
    asks-block no_shortage answer none quiet change after = after
    asks-block of_table answer none quiet change after = after
    asks-block of_clones answer none quiet change after = after
    asks-block of_buffer answer none quiet change after = after
    asks-block (of_growth e) answer none quiet change after = after

    new-part-good : (part : Row T M) (change : Change T M) → Good c change
        → Good c (with_new_part setting short around row part change)
    new-part-good part change good =
        let full : Change T M = is_now (reply.Owner CountFull) row in
        let fills = around.full && is_some (block_of part.place) in
        asks short (with_owner setting short around row part change)
        (either (is_wanting short setting.clone_wants part.place)
        (is_now (reply.Owner AllocError) row) (if fills then full else change)
        (same (reply.Owner AllocError) refl refl)
        (either fills full change (same (reply.Owner CountFull) refl refl) good))

    split-good : (out : Bool) (cut part : Row T M) → brought setting c ≡ [] → Part cut
        → Part part → Good c (split_row setting short around out cut part row)
    split-good out cut part quiet h k =
        let swapped = with_made around part row in
        let parted = with_made around cut part in
        new-part-good part (if out then swapped else parted)
        (either out swapped parted (two part row quiet k itself) (two cut part quiet h k))

    -- ---- one of several writers, whose items aren't dropped one by one
    module _ (several : is_several row.role ≡ true) where
      unowned : setting.drops ≡ true → ⊥
      unowned owned = false≢true (sym (fit.shared several).kept ∙ owned)

      shares : (put : List T) (new : Row T M) → StaysAs row.place new.place
          → Comes setting.drops row put new
      shares put new stays = record {
        stays = stays;
        lies = λ owned. absurd (unowned owned);
      }

      opens : (put : List T) (new : Row T M) → IsAt around.blocks new.place
          → Begins setting.drops around.blocks put new
      opens put new at = record { stands = at; lies = λ owned. absurd (unowned owned) }

      module _ (keeps makes : Row T M → Row T M)
          (at : let whole = on_native setting.drops (Some around.blocks) row in
          IsAt around.blocks (keeps whole).place)
          (also : let whole = on_native setting.drops (Some around.blocks) row in
          IsAt around.blocks (makes whole).place) where
        away : Good c (record {
          reply = reply.New around.windows;
          row = Some (keeps (on_native setting.drops (Some around.blocks) row));
          made = Some (makes (on_native setting.drops (Some around.blocks) row));
          begins = true;
        })
        away = record {
          keeps = opens _ (keeps (on_native setting.drops (Some around.blocks) row)) at;
          makes = opens _ (makes (on_native setting.drops (Some around.blocks) row)) also;
          hands = λ items out. absurd (none-some items out);
        }

        moved-good : (s : Shortage) → Good c (moved_parts setting s around keeps makes row)
        moved-good of_clones = same (reply.Owner AllocError) refl refl
        moved-good no_shortage = away
        moved-good of_table = away
        moved-good of_blocks = away
        moved-good of_buffer = away
        moved-good (of_growth e) = away

        parts-good : brought setting c ≡ [] → StaysAs row.place (keeps row).place
            → StaysAs row.place (makes row).place
            → Good c (parts_change setting short around keeps makes row)
        parts-good quiet one other =
            let fills = around.full && is_some (block_of row.place) in
            let full : Change T M = is_now (reply.Owner CountFull) row in
            let made = with_made around (keeps row) (makes row) in
            asks short _
            (either (is_vector_at row.place) (moved_parts setting short around keeps makes row)
            (if fills then full else made) (moved-good short)
            (either fills full made (same (reply.Owner CountFull) refl refl)
            (two (keeps row) (makes row) quiet (shares [] (keeps row) one)
            (shares [] (makes row) other))))

      off-several : (at : ℕ) → brought setting c ≡ []
          → Good c (split_off_change setting short around at row)
      off-several at quiet =
          ranged (split_answer setting.boundary row.items (capacity_of row.role) at) _ (λ ok.
          parts-good (front_of at) (after_advance at) refl refl quiet (as-same row.place)
          (as-on row.place (moved at row.place) (stays-moved at row.place)))

      to-several : (at : ℕ) → brought setting c ≡ []
          → Good c (split_to_change setting short around at row)
      to-several at quiet =
          ranged (edge_answer setting.boundary row.items at) _ (λ ok.
          parts-good (after_advance at) (front_of at) refl refl quiet
          (as-on row.place (moved at row.place) (stays-moved at row.place))
          (as-same row.place))

      module _ (items : List T) where
        spreads : (room : RoomFrom)
            → Good c (is_now reply.Ok (extended items (with_room room row)))
        spreads room =
            now reply.Ok (extended items (with_room room row)) refl
            (shares _ (extended items (with_room room row)) (as-room room row))

        alone-good : (room : RoomFrom) → Good c (filled_alone setting short around items room row)
        alone-good (from.Refused e) = same (reply.Reserve e) refl refl
        alone-good (from.Own additional) = same (reply.Reserve reserve.Unsupported) refl refl
        alone-good (from.Fresh places) =
            asks-block short (reply.Reserve reserve.AllocError) refl refl _ (record {
              keeps = opens _ (extended items
                  (as_shared (new_writer setting.drops (Some around.blocks) [] places))) refl;
              makes = tt;
              hands = λ given out. absurd (none-some given out);
            })
        alone-good (from.Growth places) =
            asks-block short (reply.Reserve reserve.AllocError) refl refl _
            (spreads (from.Growth places))
        alone-good from.Spare = spreads from.Spare
        alone-good from.Behind = spreads from.Behind
        alone-good from.Front = spreads from.Front

        filled-several : (k : ℕ) → Good c (filled_shared setting short around items k row)
        filled-several k =
            either (is_beside around k row) (is_now (reply.Reserve reserve.NotUnique) row)
            (filled_alone setting short around items (room_of setting row k) row)
            (same (reply.Reserve reserve.NotUnique) refl refl)
            (alone-good (room_of setting row k))

      has-several : (room : RoomFrom) → Good c (is_now reply.Yes (with_room room row))
      has-several room =
          now reply.Yes (with_room room row) refl
          (shares [] (with_room room row) (as-room room row))

      found-several : (room : RoomFrom) → Good c (reclaimed row room)
      found-several (from.Refused e) = same reply.No refl refl
      found-several (from.Fresh places) = same reply.No refl refl
      found-several (from.Growth places) = same reply.No refl refl
      found-several (from.Own additional) = same reply.No refl refl
      found-several from.Spare = has-several from.Spare
      found-several from.Behind = has-several from.Behind
      found-several from.Front = has-several from.Front

      reclaimed-several : (k : ℕ) → Good c (reclaimed_shared setting around k row)
      reclaimed-several k =
          either (is_beside around k row) (is_now reply.No row)
          (reclaimed row (room_of setting row k)) (same reply.No refl refl)
          (found-several (room_of setting row k))

    -- ---- a sole writer
    module _ (sole : is_sole row.role ≡ true) (k : ℕ) where
      fine : setting.drops ≡ true → (room : RoomFrom) → room ≡ room_of setting row k
          → IsRoomy room → FineAt room row.place (length row.items) k
      fine owned room is roomy =
          subst (λ x. FineAt x row.place (length row.items) k) (sym is)
          (room-fine setting.drops owned _ setting.item_size (length row.items) k
          (capacity_of row.role) _ refl row.place
          (subst (λ d. HasPlaces d row.place (length row.items) (capacity_of row.role)) owned
          (fit.writer sole)) (subst IsRoomy is roomy))

      has-room : (room : RoomFrom) → room ≡ room_of setting row k → IsRoomy room
          → Good c (is_now reply.Yes (with_room room row))
      has-room room is roomy =
          now-part reply.Yes (with_room room row) refl refl
          (comes setting.drops row (with_room room row) (as-room room row)
          (λ owned all l. on-room room row all k (fine owned room is roomy) l))

      reclaimed-good : (room : RoomFrom) → room ≡ room_of setting row k
          → Good c (reclaimed row room)
      reclaimed-good (from.Refused e) is = same reply.No refl refl
      reclaimed-good (from.Fresh places) is = same reply.No refl refl
      reclaimed-good (from.Growth places) is = same reply.No refl refl
      reclaimed-good (from.Own additional) is = same reply.No refl refl
      reclaimed-good from.Spare is = has-room from.Spare is tt
      reclaimed-good from.Behind is = has-room from.Behind is tt
      reclaimed-good from.Front is = has-room from.Front is tt

      module _ (items : List T) (enough : length items ≤ k) (brings : brought setting c ≡ items)
        where
          more : (room : RoomFrom)
              → (setting.drops ≡ true → FineAt room row.place (length row.items) k)
              → Good c (is_now reply.Ok (with_more items (with_room room row)))
          more room fit_in =
              now reply.Ok (with_more items (with_room room row)) refl
              (subst (λ put. Comes setting.drops row put (with_more items (with_room room row)))
              (sym brings) (record {
                stays = as-trans row.place (with_room room row).place
                    (with_more items (with_room room row)).place (as-room room row)
                    (as-full (length (with_room room row).items) (length items)
                    (with_room room row).place);
                lies = λ owned all l.
                    on-room-more room row all items k enough (fit_in owned) l;
              }))

          roomy : (room : RoomFrom) → room ≡ room_of setting row k → IsRoomy room
              → Good c (is_now reply.Ok (with_more items (with_room room row)))
          roomy room is good = more room (λ owned. fine owned room is good)

          by-itself : (j : ℕ) → from.Own j ≡ room_of setting row k → (s : Shortage)
              → Good c (room_made s around row items j)
          by-itself j is of_blocks = same (reply.Reserve reserve.AllocError) refl refl
          by-itself j is (of_growth e) = same (reply.Reserve e) refl refl
          by-itself j is no_shortage =
              more (from.Growth _) (λ owned. fine owned (from.Own j) is tt)
          by-itself j is of_table = more (from.Growth _) (λ owned. fine owned (from.Own j) is tt)
          by-itself j is of_clones = more (from.Growth _) (λ owned. fine owned (from.Own j) is tt)
          by-itself j is of_buffer = more (from.Growth _) (λ owned. fine owned (from.Own j) is tt)

          -- a first block, with these items
          first : (places : ℕ) → setting.drops ≡ true
              → let new : Row T M =
              with_more items (new_writer setting.drops (Some around.blocks) [] places) in
              LiesOn items new.items new.place
          first places owned =
              let many : 0 + (length items - (0 - 0)) ≡ length items = omega arith in (
                ap (λ d. option_map (λ f. f + (length items - (f - 0))) (full_places d 0)) owned
                    ∙ ap Some many,
                lies-all items,
              )

          filled-good : (room : RoomFrom) → room ≡ room_of setting row k
              → Good c (filled setting short around row items room)
          filled-good (from.Refused e) is = same (reply.Reserve e) refl refl
          filled-good (from.Own additional) is = by-itself additional is short
          filled-good (from.Fresh places) is =
              let new : Row T M =
              with_more items (new_writer setting.drops (Some around.blocks) [] places) in
              asks-block short (reply.Reserve reserve.AllocError) refl refl _ (record {
                keeps = record {
                  stands = refl;
                  lies = λ owned. subst (λ put. LiesOn put new.items new.place) (sym brings)
                      (first places owned);
                };
                makes = tt;
                hands = λ given out. absurd (none-some given out);
              })
          filled-good from.Spare is = roomy from.Spare is tt
          filled-good from.Behind is = roomy from.Behind is tt
          filled-good from.Front is = roomy from.Front is tt
          filled-good (from.Growth places) is =
              asks-block short (reply.Reserve reserve.AllocError) refl refl _
              (roomy (from.Growth places) is tt)

    -- what a writer writes
    written-good : is_writer row.role ≡ true → (items : List T) (k : ℕ) → length items ≤ k
        → brought setting c ≡ items → Good c (written setting short around items k row)
    written-good writes items k enough brings =
        either-of (is_several row.role) (filled_shared setting short around items k row)
        (filled setting short around row items (room_of setting row k))
        (λ several. filled-several several items k)
        (λ one. filled-good (writes-sole row.role writes one) k items enough brings
        (room_of setting row k) refl)

    -- a writer's row is read from now on
    frozen-good : is_writer row.role ≡ true → brought setting c ≡ [] → (move : Move)
        → layout_move setting.layout row.place ≡ move
        → Good c (after_move setting short around row move)
    frozen-good writes quiet to.Stays is =
        now-part reply.Ok (as_reader row) refl quiet (kept reader)
    frozen-good writes quiet to.HandedBack is = same reply.Refused refl refl
    frozen-good writes quiet to.NewCount is = same reply.Refused refl refl
    frozen-good writes quiet to.LeavesCount is = same reply.Refused refl refl
    frozen-good writes quiet to.NewEmpty is =
        let new : Row T M = made_row false setting.drops around.blocks row.items in
        let none : row.items ≡ [] = none-of row.items
        (new-empty setting.layout setting.drops row.place (length row.items) is
        (subst (λ b. LieWithin setting.drops b row.place (length row.items))
        (writes-small row.role writes) fit.within)) in
        asks-block short reply.Refused refl refl _ (record {
          keeps = record {
            stands = refl;
            lies = λ owned. subst (λ put. LiesOn put row.items new.place)
                (none ∙ sym quiet)
                (ap (λ d. full_places d (length row.items)) owned, lies-all row.items);
          };
          makes = tt;
          hands = λ given out. absurd (none-some given out);
        })

    -- what the block keeps is taken out
    taken-good : (wanted : Bool) (answer : ListReply T M) → given answer ≡ Some row.items
        → (wanted ≡ true → IsWholeAt setting.drops answer row.place (length row.items))
        → Good c (taken_as wanted around row answer)
    taken-good wanted answer gives whole =
        let free = is_sole row.role || is_free around.alone row.place in
        either-of (wanted && free) (gone answer) (is_now reply.Refused row)
        (λ can. record {
          keeps = tt;
          makes = tt;
          hands = λ items out. record {
            goes = refl;
            single = refl;
            all = same_Some row.items items (sym gives ∙ out);
            only = (and_parts wanted free can).1;
            whole = whole (and_parts wanted free can).0;
          };
        }) (λ not. same reply.Refused refl refl)

    meta-good : (x : Option M)
        → Good c (is_now (option_map_or reply.Meta x reply.None) row)
    meta-good None = same reply.None refl refl
    meta-good (Some metadata) = same (reply.Meta metadata) refl refl

    unique-good : (b : Bool) → Good c (is_now (if b then reply.Yes else reply.No) row)
    unique-good true = same reply.Yes refl refl
    unique-good false = same reply.No refl refl

  -- ---- each command

  off-good : (i at : ℕ) → Good (Off i at) (answer_row setting short around (Off i at) row)
  off-good i at =
      let c : ListCmd T M = Off i at in
      either-of c (is_several row.role) (split_off_change setting short around at row) _
      (λ several. off-several c several at refl) (λ none.
      ranged c (edge_answer setting.boundary row.items at) _ (λ ok.
      let within = in-edge setting.boundary row.items at ok in
      split-good c (at == 0) (cut_row row 0 at) (off_part setting.layout.has_static row at) refl
      (cut-comes 0 at (omega arith) within)
      (either-comes setting.drops row (at == 0) (part_of setting.layout.has_static row 0 0)
      (part_of setting.layout.has_static row at (length row.items))
      (part-comes 0 0 (omega arith) (omega arith))
      (part-comes at (length row.items) within (omega arith)))))

  to-good : (i at : ℕ) → Good (To i at) (answer_row setting short around (To i at) row)
  to-good i at =
      let c : ListCmd T M = To i at in
      either-of c (is_several row.role) (split_to_change setting short around at row) _
      (λ several. to-several c several at refl) (λ none.
      ranged c (edge_answer setting.boundary row.items at) _ (λ ok.
      let within = in-edge setting.boundary row.items at ok in
      split-good c (at == length row.items) (cut_row row at (length row.items))
      (to_part setting.layout.has_static row at) refl
      (cut-comes at (length row.items) within (omega arith))
      (either-comes setting.drops row (at == length row.items)
      (part_of setting.layout.has_static row at at) (part_of setting.layout.has_static row 0 at)
      (part-comes at at (omega arith) within) (part-comes 0 at (omega arith) within))))

  row-good : (c : ListCmd T M) → is_for c row.role ≡ true
      → Good c (answer_row setting short around c row)
  row-good (Clone i) is =
      new-part-good (Clone i) row (with_made around row row)
      (two (Clone i) row row refl itself itself)
  row-good (Sub i start end) is =
      let part = part_of setting.layout.has_static row start end in
      ranged (Sub i start end) (range_answer setting.boundary row.items start end) _ (λ ok.
      let within = in-range setting.boundary row.items start end ok in
      new-part-good (Sub i start end) part (with_made around row part)
      (two (Sub i start end) row part refl itself (part-comes start end within.0 within.1)))
  row-good (Off i at) is = off-good i at
  row-good (To i at) is = to-good i at
  row-good (Uniq i) is =
      unique-good (Uniq i) (is_unique_at short around.alone row.place)
  row-good (Show i) is =
      asks (Show i) short (is_now (reply.Items row.items) row)
      (same (Show i) (reply.Items row.items) refl refl)
  row-good (Len i) is = same (Len i) (reply.Number (length row.items)) refl refl
  row-good (Room i) is = same (Room i) (reply.Number (capacity_of row.role)) refl refl
  row-good (Mut i) is =
      either (Mut i) (may_write setting around row)
      (is_now reply.Ok (as_sole setting.drops row)) (is_now reply.Refused row)
      (now-part (Mut i) reply.Ok (as_sole setting.drops row) refl refl sole-comes)
      (same (Mut i) reply.Refused refl refl)
  row-good (Res i k) is =
      written-good (Res i k) (writer-for {T = T} {M = M} (Res i k) refl refl row.role is) [] k
      (omega arith) refl
  row-good (Push i x) is =
      written-good (Push i x) (writer-for {T = T} {M = M} (Push i x) refl refl row.role is)
      (x ∷ []) 1 (omega arith) refl
  row-good (Ext i xs) is =
      written-good (Ext i xs) (writer-for {T = T} {M = M} (Ext i xs) refl refl row.role is) xs
      (length xs) (omega arith) refl
  row-good (Rec i k) is =
      let writes = writer-for {T = T} {M = M} (Rec i k) refl refl row.role is in
      either-of (Rec i k) (is_several row.role) (reclaimed_shared setting around k row)
      (reclaimed row (room_of setting row k))
      (λ several. reclaimed-several (Rec i k) several k)
      (λ one. reclaimed-good (Rec i k) (writes-sole row.role writes one) k
      (room_of setting row k) refl)
  row-good (Share i) is =
      either (Share i) (can_share setting.drops row.place) (is_now reply.Ok (as_shared row))
      (is_now reply.Refused row)
      (now-part (Share i) reply.Ok (as_shared row) refl refl
      (kept (one_writer_of_several (capacity_of row.role))))
      (same (Share i) reply.Refused refl refl)
  row-good (Unique i) is =
      either (Unique i) around.alone (is_now reply.Ok (as_unique row))
      (is_now reply.Refused row)
      (now-part (Unique i) reply.Ok (as_unique row) refl refl
      (kept (sole_writer (capacity_of row.role))))
      (same (Unique i) reply.Refused refl refl)
  row-good (Freeze i) is =
      frozen-good (Freeze i) (writer-for {T = T} {M = M} (Freeze i) refl refl row.role is) refl
      (layout_move setting.layout row.place) refl
  row-good (Adv i by) is =
      ranged (Adv i by) (edge_answer setting.boundary row.items by)
      (is_now reply.Ok (after_advance by row)) (λ ok.
      now-part (Adv i by) reply.Ok (after_advance by row) refl refl
      (advance-comes by (in-edge setting.boundary row.items by ok)))
  row-good (Trunc i len) is =
      let part = truncated setting.drops row len in
      let cut : Change T M =
      in_range (edge_answer setting.boundary row.items len) row (is_now reply.Ok part) in
      either (Trunc i len) (nat_lt len (length row.items)) cut (is_now reply.Ok row)
      (ranged (Trunc i len) (edge_answer setting.boundary row.items len)
      (is_now reply.Ok part) (λ ok.
      now-part (Trunc i len) reply.Ok part refl refl (truncate-comes len)))
      (same (Trunc i len) reply.Ok refl refl)
  row-good (Drop i) is = leaves (Drop i) reply.Ok refl
  row-good (Take i) is =
      taken-good (Take i) _ (reply.Vec row.items) refl
      (vector-whole setting.drops row.items (length row.items) row.place)
  row-good (TakeBox i) is =
      taken-good (TakeBox i) _ (reply.Boxed row.items) refl
      (box-whole setting.drops row.items (length row.items) (is_small row.role) row.place
      fit.within)
  row-good (TakeBuf i) is =
      taken-good (TakeBuf i) _ (reply.Buffer row.items) refl
      (buffer-whole setting.drops row.items (length row.items) row.place)
  row-good (TakeRaw i) is =
      taken-good (TakeRaw i) _ (reply.Raw row.items) refl
      (raw-whole setting.drops row.items (length row.items) row.place)
  row-good (Meta i) is = meta-good (Meta i) (given_at row.place)
  row-good (TakeStatic i) is =
      either (TakeStatic i) (is_on_block row.place) (is_now reply.Refused row)
      (gone (reply.Static row.items)) (same (TakeStatic i) reply.Refused refl refl)
      (leaves (TakeStatic i) (reply.Static row.items) refl)
  row-good making is = same making reply.Kind refl refl

  pub any-good : (c : ListCmd T M) → Good c (answer_any setting short around c row)
  any-good c =
      either-of c (is_allowed setting.calls c row.role) (answer_row setting short around c row)
      (is_now reply.Kind row)
      (λ is. row-good c (and_parts (is_for c row.role) _ is).0)
      (λ not. same c reply.Kind refl refl)
