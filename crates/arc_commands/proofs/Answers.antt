-- What a command is answered, wherever memory is refused: each way in which it may be; and where
-- none is, that it is one of its steps.
use Rattle.std.proofs.Common.{inl, inr, ◌≡◌, ◌⊎◌, ℕ, Bool, true, false, if◌then◌else◌, List, Option}
use Rattle.std.proofs.Common.{Some}
use Rattle.std.proofs.Common.{None, refl, length, slice_set, ◌++◌, [], ◌∷◌, ◌==◌}
use Rattle.std.proofs.Common.{slice_get}
use Rattle.std.proofs.Common.{◌&&◌, ap, sym, ◌∙◌, subst}
use Rattle.std.specs.Prelude.{◌≤◌}
use Rattle.std.specs.Prelude.{nat_lt, not, is_some, ◌+◌, replicate}
use Rattle.std.proofs.Common.{arith}
use Rattle.std.proofs.lemmas.List.{length-replicate}
use Rattle.std.proofs.lemmas.Bool.{false≢true, and_parts, eqb-true, eq-eqb}
use Rattle.std.specs.Option.{option_map, option_map_or}
use Rattle.arc_owners.specs.declared.error.TryReserveError.TheVariants as reserve
use Rattle.arc_block.specs.Block.{Sort, BlockInfo, native_facts, partly_full, memory_info}
use Rattle.arc_block.specs.Block.{native, vector, buffer, raw, buffer_info, raw_info}
use Rattle.arc_block.specs.Inline.{inline_limit}
use Rattle.arc_block.specs.Moves.{layout_move}
use Rattle.arc_block.specs.declared.layout.Move.{Move}
use Rattle.arc_block.specs.declared.layout.Move.TheVariants as to
use Rattle.arc_block.specs.Place.{Place, nowhere, static_data, on_block}
use Rattle.arc_parts.specs.Shared.{can_join, joined_row}
use Rattle.arc_block.specs.Table.{Row, Table, Role, row_at, block_of, is_alone}
use Rattle.arc_block.specs.Table.{reader, sole_writer, one_writer_of_several, inline, forgotten}
use Rattle.arc_parts.specs.Writers.{as_sole}
use Rattle.arc_parts.specs.declared.room.Room.{Room as RoomFrom}
use Rattle.arc_parts.specs.declared.room.Room.TheVariants as from
use Rattle.arc_commands.specs.Blocks.{is_several, is_writer}
use Rattle.arc_commands.specs.Changes.{Around, Change, Setting, Shortage, after_move, as_small}
use Rattle.arc_commands.specs.Changes.{buffer_row, filled, is_now, is_unique_at, made_row}
use Rattle.arc_commands.specs.Changes.{may_write}
use Rattle.arc_commands.specs.Changes.{no_shortage, of_blocks, of_buffer, of_clones, of_growth}
use Rattle.arc_commands.specs.Changes.{of_table, raw_row, room_of, small_row, static_row}
use Rattle.arc_commands.specs.Changes.{vector_row}
use Rattle.arc_commands.specs.Changes.{writer_row, written_buffer_row}
use Rattle.arc_commands.specs.Commands.{ListCmd, ListReply}
use Rattle.arc_commands.specs.Fits.{RowFits}
use Rattle.arc_commands.specs.Several.{are_apart, filled_alone, filled_shared, is_beside}
use Rattle.arc_commands.specs.Several.{join_answer}
use Rattle.arc_commands.specs.Step.{Step, answer, answer_any, answer_by, answer_row, answer_two}
use Rattle.arc_commands.specs.Step.{around_of, changed, count_brought, founded, has_call}
use Rattle.arc_commands.specs.Step.{is_allowed}
use Rattle.arc_commands.specs.Step.{is_for, is_for_both, joined, row_by, shortage, window_of}
use Rattle.arc_commands.specs.Step.{with_block, written}
use Rattle.arc_commands.specs.declared.command.Cmd.TheVariants.{Slice, Uniq, Small, Static, New}
use Rattle.arc_commands.specs.declared.command.Cmd.TheVariants.{Cap}
use Rattle.arc_commands.specs.declared.command.Cmd.TheVariants.{Zero, MSlice, Vec, Raw, Buf, MBuf}
use Rattle.arc_commands.specs.declared.command.Cmd.TheVariants.{Freeze, Join, Res, Push, Ext}
use Rattle.arc_commands.specs.declared.command.Reply.TheVariants as reply
use Rattle.arc_commands.proofs.Fits.{founded-fits, writer-fits, vector-fits}
use Rattle.arc_commands.proofs.Fits.{reads-fit, buffer-fits, raw-fits, written-fits}
use Rattle.arc_commands.proofs.Fits.{inside-fits, small-fits}
use Rattle.arc_commands.proofs.Lists.{set-there, set-twice, there}
use Rattle.arc_commands.proofs.Outcomes.{TurnsAsMay}
use Rattle.arc_commands.proofs.Outcomes.{IsLone, MayTell, MayTellMore, StaysPut, Writes}
use Rattle.arc_commands.proofs.Outcomes.{any_each, reserves, pushes, extends}
use Rattle.arc_commands.proofs.Parts.{IsPart, KeepsFit, KeepsPart, Parts}

-- a row that is put where it stands leaves the table as it is
pub put-back : {T M : Type 0} (t : Table T M) (i : ℕ) (row : Row T M) → row_at t i ≡ Some row
    → record { rows = slice_set t.rows i (Some row); blocks = t.blocks } ≡ t
put-back t i row at =
    ap (λ rows. record { rows = rows; blocks = t.blocks })
    (set-there t.rows i (Some row) (there (slice_get t.rows i) row at))

-- What holds of each way in which a command may be answered: the table stays, or has a window more,
-- or a row was split, or became a part of itself, or where no other stands on its block another one
-- there, or one on a block more, also split in two there, or two were joined, or one went.
pub record Outcomes {T M : Type 0} (setting : Setting T) (short : Shortage) (places : ℕ)
    (t : Table T M) (this : ListCmd T M) (Holds : ListReply T M → Table T M → Type 0) : Type 0
  where
    pub same : (r : ListReply T M) → MayTell short this r → Holds r t
    pub founds : (items : List T) (role : Role) (nothing : Bool) (info : BlockInfo M)
        → is_several role ≡ false
        → let place = if nothing then nowhere else on_block (Some t.blocks) 0 info in
        RowFits {M = M} setting.drops (record { items = items; place = place; role = role })
        → Holds (reply.New (length t.rows)) (record {
          rows = t.rows ++ Some (record { items = items; place = place; role = role }) ∷ [];
          blocks = with_block (is_some (block_of place)) t.blocks;
        })
    pub apart : (row : Row T M) → is_writer row.role ≡ false → block_of row.place ≡ None
        → RowFits setting.drops row
        → Holds (reply.New (length t.rows)) (founded no_shortage t row).1
    pub splits : (i : ℕ) (row kept made : Row T M) → row_at t i ≡ Some row
        → Parts setting.drops row kept made
        → Holds (reply.New (length t.rows)) (record {
          rows = slice_set t.rows i (Some kept) ++ Some made ∷ [];
          blocks = t.blocks;
        })
    pub becomes : (i : ℕ) (row part : Row T M) → row_at t i ≡ Some row → IsPart row part
        → KeepsPart setting.drops row part
        → Holds reply.Ok (record { rows = slice_set t.rows i (Some part); blocks = t.blocks })
    pub writes : (i : ℕ) (row : Row T M) → row_at t i ≡ Some row
        → may_write setting (around_of places t row) row ≡ true → Holds reply.Ok
        (record { rows = slice_set t.rows i (Some (as_sole setting.drops row)); blocks = t.blocks })
    pub refits : (i : ℕ) (row new : Row T M) (r : ListReply T M) → MayTell short this r
        → row_at t i ≡ Some row → IsLone (is_alone t row.place) row
        → TurnsAsMay setting.calls.shares row.role new.role → StaysPut row new
        → KeepsFit setting.drops row new
        → Holds r (record { rows = slice_set t.rows i (Some new); blocks = t.blocks })
    pub begins : (i : ℕ) (row : Row T M) (items : List T) (role : Role) (nothing : Bool)
        (info : BlockInfo M) → row_at t i ≡ Some row
        → TurnsAsMay setting.calls.shares row.role role
        → let place = if nothing then nowhere else on_block (Some t.blocks) 0 info in
        KeepsFit setting.drops row (record { items = items; place = place; role = role })
        → Holds reply.Ok (record {
          rows = slice_set t.rows i (Some (record { items = items; place = place; role = role }));
          blocks = with_block (is_some (block_of place)) t.blocks;
        })
    pub moves : (i : ℕ) (row : Row T M) (items : List T) (role : Role) (info : BlockInfo M)
        (kept made : Row T M) → row_at t i ≡ Some row
        → TurnsAsMay setting.calls.shares row.role role
        → let whole : Row T M =
        record { items = items; place = on_block (Some t.blocks) 0 info; role = role } in
        KeepsFit setting.drops row whole → Parts setting.drops whole kept made
        → Holds (reply.New (length t.rows)) (record {
          rows = slice_set (slice_set t.rows i (Some whole)) i (Some kept) ++ Some made ∷ [];
          blocks = t.blocks + 1;
        })
    pub joins : (i j : ℕ) (row other : Row T M) → ¬ (i ≡ j) → row_at t i ≡ Some row
        → row_at t j ≡ Some other → is_several row.role ≡ true → is_several other.role ≡ true
        → are_apart (block_of row.place) (block_of other.place) ≡ false
        → can_join row other ≡ true
        → Holds reply.Ok (record {
          rows = slice_set (slice_set t.rows j None) i (Some (joined_row row other));
          blocks = t.blocks;
        })
    pub goes : (r : ListReply T M) → MayTell short this r → (i : ℕ)
        → Holds r (record { rows = slice_set t.rows i None; blocks = t.blocks })

-- a command for one of several writers
joins-several : (T M : Type 0) (i j : ℕ) (role : Role)
    → is_for {T = T} {M = M} (Join i j) role ≡ true → is_several role ≡ true
joins-several T M i j reader is = absurd (false≢true is)
joins-several T M i j (sole_writer places) is = absurd (false≢true is)
joins-several T M i j (one_writer_of_several places) is = refl
joins-several T M i j inline is = absurd (false≢true is)
joins-several T M i j forgotten is = absurd (false≢true is)

-- two numbers that aren't the same
differ : (i j : ℕ) → not (i == j) ≡ true → ¬ (i ≡ j)
differ i j is same = false≢true (sym (ap not (eq-eqb i j same)) ∙ is)

-- Whatever holds of each of these holds of the answer.
module _ {T M : Type 0} (setting : Setting T) (short : Shortage) (places : ℕ) (t : Table T M)
    (this : ListCmd T M) (enough : count_brought this ≤ places)
    (Holds : ListReply T M → Table T M → Type 0)
    (each : Outcomes setting short places t this Holds) where
  abbrev same : (r : ListReply T M) → MayTell short this r → Holds r t
  same = each.same

  abbrev After : ListReply T M × Table T M → Type 0
  After o = Holds o.0 o.1

  founded_each : (s : Shortage) → s ≡ short → (row : Row T M)
      → After (founded no_shortage t row) → After (founded s t row)
  founded_each no_shortage is row after = after
  founded_each of_table is row after = same reply.Alloc (inr (inl is))
  founded_each of_clones is row after = after
  founded_each of_blocks is row after = after
  founded_each of_buffer is row after = after
  founded_each (of_growth e) is row after = after

  abbrev Makes : Option (Row T M) → Type 0
  Makes x = After (option_map_or (founded short t) x (reply.Kind, t))

  writer_each : (items : List T) (places : ℕ) → length items ≤ places
      → Makes (Some (writer_row setting.drops t.blocks items places))
  writer_each items places within =
      founded_each short refl (writer_row setting.drops t.blocks items places)
      (each.founds items (sole_writer places) (places == 0)
      (partly_full setting.drops places (length items)) refl
      (writer-fits setting.drops t.blocks items places within))

  zero_each : (count : ℕ) (x : Option T)
      → Makes (option_map (λ item.
      writer_row setting.drops t.blocks (replicate count item) count) x)
  zero_each count None = same reply.Kind (inl refl)
  zero_each count (Some item) =
      writer_each (replicate count item) count (omega (arith, length-replicate count item))

  if_each : (has : Bool) (row : Row T M) → Makes (Some row)
      → Makes (if has then Some row else None)
  if_each true row after = after
  if_each false row after = same reply.Kind (inl refl)

  list_each : (items : List T)
      → Makes (Some (made_row setting.layout.has_static setting.drops t.blocks items))
  list_each items =
      let nothing = setting.layout.has_static && (length items == 0) in
      founded_each short refl (made_row setting.layout.has_static setting.drops t.blocks items)
      (each.founds items reader nothing (native_facts setting.drops (length items)) refl
      (founded-fits setting.drops t.blocks items nothing
      (λ none. eqb-true (length items) 0
      (and_parts setting.layout.has_static (length items == 0) none).1)))

  either_each : (b : Bool) (one other : Row T M) → Makes (Some one) → Makes (Some other)
      → Makes (Some (if b then one else other))
  either_each true one other h k = h
  either_each false one other h k = k

  small_each : (items : List T)
      → Makes (Some (small_row setting.layout.has_static setting.drops t.blocks items))
  small_each items =
      let nothing = setting.layout.has_static && (length items == 0) in
      let info : BlockInfo M = native_facts setting.drops (length items) in
      let inside : Row T M = record { items = items; place = nowhere; role = inline } in
      let shared : Row T M =
      as_small (made_row setting.layout.has_static setting.drops t.blocks items) in
      either_each (nat_lt inline_limit (length items)) shared inside
      (founded_each short refl shared (each.founds items inline nothing info refl
      (small-fits setting.drops t.blocks items nothing (λ none. eqb-true (length items) 0
      (and_parts setting.layout.has_static (length items == 0) none).1))))
      (founded_each short refl inside
      (each.founds items inline true info refl (inside-fits setting.drops items)))

  vector_each : (items : List T) → length items ≤ places
      → Makes (Some (vector_row setting.layout.has_static setting.drops t.blocks items places))
  vector_each items within =
      let info : BlockInfo M = memory_info vector setting.drops places (length items) in
      let row : Row T M = record {
        items = items;
        place = on_block (Some t.blocks) 0 info;
        role = reader;
      } in
      either_each (places == 0) (made_row setting.layout.has_static setting.drops t.blocks items)
      row
      (list_each items)
      (founded_each short refl row (each.founds items reader false info refl
      (vector-fits setting.drops t.blocks items places within)))

  raw_each : (items : List T) (by_itself : Bool) → Makes (Some (raw_row by_itself t.blocks items))
  raw_each items true =
      founded_each short refl (raw_row true t.blocks items)
      (each.apart (raw_row true t.blocks items) refl refl
      (raw-fits setting.drops true t.blocks items))
  raw_each items false =
      founded_each short refl (raw_row false t.blocks items)
      (each.founds items reader false (raw_info (length items) None) refl
      (raw-fits setting.drops false t.blocks items))

  made_each : (c : ListCmd T M) → c ≡ this → Makes (row_by setting places t.blocks c)
  made_each (Slice items) e =
      if_each setting.calls.copies (made_row setting.layout.has_static setting.drops t.blocks items)
      (list_each items)
  made_each (Small items) e =
      let row = small_row setting.layout.has_static setting.drops t.blocks items in
      if_each setting.calls.small row (small_each items)
  made_each (Vec items) e =
      if_each setting.layout.has_any (vector_row setting.layout.has_static setting.drops t.blocks
      items places)
      (vector_each items (subst (λ d. count_brought d ≤ places) (sym e) enough))
  made_each (Static items) e =
      if_each setting.layout.has_static (static_row items)
      (founded_each short refl (static_row items)
      (each.apart (static_row items) refl refl (reads-fit setting.drops
      (static_row items) refl tt)))
  made_each (Raw given) e =
      if_each (setting.calls.any_list && setting.layout.has_any)
      (raw_row setting.layout.by_itself t.blocks given) (raw_each given setting.layout.by_itself)
  made_each (Buf given metadata) e =
      let within = subst (λ d. count_brought d ≤ places) (sym e) enough in
      let info : BlockInfo M = buffer_info false places (length given) (Some metadata) in
      if_each (setting.calls.any_list && setting.layout.has_any)
      (buffer_row t.blocks given places metadata)
      (founded_each short refl (buffer_row t.blocks given places metadata)
      (each.founds given reader false info refl
      (buffer-fits setting.drops t.blocks given places metadata within)))
  made_each (MBuf given metadata) e =
      let within = subst (λ d. count_brought d ≤ places) (sym e) enough in
      let info : BlockInfo M = buffer_info true places (length given) (Some metadata) in
      if_each (setting.calls.any_list && setting.writes_any)
      (written_buffer_row t.blocks given places metadata)
      (founded_each short refl (written_buffer_row t.blocks given places metadata)
      (each.founds given (sole_writer places) false info refl
      (written-fits setting.drops t.blocks given places metadata within)))
  made_each New e = writer_each [] 0 (omega arith)
  made_each (Cap wanted) e = writer_each [] wanted (omega arith)
  made_each (Zero count) e = zero_each count setting.zero
  made_each (MSlice items) e =
      if_each setting.calls.copies (writer_row setting.drops t.blocks items (length items))
      (writer_each items (length items) (omega arith))
  made_each other e = same reply.Kind (inl refl)

  at_each : (c : ListCmd T M) → c ≡ this → (i : ℕ) (x : Option (Row T M))
      → row_at t i ≡ x
      → After (option_map_or (λ row. changed t i
      (answer_any setting short (around_of places t row) c row))
      x (reply.NoWindow, t))
  at_each c e i None none = same reply.NoWindow (inl refl)
  at_each c e i (Some row) at =
      any_each setting short (around_of places t row) row this
      (λ change. After (changed t i change)) (record {
        same = λ r tells. subst (Holds r) (sym (put-back t i row at)) (same r tells);
        parts = λ kept made parts. each.splits i row kept made at parts;
        becomes = λ part. each.becomes i row part at;
        writes = each.writes i row at;
        refits = λ new r tells. each.refits i row new r tells at;
        begins = λ items role nothing info. each.begins i row items role nothing info at;
        moves = λ items role info kept made may fits parts.
            subst (λ rows. Holds (reply.New (length t.rows))
            (record { rows = rows ++ Some made ∷ []; blocks = t.blocks + 1 }))
            (set-twice t.rows i (Some (record {
              items = items;
              place = on_block (Some t.blocks) 0 info;
              role = role;
            })) (Some kept))
            (each.moves i row items role info kept made at may fits parts);
        goes = λ r tells. each.goes r tells i;
      }) c e

  by_each : (c : ListCmd T M) → c ≡ this → (x : Option ℕ)
      → After (answer_by setting short places t c x)
  by_each c e None = made_each c e
  by_each c e (Some i) = at_each c e i (row_at t i) refl

  -- a join of two windows
  module _ (i j : ℕ) (is : Join i j ≡ this) where
    refused : MayTell short this reply.Refused
    refused = inl (sym (ap (λ d. shortage reply.Refused d) is))

    after-pair : (b : Bool) (one other : ListReply T M × Option (Row T M))
        → (b ≡ true → After (joined t i j one)) → (b ≡ false → After (joined t i j other))
        → After (joined t i j (if b then one else other))
    after-pair true one other h k = h refl
    after-pair false one other h k = k refl

    joined_each : (row other : Row T M) → row_at t i ≡ Some row → row_at t j ≡ Some other
        → is_for_both setting.calls (Join i j) i j row other ≡ true
        → After (joined t i j (join_answer row other))
    joined_each row other at beside may =
        let join : ListCmd T M = Join i j in
        let calls = setting.calls in
        let both = and_parts (is_allowed calls join row.role && is_allowed calls join other.role)
        (not (i == j)) may in
        let roles = and_parts (is_allowed calls join row.role) (is_allowed calls join other.role)
        both.0 in
        let one = and_parts (is_for join row.role) (has_call calls join) roles.0 in
        let two = and_parts (is_for join other.role) (has_call calls join) roles.1 in
        after-pair (are_apart (block_of row.place) (block_of other.place)) (reply.Refused, None) _
        (λ apart. same reply.Refused refused) (λ there.
        after-pair (can_join row other) (reply.Ok, Some (joined_row row other))
        (reply.Refused, None)
        (λ can. each.joins i j row other (differ i j both.1) at beside
        (joins-several T M i j row.role one.0) (joins-several T M i j other.role two.0) there can)
        (λ gap. same reply.Refused refused))

    pair_each : (x y : Option (Row T M)) → row_at t i ≡ x → row_at t j ≡ y
        → After (option_map_or (λ row. option_map_or (λ other.
        if is_for_both setting.calls (Join i j) i j row other
        then joined t i j (join_answer row other) else (reply.Kind, t)) y (reply.NoWindow, t)) x
        (reply.NoWindow, t))
    pair_each None y at beside = same reply.NoWindow (inl refl)
    pair_each (Some row) None at beside = same reply.NoWindow (inl refl)
    pair_each (Some row) (Some other) at beside =
        after-if (is_for_both setting.calls (Join i j) i j row other)
        (joined t i j (join_answer row other)) (joined_each row other at beside)
      where
        after-if : (b : Bool) (one : ListReply T M × Table T M) → (b ≡ true → After one)
            → After (if b then one else (reply.Kind, t))
        after-if true one after = after refl
        after-if false one after = same reply.Kind (inl refl)

    two_each : After (answer_two setting t (Join i j) i j)
    two_each = pair_each (row_at t i) (row_at t j) refl refl

  pub answer_each : (c : ListCmd T M) → c ≡ this → After (answer setting short places t c)
  answer_each (Join i j) e = two_each i j e
  answer_each c e = by_each c e (window_of c)

-- where it is told of a shortage that need not be, the answer is the same without it
module _ {T M : Type 0} (setting : Setting T) where
  module _ (i : ℕ) where
    abbrev uniq : ListCmd T M
    uniq = Uniq i

    abbrev says : Shortage → Bool → Place (Option ℕ) M → ListReply T M
    says short alone place = if is_unique_at short alone place then reply.Yes else reply.No

    abbrev Same : Bool → Place (Option ℕ) M → Type 0
    Same alone place =
        says (shortage (says no_shortage alone place) uniq) alone place
        ≡ says no_shortage alone place

    same-sort : (alone : Bool) (block : Option ℕ) (offset : ℕ) (info : BlockInfo M) (sort : Sort)
        → Same alone (on_block block offset (record info { sort = sort }))
    same-sort true block offset info native = refl
    same-sort false block offset info native = refl
    same-sort true block offset info vector = refl
    same-sort false block offset info vector = refl
    same-sort true block offset info (buffer writable) = refl
    same-sort false block offset info (buffer writable) = refl
    same-sort alone block offset info raw = refl

    same-says : (alone : Bool) (place : Place (Option ℕ) M) → Same alone place
    same-says alone nowhere = refl
    same-says alone static_data = refl
    same-says alone (on_block block offset info) = same-sort alone block offset info info.sort

    abbrev freeze : ListCmd T M
    freeze = Freeze i

    same-move : (around : Around) (row : Row T M) (move : Move)
        → let moved = λ (short : Shortage). after_move setting short around row move in
        moved (shortage (moved no_shortage).reply freeze) ≡ moved no_shortage
    same-move around row to.Stays = refl
    same-move around row to.HandedBack = refl
    same-move around row to.NewCount = refl
    same-move around row to.LeavesCount = refl
    same-move around row to.NewEmpty = refl

  -- what is written, as far as there is room for it: by the only writer, or by one of several
  same-filled : (around : Around) (row : Row T M) (items : List T) (c : ListCmd T M)
      (room : RoomFrom)
      → let sole = λ (short : Shortage). filled setting short around row items room in
      let shared = λ (short : Shortage). filled_alone setting short around items room row in
      (sole (shortage (sole no_shortage).reply c) ≡ sole no_shortage)
      × (shared (shortage (shared no_shortage).reply c) ≡ shared no_shortage)
  same-filled around row items c (from.Refused e) = (refl, refl)
  same-filled around row items c (from.Own additional) = (refl, refl)
  same-filled around row items c (from.Fresh places) = (refl, refl)
  same-filled around row items c from.Spare = (refl, refl)
  same-filled around row items c from.Behind = (refl, refl)
  same-filled around row items c from.Front = (refl, refl)
  same-filled around row items c (from.Growth places) = (refl, refl)

  -- or where one of several isn't alone
  same-beside : (around : Around) (row : Row T M) (items : List T) (c : ListCmd T M) (k : ℕ)
      (b : Bool)
      → let fills = λ (s : Shortage).
      if b then is_now (reply.Reserve reserve.NotUnique) row else
      filled_alone setting s around items (room_of setting row k) row in
      fills (shortage (fills no_shortage).reply c) ≡ fills no_shortage
  same-beside around row items c k true = refl
  same-beside around row items c k false =
      (same-filled around row items c (room_of setting row k)).1

  same-as : (around : Around) (row : Row T M) (items : List T) (c : ListCmd T M) (k : ℕ) (b : Bool)
      → let fills = λ (s : Shortage).
      if b then filled_shared setting s around items k row else
      filled setting s around row items (room_of setting row k) in
      fills (shortage (fills no_shortage).reply c) ≡ fills no_shortage
  same-as around row items c k true =
      same-beside around row items c k (is_beside around k row)
  same-as around row items c k false =
      (same-filled around row items c (room_of setting row k)).0

  same-written : (around : Around) (row : Row T M) (items : List T) (c : ListCmd T M) (k : ℕ)
      → written setting (shortage (written setting no_shortage around items k row).reply c) around
      items k row ≡ written setting no_shortage around items k row
  same-written around row items c k = same-as around row items c k (is_several row.role)

  -- a command on a window, of which that is so on each row
  module _ (places : ℕ) (t : Table T M) (i : ℕ) (c : ListCmd T M)
      (each : (around : Around) (row : Row T M)
      → answer_row setting (shortage (answer_row setting no_shortage around c row).reply c) around c
      row ≡ answer_row setting no_shortage around c row) where
    abbrev allowed : Shortage → Bool → Row T M → Change T M
    allowed short b row =
        if b then answer_row setting short (around_of places t row) c row else
        is_now reply.Kind row

    same-allowed : (b : Bool) (row : Row T M)
        → allowed (shortage (allowed no_shortage b row).reply c) b row ≡ allowed no_shortage b row
    same-allowed true row = each (around_of places t row) row
    same-allowed false row = refl

    abbrev asks : Shortage → Option (Row T M) → ListReply T M × Table T M
    asks short x =
        option_map_or (λ row. changed t i
        (allowed short (is_allowed setting.calls c row.role) row)) x (reply.NoWindow, t)

    same-asks : (x : Option (Row T M))
        → asks (shortage (asks no_shortage x).0 c) x ≡ asks no_shortage x
    same-asks None = refl
    same-asks (Some row) =
        ap (changed t i) (same-allowed (is_allowed setting.calls c row.role) row)

module _ {T M : Type 0} (setting : Setting T) (places : ℕ) (t : Table T M) (c : ListCmd T M)
    (enough : count_brought c ≤ places) where
  abbrev Ample : ListCmd T M → Type 0
  Ample d =
      answer setting (shortage (answer setting no_shortage places t d).0 d) places t d
      ≡ answer setting no_shortage places t d

  abbrev Told : ListReply T M → Type 0
  Told r = (shortage r c ≡ no_shortage) ⊎ MayTellMore c

  told : (r : ListReply T M) → MayTell no_shortage c r → Told r
  told r (inl is) = inl is
  told r (inr (inl is)) = inl is
  told r (inr (inr more)) = inr more

  answer_told : Told (answer setting no_shortage places t c).0
  answer_told =
      answer_each setting no_shortage places t c enough (λ reply new. Told reply) (record {
        same = told;
        founds = λ items role nothing info one fits. inl refl;
        apart = λ row reads none fits. inl refl;
        splits = λ i row kept made at parts. inl refl;
        becomes = λ i row part at is fits. inl refl;
        writes = λ i row at may. inl refl;
        refits = λ i row new r tells at lone may put fits. told r tells;
        begins = λ i row items role nothing info at may fits. inl refl;
        moves = λ i row items role info kept made at may fits parts. inl refl;
        joins = λ i j row other apart at beside one two there can. inl refl;
        goes = λ r tells i. told r tells;
      }) c refl

  ample-writes : (d : ListCmd T M) → Writes d → Ample d
  ample-writes d (reserves i k) =
      same-asks setting places t i (Res i k) (λ around row.
      same-written setting around row [] (Res i k) k) (row_at t i)
  ample-writes d (pushes i x) =
      same-asks setting places t i (Push i x) (λ around row.
      same-written setting around row (x ∷ []) (Push i x) 1) (row_at t i)
  ample-writes d (extends i xs) =
      same-asks setting places t i (Ext i xs) (λ around row.
      same-written setting around row xs (Ext i xs) (length xs)) (row_at t i)

  ample : Told (answer setting no_shortage places t c).0 → Ample c
  ample (inl none) = ap (λ short. answer setting short places t c) none
  ample (inr (inl (i, inl is))) =
      subst Ample (sym is) (same-asks setting places t i (Uniq i) (λ around row.
      ap (λ r. is_now r row) (same-says setting i around.alone row.place)) (row_at t i))
  ample (inr (inl (i, inr is))) =
      subst Ample (sym is) (same-asks setting places t i (Freeze i) (λ around row.
      same-move setting i around row
      (layout_move setting.layout row.place)) (row_at t i))
  ample (inr (inr writes)) = ample-writes c writes

  pub answer_step : Step setting t c (answer setting no_shortage places t c).0
      (answer setting no_shortage places t c).1
  answer_step = record {
    short = shortage (answer setting no_shortage places t c).0 c;
    told = refl;
    places = places;
    enough = enough;
    answered = ample answer_told;
  }
