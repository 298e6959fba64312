-- Of each answer to a command: where each row comes from, and what is handed out.
use Rattle.std.proofs.Common.{inl, inr, ◌≡◌, ◌⊎◌, ℕ, ◌≤◌, ◌==◌, ◌&&◌, Bool, true, false}
use Rattle.std.proofs.Common.{if◌then◌else◌, not, List, [], ◌∷◌, ◌++◌, length, Option, Some, None}
use Rattle.std.proofs.Common.{slice_get, slice_set, refl, sym, ap, ◌∙◌, subst, arith}
use Rattle.std.specs.Prelude.{◌||◌, is_some, nat_lt, replicate}
use Rattle.std.specs.Option.{option_flatten, option_map, option_map_or}
use Rattle.std.proofs.lemmas.Bool.{and_parts, eq-eqb, false≢true}
use Rattle.std.proofs.lemmas.Option.{none-some, same_Some}
use Rattle.arc_block.proofs.Lists.{get-set, get-set_other, push-cases, set-cases}
use Rattle.arc_block.specs.Block.{BlockInfo, buffer_info, full_places, memory_info, native_facts}
use Rattle.arc_block.specs.Block.{partly_full, vector}
use Rattle.arc_block.specs.Inline.{inline_limit}
use Rattle.arc_block.specs.Place.{Place, nowhere, static_data, on_block}
use Rattle.arc_block.specs.Table.{Role, Row, StandsOn, Table, block_of, is_alone, row_at}
use Rattle.arc_block.specs.Table.{reader, sole_writer, one_writer_of_several, inline, forgotten}
use Rattle.arc_parts.specs.Shared.{can_join, ends_at, joined_row}
use Rattle.arc_parts.specs.Writers.{capacity_of}
use Rattle.arc_commands.proofs.FitsStep.{not-apart}
use Rattle.arc_commands.specs.Blocks.{is_several, is_sole, is_writer}
use Rattle.arc_commands.specs.Changes.{Change, Setting, Shortage, is_free, is_now}
use Rattle.arc_commands.specs.Changes.{made_row, no_shortage, of_blocks, of_buffer, of_clones}
use Rattle.arc_commands.specs.Changes.{of_growth, of_table, raw_row, static_row}
use Rattle.arc_commands.specs.Changes.{writer_row}
use Rattle.arc_commands.specs.Commands.{ListCmd, ListReply}
use Rattle.arc_commands.specs.Fits.{HasSharedPlaces, RowsFit}
use Rattle.arc_table.specs.Once.{brought, given, put_in}
use Rattle.arc_commands.specs.Several.{are_apart, join_answer}
use Rattle.arc_commands.specs.Step.{answer, answer_any, answer_by, answer_row}
use Rattle.arc_commands.specs.Step.{around_of, changed, founded, has_call, is_allowed, is_for}
use Rattle.arc_commands.specs.Step.{is_for_both, joined, other_of, row_by, window_of}
use Rattle.arc_commands.specs.Step.{with_block, with_row}
use Rattle.arc_commands.specs.declared.command.Cmd.TheVariants.{Slice, Small, Vec, Static, Raw}
use Rattle.arc_commands.specs.declared.command.Cmd.TheVariants.{Buf, MBuf, New, Cap, Zero, MSlice}
use Rattle.arc_commands.specs.declared.command.Cmd.TheVariants.{Push, Ext, Join}
use Rattle.arc_commands.specs.declared.command.Reply.TheVariants as reply
use Rattle.arc_table.proofs.Keeps.{Begins, Comes, Each, Good, IsWholeAt, any-good, comes}
use Rattle.arc_table.proofs.Keeps.{writer-for}
use Rattle.arc_table.proofs.Lie.{lies-all}
use Rattle.arc_commands.proofs.Lists.{there}
use Rattle.arc_table.proofs.Stays.{as-same, at-if, on-if}

-- ---- what a command puts in

quiet-put : {T M : Type 0} (setting : Setting T) (c : ListCmd T M) → brought setting c ≡ []
    → (r : ListReply T M) → put_in setting c r ≡ []
quiet-put setting c quiet (reply.New number) = quiet
quiet-put setting c quiet reply.Ok = quiet
quiet-put setting c quiet other = refl

-- into a block that is there, only writers put anything
put-writes : {T M : Type 0} (setting : Setting T) (c : ListCmd T M) (i : ℕ)
    → window_of c ≡ Some i → (role : Role) → is_for c role ≡ true → (r : ListReply T M)
    → (put_in setting c r ≡ []) ⊎ (is_writer role ≡ true)
put-writes {T} {M} setting (Push j x) i win role is r =
    inr (writer-for {T = T} {M = M} (Push j x) refl refl role is)
put-writes {T} {M} setting (Ext j xs) i win role is r =
    inr (writer-for {T = T} {M = M} (Ext j xs) refl refl role is)
put-writes setting (Slice items) i win role is r = absurd (none-some i win)
put-writes setting (Small items) i win role is r = absurd (none-some i win)
put-writes setting (Vec items) i win role is r = absurd (none-some i win)
put-writes setting (Raw items) i win role is r = absurd (none-some i win)
put-writes setting (Buf items metadata) i win role is r = absurd (none-some i win)
put-writes setting (MBuf items metadata) i win role is r = absurd (none-some i win)
put-writes setting (Zero count) i win role is r = absurd (none-some i win)
put-writes setting (MSlice items) i win role is r = absurd (none-some i win)
put-writes setting c i win role is r = inl (quiet-put setting c refl r)

-- ---- where a row comes from

module _ {T M : Type 0} (setting : Setting T) (t : Table T M) (c : ListCmd T M)
    (r : ListReply T M) where
  -- it stood there before; it comes of the row of the command's window; or it stands on a new block
  pub data Whence (k : ℕ) (row : Row T M) : Type 0 where
    was_there : row_at t k ≡ Some row → (window_of c ≡ Some k → put_in setting c r ≡ [])
        → Whence k row
    comes_of : (w : ℕ) (was : Row T M) → window_of c ≡ Some w → row_at t w ≡ Some was
        → Comes setting.drops was (put_in setting c r) row → Whence k row
    begins_at : Begins setting.drops t.blocks (put_in setting c r) row → Whence k row

  -- what is handed out are the items of the window's row, and with them all that its block keeps,
  -- on which no other row stands
  pub record Hands (new : Table T M) (items : List T) : Type 0 where
    pub window : ℕ
    pub row : Row T M
    pub on : window_of c ≡ Some window
    pub alive : row_at t window ≡ Some row
    pub all : row.items ≡ items
    pub only : (is_sole row.role || is_free (is_alone t row.place) row.place) ≡ true
    pub whole : IsWholeAt setting.drops r row.place (length row.items)
    pub rest : (k : ℕ) (other : Row T M) → row_at new k ≡ Some other
        → (¬ (window ≡ k)) × (row_at t k ≡ Some other)

  -- what is known of the table after a step
  pub record Moves (new : Table T M) : Type 0 where
    pub rows : (k : ℕ) (row : Row T M) → row_at new k ≡ Some row → Whence k row
    pub hands : (items : List T) → given r ≡ Some items → Hands new items
    pub writes : (w : ℕ) (was : Row T M) → window_of c ≡ Some w → row_at t w ≡ Some was
        → (put_in setting c r ≡ []) ⊎ (is_writer was.role ≡ true)
    pub more : t.blocks ≤ new.blocks
    -- where the other window of a join stood, one stands
    pub other : (j n : ℕ) → other_of c ≡ Some j → StandsOn t j n → (k : ℕ) × StandsOn new k n

  -- nothing changed
  still : given r ≡ None → put_in setting c r ≡ [] → Moves t
  still none quiet = record {
    rows = λ k row at. was_there at (λ win. quiet);
    hands = λ items out. absurd (none-some items (sym none ∙ out));
    writes = λ w was win at. inl quiet;
    more = omega arith;
    other = λ j n on stands. (j, stands);
  }

-- ---- a command on a window

more-blocks : (b : Bool) (n : ℕ) → n ≤ with_block b n
more-blocks true n = omega arith
more-blocks false n = omega arith

module _ {T M : Type 0} where
  put-cases : (rows : List (Option (Row T M))) (i : ℕ) (x made : Option (Row T M)) (k : ℕ)
      (row : Row T M)
      → option_flatten (slice_get (with_row (slice_set rows i x) made) k) ≡ Some row
      → ((¬ (i ≡ k)) × (option_flatten (slice_get rows k) ≡ Some row))
      ⊎ ((x ≡ Some row) ⊎ (made ≡ Some row))
  put-cases rows i x None k row at =
      elim (set-cases rows i k (Some row) x
      (there (slice_get (slice_set rows i x) k) row at)) [
        | inl old ↦ inl (old.0, ap option_flatten old.1)
        | inr set ↦ inr (inl set.1)
      ]
  put-cases rows i x (Some made) k row at =
      elim (push-cases (slice_set rows i x) k (Some row) (Some made)
      (there (slice_get (slice_set rows i x ++ Some made ∷ []) k) row at)) [
        | inl front ↦ elim (set-cases rows i k (Some row) x front) [
          | inl old ↦ inl (old.0, ap option_flatten old.1)
          | inr set ↦ inr (inl set.1)
        ]
        | inr last ↦ inr (inr last.1)
      ]

module _ {T M : Type 0} (setting : Setting T) (short : Shortage) (places : ℕ) (t : Table T M)
    (fit : RowsFit setting.drops t) (c : ListCmd T M) (i : ℕ) (win : window_of c ≡ Some i)
    (one : other_of c ≡ None) where
  module _ (row : Row T M) (at : row_at t i ≡ Some row) where
    each-whence : (begins : Bool) (r : ListReply T M) (k : ℕ) (new : Row T M)
        → Each setting short (around_of places t row) row (fit i row at) c begins r (Some new)
        → Whence setting t c r k new
    each-whence false r k new comes = comes_of i row win at comes
    each-whence true r k new begins = begins_at begins

    change-moves : (change : Change T M)
        → Good setting short (around_of places t row) row (fit i row at) c change
        → (put_in setting c change.reply ≡ []) ⊎ (is_writer row.role ≡ true)
        → Moves setting t c change.reply (changed t i change).1
    change-moves change good writes =
        let each = Each setting short (around_of places t row) row (fit i row at) c change.begins
        change.reply in record {
          rows = λ k new here.
              elim (put-cases t.rows i change.row change.made k new here) [
                | inl old ↦ was_there old.1
                    (λ on. absurd (old.0 (same_Some i k (sym win ∙ on))))
                | inr now ↦ elim now [
                  | inl kept ↦ each-whence change.begins change.reply k new
                      (subst each kept good.keeps)
                  | inr made ↦ each-whence change.begins change.reply k new
                      (subst each made good.makes)
                ]
              ];
          hands = λ items out. let h = good.hands items out in record {
            window = i;
            row = row;
            on = win;
            alive = at;
            all = h.all;
            only = h.only;
            whole = h.whole;
            rest = λ k other here.
                elim (put-cases t.rows i change.row change.made k other here) [
                  | inl old ↦ old
                  | inr now ↦ elim now [
                    | inl kept ↦ absurd (none-some other (sym h.goes ∙ kept))
                    | inr made ↦ absurd (none-some other (sym h.single ∙ made))
                  ]
                ];
          };
          writes = λ w was on there_too.
              let same : i ≡ w = same_Some i w (sym win ∙ on) in
              let is : row ≡ was = same_Some row was
              (sym at ∙ ap (row_at t) same ∙ there_too) in
              elim writes [
                | inl quiet ↦ inl quiet
                | inr sole ↦ inr (subst (λ (x : Row T M). is_writer x.role ≡ true) is sole)
              ];
          more = more-blocks change.begins t.blocks;
          other = λ j n on stands. absurd (none-some j (sym one ∙ on));
        }

    writes-any : (b : Bool) → b ≡ is_allowed setting.calls c row.role
        → let one = answer_row setting short (around_of places t row) c row in
        let change = if b then one else is_now reply.Kind row in
        (put_in setting c change.reply ≡ []) ⊎ (is_writer row.role ≡ true)
    writes-any true is =
        put-writes setting c i win row.role
        (and_parts (is_for c row.role) (has_call setting.calls c) (sym is)).0
        (answer_row setting short (around_of places t row) c row).reply
    writes-any false is = inl refl

  window-moves : (x : Option (Row T M)) → row_at t i ≡ x
      → let o = option_map_or (λ row. changed t i
      (answer_any setting short (around_of places t row) c row)) x (reply.NoWindow, t) in
      Moves setting t c o.0 o.1
  window-moves None at = still setting t c reply.NoWindow refl refl
  window-moves (Some row) at =
      change-moves row at (answer_any setting short (around_of places t row) c row)
      (any-good setting short (around_of places t row) row (fit i row at) c)
      (writes-any row at _ refl)

-- ---- a command that makes a window of what it brings

fully : (drops : Bool) (n : ℕ) → drops ≡ true → full_places drops n ≡ Some n
fully drops n owned = ap (λ d. full_places d n) owned

module _ {T M : Type 0} (setting : Setting T) (block : ℕ) where
  -- a row, if there is one, stands on the new block, into which these were put
  abbrev Opens : List T → Option (Row T M) → Type 0
  Opens put None = Unit {0}
  Opens put (Some new) = Begins setting.drops block put new

  opens-if : (put : List T) (b : Bool) (new : Row T M) → Begins setting.drops block put new
      → Opens put (if b then Some new else None)
  opens-if put true new opens = opens
  opens-if put false new opens = tt

  either-opens : (put : List T) (b : Bool) (one other : Row T M)
      → Begins setting.drops block put one → Begins setting.drops block put other
      → Begins setting.drops block put (if b then one else other)
  either-opens put true one other h k = h
  either-opens put false one other h k = k

  -- all that is put in lies on the new block from its front on, or the row stands on nothing
  opens-all : (items : List T) (role : Role) (nothing : Bool) (info : BlockInfo M)
      → (setting.drops ≡ true → info.full ≡ Some (length items))
      → let place = if nothing then nowhere else on_block (Some block) 0 info in
      Begins setting.drops block items (record { items = items; place = place; role = role })
  opens-all items role nothing info full = record {
    stands = at-if nothing block (on_block (Some block) 0 info) refl;
    lies = λ owned. on-if nothing items items (on_block (Some block) 0 info)
        (full owned, lies-all items);
  }

  opens-list : (items : List T) → Begins {M = M} setting.drops block items
      (made_row setting.layout.has_static setting.drops block items)
  opens-list items =
      opens-all items reader (setting.layout.has_static && (length items == 0))
      (native_facts setting.drops (length items)) (fully setting.drops (length items))

  opens-writer : (items : List T) (many : ℕ) → Begins {M = M} setting.drops block items
      (writer_row setting.drops block items many)
  opens-writer items many =
      opens-all items (sole_writer many) (many == 0)
      (partly_full setting.drops many (length items)) (fully setting.drops (length items))

  opens-zero : (count : ℕ) (zero : Option T) (x : Option (Row T M))
      → x ≡ option_map (λ item. writer_row setting.drops block (replicate count item) count) zero
      → Opens (option_map_or (λ item. replicate count item) zero []) x
  opens-zero count None x is = subst (Opens []) (sym is) tt
  opens-zero count (Some item) x is =
      subst (Opens (replicate count item)) (sym is) (opens-writer (replicate count item) count)

  opens-raw : (items : List T) (by_itself : Bool) → Begins {M = M} setting.drops block items
      (raw_row by_itself block items)
  opens-raw items true = record { stands = tt; lies = λ owned. (refl, lies-all items) }
  opens-raw items false = record { stands = refl; lies = λ owned. (refl, lies-all items) }

  opens-made : (places : ℕ) (c : ListCmd T M)
      → Opens (brought setting c) (row_by setting places block c)
  opens-made places (Slice items) = opens-if items setting.calls.copies _ (opens-list items)
  opens-made places (Small items) =
      opens-if items setting.calls.small _
      (either-opens items (nat_lt inline_limit (length items)) _ _
      (opens-all items inline (setting.layout.has_static && (length items == 0))
      (native_facts setting.drops (length items)) (fully setting.drops (length items)))
      (opens-all items inline true (native_facts setting.drops (length items))
      (fully setting.drops (length items))))
  opens-made places (Vec items) =
      opens-if items setting.layout.has_any _
      (either-opens items (places == 0) _ _ (opens-list items)
      (opens-all items reader false (memory_info vector setting.drops places (length items))
      (fully setting.drops (length items))))
  opens-made places (Static items) =
      opens-if [] setting.layout.has_static (static_row items)
      (record { stands = tt; lies = λ owned. tt })
  opens-made places (Raw items) =
      opens-if items (setting.calls.any_list && setting.layout.has_any) _
      (opens-raw items setting.layout.by_itself)
  opens-made places (Buf items metadata) =
      opens-if items (setting.calls.any_list && setting.layout.has_any) _
      (opens-all items reader false (buffer_info false places (length items) (Some metadata))
      (λ owned. refl))
  opens-made places (MBuf items metadata) =
      opens-if items (setting.calls.any_list && setting.writes_any) _
      (opens-all items (sole_writer places) false
      (buffer_info true places (length items) (Some metadata)) (λ owned. refl))
  opens-made places New = opens-writer [] 0
  opens-made places (Cap wanted) = opens-writer [] wanted
  opens-made places (Zero count) = opens-zero count setting.zero _ refl
  opens-made places (MSlice items) =
      opens-if items setting.calls.copies _ (opens-writer items (length items))
  opens-made places other = tt

module _ {T M : Type 0} (setting : Setting T) (t : Table T M) (c : ListCmd T M)
    (win : window_of c ≡ None) (one : other_of c ≡ None) where
  opened : (row : Row T M) → Begins setting.drops t.blocks (brought setting c) row
      → let o = founded no_shortage t row in Moves setting t c o.0 o.1
  opened row opens = record {
    rows = λ k new here.
        elim (push-cases t.rows k (Some new) (Some row)
        (there (slice_get (t.rows ++ Some row ∷ []) k) new here)) [
          | inl old ↦ was_there (ap option_flatten old)
              (λ on. absurd (none-some k (sym win ∙ on)))
          | inr last ↦ begins_at (subst (Begins setting.drops t.blocks (brought setting c))
              (same_Some row new last.1) opens)
        ];
    hands = λ items out. absurd (none-some items out);
    writes = λ w was on at. absurd (none-some w (sym win ∙ on));
    more = more-blocks (is_some (block_of row.place)) t.blocks;
    other = λ j n on stands. absurd (none-some j (sym one ∙ on));
  }

  founded-moves : (s : Shortage) (row : Row T M)
      → Begins setting.drops t.blocks (brought setting c) row
      → let o = founded s t row in Moves setting t c o.0 o.1
  founded-moves of_table row opens = still setting t c reply.Alloc refl refl
  founded-moves no_shortage row opens = opened row opens
  founded-moves of_clones row opens = opened row opens
  founded-moves of_blocks row opens = opened row opens
  founded-moves of_buffer row opens = opened row opens
  founded-moves (of_growth e) row opens = opened row opens

  made-moves : (s : Shortage) (x : Option (Row T M)) → Opens setting t.blocks (brought setting c) x
      → let o = option_map_or (founded s t) x (reply.Kind, t) in Moves setting t c o.0 o.1
  made-moves s None opens = still setting t c reply.Kind refl refl
  made-moves s (Some row) opens = founded-moves s row opens

-- ---- a join

module _ {T M : Type 0} (setting : Setting T) (t : Table T M) (i j : ℕ) where
  abbrev join : ListCmd T M
  join = Join i j

  stays-put : (r : ListReply T M) → given r ≡ None → Moves setting t join r t
  stays-put r none = still setting t join r none (quiet-put setting join refl r)

  joins-several : (role : Role) → is_for {T = T} {M = M} (Join i j) role ≡ true
      → is_several role ≡ true
  joins-several reader is = absurd (false≢true is)
  joins-several (sole_writer places) is = absurd (false≢true is)
  joins-several (one_writer_of_several places) is = refl
  joins-several inline is = absurd (false≢true is)
  joins-several forgotten is = absurd (false≢true is)

  -- two that are joined stand on one block
  one-block : (here there : Place (Option ℕ) M) (few places n : ℕ) → HasSharedPlaces here places
      → are_apart (block_of here) (block_of there) ≡ false → ends_at few here there ≡ true
      → block_of there ≡ Some n → block_of here ≡ Some n
  one-block here nowhere few places n has same ends on = absurd (none-some n on)
  one-block here static_data few places n has same ends on = absurd (none-some n on)
  one-block here (on_block None p its) few places n has same ends on = absurd (none-some n on)
  one-block nowhere (on_block (Some m) p its) few places n has same ends on =
      absurd (false≢true ends)
  one-block static_data (on_block (Some m) p its) few places n has same ends on =
      absurd (false≢true ends)
  one-block (on_block None o info) (on_block (Some m) p its) few places n has same ends on =
      absurd has
  one-block (on_block (Some l) o info) (on_block (Some m) p its) few places n has same ends on =
      ap Some (not-apart l m same) ∙ on

  module _ (fit : RowsFit setting.drops t) (row other : Row T M) (at : row_at t i ≡ Some row)
      (beside : row_at t j ≡ Some other) (several : is_several row.role ≡ true) where
    abbrev Joined : Table T M
    Joined = record {
      rows = slice_set (slice_set t.rows j None) i (Some (joined_row row other));
      blocks = t.blocks;
    }

    joined-moves : ¬ (i ≡ j) → are_apart (block_of row.place) (block_of other.place) ≡ false
        → can_join row other ≡ true → Moves setting t join reply.Ok Joined
    joined-moves differ same can = record {
      rows = λ k new here.
          elim (set-cases (slice_set t.rows j None) i k (Some new) (Some (joined_row row other))
          (there (slice_get Joined.rows k) new here)) [
            | inl old ↦ elim (set-cases t.rows j k (Some new) None old.1) [
              | inl was ↦ was_there (ap option_flatten was.1) (λ on. refl)
              | inr gone ↦ absurd (none-some new gone.1)
            ]
            | inr set ↦ comes_of i row refl at
                (subst (Comes setting.drops row [])
                (same_Some (joined_row row other) new set.1) (record {
                  stays = as-same row.place;
                  lies = λ owned. absurd (false≢true (sym ((fit i row at).shared several).kept
                      ∙ owned));
                }))
          ];
      hands = λ items out. absurd (none-some items out);
      writes = λ w was on here. inl refl;
      more = omega arith;
      other = λ k n on stands.
          let this : j ≡ k = same_Some j k on in
          let is : other ≡ stands.row =
          same_Some other stands.row (sym beside ∙ ap (row_at t) this ∙ stands.alive) in
          let under : block_of other.place ≡ Some n =
          ap (λ (x : Row T M). block_of x.place) is ∙ stands.stands in (
            i,
            record {
              row = joined_row row other;
              alive = ap option_flatten (get-set (slice_set t.rows j None) i (Some row)
                  (Some (joined_row row other))
                  (get-set_other t.rows j i None (λ e. differ (sym e))
                  ∙ there (slice_get t.rows i) row at));
              stands = one-block row.place other.place (capacity_of row.role)
                  (capacity_of row.role) n ((fit i row at).shared several).places same
                  (and_parts (length row.items == capacity_of row.role) _ can).1 under;
            },
          );
    }

    either-joined : (b : Bool) (one two : ListReply T M × Option (Row T M))
        → (b ≡ true → let o = joined t i j one in Moves setting t join o.0 o.1)
        → (b ≡ false → let o = joined t i j two in Moves setting t join o.0 o.1)
        → let o = joined t i j (if b then one else two) in Moves setting t join o.0 o.1
    either-joined true one two h k = h refl
    either-joined false one two h k = k refl

    answer-joined : ¬ (i ≡ j)
        → let o = joined t i j (join_answer row other) in Moves setting t join o.0 o.1
    answer-joined differ =
        either-joined (are_apart (block_of row.place) (block_of other.place))
        (reply.Refused, None) _ (λ apart. stays-put reply.Refused refl) (λ same.
        either-joined (can_join row other) (reply.Ok, Some (joined_row row other))
        (reply.Refused, None) (joined-moves differ same)
        (λ gap. stays-put reply.Refused refl))

  module _ (fit : RowsFit setting.drops t) where
    both-if : (row other : Row T M) → row_at t i ≡ Some row → row_at t j ≡ Some other
        → (b : Bool) → b ≡ is_for_both setting.calls join i j row other
        → let o = if b then joined t i j (join_answer row other) else (reply.Kind, t) in
        Moves setting t join o.0 o.1
    both-if row other at beside false is = stays-put reply.Kind refl
    both-if row other at beside true is =
        let both = and_parts (is_allowed setting.calls join row.role
        && is_allowed setting.calls join other.role) (not (i == j)) (sym is) in
        let roles = and_parts (is_allowed setting.calls join row.role)
        (is_allowed setting.calls join other.role) both.0 in
        let one = and_parts (is_for join row.role) (has_call setting.calls join) roles.0 in
        answer-joined fit row other at beside (joins-several row.role one.0)
        (λ same. false≢true (sym (ap not (eq-eqb i j same)) ∙ both.1))

    pair-moves : (x y : Option (Row T M)) → row_at t i ≡ x → row_at t j ≡ y
        → let o = option_map_or (λ row. option_map_or (λ other.
        if is_for_both setting.calls join i j row other
        then joined t i j (join_answer row other) else (reply.Kind, t)) y (reply.NoWindow, t)) x
        (reply.NoWindow, t) in
        Moves setting t join o.0 o.1
    pair-moves None y at beside = stays-put reply.NoWindow refl
    pair-moves (Some row) None at beside = stays-put reply.NoWindow refl
    pair-moves (Some row) (Some other) at beside = both-if row other at beside _ refl

-- ---- each command

module _ {T M : Type 0} (setting : Setting T) (short : Shortage) (places : ℕ) (t : Table T M)
    (fit : RowsFit setting.drops t) where
  by-moves : (c : ListCmd T M) → other_of c ≡ None → (x : Option ℕ) → window_of c ≡ x
      → let o = answer_by setting short places t c x in Moves setting t c o.0 o.1
  by-moves c one None win =
      made-moves setting t c win one short (row_by setting places t.blocks c)
      (opens-made setting t.blocks places c)
  by-moves c one (Some i) win =
      window-moves setting short places t fit c i win one (row_at t i) refl

  pub answer-moves : (c : ListCmd T M)
      → let o = answer setting short places t c in Moves setting t c o.0 o.1
  answer-moves (Join i j) = pair-moves setting t i j fit (row_at t i) (row_at t j) refl refl
  answer-moves c = by-moves c refl (window_of c) refl
