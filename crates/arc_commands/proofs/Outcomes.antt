-- What a command on a row is answered, wherever memory is refused: each way in which it may be.
use Rattle.std.proofs.Common.{inl, inr, ◌≡◌, ◌⊎◌, ℕ, Bool, true, false, if◌then◌else◌, List, Option}
use Rattle.std.proofs.Common.{Some}
use Rattle.std.proofs.Common.{None, Result, Ok, Err, refl, length, ◌++◌, [], ◌∷◌, ◌==◌}
use Rattle.std.proofs.Common.{◌&&◌, ap, sym, ◌∙◌, subst}
use Rattle.std.specs.Prelude.{◌≤◌}
use Rattle.std.specs.Prelude.{nat_lt, is_some, not, ◌-◌, ◌+◌, ◌||◌, max}
use Rattle.std.proofs.Common.{arith}
use Rattle.std.proofs.lemmas.Bool.{cases_Bool, false≢true, and_parts, ltb-true}
use Rattle.std.proofs.lemmas.List.{length-append}
use Rattle.std.specs.Option.{option_map_or}
use Rattle.arc_owners.specs.declared.error.RangeError.{RangeError}
use Rattle.arc_owners.specs.declared.error.OwnerError.TheVariants.{AllocError, CountFull}
use Rattle.arc_owners.specs.declared.error.TryReserveError.{TryReserveError}
use Rattle.arc_owners.specs.declared.error.TryReserveError.TheVariants as reserve
use Rattle.arc_buffer.specs.Slice.{sub, range_answer, edge_answer}
use Rattle.arc_block.specs.Block.{Sort, BlockInfo, native_facts, memory_info, native}
use Rattle.arc_block.specs.Moves.{layout_move}
use Rattle.arc_block.specs.declared.layout.Move.{Move}
use Rattle.arc_block.specs.declared.layout.Move.TheVariants as to
use Rattle.arc_block.specs.Place.{Place, nowhere, static_data, on_block, given_at}
use Rattle.arc_parts.specs.Shared.{as_shared, as_unique, asks_alone, extended, front_of, on_native}
use Rattle.arc_parts.specs.Shared.{is_on_block, is_vector_at, split_answer}
use Rattle.arc_block.specs.Table.{Row, Role, block_of}
use Rattle.arc_block.specs.Table.{reader, sole_writer, one_writer_of_several, inline, forgotten}
use Rattle.arc_parts.specs.Writers.{with_capacity, capacity_of, as_sole, after_advance}
use Rattle.arc_parts.specs.Writers.{with_full, with_room, with_more, as_reader}
use Rattle.arc_block.specs.Place.{offset_at}
use Rattle.arc_parts.specs.declared.room.Room.{Room as RoomFrom}
use Rattle.arc_parts.specs.declared.room.Room.TheVariants as from
use Rattle.arc_commands.specs.Blocks.{is_several, is_sole, is_writer}
use Rattle.arc_commands.specs.Changes.{Setting, Shortage, no_shortage, of_table, of_clones}
use Rattle.arc_commands.specs.Changes.{of_blocks}
use Rattle.arc_commands.specs.Changes.{of_buffer, of_growth, is_unique_at, is_free}
use Rattle.arc_commands.specs.Changes.{taken_as, after_move, room_made, asking_block, filled}
use Rattle.arc_commands.specs.Changes.{reclaimed, begun, room_of, Around, Change, is_now, with_made}
use Rattle.arc_commands.specs.Changes.{gone, with_new_part, split_row, may_write, truncated, asking}
use Rattle.arc_commands.specs.Changes.{is_wanting}
use Rattle.arc_commands.specs.Changes.{with_owner, part_of, cut_row, off_part, to_part, in_range}
use Rattle.arc_commands.specs.Commands.{ListCmd, ListReply}
use Rattle.arc_commands.specs.Fits.{RowFits}
use Rattle.arc_commands.specs.Several.{can_share, filled_alone, filled_shared, is_beside}
use Rattle.arc_commands.specs.Several.{moved_parts, parts_change}
use Rattle.arc_commands.specs.Several.{reclaimed_shared, shared_change, split_off_change}
use Rattle.arc_commands.specs.Several.{split_to_change, unique_change}
use Rattle.arc_commands.specs.Step.{answer_any, answer_row, has_call, is_allowed, is_for, shortage}
use Rattle.arc_commands.specs.Step.{written}
use Rattle.arc_commands.specs.declared.command.Cmd.TheVariants.{Clone, Sub, Uniq, Show, Len}
use Rattle.arc_commands.specs.declared.command.Cmd.TheVariants.{Off, To, Adv, Trunc, Drop}
use Rattle.arc_commands.specs.declared.command.Cmd.TheVariants.{TakeStatic, Room, Mut, Res, Push}
use Rattle.arc_commands.specs.declared.command.Cmd.TheVariants.{Ext}
use Rattle.arc_commands.specs.declared.command.Cmd.TheVariants.{Rec, Freeze, Take, TakeBox, TakeBuf}
use Rattle.arc_commands.specs.declared.command.Cmd.TheVariants.{Meta, TakeRaw, Share, Unique}
use Rattle.arc_commands.specs.declared.command.Reply.TheVariants as reply
use Rattle.arc_commands.proofs.Among.{roomy-fits, shared-fits, unique-fits}
use Rattle.arc_commands.proofs.Among.{among-fits, native-fits}
use Rattle.arc_commands.proofs.Fits.{in-edge, in-range, in-split, founded-fits, as-reader-fits}
use Rattle.arc_commands.proofs.Fits.{several-before}
use Rattle.arc_commands.proofs.Fits.{counted}
use Rattle.arc_commands.proofs.FitsRoom.{IsMade, room-fits, room-alone-fits, room-enough}
use Rattle.arc_commands.proofs.FitsRoom.{fresh-fits}
use Rattle.arc_commands.proofs.FitsRoom.{IsMore, more-made, never-short, own-fits, room-asks}
use Rattle.arc_commands.proofs.FitsRoom.{room-spare}
use Rattle.arc_commands.proofs.KeepsParts.{advance-part, truncate-part, part-part, cut-part}
use Rattle.arc_commands.proofs.KeepsParts.{extended-part, freeze-part, off-part, to-part}
use Rattle.arc_commands.proofs.KeepsParts.{off-parts, to-parts}
use Rattle.arc_commands.proofs.Parts.{IsPart, KeepsFit, KeepsPart, Parts, part-itself, sole-either}
use Rattle.arc_commands.proofs.Parts.{sole-with, stays-moved, stays-part, stays-same}
use Rattle.arc_commands.proofs.Roles.{reads-sole, sole-small}
use Rattle.arc_commands.proofs.Roles.{writes-several, writes-sole}

-- a command that isn't for writers
reads : {T M : Type 0} (c : ListCmd T M) → ((places : ℕ) → is_for c (sole_writer places) ≡ false)
    → ((places : ℕ) → is_for c (one_writer_of_several places) ≡ false)
    → (role : Role) → is_for c role ≡ true → is_writer role ≡ false
reads c each several reader is = refl
reads c each several (sole_writer places) is = absurd (false≢true (sym (each places) ∙ is))
reads c each several (one_writer_of_several places) is =
    absurd (false≢true (sym (several places) ∙ is))
reads c each several inline is = refl
reads c each several forgotten is = refl

-- a command that isn't for sole writers, on a row of none of several
reads-here : {T M : Type 0} (c : ListCmd T M)
    → ((places : ℕ) → is_for c (sole_writer places) ≡ false)
    → (role : Role) → is_for c role ≡ true → is_several role ≡ false → is_writer role ≡ false
reads-here c each reader is none = refl
reads-here c each (sole_writer places) is none = absurd (false≢true (sym (each places) ∙ is))
reads-here c each (one_writer_of_several places) is none = absurd (false≢true (sym none))
reads-here c each inline is none = refl
reads-here c each forgotten is none = refl

-- a command that is for writers alone
any-writer : {T M : Type 0} (c : ListCmd T M) → is_for c reader ≡ false
    → is_for c inline ≡ false → (role : Role) → is_for c role ≡ true → is_writer role ≡ true
any-writer c none small reader is = absurd (false≢true (sym none ∙ is))
any-writer c none small (sole_writer places) is = refl
any-writer c none small (one_writer_of_several places) is = refl
any-writer c none small inline is = absurd (false≢true (sym small ∙ is))
any-writer c none small forgotten is = absurd (false≢true is)

-- commands for sole writers, or for those of several, alone
for-sole : (T M : Type 0) (i : ℕ) (role : Role) → is_for {T = T} {M = M} (Share i) role ≡ true
    → is_sole role ≡ true
for-sole T M i reader is = absurd (false≢true is)
for-sole T M i (sole_writer places) is = refl
for-sole T M i (one_writer_of_several places) is = absurd (false≢true is)
for-sole T M i inline is = absurd (false≢true is)
for-sole T M i forgotten is = absurd (false≢true is)

for-several : (T M : Type 0) (i : ℕ) (role : Role) → is_for {T = T} {M = M} (Unique i) role ≡ true
    → is_several role ≡ true
for-several T M i reader is = absurd (false≢true is)
for-several T M i (sole_writer places) is = absurd (false≢true is)
for-several T M i (one_writer_of_several places) is = refl
for-several T M i inline is = absurd (false≢true is)
for-several T M i forgotten is = absurd (false≢true is)

-- a command that writes
pub data Writes {T M : Type 0} : ListCmd T M → Type 0 where
  reserves : (i additional : ℕ) → Writes (Res i additional)
  pushes : (i : ℕ) (item : T) → Writes (Push i item)
  extends : (i : ℕ) (items : List T) → Writes (Ext i items)

-- what some commands are answered tells of a shortage that need not be
abbrev pub MayTellMore : {T M : Type 0} → ListCmd T M → Type 0
MayTellMore c = ((i : ℕ) × ((c ≡ Uniq i) ⊎ (c ≡ Freeze i))) ⊎ Writes c

-- in answer to this command no shortage is told, or this one, or one that need not be
abbrev pub MayTell : {T M : Type 0} → Shortage → ListCmd T M → ListReply T M → Type 0
MayTell short c r =
    (shortage r c ≡ no_shortage) ⊎ ((shortage r c ≡ short) ⊎ MayTellMore c)

-- on its block a row stays, whatever it says of that
abbrev pub StaysPut : {T M : Type 0} → Row T M → Row T M → Type 0
StaysPut row new = block_of new.place ≡ block_of row.place

-- no other row stands on its block: it is a sole writer's, or was found alone
abbrev pub IsLone : {T M : Type 0} → (alone : Bool) → Row T M → Type 0
IsLone alone row = (is_sole row.role ≡ true) ⊎ (alone ≡ true)

-- a row is one of several writers' from now on only where several may write
abbrev pub TurnsAsMay : (shares : Bool) → (old new : Role) → Type 0
TurnsAsMay shares old new =
    is_several new ≡ true → (is_several old ≡ true) ⊎ (shares ≡ true)

-- What holds of each way in which a command on a row may be answered: the row stays, or another one
-- was made beside it, or it became a part of itself, or where no other stands on its block another
-- one there, or one on a block more, also split in two there, or it went.
pub record RowOutcomes {T M : Type 0} (setting : Setting T) (short : Shortage) (around : Around)
    (row : Row T M) (this : ListCmd T M) (Holds : Change T M → Type 0) : Type 0 where
  pub same : (r : ListReply T M) → MayTell short this r → Holds (is_now r row)
  pub parts : (kept made : Row T M) → Parts setting.drops row kept made
      → Holds (with_made around kept made)
  pub becomes : (part : Row T M) → IsPart row part → KeepsPart setting.drops row part
      → Holds (is_now reply.Ok part)
  pub writes : may_write setting around row ≡ true
      → Holds (is_now reply.Ok (as_sole setting.drops row))
  pub refits : (new : Row T M) (r : ListReply T M) → MayTell short this r
      → IsLone around.alone row → TurnsAsMay setting.calls.shares row.role new.role
      → StaysPut row new → KeepsFit setting.drops row new → Holds (is_now r new)
  pub begins : (items : List T) (role : Role) (nothing : Bool) (info : BlockInfo M)
      → TurnsAsMay setting.calls.shares row.role role
      → let place = if nothing then nowhere else on_block (Some around.blocks) 0 info in
      KeepsFit setting.drops row (record { items = items; place = place; role = role })
      → Holds (begun (record { items = items; place = place; role = role }))
  pub moves : (items : List T) (role : Role) (info : BlockInfo M) (kept made : Row T M)
      → TurnsAsMay setting.calls.shares row.role role
      → let whole : Row T M =
      record { items = items; place = on_block (Some around.blocks) 0 info; role = role } in
      KeepsFit setting.drops row whole → Parts setting.drops whole kept made
      → Holds (record {
        reply = reply.New around.windows;
        row = Some kept;
        made = Some made;
        begins = true;
      })
  pub goes : (r : ListReply T M) → MayTell short this r → Holds (gone r)

-- Whatever holds of each of these holds of the answer.
module _ {T M : Type 0} (setting : Setting T) (short : Shortage) (around : Around) (row : Row T M)
    (this : ListCmd T M) (Holds : Change T M → Type 0)
    (each : RowOutcomes setting short around row this Holds) where
  abbrev same : (r : ListReply T M) → MayTell short this r → Holds (is_now r row)
  same = each.same

  abbrev Outcome : Type 0
  Outcome = Change T M

  abbrev Command : Type 0
  Command = ListCmd T M

  abbrev IsFor : Command → Type 0
  IsFor c = is_for c row.role ≡ true

  reads-only : (c : Command) → ((places : ℕ) → is_for c (sole_writer places) ≡ false)
      → ((places : ℕ) → is_for c (one_writer_of_several places) ≡ false) → IsFor c
      → is_writer row.role ≡ false
  reads-only c each several is = reads c each several row.role is

  reads-alone : (c : Command) → ((places : ℕ) → is_for c (sole_writer places) ≡ false) → IsFor c
      → is_several row.role ≡ false → is_writer row.role ≡ false
  reads-alone c each is none = reads-here c each row.role is none

  writes-only : (c : Command) → is_for c reader ≡ false → is_for c inline ≡ false → IsFor c
      → is_writer row.role ≡ true
  writes-only c none small is = any-writer c none small row.role is

  either-of : (b : Bool) (one other : Outcome) → (b ≡ true → Holds one)
      → (b ≡ false → Holds other) → Holds (if b then one else other)
  either-of true one other h k = h refl
  either-of false one other h k = k refl

  either-is : (b : Bool) (one other : Outcome) → (b ≡ true → Holds one) → Holds other
      → Holds (if b then one else other)
  either-is b one other h k = either-of b one other h (λ not. k)

  either : (b : Bool) (one other : Outcome) → Holds one → Holds other
      → Holds (if b then one else other)
  either b one other h k = either-of b one other (λ is. h) (λ not. k)

  in_range_each : (answer : Result (Unit {0}) RangeError) (outcome : Outcome)
      → (answer ≡ Ok tt → Holds outcome) → Holds (in_range answer row outcome)
  in_range_each (Ok done) outcome after = after refl
  in_range_each (Err e) outcome after = same (reply.Range e) (inl refl)

  asking_each : (s : Shortage) → s ≡ short → (outcome : Outcome) → Holds outcome
      → Holds (asking s row outcome)
  asking_each no_shortage is outcome after = after
  asking_each of_table is outcome after = same reply.Alloc (inr (inl is))
  asking_each of_clones is outcome after = after
  asking_each of_blocks is outcome after = after
  asking_each of_buffer is outcome after = after
  asking_each (of_growth e) is outcome after = after

  asking_block_each : (s : Shortage) → s ≡ short → (answer : ListReply T M)
      → shortage answer this ≡ of_blocks → (outcome : Outcome) → Holds outcome
      → Holds (asking_block s answer row outcome)
  asking_block_each no_shortage is answer told outcome after = after
  asking_block_each of_table is answer told outcome after = after
  asking_block_each of_clones is answer told outcome after = after
  asking_block_each of_blocks is answer told outcome after = same answer (inr (inl (told ∙ is)))
  asking_block_each of_buffer is answer told outcome after = after
  asking_block_each (of_growth e) is answer told outcome after = after

  wanting_each : (s : Shortage) → s ≡ short → (wants : Sort → Bool) (place : Place (Option ℕ) M)
      (outcome : Outcome) → Holds outcome
      → Holds (if is_wanting s wants place then is_now (reply.Owner AllocError) row else outcome)
  wanting_each no_shortage is wants place outcome after = after
  wanting_each of_table is wants place outcome after = after
  wanting_each of_blocks is wants place outcome after = after
  wanting_each of_buffer is wants place outcome after = after
  wanting_each (of_growth e) is wants place outcome after = after
  wanting_each of_clones is wants place outcome after =
      either (is_wanting of_clones wants place) (is_now (reply.Owner AllocError) row) outcome
      (same (reply.Owner AllocError) (inr (inl is))) after

  new_part_each : (part : Row T M) (outcome : Outcome) → Holds outcome
      → Holds (with_new_part setting short around row part outcome)
  new_part_each part outcome after =
      let full : Outcome = is_now (reply.Owner CountFull) row in
      let fills = around.full && is_some (block_of part.place) in
      asking_each short refl (with_owner setting short around row part outcome)
      (wanting_each short refl setting.clone_wants part.place (if fills then full else outcome)
      (either fills full outcome (same (reply.Owner CountFull) (inl refl)) after))

  -- two parts of a row that is read
  read-parts : (kept made : Row T M) → is_writer row.role ≡ false → IsPart row kept
      → IsPart row made → KeepsPart setting.drops row kept → KeepsPart setting.drops row made
      → Holds (with_made around kept made)
  read-parts kept made reads one other keeps also =
      each.parts kept made (record {
        shares = reads-sole row.role reads;
        first = one;
        second = other;
        keeps = keeps;
        also = also;
        apart = λ writes f. absurd (false≢true (sym reads ∙ writes));
      })

  part_is : (start end : ℕ) → IsPart row (part_of setting.layout.has_static row start end)
  part_is start end = (
    stays-part (setting.layout.has_static && (length
        (sub row.items start end) == 0)) start row.place,
    refl,
  )

  one-is : (b : Bool) (one other : Row T M) → IsPart row one → IsPart row other
      → IsPart row (if b then one else other)
  one-is true one other h k = h
  one-is false one other h k = k

  itself : IsPart row row
  itself = (stays-same row.place, refl)

  split_each : (out : Bool) (cut part : Row T M) → is_writer row.role ≡ false → IsPart row cut
      → IsPart row part → KeepsPart setting.drops row cut → KeepsPart setting.drops row part
      → Holds (split_row setting short around out cut part row)
  split_each out cut part reads one other fits fits-too =
      let swapped = with_made around part row in
      let parted = with_made around cut part in
      new_part_each part (if out then swapped else parted)
      (either out swapped parted
      (read-parts part row reads other itself fits-too (part-itself setting.drops row))
      (read-parts cut part reads one other fits fits-too))

  off_is : (at : ℕ) → IsPart row (off_part setting.layout.has_static row at)
  off_is at =
      one-is (at == 0) (part_of setting.layout.has_static row 0 0)
      (part_of setting.layout.has_static row at (length row.items)) (part_is 0 0)
      (part_is at (length row.items))

  to_is : (at : ℕ) → IsPart row (to_part setting.layout.has_static row at)
  to_is at =
      one-is (at == length row.items) (part_of setting.layout.has_static row at at)
      (part_of setting.layout.has_static row 0 at) (part_is at at) (part_is 0 at)

  -- a refusal for want of room tells of no memory that was refused
  no-room : (e : TryReserveError) → ¬ (e ≡ reserve.AllocError) → Writes this
      → MayTell short this (reply.Reserve e)
  no-room reserve.AllocError fine writes = absurd (fine refl)
  no-room reserve.NotUnique fine writes = inl refl
  no-room reserve.Unsupported fine writes = inr (inr (inr writes))
  no-room reserve.CapacityOverflow fine writes = inr (inr (inr writes))

  -- room on its own block leaves a row on it
  room-put : (r : RoomFrom) (place : Place (Option ℕ) M) (role : Role)
      → block_of (with_room r (record {
        items = row.items;
        place = place;
        role = role;
      })).place ≡ block_of place
  room-put from.Spare place role = refl
  room-put from.Behind place role = refl
  room-put (from.Fresh places) place role = refl
  room-put (from.Own additional) place role = refl
  room-put (from.Refused e) place role = refl
  room-put from.Front nowhere role = refl
  room-put from.Front static_data role = refl
  room-put from.Front (on_block block offset info) role = refl
  room-put (from.Growth places) nowhere role = refl
  room-put (from.Growth places) static_data role = refl
  room-put (from.Growth places) (on_block block offset info) role = refl

  -- and so do more items behind its others
  more-put : (full more : ℕ) (place : Place (Option ℕ) M)
      → block_of (with_full full more place) ≡ block_of place
  more-put full more nowhere = refl
  more-put full more static_data = refl
  more-put full more (on_block block offset info) = refl

  stays-alone : (r : RoomFrom) → StaysPut row (with_room r row)
  stays-alone r = room-put r row.place row.role

  stays-put : (r : RoomFrom) (items : List T) → StaysPut row (with_more items (with_room r row))
  stays-put r items =
      let new = with_room r row in
      more-put (length new.items) (length items) new.place ∙ stays-alone r

  -- with this room it is one of several writers' where it was
  room-several : (r : RoomFrom) → is_several (with_room r row).role ≡ true
      → is_several row.role ≡ true
  room-several from.Spare several = several
  room-several (from.Fresh places) several = several
  room-several from.Behind several = several-before row.role _ several
  room-several from.Front several = several-before row.role _ several
  room-several (from.Growth places) several = several-before row.role _ several
  room-several (from.Own additional) several = several
  room-several (from.Refused e) several = several

  room-turns : (r : RoomFrom) → TurnsAsMay setting.calls.shares row.role (with_room r row).role
  room-turns r several = inl (room-several r several)

  module _ (sole : is_sole row.role ≡ true) where
    module _ (items : List T) (k : ℕ) (enough : length items ≤ k) (writing : Writes this) where
      on-block : (r : RoomFrom) → r ≡ room_of setting row k → IsMade r
          → Holds (is_now reply.Ok (with_more items (with_room r row)))
      on-block r is made =
          each.refits (with_more items (with_room r row)) reply.Ok (inl refl) (inl sole)
          (room-turns r)
          (stays-put r items)
          (λ f. subst (λ x. RowFits setting.drops (with_more items (with_room x row))) (sym is)
          (room-fits setting.drops _ setting.item_size row items k enough sole f
          (subst IsMade is made)))

      -- what a caller's buffer says of its room
      said : (e : TryReserveError) → MayTell short this (reply.Reserve e)
      said reserve.AllocError = inr (inr (inr writing))
      said reserve.NotUnique = inr (inr (inr writing))
      said reserve.Unsupported = inr (inr (inr writing))
      said reserve.CapacityOverflow = inr (inr (inr writing))

      by-itself : (j : ℕ) → from.Own j ≡ room_of setting row k
          → let wanted = offset_at row.place + length row.items + j in
          Holds (is_now reply.Ok
          (with_more items (with_room (from.Growth (max wanted around.places)) row)))
      by-itself j is =
          let wanted = offset_at row.place + length row.items + j in
          let made = max wanted around.places in
          each.refits (with_more items (with_room (from.Growth made) row)) reply.Ok (inl refl)
          (inl sole) (room-turns (from.Growth made))
          (stays-put (from.Growth made) items)
          (λ f. own-fits setting.drops _ setting.item_size row items k j made enough sole f
          (sym is) (omega arith))

      made-itself : (j : ℕ) (s : Shortage) → s ≡ short → from.Own j ≡ room_of setting row k
          → Holds (room_made s around row items j)
      made-itself j of_blocks told is = same (reply.Reserve reserve.AllocError)
          (said reserve.AllocError)
      made-itself j (of_growth e) told is = same (reply.Reserve e) (said e)
      made-itself j no_shortage told is = by-itself j is
      made-itself j of_table told is = by-itself j is
      made-itself j of_clones told is = by-itself j is
      made-itself j of_buffer told is = by-itself j is

      filled_each : (r : RoomFrom) → r ≡ room_of setting row k
          → Holds (filled setting short around row items r)
      filled_each (from.Refused e) is =
          same (reply.Reserve e) (no-room e (never-short setting.drops _ setting.item_size row k e
          (sym is)) writing)
      filled_each (from.Own additional) is = made-itself additional short refl is
      filled_each (from.Fresh places) is =
          asking_block_each short refl (reply.Reserve reserve.AllocError) refl _
          (each.begins items (sole_writer places) false _ (λ several. absurd (false≢true several))
          (λ f.
          fresh-fits setting.drops around.blocks places items
          (omega (
            arith,
            enough,
            room-enough setting.drops _ setting.item_size row k places
                (sym is),
          ))))
      filled_each from.Spare is = on-block from.Spare is tt
      filled_each from.Behind is = on-block from.Behind is tt
      filled_each from.Front is = on-block from.Front is tt
      filled_each (from.Growth places) is =
          asking_block_each short refl (reply.Reserve reserve.AllocError) refl _
          (on-block (from.Growth places) is tt)

    module _ (k : ℕ) (told : shortage reply.No this ≡ no_shortage) where
      has-room : (r : RoomFrom) → r ≡ room_of setting row k → IsMade r
          → Holds (is_now reply.Yes (with_room r row))
      has-room r is made =
          each.refits (with_room r row) reply.Yes (inl refl) (inl sole) (room-turns r)
          (stays-alone r)
          (λ f. subst (λ x. RowFits setting.drops (with_room x row)) (sym is)
          (room-alone-fits setting.drops _ setting.item_size row k sole f (subst IsMade is made)))

      reclaimed_each : (r : RoomFrom) → r ≡ room_of setting row k → Holds (reclaimed row r)
      reclaimed_each (from.Refused e) is = same reply.No (inl told)
      reclaimed_each (from.Fresh places) is = same reply.No (inl told)
      reclaimed_each (from.Growth places) is = same reply.No (inl told)
      reclaimed_each (from.Own additional) is = same reply.No (inl told)
      reclaimed_each from.Spare is = has-room from.Spare is tt
      reclaimed_each from.Behind is = has-room from.Behind is tt
      reclaimed_each from.Front is = has-room from.Front is tt

  -- ---- one of several writers

  -- he has room that isn't spare only where he is alone
  is-alone : (asks alone : Bool) → asks ≡ true → (asks && not alone) ≡ false → alone ≡ true
  is-alone true true asks free = refl
  is-alone true false asks free = absurd (false≢true (sym free))
  is-alone false alone asks free = absurd (false≢true asks)

  module _ (several : is_several row.role ≡ true) where
    alone-for : (k : ℕ) (r : RoomFrom) → r ≡ room_of setting row k → IsMore r
        → is_beside around k row ≡ false → around.alone ≡ true
    alone-for k r is more free =
        is-alone (asks_alone row k) around.alone
        (room-asks setting.drops _ setting.item_size row k (subst IsMore is more)) free

    has-more : (items : List T) (k : ℕ) → length items ≤ length row.items + k →
        (answer : ListReply T M)
        → shortage answer this ≡ no_shortage → (r : RoomFrom) → r ≡ room_of setting row k
        → IsMore r → is_beside around k row ≡ false
        → Holds (is_now answer (record (with_room r row) { items = items }))
    has-more items k within answer told r is more free =
        each.refits (record (with_room r row) { items = items }) answer (inl told)
        (inr (alone-for k r is more free)) (room-turns r) (stays-alone r)
        (λ f. subst (λ x. RowFits setting.drops (record (with_room x row) { items = items }))
        (sym is) (roomy-fits setting.drops _ setting.item_size row items k within several
        (more-made _ (subst IsMore is more)) f))

    module _ (items : List T) (k : ℕ) (enough : length items ≤ k) (writing : Writes this) where
      has-written : (r : RoomFrom) → r ≡ room_of setting row k → IsMore r
          → is_beside around k row ≡ false
          → Holds (is_now reply.Ok (record (with_room r row) { items = row.items ++ items }))
      has-written =
          has-more (row.items ++ items) k (omega (arith, length-append row.items items, enough))
          reply.Ok refl

      alone_each : (r : RoomFrom) → r ≡ room_of setting row k → is_beside around k row ≡ false
          → Holds (filled_alone setting short around items r row)
      alone_each (from.Refused e) is free =
          same (reply.Reserve e) (no-room e (never-short setting.drops _ setting.item_size row k e
          (sym is)) writing)
      alone_each (from.Own additional) is free =
          same (reply.Reserve reserve.Unsupported) (inr (inr (inr writing)))
      alone_each (from.Fresh places) is free =
          let info : BlockInfo M = memory_info native setting.drops places 0 in
          asking_block_each short refl (reply.Reserve reserve.AllocError) refl _
          (each.begins items (one_writer_of_several places) false info (λ still. inl several) (λ f.
          among-fits setting.drops items (on_block (Some around.blocks) 0 info) places
          (f.shared several).kept (tt, omega arith) (counted setting.drops 0)
          (omega (
            arith,
            enough,
            room-enough setting.drops _ setting.item_size row k places
                (sym is),
          ))))
      alone_each from.Spare is free =
          each.becomes (extended items row) (stays-same row.place, refl)
          (extended-part setting.drops row several items (λ f.
          omega (
            arith,
            enough,
            room-spare setting.drops _ setting.item_size row k (sym is),
            (f.shared several).room,
          )))
      alone_each from.Behind is free = has-written from.Behind is tt free
      alone_each from.Front is free = has-written from.Front is tt free
      alone_each (from.Growth places) is free =
          asking_block_each short refl (reply.Reserve reserve.AllocError) refl _
          (has-written (from.Growth places) is tt free)

      filled_shared_each : Holds (filled_shared setting short around items k row)
      filled_shared_each =
          either-of (is_beside around k row) (is_now (reply.Reserve reserve.NotUnique) row)
          (filled_alone setting short around items (room_of setting row k) row)
          (λ beside. same (reply.Reserve reserve.NotUnique) (inl refl))
          (alone_each (room_of setting row k) refl)

    module _ (k : ℕ) (told : shortage reply.No this ≡ no_shortage) where
      found : (r : RoomFrom) → r ≡ room_of setting row k → IsMore r
          → is_beside around k row ≡ false
          → Holds (is_now reply.Yes (record (with_room r row) { items = row.items }))
      found = has-more row.items k (omega arith) reply.Yes refl

      found_each : (r : RoomFrom) → r ≡ room_of setting row k → is_beside around k row ≡ false
          → Holds (reclaimed row r)
      found_each (from.Refused e) is free = same reply.No (inl told)
      found_each (from.Fresh places) is free = same reply.No (inl told)
      found_each (from.Growth places) is free = same reply.No (inl told)
      found_each (from.Own additional) is free = same reply.No (inl told)
      found_each from.Spare is free = same reply.Yes (inl refl)
      found_each from.Behind is free = found from.Behind is tt free
      found_each from.Front is free = found from.Front is tt free

      reclaimed_shared_each : Holds (reclaimed_shared setting around k row)
      reclaimed_shared_each =
          either-of (is_beside around k row) (is_now reply.No row)
          (reclaimed row (room_of setting row k)) (λ beside. same reply.No (inl told))
          (found_each (room_of setting row k) refl)

    -- his places are split, where he stands or on a block to which he moves
    module _ (keeps makes : Row T M → Row T M)
        (there : Parts setting.drops row (keeps row) (makes row))
        (moved : let whole = on_native setting.drops (Some around.blocks) row in
        Parts setting.drops whole (keeps whole) (makes whole)) where
      away : Holds (record {
        reply = reply.New around.windows;
        row = Some (keeps (on_native setting.drops (Some around.blocks) row));
        made = Some (makes (on_native setting.drops (Some around.blocks) row));
        begins = true;
      })
      away =
          let whole = on_native setting.drops (Some around.blocks) row in
          each.moves row.items row.role
          (memory_info native setting.drops (capacity_of row.role) (length row.items)) (keeps whole)
          (makes whole) (λ still. inl several) (native-fits setting.drops row several around.blocks)
          moved

      away_each : (s : Shortage) → s ≡ short
          → Holds (moved_parts setting s around keeps makes row)
      away_each of_clones is = same (reply.Owner AllocError) (inr (inl is))
      away_each no_shortage is = away
      away_each of_table is = away
      away_each of_blocks is = away
      away_each of_buffer is = away
      away_each (of_growth e) is = away

      parts_each : Holds (parts_change setting short around keeps makes row)
      parts_each =
          let full = around.full && is_some (block_of row.place) in
          let refused : Outcome = is_now (reply.Owner CountFull) row in
          let made = with_made around (keeps row) (makes row) in
          asking_each short refl _
          (either (is_vector_at row.place) (moved_parts setting short around keeps makes row)
          (if full then refused else made) (away_each short refl)
          (either full refused made (same (reply.Owner CountFull) (inl refl))
          (each.parts (keeps row) (makes row) there)))

    split_off_each : (at : ℕ) → Holds (split_off_change setting short around at row)
    split_off_each at =
        let whole = on_native setting.drops (Some around.blocks) row in
        in_range_each (split_answer setting.boundary row.items (capacity_of row.role) at) _ (λ ok.
        let within = in-split setting.boundary row.items (capacity_of row.role) at ok in
        parts_each (front_of at) (after_advance at)
        (off-parts setting.drops row several at (λ f. within))
        (off-parts setting.drops whole several at (λ f. within)))

    split_to_each : (at : ℕ) → Holds (split_to_change setting short around at row)
    split_to_each at =
        let whole = on_native setting.drops (Some around.blocks) row in
        in_range_each (edge_answer setting.boundary row.items at) _ (λ ok.
        let within = in-edge setting.boundary row.items at ok in
        parts_each (after_advance at) (front_of at)
        (to-parts setting.drops row several at (λ f. omega (
          arith,
          within,
          (f.shared several).room,
        )))
        (to-parts setting.drops whole several at
        (λ f. omega (arith, within, (f.shared several).room))))

  -- the row of a writer is read from now on
  moved_each : is_writer row.role ≡ true → shortage reply.Refused this ≡ of_blocks
      → MayTellMore this → (move : Move) → Holds (after_move setting short around row move)
  moved_each writes told more to.Stays = elim (cases_Bool (is_sole row.role)) [
    | inl sole ↦
        each.refits (as_reader row) reply.Ok (inl refl) (inl sole)
        (λ several. absurd (false≢true several)) refl
        (as-reader-fits setting.drops row (sole-small row.role sole))
    | inr shares ↦
        each.becomes (as_reader row) (stays-same row.place, sym shares)
        (freeze-part setting.drops row (writes-several row.role writes shares))
  ]
  moved_each writes told more to.HandedBack = same reply.Refused (inr (inr more))
  moved_each writes told more to.NewCount = same reply.Refused (inr (inr more))
  moved_each writes told more to.LeavesCount = same reply.Refused (inr (inr more))
  moved_each writes told more to.NewEmpty =
      asking_block_each short refl reply.Refused told _
      (each.begins row.items reader false (native_facts setting.drops (length row.items))
      (λ several. absurd (false≢true several)) (λ f.
      founded-fits setting.drops around.blocks row.items false (λ none. absurd (false≢true none))))

  taken_each : (wanted : Bool) (answer : ListReply T M) → MayTell short this reply.Refused
      → MayTell short this answer → Holds (taken_as wanted around row answer)
  taken_each wanted answer refused tells =
      either (wanted && (is_sole row.role || is_free around.alone row.place)) (gone answer)
      (is_now reply.Refused row) (each.goes answer tells) (same reply.Refused refused)

  meta_each : (x : Option M) → Holds (is_now (option_map_or reply.Meta x reply.None) row)
  meta_each None = same reply.None (inl refl)
  meta_each (Some metadata) = same (reply.Meta metadata) (inl refl)

  -- a sole writer is one of several from now on, and one of several the only one
  shared_each : is_sole row.role ≡ true → setting.calls.shares ≡ true
      → shortage reply.Refused this ≡ no_shortage → Holds (shared_change setting row)
  shared_each sole shares told =
      either-is (can_share setting.drops row.place) (is_now reply.Ok (as_shared row))
      (is_now reply.Refused row)
      (λ can. each.refits (as_shared row) reply.Ok (inl refl) (inl sole) (λ several. inr shares)
      refl
      (shared-fits setting.drops row sole can)) (same reply.Refused (inl told))

  unique_each : is_several row.role ≡ true → shortage reply.Refused this ≡ no_shortage
      → Holds (unique_change around row)
  unique_each several told =
      either-is around.alone (is_now reply.Ok (as_unique row)) (is_now reply.Refused row)
      (λ alone. each.refits (as_unique row) reply.Ok (inl refl) (inr alone)
      (λ both. absurd (false≢true both)) refl
      (unique-fits setting.drops row several)) (same reply.Refused (inl told))

  -- what a writer writes
  written_each : (c : Command) → is_for c reader ≡ false → is_for c inline ≡ false → IsFor c
      → (items : List T) (k : ℕ) → length items ≤ k → Writes this
      → Holds (written setting short around items k row)
  written_each c none small is items k enough writing =
      either-of (is_several row.role) (filled_shared setting short around items k row)
      (filled setting short around row items (room_of setting row k))
      (λ several. filled_shared_each several items k enough writing)
      (λ one. filled_each (writes-sole row.role (writes-only c none small is) one) items k
      enough writing (room_of setting row k) refl)

  row_each : (c : Command) → c ≡ this → IsFor c → has_call setting.calls c ≡ true
      → Holds (answer_row setting short around c row)
  row_each (Clone i) e is has =
      let keeps = part-itself setting.drops row in
      new_part_each row (with_made around row row)
      (read-parts row row (reads-only (Clone i) (λ places. refl) (λ places. refl) is) itself
      itself keeps keeps)
  row_each (Sub i start end) e is has =
      let part = part_of setting.layout.has_static row start end in
      let only = reads-only (Sub i start end) (λ places. refl) (λ places. refl) is in
      in_range_each (range_answer setting.boundary row.items start end) _ (λ ok.
      let ranged = in-range setting.boundary row.items start end ok in
      new_part_each part (with_made around row part)
      (read-parts row part only itself (part_is start end) (part-itself setting.drops row)
      (part-part setting row only start end ranged.0 ranged.1)))
  row_each (Off i at) e is has =
      either-of (is_several row.role) (split_off_change setting short around at row) _
      (λ several. split_off_each several at) (λ none.
      let shares = reads-alone (Off i at) (λ places. refl) is none in
      in_range_each (edge_answer setting.boundary row.items at) _ (λ ok.
      let within = in-edge setting.boundary row.items at ok in
      split_each (at == 0) (cut_row row 0 at) (off_part setting.layout.has_static row at) shares
      (stays-moved 0 row.place, refl) (off_is at)
      (cut-part setting row shares 0 at (omega arith) within)
      (off-part setting row shares at within)))
  row_each (To i at) e is has =
      either-of (is_several row.role) (split_to_change setting short around at row) _
      (λ several. split_to_each several at) (λ none.
      let shares = reads-alone (To i at) (λ places. refl) is none in
      in_range_each (edge_answer setting.boundary row.items at) _ (λ ok.
      let within = in-edge setting.boundary row.items at ok in
      split_each (at == length row.items) (cut_row row at (length row.items))
      (to_part setting.layout.has_static row at) shares (stays-moved at row.place, refl) (to_is at)
      (cut-part setting row shares at (length row.items) within (omega arith))
      (to-part setting row shares at within)))
  row_each (Uniq i) e is has =
      same (if is_unique_at short around.alone row.place then reply.Yes else reply.No)
      (inr (inr (inl (i, inl (sym e)))))
  row_each (Show i) e is has =
      asking_each short refl (is_now (reply.Items row.items) row)
      (same (reply.Items row.items) (inl refl))
  row_each (Len i) e is has = same (reply.Number (length row.items)) (inl refl)
  row_each (Room i) e is has = same (reply.Number (capacity_of row.role)) (inl refl)
  row_each (Mut i) e is has =
      either-is (may_write setting around row) (is_now reply.Ok (as_sole setting.drops row))
      (is_now reply.Refused row) each.writes
      (same reply.Refused (inl (sym (ap (λ d. shortage reply.Refused d) e))))
  row_each (Res i k) e is has =
      written_each (Res i k) refl refl is [] k (omega arith) (subst Writes e (reserves i k))
  row_each (Push i x) e is has =
      written_each (Push i x) refl refl is (x ∷ []) 1 (omega arith) (subst Writes e (pushes i x))
  row_each (Ext i xs) e is has =
      written_each (Ext i xs) refl refl is xs (length xs) (omega arith)
      (subst Writes e (extends i xs))
  row_each (Rec i k) e is has =
      let told = sym (ap (λ d. shortage reply.No d) e) in
      either-of (is_several row.role) (reclaimed_shared setting around k row)
      (reclaimed row (room_of setting row k))
      (λ several. reclaimed_shared_each several k told)
      (λ one. reclaimed_each
      (writes-sole row.role (writes-only (Rec i k) refl refl is) one) k told
      (room_of setting row k) refl)
  row_each (Share i) e is has =
      shared_each (for-sole T M i row.role is) has (sym (ap (λ d. shortage reply.Refused d) e))
  row_each (Unique i) e is has =
      unique_each (for-several T M i row.role is) (sym (ap (λ d. shortage reply.Refused d) e))
  row_each (Freeze i) e is has =
      moved_each (writes-only (Freeze i) refl refl is)
      (sym (ap (λ d. shortage reply.Refused d) e)) (inl (i, inr (sym e)))
      (layout_move setting.layout row.place)
  row_each (Adv i by) e is has =
      let part = after_advance by row in
      in_range_each (edge_answer setting.boundary row.items by) (is_now reply.Ok part) (λ ok.
      each.becomes part (
        stays-moved by row.place,
        sole-with row.role (capacity_of row.role - by),
      ) (advance-part setting.drops row by (in-edge setting.boundary row.items by ok)))
  row_each (Trunc i len) e is has =
      let part = truncated setting.drops row len in
      let ranged : Outcome =
      in_range (edge_answer setting.boundary row.items len) row (is_now reply.Ok part) in
      either-is (nat_lt len (length row.items)) ranged (is_now reply.Ok row) (λ less.
      in_range_each (edge_answer setting.boundary row.items len) (is_now reply.Ok part) (λ ok.
      each.becomes part (
        stays-same row.place,
        sole-either setting.drops row.role (with_capacity row.role len) (sole-with row.role len),
      ) (truncate-part setting.drops row len (ltb-true len (length row.items) less))))
      (same reply.Ok (inl refl))
  row_each (Drop i) e is has = each.goes reply.Ok (inl refl)
  row_each (Take i) e is has =
      taken_each _ (reply.Vec row.items) (inl (sym (ap (λ d. shortage reply.Refused d) e)))
      (inl refl)
  row_each (TakeBox i) e is has =
      taken_each _ (reply.Boxed row.items) (inl (sym (ap (λ d. shortage reply.Refused d) e)))
      (inl refl)
  row_each (TakeBuf i) e is has =
      taken_each _ (reply.Buffer row.items) (inl (sym (ap (λ d. shortage reply.Refused d) e)))
      (inl refl)
  row_each (TakeRaw i) e is has =
      taken_each _ (reply.Raw row.items) (inl (sym (ap (λ d. shortage reply.Refused d) e)))
      (inl refl)
  row_each (Meta i) e is has = meta_each (given_at row.place)
  row_each (TakeStatic i) e is has =
      either (is_on_block row.place) (is_now reply.Refused row)
      (gone (reply.Static row.items))
      (same reply.Refused (inl (sym (ap (λ d. shortage reply.Refused d) e))))
      (each.goes (reply.Static row.items) (inl refl))
  row_each making e is has = same reply.Kind (inl refl)

  pub any_each : (c : Command) → c ≡ this → Holds (answer_any setting short around c row)
  any_each c e =
      either-is (is_allowed setting.calls c row.role) (answer_row setting short around c row)
      (is_now reply.Kind row)
      (λ is. let both = and_parts (is_for c row.role) (has_call setting.calls c) is in
      row_each c e both.0 both.1)
      (same reply.Kind (inl refl))
