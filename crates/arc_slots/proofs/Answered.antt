-- What each call of a slot leads to, as what its window is answered to a command.
use Rattle.std.proofs.Common.{◌≡◌, ℕ, ◌+◌, ◌==◌, Bool, true, false, if◌then◌else◌, List, [], ◌∷◌}
use Rattle.std.proofs.Common.{length, Option, Some, None, Result, Ok, Err, is_some, refl, sym, ap}
use Rattle.std.proofs.Common.{◌∙◌, subst, arith}
use Rattle.std.specs.Prelude.{max}
use Rattle.std.specs.Result.{result_err}
use Rattle.std.proofs.lemmas.Bool.{false≢true}
use Rattle.std.proofs.lemmas.Option.{same_Some}
use Rattle.arc_owners.specs.declared.mark.Whole.{Whole}
use Rattle.arc_owners.specs.declared.count.tokens.Pass.{Pass}
use Rattle.arc_owners.specs.declared.error.TryReserveError.{TryReserveError}
use Rattle.arc_owners.specs.declared.error.TryReserveError.TheVariants as reserve
use Rattle.arc_owners.specs.count.Calls.{Owner}
use Rattle.arc_parts.specs.declared.room.Room.{Room}
use Rattle.arc_parts.specs.declared.room.Room.TheVariants as from
use Rattle.arc_block.specs.Owned.{Stand}
use Rattle.arc_block.specs.Place.{Place, nowhere, static_data, on_block}
use Rattle.arc_block.specs.Table.{Row, Role, reader, sole_writer, one_writer_of_several, inline}
use Rattle.arc_block.specs.Table.{forgotten, block_of}
use Rattle.arc_parts.specs.Writers.{new_writer, with_more, with_room}
use Rattle.arc_commands.specs.Additions.{RowAdds, Founds, MayBegin, Stays}
use Rattle.arc_commands.specs.Changes.{Setting, Shortage, no_shortage}
use Rattle.arc_commands.specs.Changes.{of_blocks}
use Rattle.arc_commands.specs.Changes.{Around, Change, begun}
use Rattle.arc_commands.specs.Step.{answer_any, answer_row}
use Rattle.arc_commands.specs.Changes.{filled, is_now}
use Rattle.arc_commands.specs.Step.{is_allowed}
use Rattle.arc_parts.specs.Shared.{is_on_block}
use Rattle.arc_commands.specs.Changes.{room_of}
use Rattle.arc_commands.specs.Step.{shortage}
use Rattle.arc_commands.specs.Changes.{gone}
use Rattle.arc_commands.specs.Blocks.{is_several, is_sole}
use Rattle.arc_commands.specs.Several.{filled_shared}
use Rattle.arc_commands.specs.Step.{written}
use Rattle.arc_commands.specs.Commands.{ListCmd, ListReply}
use Rattle.arc_commands.specs.declared.command.Cmd.TheVariants as command
use Rattle.arc_commands.specs.declared.command.Reply.TheVariants as reply
use Rattle.arc_commands.proofs.Roles.{sole_each, sole-several}
use Rattle.arc_slots.specs.Answers.{around_in}
use Rattle.arc_slots.specs.Slots.{IsSlotRole, SlotView, row_of, stand_of}
use Rattle.arc_slots.specs.Stands.{numbered, stand_at}
use Rattle.arc_slots.specs.Writing.{Fills, additional_of, can_write, is_fresh}
use Rattle.arc_slots.specs.Writing.{items_of}
use Rattle.arc_slots.specs.Writing.{write_command}
use Rattle.arc_slots.specs.declared.slot.Writing.{Writing}
use Rattle.arc_slots.specs.declared.slot.Writing.TheVariants as writing
use Rattle.arc_slots.proofs.ByForm.{write-adds, write-none}
use Rattle.arc_slots.proofs.Filled.{fresh-stands}
use Rattle.arc_commands.specs.Changes.{of_growth}
use Rattle.arc_parts.specs.Room.{IsBuffersRefusal}
use Rattle.arc_block.specs.Place.{offset_at}
use Rattle.arc_slots.proofs.Told.{many-founded, row-begins}
use Rattle.arc_slots.proofs.Told.{stand_block}
use Rattle.arc_slots.proofs.Before.{before_of}

-- what is refused for one reason is refused for no other
pub refused-same : (e f : TryReserveError)
    → ◌≡◌ {A = Result (Unit {0}) TryReserveError} (Err e) (Err f) → e ≡ f
refused-same e f is = same_Some e f (ap result_err is)

-- what holds where a first block is made holds of room that is one
pub fresh_each : (P : Room → Type 0) → ((places : ℕ) → P (from.Fresh places)) → (room : Room)
    → is_fresh room ≡ true → P room
fresh_each P fresh (from.Fresh places) is = fresh places
fresh_each P fresh (from.Own additional) is = absurd (false≢true is)
fresh_each P fresh (from.Refused e) is = absurd (false≢true is)
fresh_each P fresh from.Spare is = absurd (false≢true is)
fresh_each P fresh from.Behind is = absurd (false≢true is)
fresh_each P fresh from.Front is = absurd (false≢true is)
fresh_each P fresh (from.Growth places) is = absurd (false≢true is)

-- what holds of each role that a slot's window has holds of one that is
pub slot_each : (P : Role → Type 0) → P reader → ((places : ℕ) → P (sole_writer places))
    → ((places : ℕ) → P (one_writer_of_several places)) → P inline → (role : Role)
    → IsSlotRole role → P role
slot_each P reads writes beside small reader known = reads
slot_each P reads writes beside small (sole_writer places) known = writes places
slot_each P reads writes beside small (one_writer_of_several places) known = beside places
slot_each P reads writes beside small inline known = small
slot_each P reads writes beside small forgotten known = absurd known

module _ {T M : Type 0} (setting : Setting T) (windows : ℕ) (s : SlotView T M)
    (passes : List (Pass Whole)) where
  open before_of setting windows s passes use {here, row, around, Said}

  abbrev Command : Type 0
  Command = ListCmd T M

  abbrev allowed : Command → Role → Bool
  allowed c role = is_allowed setting.calls c role

  abbrev IsFor : Command → Type 0
  IsFor c = allowed c s.role ≡ true

  for-role-in : (a : Around) (short : Shortage) (c : Command) → IsFor c
      → answer_any setting short a c row ≡ answer_row setting short a c row
  for-role-in a short c is =
      ap (λ b. if b then answer_row setting short a c row else is_now reply.Kind row) is

  pub for-role : (short : Shortage) (c : Command) → IsFor c
      → answer_any setting short around c row ≡ answer_row setting short around c row
  for-role = for-role-in around

  pub not-for : (short : Shortage) (c : Command) → allowed c s.role ≡ false
      → answer_any setting short around c row ≡ is_now reply.Kind row
  not-for short c is =
      ap (λ b. if b then answer_row setting short around c row else is_now reply.Kind row) is

  pub reads-for : s.role ≡ reader → (c : Command) → (b : Bool) → allowed c reader ≡ b
      → allowed c s.role ≡ b
  reads-for reads c b is = ap (allowed c) reads ∙ is

  pub writes-for : is_sole s.role ≡ true → (c : Command) (b : Bool)
      → ((places : ℕ) → allowed c (sole_writer places) ≡ b) → allowed c s.role ≡ b
  writes-for writes c b each = sole_each (λ role. allowed c role ≡ b) each s.role writes

  -- the window stays as it is, whatever was asked of its block
  pub stays : (passes' : List (Pass Whole)) (c : Command) (r : ListReply T M)
      → answer_any setting (shortage r c) around c row ≡ is_now r row
      → length passes' ≡ length passes
      → RowAdds setting row c r here here None passes passes' → Said c r (Some s) None passes'
  stays passes' c r is many adds = record {
    begins = false;
    places = 0;
    change = is;
    blocks = many;
    adds = adds;
  }

  -- nothing changes
  pub same : (c : Command) (r : ListReply T M)
      → answer_any setting (shortage r c) around c row ≡ is_now r row
      → RowAdds setting row c r here here None passes passes → Said c r (Some s) None passes
  same c r is adds = stays passes c r is refl adds

  -- ---- the end of the window

  -- where it stands on no block, no owner stands
  off-none : (b : Option ℕ) (place : Place (Option Owner) M)
      → is_on_block (numbered b place) ≡ false → stand_at b place ≡ None
  off-none b nowhere off = refl
  off-none b static_data off = refl
  off-none b (on_block None offset info) off = refl
  off-none None (on_block (Some o) offset info) off = refl
  off-none (Some n) (on_block (Some o) offset info) off = absurd (false≢true (sym off))

  pub taken : (i : ℕ) → s.role ≡ reader → is_on_block row.place ≡ false
      → Said (command.TakeStatic i) (reply.Static s.window.items) None None passes
  taken i reads off = record {
    begins = false;
    places = 0;
    change =
        for-role no_shortage (command.TakeStatic i)
        (reads-for reads (command.TakeStatic i) true refl)
        ∙ ap (λ b. if b then is_now reply.Refused row else gone (reply.Static row.items)) off;
    blocks = refl;
    adds = (off-none s.block s.window.place off, refl, refl, refl);
  }

  pub untaken : (i : ℕ) → s.role ≡ reader → is_on_block row.place ≡ true
      → Said (command.TakeStatic i) reply.Refused (Some s) None passes
  untaken i reads on =
      same (command.TakeStatic i) reply.Refused (for-role no_shortage (command.TakeStatic i)
      (reads-for reads (command.TakeStatic i) true refl)
      ∙ ap (λ b. if b then is_now reply.Refused row else gone (reply.Static row.items)) on)
      (refl, refl, refl)

  -- ---- the window in another form, as the same owner

  -- where it stood on nothing it still does
  pub stays-there : (st there : Stand) → there ≡ st → MayBegin st there passes passes
  stays-there None there is = subst (λ x. Founds x passes passes) (sym is) refl
  stays-there (Some at) there is = (is, refl)

  pub changes : (c : Command) (r : ListReply T M) (new : SlotView T M)
      → answer_any setting (shortage r c) around c row ≡ is_now r (row_of new)
      → RowAdds setting row c r here (stand_of (Some new)) None passes passes
      → Said c r (Some new) None passes
  changes c r new is adds = record {
    begins = false;
    places = 0;
    change = is;
    blocks = refl;
    adds = adds;
  }

  -- what is for a reader, for each writer and for a small window is for a slot's window
  for-each : IsSlotRole s.role → (c : Command) → allowed c reader ≡ true
      → ((places : ℕ) → allowed c (sole_writer places) ≡ true)
      → ((places : ℕ) → allowed c (one_writer_of_several places) ≡ true)
      → allowed c inline ≡ true → IsFor c
  for-each known c reads writes beside small =
      slot_each (λ role. allowed c role ≡ true) reads writes beside small s.role known

  -- ---- who is one of several, or the only one

  -- the kind has no windows of several writers
  pub share-none : (i : ℕ) → IsSlotRole s.role → setting.calls.shares ≡ false
      → Said (command.Share i) reply.Kind (Some s) None passes
  share-none i known none =
      same (command.Share i) reply.Kind (not-for no_shortage (command.Share i)
      (slot_each (λ role. allowed (command.Share i) role ≡ false) refl (λ places. none)
      (λ places. refl) refl s.role known)) (refl, refl, refl)

  -- only a sole writer becomes one of several
  pub share-kind : (i : ℕ) → IsSlotRole s.role → is_sole s.role ≡ false
      → Said (command.Share i) reply.Kind (Some s) None passes
  share-kind i known other =
      same (command.Share i) reply.Kind (not-for no_shortage (command.Share i)
      (slot_each (λ role. is_sole role ≡ false → allowed (command.Share i) role ≡ false)
      (λ is. refl) (λ places is. absurd (false≢true (sym is))) (λ places is. refl) (λ is. refl)
      s.role known other)) (refl, refl, refl)

  -- only one of several becomes the only one
  pub unique-kind : (i : ℕ) → IsSlotRole s.role → is_several s.role ≡ false
      → Said (command.Unique i) reply.Kind (Some s) None passes
  unique-kind i known other =
      same (command.Unique i) reply.Kind (not-for no_shortage (command.Unique i)
      (slot_each (λ role. is_several role ≡ false → allowed (command.Unique i) role ≡ false)
      (λ is. refl) (λ places is. refl) (λ places is. absurd (false≢true (sym is))) (λ is. refl)
      s.role known other)) (refl, refl, refl)

  -- ---- what is only told

  pub shown : (i : ℕ) → IsSlotRole s.role → setting.calls.copies ≡ true
      → Said (command.Show i) (reply.Items s.window.items) (Some s) None passes
  shown i known has =
      same (command.Show i) (reply.Items s.window.items)
      (for-role no_shortage (command.Show i)
      (for-each known (command.Show i) has (λ places. has) (λ places. has) has))
      (refl, refl, refl)

  pub counted : (i : ℕ) → IsSlotRole s.role
      → Said (command.Len i) (reply.Number (length s.window.items)) (Some s) None passes
  counted i known =
      same (command.Len i) (reply.Number (length s.window.items))
      (for-role no_shortage (command.Len i)
      (for-each known (command.Len i) refl (λ places. refl) (λ places. refl) refl))
      (refl, refl, refl)

  -- ---- what is written into a window

  -- a first block begins under the window
  pub begins-as : (c : Command) (new : SlotView T M) (r : Row T M) (passes' : List (Pass Whole))
      → answer_any setting no_shortage around c row ≡ begun r
      → ((there : Stand) → Stays here there None passes passes'
      → RowAdds setting row c reply.Ok here there None passes passes')
      → here ≡ None → Founds (stand_of (Some new)) passes passes' → row_of new ≡ r
      → Said c reply.Ok (Some new) None passes'
  begins-as c new r passes' is adds none founds row-is = record {
    begins = is_some (stand_block (stand_of (Some new)));
    places = 0;
    change =
        is ∙ ap (λ x. record {
          reply = reply.Ok;
          row = Some x;
          made = None;
          begins = is_some (block_of r.place);
        }) (sym row-is)
        ∙ ap (λ b. record {
          reply = reply.Ok;
          row = Some (row_of new);
          made = None;
          begins = b;
        }) (row-begins new r row-is);
    blocks = many-founded passes passes' (stand_of (Some new)) founds;
    adds =
        adds (stand_of (Some new))
        (subst (λ st. MayBegin st (stand_of (Some new)) passes passes') (sym none) founds, refl);
  }

  module _ (writes : is_sole s.role ≡ true) (i : ℕ) where
    module _ (what : Writing (List T) T) where
      abbrev w : Command
      w = write_command i what

      abbrev outcome-in : Around → Shortage → Room → Change T M
      outcome-in a short room = filled setting short a row (items_of what) room

      abbrev outcome : Shortage → Room → Change T M
      outcome = outcome-in around

    one : is_several s.role ≡ false
    one = sole-several s.role writes

    -- it is written as by a sole writer
    written-in : (a : Around) (short : Shortage) (items : List T) (k : ℕ)
        → written setting short a items k row ≡ filled setting short a row items
        (room_of setting row k)
    written-in a short items k =
        ap (λ b. if b then filled_shared setting short a items k row else
        filled setting short a row items (room_of setting row k)) one

    write-in : (a : Around) (what : Writing (List T) T) → can_write setting.calls what ≡ true
        → (short : Shortage) (room : Room) → room ≡ room_of setting row (additional_of what)
        → answer_any setting short a (write_command i what) row ≡ outcome-in what a short room
    write-in a (writing.Nothing additional) can short room is =
        for-role-in a short (command.Res i additional)
        (writes-for writes (command.Res i additional) true (λ n. refl))
        ∙ written-in a short [] additional
        ∙ ap (outcome-in (writing.Nothing additional) a short) (sym is)
    write-in a (writing.Item item) can short room is =
        for-role-in a short (command.Push i item)
        (writes-for writes (command.Push i item) true (λ n. can))
        ∙ written-in a short (item ∷ []) 1 ∙ ap (outcome-in (writing.Item item) a short) (sym is)
    write-in a (writing.Items items) can short room is =
        for-role-in a short (command.Ext i items)
        (writes-for writes (command.Ext i items) true (λ n. can))
        ∙ written-in a short items (length items)
        ∙ ap (outcome-in (writing.Items items) a short) (sym is)

    write-is : (what : Writing (List T) T) → can_write setting.calls what ≡ true
        → (short : Shortage) (room : Room) → room ≡ room_of setting row (additional_of what)
        → answer_any setting short around (write_command i what) row ≡ outcome what short room
    write-is = write-in around

    module _ (what : Writing (List T) T) (can : can_write setting.calls what ≡ true) where
      put-in : (room : Room) → room ≡ room_of setting row (additional_of what)
          → (new : SlotView T M) (passes' : List (Pass Whole))
          → outcome what no_shortage room
          ≡ is_now reply.Ok (with_more (items_of what) (with_room room row))
          → (row_of new ≡ with_more (items_of what) (with_room room row))
          × (stand_of (Some new) ≡ here) × (passes' ≡ passes)
          → Said (w what) reply.Ok (Some new) None passes'
      put-in room is new passes' does did =
          subst (λ ps. Said (w what) reply.Ok (Some new) None ps) (sym did.2)
          (changes (w what) reply.Ok new (write-is what can no_shortage room is ∙ does
          ∙ ap (is_now reply.Ok) (sym did.0))
          (write-adds setting i here passes row one what (stand_of (Some new)) passes
          (stays-there here (stand_of (Some new)) did.1, refl)))

      -- a caller's buffer made its own room
      made-room : (j : ℕ) → from.Own j ≡ room_of setting row (additional_of what)
          → (new : SlotView T M) (passes' : List (Pass Whole))
          → Fills setting.drops (from.Own j) (items_of what) s new passes passes' (Ok tt)
          → Said (w what) reply.Ok (Some new) None passes'
      made-room j is new passes' did =
          let wanted = offset_at row.place + length s.window.items + j in
          let all : max wanted did.0 ≡ did.0 = omega (arith, did.1) in
          subst (λ ps. Said (w what) reply.Ok (Some new) None ps) (sym did.4) (record {
            begins = false;
            places = did.0;
            change =
                write-in (around_in did.0 windows passes here) what can no_shortage (from.Own j) is
                ∙ ap (λ n. is_now reply.Ok
                (with_more (items_of what) (with_room (from.Growth n) row))) all
                ∙ ap (is_now reply.Ok) (sym did.2);
            blocks = refl;
            adds =
                write-adds setting i here passes row one what (stand_of (Some new)) passes
                (stays-there here (stand_of (Some new)) did.3, refl);
          })

      -- what was written stands in the window
      wrote-in : (room : Room) → room ≡ room_of setting row (additional_of what)
          → (is_fresh room ≡ true → here ≡ None) → (new : SlotView T M)
          (passes' : List (Pass Whole))
          → Fills setting.drops room (items_of what) s new passes passes' (Ok tt)
          → Said (w what) reply.Ok (Some new) None passes'
      wrote-in (from.Fresh places) is none new passes' did =
          begins-as (w what) new
          (with_more (items_of what) (new_writer setting.drops (Some (length passes)) [] places))
          passes'
          (write-is what can no_shortage (from.Fresh places) is)
          (λ there. write-adds setting i here passes row one what there passes')
          (none refl) did.1 did.0
      wrote-in (from.Own additional) is none new passes' did =
          made-room additional is new passes' did
      wrote-in (from.Refused e) is none new passes' did =
          let fine : ◌≡◌ {A = Result (Unit {0}) TryReserveError} (Ok tt) (Err e) = did.0 in
          absurd (cc)
      wrote-in from.Spare is none new passes' did =
          put-in from.Spare is new passes' refl (did.1, did.2, did.3)
      wrote-in from.Behind is none new passes' did =
          put-in from.Behind is new passes' refl (did.1, did.2, did.3)
      wrote-in from.Front is none new passes' did =
          put-in from.Front is new passes' refl (did.1, did.2, did.3)
      wrote-in (from.Growth places) is none new passes' did =
          put-in (from.Growth places) is new passes' refl (did.1, did.2, did.3)

      unwrote : (e : TryReserveError) (new : SlotView T M) (passes' : List (Pass Whole))
          → answer_any setting (shortage (reply.Reserve e) (w what)) around (w what) row
          ≡ is_now (reply.Reserve e) row
          → new ≡ s → passes' ≡ passes → Said (w what) (reply.Reserve e) (Some new) None passes'
      unwrote e new passes' is stays all =
          subst (λ x. Said (w what) (reply.Reserve e) (Some x) None passes') (sym stays)
          (subst (λ ps. Said (w what) (reply.Reserve e) (Some s) None ps) (sym all)
          (same (w what) (reply.Reserve e) is (write-none setting i here passes row one what e)))

      -- memory was refused for it
      short-of : (room : Room) → room ≡ room_of setting row (additional_of what)
          → (e : TryReserveError) → e ≡ reserve.AllocError
          → outcome what of_blocks room ≡ is_now (reply.Reserve reserve.AllocError) row
          → answer_any setting (shortage (reply.Reserve e) (w what)) around (w what) row
          ≡ is_now (reply.Reserve e) row
      short-of room is e short does =
          subst (λ x. answer_any setting (shortage (reply.Reserve x) (w what)) around (w what) row
          ≡ is_now (reply.Reserve x) row) (sym short) (write-is what can of_blocks room is ∙ does)

      -- a caller's buffer made none
      made-none : (j : ℕ) → from.Own j ≡ room_of setting row (additional_of what)
          → (e : TryReserveError) → IsBuffersRefusal e
          → answer_any setting (shortage (reply.Reserve e) (w what)) around (w what) row
          ≡ is_now (reply.Reserve e) row
      made-none j is reserve.AllocError why = write-is what can of_blocks (from.Own j) is
      made-none j is reserve.NotUnique why = absurd why
      made-none j is reserve.Unsupported why =
          write-is what can (of_growth reserve.Unsupported) (from.Own j) is
      made-none j is reserve.CapacityOverflow why =
          write-is what can (of_growth reserve.CapacityOverflow) (from.Own j) is

      -- it was refused, and nothing changed
      unwritten-in : (room : Room) → room ≡ room_of setting row (additional_of what)
          → (e : TryReserveError) (new : SlotView T M) (passes' : List (Pass Whole))
          → Fills setting.drops room (items_of what) s new passes passes' (Err e)
          → Said (w what) (reply.Reserve e) (Some new) None passes'
      unwritten-in (from.Fresh places) is e new passes' did =
          unwrote e new passes' (short-of (from.Fresh places) is e did.0 refl) did.1.0 did.1.1
      unwritten-in (from.Growth places) is e new passes' did =
          unwrote e new passes' (short-of (from.Growth places) is e did.0 refl) did.1.0 did.1.1
      unwritten-in (from.Own additional) is e new passes' did =
          unwrote e new passes' (made-none additional is e did.0) did.1.0 did.1.1
      unwritten-in (from.Refused refusal) is e new passes' did =
          let alike : e ≡ refusal = refused-same e refusal did.0 in
          unwrote e new passes'
          (write-is what can (shortage (reply.Reserve e) (w what)) (from.Refused refusal) is
          ∙ ap (λ x. is_now (reply.Reserve x) row) (sym alike)) did.1.0 did.1.1
      unwritten-in from.Spare is e new passes' did =
          let fine : ◌≡◌ {A = Result (Unit {0}) TryReserveError} (Err e) (Ok tt) = did.0 in
          absurd (cc)
      unwritten-in from.Behind is e new passes' did =
          let fine : ◌≡◌ {A = Result (Unit {0}) TryReserveError} (Err e) (Ok tt) = did.0 in
          absurd (cc)
      unwritten-in from.Front is e new passes' did =
          let fine : ◌≡◌ {A = Result (Unit {0}) TryReserveError} (Err e) (Ok tt) = did.0 in
          absurd (cc)

      abbrev needed : Room
      needed = room_of setting row (additional_of what)

      -- what was answered is known by how the writing went
      pub wrote-by : (new : SlotView T M) (passes' : List (Pass Whole))
          (answer : Result (Unit {0}) TryReserveError) → answer ≡ Ok tt
          → Fills setting.drops needed (items_of what) s new passes passes' answer
          → Said (w what) reply.Ok (Some new) None passes'
      wrote-by new passes' answer is did =
          wrote-in needed refl
          (fresh-stands setting.drops (if setting.item_size == 1 then 8 else 4) setting.item_size s
          (additional_of what)) new passes'
          (subst (Fills setting.drops needed (items_of what) s new passes passes') is did)

      pub unwrote-by : (e : TryReserveError) (new : SlotView T M) (passes' : List (Pass Whole))
          (answer : Result (Unit {0}) TryReserveError) → answer ≡ Err e
          → Fills setting.drops needed (items_of what) s new passes passes' answer
          → Said (w what) (reply.Reserve e) (Some new) None passes'
      unwrote-by e new passes' answer is did =
          unwritten-in needed refl e new passes'
          (subst (Fills setting.drops needed (items_of what) s new passes passes') is did)

      -- memory for a first block's pass was refused
      pub no-pass : (k : ℕ) → k ≡ additional_of what → is_fresh (room_of setting row k) ≡ true
          → Said (w what) (reply.Reserve reserve.AllocError) (Some s) None passes
      no-pass k is fresh =
          same (w what) (reply.Reserve reserve.AllocError)
          (write-is what can of_blocks needed refl
          ∙ fresh_each (λ x. outcome what of_blocks x
          ≡ is_now (reply.Reserve reserve.AllocError) row) (λ places. refl) needed
          (ap (λ n. is_fresh (room_of setting row n)) (sym is) ∙ fresh))
          (write-none setting i here passes row one what reserve.AllocError)
