-- What is written into the row of one of several writers, as what he is answered: he asks whether
-- he is alone where he has to be, and his row's answer goes by that.
use Rattle.std.proofs.Common.{◌≡◌, ◌==◌, ◌-◌, ◌&&◌, ◌∷◌, [], ℕ, Bool, true, false, not}
use Rattle.std.proofs.Common.{if◌then◌else◌}
use Rattle.std.specs.Prelude.{nat_lt}
use Rattle.std.proofs.Common.{List, length, Some, None, Result, Ok, Err, refl, sym, ap}
use Rattle.std.proofs.Common.{◌∙◌, subst}
use Rattle.std.proofs.lemmas.Bool.{and_parts, false≢true}
use Rattle.std.proofs.lemmas.Option.{none-some}
use Rattle.arc_owners.specs.declared.mark.Whole.{Whole}
use Rattle.arc_owners.specs.declared.count.tokens.Pass.{Pass}
use Rattle.arc_owners.specs.declared.error.TryReserveError.{TryReserveError}
use Rattle.arc_owners.specs.declared.error.TryReserveError.TheVariants as reserve
use Rattle.arc_owners.specs.count.Calls.{Asks}
use Rattle.arc_parts.specs.declared.room.Room.{Room}
use Rattle.arc_parts.specs.declared.room.Room.TheVariants as from
use Rattle.arc_block.specs.Owned.{Stand}
use Rattle.arc_parts.specs.Room.{IsBuffersRefusal}
use Rattle.arc_parts.specs.Shared.{as_shared, asks_alone, extended, is_on_block}
use Rattle.arc_block.specs.Table.{Row, one_writer_of_several}
use Rattle.arc_parts.specs.Writers.{Reclaims, capacity_of, new_writer, room_for, with_room}
use Rattle.arc_commands.specs.Additions.{AddsAt, AsksFirst, Enters, HasMade, HasRefused, RowAdds}
use Rattle.arc_commands.specs.Additions.{asks_first}
use Rattle.arc_commands.specs.Additions.{asked as History_asked}
use Rattle.arc_commands.specs.Blocks.{is_several}
use Rattle.arc_commands.specs.Changes.{Setting, Shortage, filled, is_now, no_shortage}
use Rattle.arc_commands.specs.Changes.{of_blocks, reclaimed, room_of}
use Rattle.arc_commands.specs.Commands.{ListCmd, ListReply}
use Rattle.arc_commands.specs.Several.{filled_alone, filled_shared, is_beside, reclaimed_shared}
use Rattle.arc_commands.specs.Step.{answer_any, is_allowed, shortage, written}
use Rattle.arc_commands.specs.declared.command.Cmd.TheVariants as command
use Rattle.arc_commands.specs.declared.command.Reply.TheVariants as reply
use Rattle.arc_commands.proofs.Roles.{several-is}
use Rattle.arc_slots.specs.Answers.{Answers, around_in}
use Rattle.arc_slots.specs.Several.{AsksAt, FillsAlone, FillsBeside, FillsIf, RoomBeside, RoomIf}
use Rattle.arc_slots.specs.Slots.{SlotView, row_of, stand_of}
use Rattle.arc_slots.specs.Stands.{HasPassFor}
use Rattle.arc_slots.specs.Writing.{IsUnchanged, additional_of, can_write, is_fresh, items_of}
use Rattle.arc_slots.specs.Writing.{write_command}
use Rattle.arc_slots.specs.declared.slot.Writing.{Writing}
use Rattle.arc_slots.specs.declared.slot.Writing.TheVariants as writing
use Rattle.arc_slots.proofs.Added.{asked-comes, enters-along}
use Rattle.arc_slots.proofs.Answered.{begins-as, for-role, fresh_each, refused-same, stays-there}
use Rattle.arc_slots.proofs.Filled.{fresh-stands, room_each}
use Rattle.arc_slots.proofs.Reclaimed.{no-as, yes-as}
use Rattle.arc_slots.proofs.Told.{alone-told, many_along}
use Rattle.arc_slots.proofs.Before.{before_of}

-- why room is refused: for no other owner, of whom the count alone tells
abbrev NamesNoOwner : Room → Type 0
NamesNoOwner from.Spare = Unit {0}
NamesNoOwner (from.Fresh places) = Unit {0}
NamesNoOwner from.Behind = Unit {0}
NamesNoOwner from.Front = Unit {0}
NamesNoOwner (from.Growth places) = Unit {0}
NamesNoOwner (from.Own additional) = Unit {0}
NamesNoOwner (from.Refused e) = IsBuffersRefusal e

module _ {T M : Type 0} (setting : Setting T) (windows : ℕ) (s : SlotView T M)
    (passes : List (Pass Whole)) (several : is_several s.role ≡ true) where
  open before_of setting windows s passes use {here, row, around}

  -- what is for each writer of several is for him
  several-for : (c : ListCmd T M) (b : Bool)
      → ((places : ℕ) → is_allowed setting.calls c (one_writer_of_several places) ≡ b)
      → is_allowed setting.calls c s.role ≡ b
  several-for c b each =
      ap (is_allowed setting.calls c) (several-is s.role several) ∙ each (capacity_of s.role)

  -- he asks first where he has to be alone
  first-is : (k : ℕ) → asks_first row k ≡ asks_alone row k
  first-is k = ap (λ b. b && asks_alone row k) several

  -- what he is told is what his row knows, and that is added
  asks-told : (st : Stand) (between : List (Pass Whole)) (found : Bool) → HasPassFor passes st
      → AsksAt st passes between found
      → ((around_in 0 windows passes st).alone ≡ found) × (length between ≡ length passes)
      × Enters (History_asked found) st st None passes between
  asks-told None between found has asks = (sym asks.0, ap length asks.1, (refl, refl, asks.1))
  asks-told (Some (n, o)) between found has asks = (
    alone-told passes between windows found (Some (n, o)) has asks
        (λ e. absurd (none-some (n, o) (sym e))),
    many_along passes between (Some (n, o)) (λ o p q. Asks o p q found) asks,
    (
      refl,
      refl,
      enters-along passes between (λ o p q. Asks o p q found) (History_asked found)
          (asked-comes found) (Some (n, o)) asks,
    ),
  )

  module _ (k : ℕ) where
    abbrev needed : Room
    needed = room_of setting row k

    abbrev first : ℕ
    first = if setting.item_size == 1 then 8 else 4

    -- no other owner lives of whom he would have to know, and that he asked, if he did, was added
    record IsClear (between : List (Pass Whole)) : Type 0 where
      beside : is_beside around k row ≡ false
      many : length between ≡ length passes
      adds : AsksFirst (asks_alone row k) true here here None passes between

    -- he didn't ask
    unasked : asks_alone row k ≡ false → IsClear passes
    unasked none = record {
      beside = ap (λ a. a && not around.alone) none;
      many = refl;
      adds =
          subst (λ a. AsksFirst a true here here None passes passes) (sym none) (refl, refl, refl);
    }

    module _ (asks : asks_alone row k ≡ true) (has : HasPassFor passes here)
        (between : List (Pass Whole)) where
      beside-is : (found : Bool) → AsksAt here passes between found
          → is_beside around k row ≡ not found
      beside-is found asked =
          ap (λ a. a && not around.alone) asks
          ∙ ap not (asks-told here between found has asked).0

      -- he is alone
      told-clear : AsksAt here passes between true → IsClear between
      told-clear asked =
          let told = asks-told here between true has asked in record {
            beside = beside-is true asked;
            many = told.1;
            adds =
                subst (λ a. AsksFirst a true here here None passes between) (sym asks) told.2;
          }

    -- on a block no first one is made
    fresh-alone : asks_alone row k ≡ true → is_fresh needed ≡ true → ⊥
    fresh-alone asks fresh =
        let on = (and_parts (nat_lt (capacity_of row.role - length row.items) k)
        (is_on_block row.place) asks).1 in
        let old : is_fresh needed ≡ false = room_each setting.drops first setting.item_size row k
        (λ x. is_fresh x ≡ false) refl (λ off places. absurd (false≢true (sym off ∙ on))) refl refl
        refl refl (λ places. refl) (λ block offset info writable is sort. refl) in
        false≢true (sym old ∙ fresh)

    names-none : NamesNoOwner needed
    names-none =
        room_each setting.drops first setting.item_size row k NamesNoOwner tt (λ off places. tt) tt
        tt tt tt (λ places. tt) (λ block offset info writable is sort. tt)

  -- ---- what is written

  module _ (i : ℕ) where
    written-as : (short : Shortage) (items : List T) (k : ℕ)
        → written setting short around items k row ≡ filled_shared setting short around items k row
    written-as short items k =
        ap (λ b. if b then filled_shared setting short around items k row else
        filled setting short around row items (room_of setting row k)) several

    write-is : (what : Writing (List T) T) → can_write setting.calls what ≡ true
        → (short : Shortage) → answer_any setting short around (write_command i what) row
        ≡ filled_shared setting short around (items_of what) (additional_of what) row
    write-is (writing.Nothing additional) can short =
        for-role setting windows s passes short (command.Res i additional)
        (several-for (command.Res i additional) true (λ n. refl)) ∙ written-as short [] additional
    write-is (writing.Item item) can short =
        for-role setting windows s passes short (command.Push i item)
        (several-for (command.Push i item) true (λ n. can)) ∙ written-as short (item ∷ []) 1
    write-is (writing.Items items) can short =
        for-role setting windows s passes short (command.Ext i items)
        (several-for (command.Ext i items) true (λ n. can)) ∙ written-as short items (length items)

    made-adds : (what : Writing (List T) T) (there : Stand) (passes' : List (Pass Whole))
        → HasMade (asks_alone row (additional_of what)) here there None passes passes'
        → RowAdds setting row (write_command i what) reply.Ok here there None passes passes'
    made-adds (writing.Nothing additional) there passes' made =
        subst (λ b. HasMade b here there None passes passes') (sym (first-is additional)) made
    made-adds (writing.Item item) there passes' made =
        subst (λ b. HasMade b here there None passes passes') (sym (first-is 1)) made
    made-adds (writing.Items items) there passes' made =
        subst (λ b. HasMade b here there None passes passes') (sym (first-is (length items))) made

    refused-adds : (what : Writing (List T) T) (e : TryReserveError) (passes' : List (Pass Whole))
        → HasRefused (asks_alone row (additional_of what)) e here here None passes passes'
        → RowAdds setting row (write_command i what) (reply.Reserve e) here here None passes passes'
    refused-adds (writing.Nothing additional) e passes' refused =
        subst (λ a. HasRefused a e here here None passes passes') (sym (first-is additional))
        refused
    refused-adds (writing.Item item) e passes' refused =
        subst (λ a. HasRefused a e here here None passes passes') (sym (first-is 1)) refused
    refused-adds (writing.Items items) e passes' refused =
        subst (λ a. HasRefused a e here here None passes passes') (sym (first-is (length items)))
        refused

    module _ (what : Writing (List T) T) (can : can_write setting.calls what ≡ true)
        (undropped : setting.drops ≡ false) where
      abbrev c : ListCmd T M
      c = write_command i what

      abbrev k : ℕ
      k = additional_of what

      abbrev items : List T
      items = items_of what

      abbrev Said : ListReply T M → SlotView T M → List (Pass Whole) → Type 0
      Said r new passes' = Answers setting windows c s passes r (Some new) None passes'

      alone-is : (between : List (Pass Whole)) → IsClear k between → (short : Shortage)
          (room : Room) → room ≡ needed k → answer_any setting short around c row
          ≡ filled_alone setting short around items room row
      alone-is between clear short room is =
          write-is what can short
          ∙ ap (λ b. if b then is_now (reply.Reserve reserve.NotUnique) row else
          filled_alone setting short around items (needed k) row) clear.beside
          ∙ ap (λ r. filled_alone setting short around items r row) (sym is)

      -- what is added where room was made at the same place
      made-at : (asks : Bool) (between passes' : List (Pass Whole)) (there : Stand)
          → AsksFirst asks true here here None passes between → there ≡ here → passes' ≡ between
          → HasMade asks here there None passes passes'
      made-at true between passes' there adds stays same =
          (stays, refl, subst (AddsAt here (History_asked true) passes) (sym same) adds.2)
      made-at false between passes' there adds stays same =
          subst (λ ps. HasMade false here there None passes ps) (sym (same ∙ adds.2))
          (stays-there setting windows s passes here there stays, refl)

      put-in : (between : List (Pass Whole)) → IsClear k between → (room : Room)
          → room ≡ needed k → (new : SlotView T M) (passes' : List (Pass Whole))
          → filled_alone setting no_shortage around items room row
          ≡ is_now reply.Ok (extended items (with_room room row))
          → (row_of new ≡ extended items (with_room room row)) × (stand_of (Some new) ≡ here)
          × (passes' ≡ between) → Said reply.Ok new passes'
      put-in between clear room is new passes' does did = record {
        begins = false;
        places = 0;
        change =
            alone-is between clear no_shortage room is ∙ does ∙ ap (is_now reply.Ok) (sym did.0);
        blocks = ap length did.2 ∙ clear.many;
        adds =
            made-adds what (stand_of (Some new)) passes'
            (made-at (asks_alone row k) between passes' (stand_of (Some new)) clear.adds did.1
            did.2);
      }

      -- a first block's, where nobody was asked
      began : asks_alone row k ≡ false → (places : ℕ) → from.Fresh places ≡ needed k
          → here ≡ None → (new : SlotView T M) (passes' : List (Pass Whole))
          → FillsAlone (from.Fresh places) items s new passes passes' (Ok tt)
          → Said reply.Ok new passes'
      began none places is on-none new passes' did =
          begins-as setting windows s passes c new (extended items
          (as_shared (new_writer setting.drops (Some (length passes)) [] places))) passes'
          (alone-is passes (unasked k none) no_shortage (from.Fresh places) is)
          (λ there stays. made-adds what there passes'
          (subst (λ b. HasMade b here there None passes passes') (sym none) stays)) on-none did.1
          (did.0 ∙ ap (λ d. extended items
          (as_shared (new_writer d (Some (length passes)) [] places))) (sym undropped))

      -- what was written stands in the window
      wrote-alone : (between : List (Pass Whole)) → IsClear k between → (room : Room)
          → room ≡ needed k → (new : SlotView T M) (passes' : List (Pass Whole))
          → ((places : ℕ) → room ≡ from.Fresh places
          → FillsAlone (from.Fresh places) items s new between passes' (Ok tt)
          → Said reply.Ok new passes')
          → FillsAlone room items s new between passes' (Ok tt) → Said reply.Ok new passes'
      wrote-alone between clear (from.Fresh places) is new passes' first did = first places refl did
      wrote-alone between clear (from.Own additional) is new passes' first did = absurd did
      wrote-alone between clear (from.Refused e) is new passes' first did =
          let fine : ◌≡◌ {A = Result (Unit {0}) TryReserveError} (Ok tt) (Err e) = did.0 in
          absurd (cc)
      wrote-alone between clear from.Spare is new passes' first did =
          put-in between clear from.Spare is new passes' refl (did.1, did.2, did.3)
      wrote-alone between clear from.Behind is new passes' first did =
          put-in between clear from.Behind is new passes' refl (did.1, did.2, did.3)
      wrote-alone between clear from.Front is new passes' first did =
          put-in between clear from.Front is new passes' refl (did.1, did.2, did.3)
      wrote-alone between clear (from.Growth places) is new passes' first did =
          put-in between clear (from.Growth places) is new passes' refl (did.1, did.2, did.3)

      -- why it was refused, where no other owner is named
      refused-at : (asks : Bool) (e : TryReserveError) (between : List (Pass Whole))
          → AsksFirst asks true here here None passes between → IsBuffersRefusal e
          → HasRefused asks e here here None passes between
      refused-at asks reserve.AllocError between adds why = adds
      refused-at asks reserve.NotUnique between adds why = absurd why
      refused-at asks reserve.Unsupported between adds why = adds
      refused-at asks reserve.CapacityOverflow between adds why = adds

      unwrote : (between : List (Pass Whole)) → IsClear k between → (e : TryReserveError)
          → IsBuffersRefusal e → (new : SlotView T M) (passes' : List (Pass Whole))
          → answer_any setting (shortage (reply.Reserve e) c) around c row
          ≡ is_now (reply.Reserve e) row
          → IsUnchanged s new between passes' → Said (reply.Reserve e) new passes'
      unwrote between clear e why new passes' is un =
          subst (λ x. Said (reply.Reserve e) x passes') (sym un.0)
          (subst (λ ps. Said (reply.Reserve e) s ps) (sym un.1) (record {
            begins = false;
            places = 0;
            change = is;
            blocks = clear.many;
            adds =
                refused-adds what e between
                (refused-at (asks_alone row k) e between clear.adds why);
          }))

      -- memory was refused for it
      short-of : (between : List (Pass Whole)) → IsClear k between → (room : Room)
          → room ≡ needed k → (e : TryReserveError) → e ≡ reserve.AllocError
          → filled_alone setting of_blocks around items room row
          ≡ is_now (reply.Reserve reserve.AllocError) row
          → (new : SlotView T M) (passes' : List (Pass Whole)) → IsUnchanged s new between passes'
          → Said (reply.Reserve e) new passes'
      short-of between clear room is e short does new passes' un =
          subst (λ x. Said (reply.Reserve x) new passes') (sym short)
          (unwrote between clear reserve.AllocError tt new passes'
          (alone-is between clear of_blocks room is ∙ does) un)

      -- it was refused, and nothing changed
      unwrote-alone : (between : List (Pass Whole)) → IsClear k between → (room : Room)
          → room ≡ needed k → NamesNoOwner room → (e : TryReserveError) (new : SlotView T M)
          (passes' : List (Pass Whole)) → FillsAlone room items s new between passes' (Err e)
          → Said (reply.Reserve e) new passes'
      unwrote-alone between clear (from.Fresh places) is names e new passes' did =
          short-of between clear (from.Fresh places) is e did.0 refl new passes' did.1
      unwrote-alone between clear (from.Growth places) is names e new passes' did =
          short-of between clear (from.Growth places) is e did.0 refl new passes' did.1
      unwrote-alone between clear (from.Own additional) is names e new passes' did = absurd did
      unwrote-alone between clear (from.Refused refusal) is names e new passes' did =
          let alike : e ≡ refusal = refused-same e refusal did.0 in
          unwrote between clear e (subst IsBuffersRefusal (sym alike) names) new passes'
          (alone-is between clear (shortage (reply.Reserve e) c) (from.Refused refusal) is
          ∙ ap (λ x. is_now (reply.Reserve x) row) (sym alike)) did.1
      unwrote-alone between clear from.Spare is names e new passes' did =
          let fine : ◌≡◌ {A = Result (Unit {0}) TryReserveError} (Err e) (Ok tt) = did.0 in
          absurd (cc)
      unwrote-alone between clear from.Behind is names e new passes' did =
          let fine : ◌≡◌ {A = Result (Unit {0}) TryReserveError} (Err e) (Ok tt) = did.0 in
          absurd (cc)
      unwrote-alone between clear from.Front is names e new passes' did =
          let fine : ◌≡◌ {A = Result (Unit {0}) TryReserveError} (Err e) (Ok tt) = did.0 in
          absurd (cc)

      -- another owner lives
      beside-refused : asks_alone row k ≡ true → HasPassFor passes here
          → (between : List (Pass Whole)) → AsksAt here passes between false
          → (new : SlotView T M) (passes' : List (Pass Whole)) → IsUnchanged s new between passes'
          → Said (reply.Reserve reserve.NotUnique) new passes'
      beside-refused asks has between asked new passes' un =
          let told = asks-told here between false has asked in
          subst (λ x. Said (reply.Reserve reserve.NotUnique) x passes') (sym un.0)
          (subst (λ ps. Said (reply.Reserve reserve.NotUnique) s ps) (sym un.1) (record {
            begins = false;
            places = 0;
            change =
                write-is what can no_shortage
                ∙ ap (λ b. if b then is_now (reply.Reserve reserve.NotUnique) row else
                filled_alone setting no_shortage around items (needed k) row)
                (beside-is k asks has between false asked);
            blocks = told.1;
            adds =
                refused-adds what reserve.NotUnique between
                (subst (λ a. AsksFirst a false here here None passes between) (sym asks) told.2);
          }))

      module _ (has : HasPassFor passes here) where
        wrote-if : asks_alone row k ≡ true → (between : List (Pass Whole)) (found : Bool)
            → AsksAt here passes between found → (new : SlotView T M) (passes' : List (Pass Whole))
            → FillsIf found (needed k) items s new between passes' (Ok tt)
            → Said reply.Ok new passes'
        wrote-if asks between true asked new passes' did =
            wrote-alone between (told-clear k asks has between asked) (needed k) refl new passes'
            (λ places fresh begun. absurd (fresh-alone k asks (ap is_fresh fresh))) did
        wrote-if asks between false asked new passes' did =
            let fine : ◌≡◌ {A = Result (Unit {0}) TryReserveError} (Ok tt) (Err reserve.NotUnique) =
            did.0 in
            absurd (cc)

        pub wrote-beside : (new : SlotView T M) (passes' : List (Pass Whole))
            (answer : Result (Unit {0}) TryReserveError) → answer ≡ Ok tt
            → FillsBeside (asks_alone row k) (needed k) items s new passes passes' answer
            → Said reply.Ok new passes'
        wrote-beside new passes' answer is did =
            by (asks_alone row k) refl
            (subst (FillsBeside (asks_alone row k) (needed k) items s new passes passes') is did)
          where
            on-none : is_fresh (needed k) ≡ true → here ≡ None
            on-none = fresh-stands setting.drops (first k) setting.item_size s k

            by : (asks : Bool) → asks_alone row k ≡ asks
                → FillsBeside asks (needed k) items s new passes passes' (Ok tt)
                → Said reply.Ok new passes'
            by true asks did = wrote-if asks did.1 did.0 did.2 new passes' did.3
            by false asks did =
                wrote-alone passes (unasked k asks) (needed k) refl new passes'
                (λ places fresh begun. began asks places (sym fresh) (on-none (ap is_fresh fresh))
                new passes' begun) did

        unwrote-if : asks_alone row k ≡ true → (between : List (Pass Whole)) (found : Bool)
            → AsksAt here passes between found → (e : TryReserveError) (new : SlotView T M)
            (passes' : List (Pass Whole))
            → FillsIf found (needed k) items s new between passes' (Err e)
            → Said (reply.Reserve e) new passes'
        unwrote-if asks between true asked e new passes' did =
            unwrote-alone between (told-clear k asks has between asked) (needed k) refl
            (names-none k) e new passes' did
        unwrote-if asks between false asked e new passes' did =
            subst (λ x. Said (reply.Reserve x) new passes')
            (sym (refused-same e reserve.NotUnique did.0))
            (beside-refused asks has between asked new passes' did.1)

        pub unwrote-beside : (e : TryReserveError) (new : SlotView T M)
            (passes' : List (Pass Whole)) (answer : Result (Unit {0}) TryReserveError)
            → answer ≡ Err e
            → FillsBeside (asks_alone row k) (needed k) items s new passes passes' answer
            → Said (reply.Reserve e) new passes'
        unwrote-beside e new passes' answer is did =
            by (asks_alone row k) refl
            (subst (FillsBeside (asks_alone row k) (needed k) items s new passes passes') is did)
          where
            by : (asks : Bool) → asks_alone row k ≡ asks
                → FillsBeside asks (needed k) items s new passes passes' (Err e)
                → Said (reply.Reserve e) new passes'
            by true asks did = unwrote-if asks did.1 did.0 did.2 e new passes' did.3
            by false asks did =
                unwrote-alone passes (unasked k asks) (needed k) refl (names-none k) e new passes'
                did

      -- memory for a first block's pass was refused
      pub no-pass-beside : (n : ℕ) → n ≡ k → is_fresh (needed n) ≡ true
          → Said (reply.Reserve reserve.AllocError) s passes
      no-pass-beside n is some = by (asks_alone row k) refl
        where
          fresh : is_fresh (needed k) ≡ true
          fresh = ap (λ m. is_fresh (needed m)) (sym is) ∙ some

          by : (asks : Bool) → asks_alone row k ≡ asks
              → Said (reply.Reserve reserve.AllocError) s passes
          by true asks = absurd (fresh-alone k asks fresh)
          by false asks =
              short-of passes (unasked k asks) (needed k) refl reserve.AllocError refl
              (fresh_each (λ x. filled_alone setting of_blocks around items x row
              ≡ is_now (reply.Reserve reserve.AllocError) row) (λ places. refl) (needed k) fresh) s
              passes (refl, refl)

  -- ---- room without memory

  module _ (i k : ℕ) where
    abbrev rec : ListCmd T M
    rec = command.Rec i k

    abbrev Told : ListReply T M → SlotView T M → List (Pass Whole) → Type 0
    Told r new passes' = Answers setting windows rec s passes r (Some new) None passes'

    rec-is : (beside : Bool) → is_beside around k row ≡ beside
        → answer_any setting no_shortage around rec row
        ≡ (if beside then is_now reply.No row else reclaimed row (needed k))
    rec-is beside is =
        for-role setting windows s passes no_shortage rec (several-for rec true (λ n. refl))
        ∙ ap (λ b. if b then reclaimed_shared setting around k row else
        reclaimed row (needed k)) several
        ∙ ap (λ b. if b then is_now reply.No row else reclaimed row (needed k)) is

    -- what was asked is added, wherever the window stands that is the same
    adds-at : (between : List (Pass Whole)) (there : Stand) (alone : Bool) → there ≡ here
        → AsksFirst (asks_alone row k) alone here here None passes between
        → AsksFirst (asks_first row k) alone here there None passes between
    adds-at between there alone stays adds =
        subst (λ st. AsksFirst (asks_first row k) alone here st None passes between) (sym stays)
        (subst (λ a. AsksFirst a alone here here None passes between) (sym (first-is k)) adds)

    yes-alone : (between : List (Pass Whole)) → IsClear k between → (new : SlotView T M)
        → stand_of (Some new) ≡ here → Reclaims (needed k) row (row_of new) true
        → Told reply.Yes new between
    yes-alone between clear new stays did = record {
      begins = false;
      places = 0;
      change = rec-is false clear.beside ∙ yes-as row (row_of new) (needed k) did;
      blocks = clear.many;
      adds = adds-at between (stand_of (Some new)) true stays clear.adds;
    }

    no-alone : (between : List (Pass Whole)) → IsClear k between → (new : Row T M)
        → Reclaims (needed k) row new false → Told reply.No s between
    no-alone between clear new did = record {
      begins = false;
      places = 0;
      change = rec-is false clear.beside ∙ no-as row new (needed k) did;
      blocks = clear.many;
      adds = (true, adds-at between here true refl clear.adds);
    }

    module _ (has : HasPassFor passes here) (undropped : setting.drops ≡ false) where
      -- what was found, as his row says it
      as-found : (new : Row T M) (passes' : List (Pass Whole)) (answer said : Bool) → answer ≡ said
          → RoomBeside (asks_alone row k) (room_for false setting.item_size row k) here row new
          passes passes' answer
          → RoomBeside (asks_alone row k) (needed k) here row new passes passes' said
      as-found new passes' answer said is did =
          subst (λ d. RoomBeside (asks_alone row k) (room_for d setting.item_size row k) here row
          new passes passes' said) (sym undropped)
          (subst (λ a. RoomBeside (asks_alone row k) (room_for false setting.item_size row k) here
          row new passes passes' a) is did)

      yes-if : asks_alone row k ≡ true → (passes' : List (Pass Whole)) (found : Bool)
          → AsksAt here passes passes' found → (new : SlotView T M) → stand_of (Some new) ≡ here
          → RoomIf found (needed k) row (row_of new) true → Told reply.Yes new passes'
      yes-if asks passes' true asked new stays did =
          yes-alone passes' (told-clear k asks has passes' asked) new stays did
      yes-if asks passes' false asked new stays did = absurd (false≢true (sym did.0))

      pub has-room-beside : (new : SlotView T M) → stand_of (Some new) ≡ here
          → (passes' : List (Pass Whole)) (answer : Bool) → answer ≡ true
          → RoomBeside (asks_alone row k) (room_for false setting.item_size row k) here row
          (row_of new) passes passes' answer
          → Told reply.Yes new passes'
      has-room-beside new stays passes' answer is did =
          by (asks_alone row k) refl (as-found (row_of new) passes' answer true is did)
        where
          by : (asks : Bool) → asks_alone row k ≡ asks
              → RoomBeside asks (needed k) here row (row_of new) passes passes' true
              → Told reply.Yes new passes'
          by true asks did = yes-if asks passes' did.0 did.1 new stays did.2
          by false asks did =
              subst (λ ps. Told reply.Yes new ps) (sym did.0)
              (yes-alone passes (unasked k asks) new stays did.1)

      no-if : asks_alone row k ≡ true → (passes' : List (Pass Whole)) (found : Bool)
          → AsksAt here passes passes' found → (new : Row T M)
          → RoomIf found (needed k) row new false → Told reply.No s passes'
      no-if asks passes' true asked new did =
          no-alone passes' (told-clear k asks has passes' asked) new did
      no-if asks passes' false asked new did =
          let told = asks-told here passes' false has asked in record {
            begins = false;
            places = 0;
            change = rec-is true (beside-is k asks has passes' false asked);
            blocks = told.1;
            adds = (
              false,
              adds-at passes' here false refl
                  (subst (λ a. AsksFirst a false here here None passes passes') (sym asks) told.2),
            );
          }

      pub no-room-beside : (new : SlotView T M) → new ≡ s → (passes' : List (Pass Whole))
          (answer : Bool) → answer ≡ false
          → RoomBeside (asks_alone row k) (room_for false setting.item_size row k) here row
          (row_of new) passes passes' answer
          → Told reply.No new passes'
      no-room-beside new stays passes' answer is did =
          subst (λ x. Told reply.No x passes') (sym stays)
          (by (asks_alone row k) refl (as-found (row_of new) passes' answer false is did))
        where
          by : (asks : Bool) → asks_alone row k ≡ asks
              → RoomBeside asks (needed k) here row (row_of new) passes passes' false
              → Told reply.No s passes'
          by true asks did = no-if asks passes' did.0 did.1 (row_of new) did.2
          by false asks did =
              subst (λ ps. Told reply.No s ps) (sym did.0)
              (no-alone passes (unasked k asks) (row_of new) did.1)
