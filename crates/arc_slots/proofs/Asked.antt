-- What a slot's window is answered that asks whether it is alone, is written from now on, or is
-- taken out: by the sort of its block.
use Rattle.std.proofs.Common.{◌≡◌, ℕ, ◌&&◌, Bool, true, false, if◌then◌else◌, List}
use Rattle.std.proofs.Common.{length, Option, Some, None, is_some, refl, sym, ap}
use Rattle.std.proofs.Common.{◌∙◌, subst, slice_set}
use Rattle.std.specs.Prelude.{◌||◌}
use Rattle.std.proofs.lemmas.Bool.{and_parts, false≢true}
use Rattle.std.proofs.lemmas.Option.{none-some}
use Rattle.arc_owners.specs.declared.mark.Whole.{Whole}
use Rattle.arc_owners.specs.declared.count.tokens.Pass.{Pass}
use Rattle.arc_owners.specs.count.Calls.{Owner, Asks, Leaves, TakesBlock}
use Rattle.arc_block.specs.Block.{Sort, BlockInfo, native, vector, buffer, raw}
use Rattle.arc_block.specs.Owned.{Stand}
use Rattle.arc_block.specs.Place.{Place, nowhere, static_data, on_block}
use Rattle.arc_parts.specs.Shared.{as_unique, is_on_block}
use Rattle.arc_block.specs.Table.{reader, sole_writer}
use Rattle.arc_parts.specs.Writers.{as_sole}
use Rattle.arc_commands.specs.Additions.{RowAdds, AddsAt, Enters}
use Rattle.arc_commands.specs.Additions.{AsksIf, AsksInVain, AsksInVainAt, Goes, Takes, TakesAs}
use Rattle.arc_commands.specs.Additions.{ended}
use Rattle.arc_commands.specs.Additions.{asked as History_asked}
use Rattle.arc_commands.specs.Changes.{Setting, Shortage, no_shortage}
use Rattle.arc_commands.specs.Changes.{Change}
use Rattle.arc_commands.specs.Step.{answer_any}
use Rattle.arc_commands.specs.Changes.{is_now}
use Rattle.arc_commands.specs.Step.{is_allowed}
use Rattle.arc_commands.specs.Changes.{is_free, is_unique}
use Rattle.arc_commands.specs.Changes.{is_unique_at, is_writable_at, may_write}
use Rattle.arc_commands.specs.Changes.{may_write_at, may_write_sort, of_buffer, taken_as}
use Rattle.arc_commands.specs.Step.{shortage}
use Rattle.arc_commands.specs.Changes.{gone}
use Rattle.arc_commands.specs.Blocks.{is_several, is_sole}
use Rattle.arc_commands.specs.Commands.{ListCmd, ListReply}
use Rattle.arc_commands.specs.declared.command.Cmd.TheVariants as command
use Rattle.arc_commands.specs.declared.command.Reply.TheVariants as reply
use Rattle.arc_slots.specs.Answers.{around_in}
use Rattle.arc_slots.specs.Calls.{Along, AsksPlace, AsksSort, MayAsk}
use Rattle.arc_slots.specs.Calls.{RefusesOut, TakesOut, Through}
use Rattle.arc_slots.specs.Slots.{SlotView, row_of, stand_of}
use Rattle.arc_slots.specs.Stands.{HasPassFor, numbered, stand_at}
use Rattle.arc_slots.specs.Taking.{can_have, is_writers, take_command, take_reply}
use Rattle.arc_slots.specs.declared.take.Taking.{Taking}
use Rattle.arc_slots.specs.declared.take.Taking.TheVariants as taking
use Rattle.arc_slots.proofs.Added.{Ended, asked-comes, ended-comes, enters-along}
use Rattle.arc_block.proofs.Lists.{get-set}
use Rattle.arc_slots.proofs.Native.{and_none}
use Rattle.arc_slots.proofs.Taken.{set-twice}
use Rattle.arc_slots.proofs.Told.{alone-told, many_along}
use Rattle.arc_slots.proofs.Answered.{for-role, reads-for, same, stays, writes-for}
use Rattle.arc_slots.specs.Several.{AsksAt}
use Rattle.arc_commands.proofs.Roles.{several_each}
use Rattle.arc_commands.proofs.Roles.{several-sole}
use Rattle.arc_slots.proofs.Have.{have-on}
use Rattle.arc_slots.proofs.Before.{before_of}

module _ {T M : Type 0} (setting : Setting T) (windows : ℕ) (s : SlotView T M)
    (passes : List (Pass Whole)) where
  open before_of setting windows s passes use {here, row, around, Said}

  -- ---- whether the window is alone

  module _ (passes' : List (Pass Whole)) where
    abbrev AskedAs : Stand → Bool → Type 0
    AskedAs st found = Along st passes passes' (λ o p q. Asks o p q found)

    asked-adds : (st : Stand) (found : Bool) → AskedAs st found
        → Enters (History_asked found) st st None passes passes'
    asked-adds st found along = (
      refl,
      refl,
      enters-along passes passes' (λ o p q. Asks o p q found)
          (History_asked found) (asked-comes found) st along,
    )

    many-may : (asks : Bool) (st : Stand) (found : Bool) → MayAsk asks st passes passes' found
        → length passes' ≡ length passes
    many-may true st found along =
        many_along passes passes' st (λ o p q. Asks o p q found) along
    many-may false st found same = ap length same

    -- where only the count decides
    asks-if : (asks : Bool) (st : Stand) → MayAsk asks st passes passes' false
        → AsksIf asks st st None passes passes'
    asks-if true st along = asked-adds st false along
    asks-if false st same = (refl, refl, same)

    abbrev alone_at : Stand → Bool
    alone_at st = (around_in 0 windows passes st).alone

    -- what a yes or a no to the question tells
    abbrev says-short : Bool → Shortage
    says-short true = no_shortage
    says-short false = of_buffer

    abbrev UniqAdds : Bool → Stand → Place (Option ℕ) M → Type 0
    UniqAdds true st place = Enters (History_asked true) st st None passes passes'
    UniqAdds false st place = AsksInVainAt place st st None passes passes'

    abbrev UniqTold : Bool → Stand → Place (Option ℕ) M → Type 0
    UniqTold found st place =
        (is_unique_at (says-short found) (alone_at st) place ≡ found)
        × (length passes' ≡ length passes) × UniqAdds found st place

    not-unique : (sort : Sort) → is_unique of_buffer false sort ≡ false
    not-unique native = refl
    not-unique vector = refl
    not-unique (buffer writable) = refl
    not-unique raw = refl

    vain-none : (sort : Sort) → passes' ≡ passes → AsksInVain sort None None None passes passes'
    vain-none native same = (refl, refl, same)
    vain-none vector same = (refl, refl, same)
    vain-none (buffer writable) same = (false, (refl, refl, same))
    vain-none raw same = (refl, refl, same)

    -- nobody was asked
    uniq-none : (found : Bool) (place : Place (Option ℕ) M)
        → is_unique_at of_buffer false place ≡ false
        → AsksInVainAt place None None None passes passes'
        → (found ≡ false) × (passes' ≡ passes) → UniqTold found None place
    uniq-none true place un vain asks = absurd (false≢true (sym asks.0))
    uniq-none false place un vain asks = (un, ap length asks.1, vain)

    module _ (n : ℕ) (o : Owner) (has : HasPassFor passes (Some (n, o))) where
      abbrev at : Stand
      at = Some (n, o)

      told-alone : (found : Bool) → AskedAs at found → alone_at at ≡ found
      told-alone found along =
          alone-told passes passes' windows found at has along
          (λ e. absurd (none-some (n, o) (sym e)))

      uniq-sort : (found : Bool) (sort : Sort) → AsksSort sort at passes passes' found
          → (is_unique (says-short found) (alone_at at) sort ≡ found)
          × (length passes' ≡ length passes)
          × (found ≡ true → Enters (History_asked true) at at None passes passes')
          × (found ≡ false → AsksInVain sort at at None passes passes')
      uniq-sort found native asks = (
        told-alone found asks,
        many_along passes passes' at (λ o p q. Asks o p q found) asks,
        λ so. asked-adds at true (subst (AskedAs at) so asks),
        λ un. asked-adds at false (subst (AskedAs at) un asks),
      )
      uniq-sort found vector asks = (
        told-alone found asks,
        many_along passes passes' at (λ o p q. Asks o p q found) asks,
        λ so. asked-adds at true (subst (AskedAs at) so asks),
        λ un. asked-adds at false (subst (AskedAs at) un asks),
      )
      uniq-sort true (buffer writable) asks = (
        told-alone asks.0 asks.1 ∙ asks.2 refl,
        many_along passes passes' at (λ o p q. Asks o p q asks.0) asks.1,
        λ so. asked-adds at true (subst (AskedAs at) (asks.2 refl) asks.1),
        λ un. absurd (false≢true (sym un)),
      )
      uniq-sort false (buffer writable) asks = (
        refl,
        many_along passes passes' at (λ o p q. Asks o p q asks.0) asks.1,
        λ so. absurd (false≢true so),
        λ un. (asks.0, asked-adds at asks.0 asks.1),
      )
      uniq-sort true raw asks = absurd (false≢true (sym asks.0))
      uniq-sort false raw asks = (
        refl,
        ap length asks.1,
        λ so. absurd (false≢true so),
        λ un. (refl, refl, asks.1),
      )

      uniq-block : (found : Bool) (offset : ℕ) (info : BlockInfo M)
          → AsksSort info.sort at passes passes' found
          → UniqTold found at (on_block (Some n) offset info)
      uniq-block true offset info asks =
          let all = uniq-sort true info.sort asks in (all.0, all.1, all.2 refl)
      uniq-block false offset info asks =
          let all = uniq-sort false info.sort asks in (all.0, all.1, all.3 refl)

    uniq-told : (found : Bool) (b : Option ℕ) (place : Place (Option Owner) M)
        → HasPassFor passes (stand_at b place)
        → AsksPlace (numbered b place) (stand_at b place) passes passes' found
        → UniqTold found (stand_at b place) (numbered b place)
    uniq-told found b nowhere has asks = uniq-none found nowhere refl (refl, refl, asks.1) asks
    uniq-told found b static_data has asks =
        uniq-none found static_data refl (refl, refl, asks.1) asks
    uniq-told found b (on_block None offset info) has asks =
        uniq-none found (on_block None offset info) (not-unique info.sort)
        (vain-none info.sort asks.1) asks
    uniq-told found None (on_block (Some o) offset info) has asks =
        uniq-none found (on_block None offset info) (not-unique info.sort)
        (vain-none info.sort asks.1) asks
    uniq-told found (Some n) (on_block (Some o) offset info) has asks =
        uniq-block n o has found offset info asks

    module _ (has : HasPassFor passes here) (reads : s.role ≡ reader) where
      uniq-says : (i : ℕ) (found : Bool) → UniqTold found here row.place
          → answer_any setting (says-short found) around (command.Uniq i) row
          ≡ is_now (if found then reply.Yes else reply.No) row
      uniq-says i found told =
          for-role setting windows s passes (says-short found) (command.Uniq i)
          (reads-for setting windows s passes reads (command.Uniq i) true refl)
          ∙ ap (λ b. is_now (if b then reply.Yes else reply.No) row) told.0

      uniq-as : (i : ℕ) (found : Bool) → UniqTold found here row.place
          → Said (command.Uniq i) (if found then reply.Yes else reply.No) (Some s) None passes'
      uniq-as i true told =
          stays setting windows s passes passes' (command.Uniq i) reply.Yes (uniq-says i true told)
          told.1 told.2
      uniq-as i false told =
          stays setting windows s passes passes' (command.Uniq i) reply.No (uniq-says i false told)
          told.1 told.2

      pub uniq : (i : ℕ) (found said : Bool) → said ≡ found
          → AsksPlace row.place here passes passes' said
          → Said (command.Uniq i) (if found then reply.Yes else reply.No) (Some s) None passes'
      uniq i found said is asks =
          uniq-as i found
          (uniq-told found s.block s.window.place has
          (subst (AsksPlace row.place here passes passes') is asks))

    -- it may be written where it is alone, or stands on nothing without items
    module _ (any : Bool) (len : ℕ) where
      abbrev MayTold : Bool → Stand → Place (Option ℕ) M → Type 0
      MayTold found st place = may_write_at any (alone_at st) place len ≡ found

      may-block : (found w : Bool) (n : ℕ) (o : Owner) → HasPassFor passes (Some (n, o))
          → MayAsk w (Some (n, o)) passes passes' found → (w && found) ≡ found
          → (w && alone_at (Some (n, o))) ≡ found
      may-block found true n o has asks decides =
          ap (λ b. true && b) (told-alone n o has found asks) ∙ decides
      may-block found false n o has asks decides = decides

      may-none : (found w : Bool) → (found ≡ true → false ≡ true) → (w && false) ≡ found
      may-none true w off = absurd (false≢true (off refl))
      may-none false w off = and_none w

      may-told : (found : Bool) (b : Option ℕ) (place : Place (Option Owner) M)
          → HasPassFor passes (stand_at b place)
          → MayAsk (is_writable_at any (numbered b place)) (stand_at b place) passes passes' found
          → may_write_at any found (numbered b place) len ≡ found
          → (found ≡ true → is_on_block (numbered b place) ≡ true
          → is_some (stand_at b place) ≡ true)
          → MayTold found (stand_at b place) (numbered b place)
      may-told found b nowhere has asks decides owner = decides
      may-told found b static_data has asks decides owner = decides
      may-told found b (on_block None offset info) has asks decides owner =
          may-none found (may_write_sort any info.sort) (λ so. owner so refl)
      may-told found None (on_block (Some o) offset info) has asks decides owner =
          may-none found (may_write_sort any info.sort) (λ so. owner so refl)
      may-told found (Some n) (on_block (Some o) offset info) has asks decides owner =
          may-block found (may_write_sort any info.sort) n o has asks decides

      -- what it adds that it is written from now on
      wrote-adds : (b : Option ℕ) (place : Place (Option Owner) M)
          → MayAsk (is_writable_at any (numbered b place)) (stand_at b place) passes passes' true
          → may_write_at any true (numbered b place) len ≡ true
          → (is_on_block (numbered b place) ≡ true → is_some (stand_at b place) ≡ true)
          → AddsAt (stand_at b place) (History_asked true) passes passes'
      wrote-adds b nowhere asks decides owner = asks
      wrote-adds b static_data asks decides owner = asks
      wrote-adds b (on_block None offset info) asks decides owner =
          absurd (false≢true (owner refl))
      wrote-adds None (on_block (Some o) offset info) asks decides owner =
          absurd (false≢true (owner refl))
      wrote-adds (Some n) (on_block (Some o) offset info) asks decides owner =
          by (may_write_sort any info.sort) asks (and_parts (may_write_sort any info.sort) true
          decides).0
        where
          by : (w : Bool) → MayAsk w (Some (n, o)) passes passes' true → w ≡ true
              → AddsAt (Some (n, o)) (History_asked true) passes passes'
          by true along may = (asked-adds (Some (n, o)) true along).2
          by false same may = absurd (false≢true may)

    module _ (has : HasPassFor passes here) (reads : s.role ≡ reader) where
      mut-is : (i : ℕ) (found : Bool) → may_write setting around row ≡ found
          → answer_any setting no_shortage around (command.Mut i) row
          ≡ (if found then is_now reply.Ok (as_sole setting.drops row) else
          is_now reply.Refused row)
      mut-is i found may =
          for-role setting windows s passes no_shortage (command.Mut i)
          (reads-for setting windows s passes reads (command.Mut i) true refl)
          ∙ ap (λ b. if b then is_now reply.Ok (as_sole setting.drops row) else
          is_now reply.Refused row) may

      pub wrote : (i : ℕ) → MayAsk (is_writable_at setting.writes_any row.place) here passes passes'
          true
          → may_write_at setting.writes_any true row.place (length row.items) ≡ true
          → (is_on_block row.place ≡ true → is_some here ≡ true)
          → (new : SlotView T M) → stand_of (Some new) ≡ here
          → row_of new ≡ as_sole setting.drops row
          → Said (command.Mut i) reply.Ok (Some new) None passes'
      wrote i asks decides owner new stays is = record {
        begins = false;
        places = 0;
        change =
            mut-is i true (may-told setting.writes_any (length row.items) true s.block
            s.window.place
            has asks decides (λ so. owner)) ∙ ap (is_now reply.Ok) (sym is);
        blocks = many-may (is_writable_at setting.writes_any row.place) here true asks;
        adds = (
          stays,
          refl,
          wrote-adds setting.writes_any (length row.items) s.block s.window.place asks decides
              owner,
        );
      }

      pub unwritten : (i : ℕ)
          → MayAsk (is_writable_at setting.writes_any row.place) here passes passes' false
          → may_write_at setting.writes_any false row.place (length row.items) ≡ false
          → Said (command.Mut i) reply.Refused (Some s) None passes'
      unwritten i asks decides = record {
        begins = false;
        places = 0;
        change =
            mut-is i false (may-told setting.writes_any (length row.items) false s.block
            s.window.place has asks decides (λ so. absurd (false≢true so)));
        blocks = many-may (is_writable_at setting.writes_any row.place) here false asks;
        adds = asks-if (is_writable_at setting.writes_any row.place) here asks;
      }

    -- ---- who is the only one of several

    module _ (has : HasPassFor passes here) (several : is_several s.role ≡ true)
        (shares : setting.calls.shares ≡ true) where
      unique-is : (i : ℕ) (found : Bool) → around.alone ≡ found
          → answer_any setting no_shortage around (command.Unique i) row
          ≡ (if found then is_now reply.Ok (as_unique row) else is_now reply.Refused row)
      unique-is i found is =
          for-role setting windows s passes no_shortage (command.Unique i)
          (several_each (λ role. is_allowed {T = T} {M = M} setting.calls (command.Unique i)
          role ≡ true)
          (λ places. shares) s.role several)
          ∙ ap (λ b. if b then is_now reply.Ok (as_unique row) else is_now reply.Refused row) is

      -- whether he is alone is what was said, and that was added
      alone-at : (st : Stand) (found : Bool) → HasPassFor passes st → AsksAt st passes passes' found
          → (alone_at st ≡ found) × (length passes' ≡ length passes)
          × (found ≡ true → Enters (History_asked true) st st None passes passes')
      alone-at None found has asks = (
        sym asks.0,
        ap length asks.1,
        λ so. absurd (false≢true (sym asks.0 ∙ so)),
      )
      alone-at (Some (n, o)) found has asks = (
        told-alone n o has found asks,
        many_along passes passes' (Some (n, o)) (λ o p q. Asks o p q found) asks,
        λ so. asked-adds (Some (n, o)) true
            (subst (AskedAs (Some (n, o))) so asks),
      )

      pub made-unique : (i : ℕ) → AsksAt here passes passes' true → (new : SlotView T M)
          → stand_of (Some new) ≡ here → row_of new ≡ as_unique row
          → Said (command.Unique i) reply.Ok (Some new) None passes'
      made-unique i asks new stays is =
          let told = alone-at here true has asks in
          record {
            begins = false;
            places = 0;
            change = unique-is i true told.0 ∙ ap (is_now reply.Ok) (sym is);
            blocks = told.1;
            adds = (stays, refl, (told.2 refl).2);
          }

      -- on a block the count said that he isn't; on none nobody was asked
      vainly : (b : Option ℕ) (place : Place (Option Owner) M)
          → AsksAt (stand_at b place) passes passes' false
          → AsksIf (is_on_block (numbered b place)) (stand_at b place) (stand_at b place) None
          passes passes'
      vainly b nowhere asks = (refl, refl, asks.1)
      vainly b static_data asks = (refl, refl, asks.1)
      vainly b (on_block None offset info) asks = (refl, refl, asks.1)
      vainly None (on_block (Some o) offset info) asks = (refl, refl, asks.1)
      vainly (Some n) (on_block (Some o) offset info) asks =
          asked-adds (Some (n, o)) false asks

      pub not-made-unique : (i : ℕ) → AsksAt here passes passes' false
          → Said (command.Unique i) reply.Refused (Some s) None passes'
      not-made-unique i asks =
          let told = alone-at here false has asks in
          record {
            begins = false;
            places = 0;
            change = unique-is i false told.0;
            blocks = told.1;
            adds = vainly s.block s.window.place asks;
          }

    -- ---- what the window stands on, taken out

    abbrev TookAs : Stand → Type 0
    TookAs st = Along st passes passes' TakesBlock

    -- who took it was alone, where owners are counted
    module _ (n : ℕ) (o : Owner) (took : TookAs (Some (n, o))) where
      abbrev between : List (Pass Whole)
      between = slice_set passes n took.called.middle

      asked-first : Through n o passes between (λ o p q. Asks o p q true)
      asked-first = record {
        before = took.before;
        after = took.called.middle;
        was = took.was;
        pass = took.pass;
        whole = took.whole;
        called = took.called.asked;
        others = refl;
      }

      left-then : Through n o between passes' Ended
      left-then = record {
        before = took.called.middle;
        after = took.after;
        was = get-set passes n took.before took.called.middle took.was;
        pass = took.called.asked.added.same.0;
        whole = took.whole;
        called = (true, took.called.left);
        others =
            took.others
            ∙ sym (set-twice passes n took.called.middle took.after);
      }

    takes-adds : (st : Stand) → TookAs st
        → (mid : List (Pass Whole)) × AddsAt st (History_asked true) passes mid
        × AddsAt st ended mid passes'
    takes-adds None same = (passes, refl, same)
    takes-adds (Some (n, o)) took = (
      between n o took,
      enters-along passes (between n o took) (λ o p q. Asks o p q true) (History_asked true)
          (asked-comes true) (Some (n, o)) (asked-first n o took),
      enters-along (between n o took) passes' Ended ended ended-comes (Some (n, o))
          (left-then n o took),
    )

    free-told : (b : Option ℕ) (place : Place (Option Owner) M)
        → HasPassFor passes (stand_at b place) → TookAs (stand_at b place)
        → is_on_block (numbered b place) ≡ true
        → is_free (alone_at (stand_at b place)) (numbered b place) ≡ true
    free-told b nowhere has took on = on
    free-told b static_data has took on = on
    free-told b (on_block None offset info) has took on = refl
    free-told None (on_block (Some o) offset info) has took on = refl
    free-told (Some n) (on_block (Some o) offset info) has took on =
        alone-told passes (between n o took) windows true (Some (n, o)) has (asked-first n o took)
        (λ e. absurd (none-some (n, o) (sym e)))

    not-free : (b : Option ℕ) (place : Place (Option Owner) M)
        → HasPassFor passes (stand_at b place)
        → MayAsk true (stand_at b place) passes passes' false
        → (stand_at b place ≡ None → true ≡ false)
        → is_free (alone_at (stand_at b place)) (numbered b place) ≡ false
    not-free b nowhere has asks counted = refl
    not-free b static_data has asks counted = refl
    not-free b (on_block None offset info) has asks counted = counted refl
    not-free None (on_block (Some o) offset info) has asks counted = counted refl
    not-free (Some n) (on_block (Some o) offset info) has asks counted =
        told-alone n o has false asks

    module _ (has : HasPassFor passes here) (one : is_sole s.role ≡ false) (c : ListCmd T M)
        (wanted : Bool) (answer : ListReply T M)
        (is : (short : Shortage) → answer_any setting short around c row
        ≡ taken_as wanted around row answer) where
      -- who may have others beside him has it where nobody else has a part
      reads-free : (wanted && (is_sole row.role || is_free around.alone row.place))
          ≡ (wanted && is_free around.alone row.place)
      reads-free = ap (λ b. wanted && (b || is_free around.alone row.place)) one

      took-out : (wanted ≡ true → is_on_block row.place ≡ true)
          → (Takes here None None passes passes'
          → RowAdds setting row c answer here None None passes passes')
          → TakesOut wanted here passes passes' → Said c answer None None passes'
      took-out on adds took = record {
        begins = false;
        places = 0;
        change =
            is (shortage answer c)
            ∙ ap (λ b. if b then gone answer else is_now reply.Refused row) reads-free
            ∙ ap (λ b. if b && is_free around.alone row.place then gone answer else
            is_now reply.Refused row) took.0
            ∙ ap (λ b. if true && b then gone answer else is_now reply.Refused row)
            (free-told s.block s.window.place has took.1 (on took.0));
        blocks = many_along passes passes' here TakesBlock took.1;
        adds =
            let mid = takes-adds here took.1 in adds (refl, refl, mid.0, mid.1, mid.2);
      }

      wanted-not : (w : Bool) → MayAsk w here passes passes' false → (here ≡ None → w ≡ false)
          → (w && is_free around.alone row.place) ≡ false
      wanted-not true asks counted = not-free s.block s.window.place has asks counted
      wanted-not false asks counted = refl

      refused-out :
          (AsksIf wanted here here None passes passes'
          → RowAdds setting row c reply.Refused here here None passes passes')
          → RefusesOut wanted here passes passes' → Said c reply.Refused (Some s) None passes'
      refused-out adds refuses = record {
        begins = false;
        places = 0;
        change =
            is (shortage reply.Refused c)
            ∙ ap (λ b. if b then gone answer else is_now reply.Refused row)
            (reads-free ∙ wanted-not wanted refuses.asked refuses.counted);
        blocks = many-may wanted here false refuses.asked;
        adds = adds (asks-if wanted here refuses.asked);
      }

  -- ---- each thing that is taken out

  module _ (i : ℕ) (what : Taking) where
    abbrev have : Bool
    have = can_have setting.drops what row.place (length row.items)

    abbrev had : ListReply T M
    had = take_reply what row.items

    abbrev takes : ListCmd T M
    takes = take_command i what

  take-is : (i : ℕ) (what : Taking) → is_allowed setting.calls (takes i what) s.role ≡ true
      → (short : Shortage) → answer_any setting short around (takes i what) row
      ≡ taken_as (have i what) around row (had i what)
  take-is i taking.Vector is short =
      for-role setting windows s passes short (command.Take i) is
  take-is i taking.Boxed is short =
      for-role setting windows s passes short (command.TakeBox i) is
  take-is i taking.Buffer is short =
      for-role setting windows s passes short (command.TakeBuf i) is
  take-is i taking.Raw is short =
      for-role setting windows s passes short (command.TakeRaw i) is

  -- each may be for a reader, and some for a sole writer
  for-reader : (i : ℕ) (what : Taking) → is_allowed setting.calls (takes i what) reader ≡ true
  for-reader i taking.Vector = refl
  for-reader i taking.Boxed = refl
  for-reader i taking.Buffer = refl
  for-reader i taking.Raw = refl

  for-writer : (i : ℕ) (what : Taking) (places : ℕ)
      → is_allowed setting.calls (takes i what) (sole_writer places) ≡ is_writers what
  for-writer i taking.Vector places = refl
  for-writer i taking.Boxed places = refl
  for-writer i taking.Buffer places = refl
  for-writer i taking.Raw places = refl

  -- it may be refused
  asks-adds : (i : ℕ) (what : Taking) (passes' : List (Pass Whole))
      → AsksIf (have i what) here here None passes passes'
      → RowAdds setting row (takes i what) reply.Refused here here None passes passes'
  asks-adds i taking.Vector passes' asks = asks
  asks-adds i taking.Boxed passes' asks = asks
  asks-adds i taking.Buffer passes' asks = asks
  asks-adds i taking.Raw passes' asks = asks

  -- by one that may have others beside him: who reads, or one of several who write
  module _ (has : HasPassFor passes here) (one : is_sole s.role ≡ false) (i : ℕ) (what : Taking)
      (for : is_allowed setting.calls (takes i what) s.role ≡ true)
      (passes' : List (Pass Whole)) where
    beside-adds : (w : Taking) → Takes here None None passes passes'
        → RowAdds setting row (takes i w) (had i w) here None None passes passes'
    beside-adds taking.Vector took =
        subst (λ b. TakesAs b here None None passes passes') (sym one) took
    beside-adds taking.Boxed took = took
    beside-adds taking.Buffer took =
        subst (λ b. TakesAs b here None None passes passes') (sym one) took
    beside-adds taking.Raw took = took

    pub took-beside : TakesOut (have i what) here passes passes'
        → Said (takes i what) (take_reply what s.window.items) None None passes'
    took-beside =
        took-out passes' has one (takes i what) (have i what) (had i what) (take-is i what for)
        (have-on setting.drops what row.place (length row.items)) (beside-adds what)

    pub untook-beside : RefusesOut (have i what) here passes passes'
        → Said (takes i what) reply.Refused (Some s) None passes'
    untook-beside =
        refused-out passes' has one (takes i what) (have i what) (had i what) (take-is i what for)
        (asks-adds i what passes')

  -- of one of several the vector is, and nothing else
  beside-for : (i : ℕ) → is_several s.role ≡ true
      → is_allowed setting.calls (takes i taking.Vector) s.role ≡ true
  beside-for i several =
      several_each (λ role. is_allowed {T = T} {M = M} setting.calls (takes i taking.Vector)
      role ≡ true)
      (λ places. refl) s.role several

  pub took-shared : HasPassFor passes here → is_several s.role ≡ true → (i : ℕ)
      → (passes' : List (Pass Whole)) → TakesOut (have i taking.Vector) here passes passes'
      → Said (command.Take i) (reply.Vec s.window.items) None None passes'
  took-shared has several i passes' out =
      took-beside has (several-sole s.role several) i taking.Vector (beside-for i several) passes'
      out

  pub untook-shared : HasPassFor passes here → is_several s.role ≡ true → (i : ℕ)
      → (passes' : List (Pass Whole)) → RefusesOut (have i taking.Vector) here passes passes'
      → Said (command.Take i) reply.Refused (Some s) None passes'
  untook-shared has several i passes' out =
      untook-beside has (several-sole s.role several) i taking.Vector (beside-for i several)
      passes' out

  -- by one that reads
  module _ (has : HasPassFor passes here) (reads : s.role ≡ reader) (i : ℕ) (what : Taking)
      (passes' : List (Pass Whole)) where
    read-for : is_allowed setting.calls (takes i what) s.role ≡ true
    read-for = reads-for setting windows s passes reads (takes i what) true (for-reader i what)

    pub took : TakesOut (have i what) here passes passes'
        → Said (takes i what) (take_reply what s.window.items) None None passes'
    took = took-beside has (ap is_sole reads) i what read-for passes'

    pub untook : RefusesOut (have i what) here passes passes'
        → Said (takes i what) reply.Refused (Some s) None passes'
    untook = untook-beside has (ap is_sole reads) i what read-for passes'

  -- by one that writes, who is alone
  module _ (writes : is_sole s.role ≡ true) (i : ℕ) (what : Taking)
      (may : is_writers what ≡ true) where
    sole-is : (short : Shortage) → answer_any setting short around (takes i what) row
        ≡ taken_as (have i what) around row (had i what)
    sole-is =
        take-is i what (writes-for setting windows s passes writes (takes i what) true
        (λ places. for-writer i what places ∙ may))

    abbrev outcome : Bool → Bool → Change T M
    outcome wanted sole =
        if wanted && (sole || is_free around.alone row.place) then gone (had i what) else
        is_now reply.Refused row

    sole-adds : (w : Taking) → is_writers w ≡ true → (passes' : List (Pass Whole))
        → Goes ended here None None passes passes'
        → RowAdds setting row (takes i w) (had i w) here None None passes passes'
    sole-adds taking.Vector may passes' goes =
        subst (λ b. TakesAs b here None None passes passes') (sym writes) goes
    sole-adds taking.Boxed may passes' goes = absurd (false≢true may)
    sole-adds taking.Buffer may passes' goes =
        subst (λ b. TakesAs b here None None passes passes') (sym writes) goes
    sole-adds taking.Raw may passes' goes = absurd (false≢true may)

    left-so : (st : Stand) (passes' : List (Pass Whole))
        → Along st passes passes' (λ o p q. Leaves o p q true) → Along st passes passes' Ended
    left-so None passes' same = same
    left-so (Some (n, o)) passes' left = record {
      before = left.before;
      after = left.after;
      was = left.was;
      pass = left.pass;
      whole = left.whole;
      called = (true, left.called);
      others = left.others;
    }

    pub took-sole : (passes' : List (Pass Whole)) → have i what ≡ true
        → Along here passes passes' (λ o p q. Leaves o p q true)
        → Said (takes i what) (take_reply what s.window.items) None None passes'
    took-sole passes' wanted left = record {
      begins = false;
      places = 0;
      change =
          sole-is (shortage (had i what) (takes i what))
          ∙ ap (λ b. outcome b (is_sole row.role)) wanted ∙ ap (outcome true) writes;
      blocks = many_along passes passes' here Ended (left-so here passes' left);
      adds =
          sole-adds what may passes' (
            refl,
            refl,
            enters-along passes passes' Ended ended ended-comes here (left-so here passes' left),
          );
    }

    -- it can't be had so, and nothing was asked
    pub untook-sole : have i what ≡ false
        → Said (takes i what) reply.Refused (Some s) None passes
    untook-sole unwanted =
        same setting windows s passes (takes i what) reply.Refused
        (sole-is (shortage reply.Refused (takes i what))
        ∙ ap (λ b. outcome b (is_sole row.role)) unwanted)
        (asks-adds i what passes
        (subst (λ b. AsksIf b here here None passes passes) (sym unwanted) (refl, refl, refl)))
