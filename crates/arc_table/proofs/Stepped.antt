-- What a slot is answered, as a step of its table.
use Rattle.std.proofs.Common.{◌≡◌, ℕ, zero, suc, ◌==◌, Bool, true, false, if◌then◌else◌, List, []}
use Rattle.std.proofs.Common.{◌∷◌, ◌++◌, length, map, Option, Some, None, is_some, slice_get}
use Rattle.std.proofs.Common.{slice_set, slice_index_or, refl, sym, ap, ◌∙◌, subst, arith, inl, inr}
use Rattle.std.proofs.Common.{◌<◌, ◌≤◌, ◌⊎◌, ◌&&◌, not}
use Rattle.std.specs.Prelude.{MatchOption, IfSome}
use Rattle.std.specs.Option.{option_map, option_map_or, option_flatten}
use Rattle.std.proofs.lemmas.List.{map-append, length-append, length-map}
use Rattle.std.proofs.lemmas.Option.{none-some, same_Some, slice_get-map}
use Rattle.std.proofs.lemmas.Option.{slice_get_read}
use Rattle.arc_owners.specs.declared.mark.Whole.{Whole}
use Rattle.arc_owners.specs.declared.count.tokens.Pass.{Pass}
use Rattle.arc_block.specs.declared.block.TheConstants.{MAX_OWNERS}
use Rattle.arc_block.specs.Owned.{Stand, IsKept}
use Rattle.arc_block.specs.Place.{Place}
use Rattle.arc_block.specs.Table.{Row, Table, block_of, is_alone, owners, row_at}
use Rattle.arc_commands.specs.Additions.{Adds, AddsAt, AddsBy, AddsOn, Founds, JoinAdds}
use Rattle.arc_commands.specs.Additions.{MakerAdds, RowAdds, ended as end_entry, stand_in}
use Rattle.arc_commands.specs.Additions.{with_stand}
use Rattle.arc_commands.specs.State.{State}
use Rattle.arc_commands.specs.Step.{Step}
use Rattle.arc_commands.specs.Changes.{Shortage}
use Rattle.arc_commands.specs.Changes.{Setting, Around}
use Rattle.arc_commands.specs.Step.{around_of, answer_any, answer_by}
use Rattle.arc_commands.specs.Changes.{is_full, no_shortage, of_table}
use Rattle.arc_commands.specs.Step.{changed, count_brought, founded, is_allowed, row_by}
use Rattle.arc_commands.specs.Changes.{static_row}
use Rattle.arc_commands.specs.Step.{shortage, window_of, with_block, with_row}
use Rattle.arc_commands.specs.Commands.{ListCmd, ListReply}
use Rattle.arc_commands.specs.declared.command.Cmd.TheVariants as command
use Rattle.arc_commands.specs.declared.command.Reply.TheVariants as reply
use Rattle.arc_commands.specs.Several.{join_answer}
use Rattle.arc_commands.specs.Step.{answer, answer_on, is_for_both, joined, other_of}
use Rattle.arc_slots.specs.Answers.{Answers, JoinAnswers, around_in, live_on}
use Rattle.arc_slots.specs.Calls.{Along}
use Rattle.arc_makers.specs.Makers.{Makes}
use Rattle.arc_slots.specs.Slots.{IsSlotRole, SlotView, row_of, stand_of, stands_of, state_of}
use Rattle.arc_slots.specs.Slots.{with_slot}
use Rattle.arc_slots.proofs.Keeps.{founded-kept, gone-at, known-pass, many-live, row-kept}
use Rattle.arc_slots.specs.Stands.{HasPassFor}
use Rattle.arc_slots.proofs.Answered.{not-for, same, shown, slot_each}
use Rattle.arc_slots.proofs.Taken.{set-back, set-twice}
use Rattle.arc_slots.proofs.Added.{Ended, ended-comes, enters-along}
use Rattle.arc_slots.proofs.Told.{many_along, none-stands, row-block, stand_block}
use Rattle.std.proofs.lemmas.Bool.{eq-eqb, eqb-true, false≢true}
use Rattle.arc_block.proofs.Lists.{get-set_other}
use Rattle.arc_table.proofs.Done.{Done, Fact, done}
use Rattle.arc_table.proofs.Places.{rows-counted}

-- a place may be set before each is changed, or after
map-slice_set : {X Y : Type 0} (f : X → Y) (xs : List X) (i : ℕ) (x : X)
    → map f (slice_set xs i x) ≡ slice_set (map f xs) i (f x)
map-slice_set f [] i x = refl
map-slice_set f (y ∷ ys) zero x = refl
map-slice_set f (y ∷ ys) (suc i) x = ap (λ zs. f y ∷ zs) (map-slice_set f ys i x)

-- a row is alone, and its block full, by how many rows stand there; never on no block
alone-at : {T M : Type 0} (t : Table T M) (place : Place (Option ℕ) M) (b : Option ℕ)
    → block_of place ≡ b → is_alone t place ≡ option_map_or (λ n. owners t n == 1) b false
alone-at t place b is = ap (λ x. option_map_or (λ n. owners t n == 1) x false) is

module _ {T M : Type 0} where
  -- the rows, and the stands, of slots of which one changed and to which one was added
  rows-with : (slots : List (Option (SlotView T M))) (made : Option (SlotView T M))
      → map (option_map row_of) (with_slot slots made)
      ≡ with_row (map (option_map row_of) slots) (option_map row_of made)
  rows-with slots None = refl
  rows-with slots (Some s) = map-append (option_map row_of) slots (Some s ∷ [])

  stands-with : (slots : List (Option (SlotView T M))) (made : Option (SlotView T M))
      → stands_of (with_slot slots made)
      ≡ with_stand (stands_of slots) (option_map (λ s. stand_of (Some s)) made)
  stands-with slots None = refl
  stands-with slots (Some s) = map-append stand_of slots (Some s ∷ [])

  -- a slot that is taken out
  pub gone-rows : (slots : List (Option (SlotView T M))) (i : ℕ) (new : Option (SlotView T M))
      → new ≡ None → map (option_map row_of) (slice_set slots i new)
      ≡ slice_set (map (option_map row_of) slots) i None
  gone-rows slots i new gone =
      map-slice_set (option_map row_of) slots i new
      ∙ ap (λ x. slice_set (map (option_map row_of) slots) i (option_map row_of x)) gone

  no-row : (x : Option (Option (SlotView T M))) → option_flatten x ≡ None
      → option_flatten (option_map (option_map row_of) x) ≡ None
  no-row None none = refl
  no-row (Some None) none = refl
  no-row (Some (Some s)) none = cc

module _ {T M : Type 0} (setting : Setting T) (slots : List (Option (SlotView T M)))
    (passes : List (Pass Whole)) (fact : Fact setting.drops slots passes) where
  abbrev old : State T M
  old = state_of slots passes

  abbrev t : Table T M
  t = old.table

  abbrev Command : Type 0
  Command = ListCmd T M

  -- what is answered and added by a command on one window, or on none
  answer-is : (short : Shortage) (places : ℕ) (c : Command) (window : Option ℕ)
      → window_of c ≡ window → other_of c ≡ None
      → answer setting short places t c ≡ answer_by setting short places t c window
  answer-is short places c window on one =
      ap (answer_on setting short places t c (window_of c)) one
      ∙ ap (answer_by setting short places t c) on

  adds-are : (c : Command) (r : ListReply T M) (new : State T M) (window : Option ℕ)
      → window_of c ≡ window → other_of c ≡ None
      → AddsBy setting t old.standing c r new.standing window
      → Adds setting t old.standing c r new.standing
  adds-are c r new window on one adds =
      subst (AddsOn setting t old.standing c r new.standing (window_of c)) (sym one)
      (subst (AddsBy setting t old.standing c r new.standing) (sym on) adds)

  -- ---- a command on a window

  module _ (i : ℕ) (s : SlotView T M) (there : slice_get slots i ≡ Some (Some s)) where
    abbrev here : Stand
    here = stand_of (Some s)

    row-there : row_at t i ≡ Some (row_of s)
    row-there =
        ap option_flatten (slice_get-map (option_map row_of) slots i
        ∙ ap (option_map (option_map row_of)) there)

    stand-at : slice_get (stands_of slots) i ≡ Some here
    stand-at = slice_get-map stand_of slots i ∙ ap (option_map stand_of) there

    stand-is : stand_in old.standing i ≡ here
    stand-is = ap option_flatten stand-at

    -- so many rows stand on its block as owners of that live
    owners-live : (st : Stand) → here ≡ st → (test : ℕ → Bool) → test 0 ≡ false
        → test (live_on passes here)
        ≡ option_map_or (λ n. test (owners t n)) (stand_block st) false
    owners-live None is test none = ap (λ st. test (live_on passes st)) is ∙ none
    owners-live (Some (n, o)) is test none =
        ap (λ st. test (live_on passes st)) is
        ∙ ap test (sym (rows-counted slots passes n
        ∙ many-live (stands_of slots) passes fact.0 i n o (stand-at ∙ ap Some is)))

    -- what the window knows of its table by the passes is what its row knows
    around-is : (places : ℕ)
        → around_in places (length slots) passes here ≡ around_of places t (row_of s)
    around-is places =
        let alone : (live_on passes here == 1) ≡ is_alone t (row_of s).place =
        owners-live here refl (λ n. n == 1) refl
        ∙ sym (alone-at t (row_of s).place (stand_block here) (row-block s)) in
        let full : (live_on passes here == MAX_OWNERS) ≡ is_full t (row_of s).place =
        owners-live here refl (λ n. n == MAX_OWNERS) refl
        ∙ ap (λ b. option_map_or (λ n. owners t n == MAX_OWNERS) b false) (sym (row-block s)) in
        ap {B = Around} (λ b. record {
          alone = b;
          full = live_on passes here == MAX_OWNERS;
          blocks = length passes;
          windows = length slots;
          places = places;
        }) alone
        ∙ ap {B = Around} (λ b. record {
          alone = is_alone t (row_of s).place;
          full = b;
          blocks = length passes;
          windows = length slots;
          places = places;
        }) full
        ∙ ap {B = Around} (λ n. record {
          alone = is_alone t (row_of s).place;
          full = is_full t (row_of s).place;
          blocks = length passes;
          windows = n;
          places = places;
        }) (sym (length-map slots (option_map row_of)))

    -- what is on a window brings nothing that has places
    brought-none : (c : Command) (n : ℕ) → window_of c ≡ Some n → count_brought c ≡ 0
    brought-none (command.Vec items) n on = absurd (none-some n on)
    brought-none (command.Raw given) n on = absurd (none-some n on)
    brought-none (command.Buf given metadata) n on = absurd (none-some n on)
    brought-none (command.MBuf given metadata) n on = absurd (none-some n on)
    brought-none other n on = refl

    pub answered : (c : Command) → window_of c ≡ Some i → other_of c ≡ None → (r : ListReply T M)
        (new made : Option (SlotView T M)) (passes' : List (Pass Whole))
        → Answers setting (length slots) c s passes r new made passes'
        → Done setting old c r (with_slot (slice_set slots i new) made) passes'
    answered c on one r new made passes' said =
        let slots' = with_slot (slice_set slots i new) made in
        let stands : stands_of slots' ≡ with_stand (slice_set (stands_of slots) i (stand_of new))
        (option_map (λ s. stand_of (Some s)) made) =
        stands-with (slice_set slots i new) made
        ∙ ap (λ ss. with_stand ss (option_map (λ s. stand_of (Some s)) made))
        (map-slice_set stand_of slots i new) in
        let rows : with_row (slice_set t.rows i (option_map row_of new)) (option_map row_of made)
        ≡ map (option_map row_of) slots' =
        sym (rows-with (slice_set slots i new) made
        ∙ ap (λ rs. with_row rs (option_map row_of made))
        (map-slice_set (option_map row_of) slots i new)) in
        done fact.1
        (subst (λ ss. IsKept MAX_OWNERS ss passes') (sym stands)
        (row-kept (stands_of slots) passes fact.0 i here stand-at passes' (stand_of new)
        (option_map (λ s. stand_of (Some s)) made) setting (row_of s) c r said.adds))
        (record {
          short = shortage r c;
          told = refl;
          places = said.places;
          enough = omega (arith, brought-none c i on);
          answered = answer-is (shortage r c) said.places c (Some i) on one
              ∙ ap (λ x. option_map_or (λ row. changed t i
              (answer_any setting (shortage r c) (around_of said.places t row) c row)) x
              (reply.NoWindow, t)) row-there
              ∙ ap (λ a. changed t i (answer_any setting (shortage r c) a c (row_of s)))
              (sym (around-is said.places))
              ∙ ap (changed t i) said.change
              ∙ ap (λ rs. (
                r,
                record {
                  rows = rs;
                  blocks = with_block said.begins (length passes);
                },
              )) rows
              ∙ ap (λ n. (r, record { rows = map (option_map row_of) slots'; blocks = n }))
              (sym said.blocks);
        })
        (adds-are c r (state_of slots' passes') (Some i) on one (subst (λ x. MatchOption x
        ((state_of slots' passes').standing ≡ old.standing) (λ row.
        (there : Stand) × (made : Option Stand)
        × RowAdds setting row c r (stand_in old.standing i) there made passes passes'
        × (stands_of slots' ≡ with_stand (slice_set (stands_of slots) i there) made)))
        (sym row-there) (
          stand_of new,
          option_map (λ s. stand_of (Some s)) made,
          subst (λ st. RowAdds setting (row_of s) c r st (stand_of new)
              (option_map (λ s. stand_of (Some s)) made) passes passes') (sym stand-is) said.adds,
          stands,
        )))

  -- there is no window
  pub unanswered : (i : ℕ) → option_flatten (slice_get slots i) ≡ None → (c : Command)
      → window_of c ≡ Some i → other_of c ≡ None
      → Done setting old c reply.NoWindow slots passes
  unanswered i none c on one =
      let row : row_at t i ≡ None =
      ap option_flatten (slice_get-map (option_map row_of) slots i)
      ∙ no-row (slice_get slots i) none in
      done fact.1 fact.0
      (record {
        short = no_shortage;
        told = refl;
        places = count_brought c;
        enough = omega arith;
        answered = answer-is no_shortage (count_brought c) c (Some i) on one
            ∙ ap (λ x. option_map_or (λ row.
            changed t i (answer_any setting no_shortage (around_of (count_brought c) t row) c
            row)) x
            (reply.NoWindow, t)) row;
      })
      (adds-are c reply.NoWindow old (Some i) on one (subst (λ x. MatchOption x (old.standing
      ≡ old.standing) (λ row.
      (there : Stand) × (made : Option Stand)
      × RowAdds setting row c reply.NoWindow (stand_in old.standing i) there made passes passes
      × (stands_of slots ≡ with_stand (slice_set (stands_of slots) i there) made)))
      (sym row) refl))

  -- ---- a command that makes a window of what it brings

  -- it is on no other either
  made-one : (c : Command) → window_of c ≡ None → other_of c ≡ None
  made-one (command.Join i j) on = absurd (none-some i (sym on))
  made-one c on = refl

  maker-kind : (c : Command) → MakerAdds c reply.Kind None passes passes
  maker-kind (command.Static items) = (refl, refl)
  maker-kind other = (refl, refl)

  maker-alloc : (c : Command) → MakerAdds c reply.Alloc None passes passes
  maker-alloc (command.Static items) = (refl, refl)
  maker-alloc other = (refl, refl)

  founds-many : (st : Stand) (passes' : List (Pass Whole)) → Founds st passes passes'
      → length passes' ≡ with_block (is_some (stand_block st)) (length passes)
  founds-many None passes' founds = ap length founds
  founds-many (Some (number, o)) passes' founds =
      ap length founds.4 ∙ length-append passes (founds.2 ∷ [])

  -- none was made
  unmade : (c : Command) → window_of c ≡ None → (places : ℕ) → count_brought c ≤ places
      → (r : ListReply T M)
      → MatchOption (row_by {M = M} setting places (length passes) c) (r ≡ reply.Kind)
      (λ row. r ≡ reply.Alloc) → Done setting old c r slots passes
  unmade c on places enough r why =
      at (row_by setting places (length passes) c) refl why
    where
      told : (said : ListReply T M)
          → answer_by setting (shortage said c) places t c None ≡ (said, t)
          → MakerAdds c said None passes passes → r ≡ said → Done setting old c r slots passes
      told said answered adds why =
          subst (λ r. Done setting old c r slots passes) (sym why)
          (done fact.1 fact.0
          (record {
            short = shortage said c;
            told = refl;
            places = places;
            enough = enough;
            answered = answer-is (shortage said c) places c None on (made-one c on) ∙ answered;
          })
          (adds-are c said old None on (made-one c on) (None, adds, refl)))

      at : (x : Option (Row T M)) → row_by setting places (length passes) c ≡ x
          → MatchOption x (r ≡ reply.Kind) (λ row. r ≡ reply.Alloc)
          → Done setting old c r slots passes
      at None is =
          told reply.Kind (ap (λ x. option_map_or (founded no_shortage t) x (reply.Kind, t)) is)
          (maker-kind c)
      at (Some row) is =
          told reply.Alloc (ap (λ x. option_map_or (founded of_table t) x (reply.Kind, t)) is)
          (maker-alloc c)

  module _ (s : SlotView T M) (passes' : List (Pass Whole))
      (founds : Founds (stand_of (Some s)) passes passes') where
    abbrev stand : Stand
    stand = stand_of (Some s)

    static-stand : (has_static : Bool) (items : List T)
        → (if has_static then Some (static_row items) else None) ≡ Some (row_of s) → stand ≡ None
    static-stand true items is =
        none-stands stand (ap is_some (sym (row-block s))
        ∙ ap (λ (r : Row T M). is_some (block_of r.place)) (sym (same_Some _ _ is)))
    static-stand false items is = absurd (none-some (row_of s) is)

    maker-adds : (c : Command) (places : ℕ)
        → row_by setting places (length passes) c ≡ Some (row_of s) → (n : ℕ)
        → MakerAdds c (reply.New n) (Some stand) passes passes'
    maker-adds (command.Static items) places is n =
        let none = static-stand setting.layout.has_static items is in
        (ap Some none, subst (λ st. Founds st passes passes') none founds)
    maker-adds other places is n = (stand, refl, founds)

    -- it was made
    founds-row : (c : Command) → window_of c ≡ None
        → (places : ℕ) → count_brought c ≤ places
        → row_by setting places (length passes) c ≡ Some (row_of s)
        → Done setting old c (reply.New (length slots)) (slots ++ Some s ∷ []) passes'
    founds-row c on places enough is =
        let slots' = slots ++ Some s ∷ [] in
        let stands : stands_of slots' ≡ stands_of slots ++ stand ∷ [] =
        map-append stand_of slots (Some s ∷ []) in
        let many : with_block (is_some (block_of (row_of s).place)) (length passes)
        ≡ length passes' =
        ap (λ b. with_block (is_some b) (length passes)) (row-block s)
        ∙ sym (founds-many stand passes' founds) in
        done fact.1
        (subst (λ ss. IsKept MAX_OWNERS ss passes') (sym stands)
        (founded-kept (stands_of slots) passes fact.0 0 stand passes' founds))
        (record {
          short = no_shortage;
          told = refl;
          places = places;
          enough = enough;
          answered = answer-is no_shortage places c None on (made-one c on)
              ∙ ap (λ x. option_map_or (founded no_shortage t) x (reply.Kind, t)) is
              ∙ ap (λ n. (
                reply.New n,
                record {
                  rows = t.rows ++ Some (row_of s) ∷ [];
                  blocks = with_block (is_some (block_of (row_of s).place)) (length passes);
                },
              )) (length-map slots (option_map row_of))
              ∙ ap (λ rs. (
                reply.New (length slots),
                record {
                  rows = rs;
                  blocks = with_block (is_some (block_of (row_of s).place)) (length passes);
                },
              )) (sym (map-append (option_map row_of) slots (Some s ∷ [])))
              ∙ ap (λ n. (
                reply.New (length slots),
                record { rows = map (option_map row_of) slots'; blocks = n },
              )) many;
        })
        (adds-are c (reply.New (length slots)) (state_of slots' passes') None on (made-one c on)
        (Some stand, maker-adds c places is (length slots), stands))

  pub made-window : (c : Command) → window_of c ≡ None → (r : ListReply T M)
      (made : Option (SlotView T M)) (passes' : List (Pass Whole))
      → Makes setting (length slots) c passes r made passes'
      → Done setting old c r (with_slot slots made) passes'
  made-window c on r None passes' makes =
      subst (Done setting old c r slots) (sym makes.said.0)
      (unmade c on makes.places makes.enough r makes.said.1)
  made-window c on r (Some s) passes' makes =
      subst (λ r. Done setting old c r (slots ++ Some s ∷ []) passes') (sym makes.said.1)
      (founds-row s passes' makes.said.2 c on makes.places makes.enough makes.said.0)

  -- what stands under a number was carried out on, if it is a window
  module _ (i : ℕ) (place : Option (SlotView T M)) (at : slice_get slots i ≡ Some place) where
    pub known : HasPassFor passes (stand_of place)
    known =
        known-pass (stands_of slots) passes fact.0 i (stand_of place)
        (slice_get-map stand_of slots i ∙ ap (option_map stand_of) at)

    pub carried : (c : Command) → window_of c ≡ Some i → other_of c ≡ None → (r : ListReply T M)
        (new made : Option (SlotView T M)) (passes' : List (Pass Whole))
        → IfSome place (λ s. Answers setting (length slots) c s passes r new made passes')
        → (place ≡ None → (r ≡ reply.NoWindow) × (made ≡ None) × (new ≡ None)
        × (passes' ≡ passes))
        → Done setting old c r (with_slot (slice_set slots i new) made) passes'
    carried c on one r new made passes' some none = by place refl some
      where
        by : (x : Option (SlotView T M)) → place ≡ x
            → IfSome x (λ s. Answers setting (length slots) c s passes r new made passes')
            → Done setting old c r (with_slot (slice_set slots i new) made) passes'
        by (Some s) is said = answered i s (at ∙ ap Some is) c on one r new made passes' said
        by None is said =
            let so = none is in
            let back : with_slot (slice_set slots i new) made ≡ slots =
            ap (with_slot (slice_set slots i new)) so.1
            ∙ ap (slice_set slots i) so.2 ∙ set-back slots i None (at ∙ ap Some is) in
            subst (λ ss. Done setting old c r ss passes') (sym back)
            (subst (λ ps. Done setting old c r slots ps) (sym so.3)
            (subst (λ r. Done setting old c r slots passes) (sym so.0)
            (unanswered i (ap option_flatten (at ∙ ap Some is)) c on one)))

  -- what is said of each setting and count of windows is said of these
  pub ended : (i : ℕ) (place : Option (SlotView T M)) (r : ListReply T M)
      (new : Option (SlotView T M)) (passes' : List (Pass Whole))
      → IfSome place (λ s. (any : Setting T) (next j : ℕ) → Answers any next (command.Drop j) s
      passes
      reply.Ok new None passes')
      → IfSome place (λ s. r ≡ reply.Ok)
      → IfSome place (λ s. Answers setting (length slots) (command.Drop i) s passes r new None
      passes')
  ended i None r new passes' said told = said
  ended i (Some s) r new passes' said told =
      subst (λ x. Answers setting (length slots) (command.Drop i) s passes x new None passes')
      (sym told) (said setting (length slots) i)

  -- a window that is shown stays
  pub shown-there : (i : ℕ) (s : SlotView T M) → slice_get slots i ≡ Some (Some s)
      → IsSlotRole s.role → setting.calls.copies ≡ true
      → Done setting old (command.Show i) (reply.Items s.window.items) slots passes
  shown-there i s there role copies =
      subst (λ ss. Done setting old (command.Show i) (reply.Items s.window.items) ss passes)
      (set-back slots i (Some s) there)
      (answered i s there (command.Show i) refl refl (reply.Items s.window.items)
      (Some s) None passes
      (shown setting (length slots) s passes i role copies))

  -- and so does one of a kind without copies
  pub unshown-there : (i : ℕ) (s : SlotView T M) → slice_get slots i ≡ Some (Some s)
      → IsSlotRole s.role → setting.calls.copies ≡ false
      → Done setting old (command.Show i) reply.Kind slots passes
  unshown-there i s there role none =
      subst (λ ss. Done setting old (command.Show i) reply.Kind ss passes)
      (set-back slots i (Some s) there)
      (answered i s there (command.Show i) refl refl reply.Kind (Some s) None passes
      (same setting (length slots) s passes (command.Show i) reply.Kind
      (not-for setting (length slots) s passes no_shortage (command.Show i)
      (slot_each (λ r. is_allowed {T = T} {M = M} setting.calls (command.Show i) r ≡ false) none
      (λ n. none)
      (λ n. none) none s.role role)) (refl, refl, refl)))

  -- ---- a join of two windows

  module _ (i j : ℕ) where
    abbrev join : Command
    join = command.Join i j

    -- nothing changes
    stays : (r : ListReply T M) → Step setting t join r t
        → JoinAdds old.standing r old.standing j → Done setting old join r slots passes
    stays r step adds = done fact.1 fact.0 step adds

    -- what is answered by two rows, if they are there
    abbrev pair : Option (Row T M) → Option (Row T M) → ListReply T M × Table T M
    pair one other =
        option_map_or (λ row. option_map_or (λ second.
        if is_for_both setting.calls join i j row second
        then joined t i j (join_answer row second) else (reply.Kind, t)) other
        (reply.NoWindow, t)) one (reply.NoWindow, t)

    -- one of them isn't there
    pub unjoined : (option_flatten (slice_get slots i) ≡ None)
        ⊎ (option_flatten (slice_get slots j) ≡ None)
        → Done setting old join reply.NoWindow slots passes
    unjoined missing =
        stays reply.NoWindow (record {
          short = no_shortage;
          told = refl;
          places = 0;
          enough = omega arith;
          answered = by missing;
        }) refl
      where
        gone : (k : ℕ) → option_flatten (slice_get slots k) ≡ None → row_at t k ≡ None
        gone k none =
            ap option_flatten (slice_get-map (option_map row_of) slots k)
            ∙ no-row (slice_get slots k) none

        -- without the other no row is asked
        without : (one : Option (Row T M)) → pair one None ≡ (reply.NoWindow, t)
        without None = refl
        without (Some row) = refl

        by : (option_flatten (slice_get slots i) ≡ None)
            ⊎ (option_flatten (slice_get slots j) ≡ None)
            → answer setting no_shortage 0 t join ≡ (reply.NoWindow, t)
        by (inl none) = ap (λ x. pair x (row_at t j)) (gone i none)
        by (inr none) = ap (λ x. pair (row_at t i) x) (gone j none) ∙ without (row_at t i)

    module _ (s o : SlotView T M) (there : slice_get slots i ≡ Some (Some s))
        (beside : slice_get slots j ≡ Some (Some o)) where
      abbrev told : ListReply T M × Table T M
      told =
          if is_for_both setting.calls join i j (row_of s) (row_of o)
          then joined t i j (join_answer (row_of s) (row_of o)) else (reply.Kind, t)

      pair-is : answer setting no_shortage 0 t join ≡ told
      pair-is =
          ap (λ x. pair x (row_at t j)) (row-there i s there)
          ∙ ap (pair (Some (row_of s))) (row-there j o beside)

      -- a window isn't joined with itself
      pub joined-itself : i ≡ j → Done setting old join reply.Kind slots passes
      joined-itself is =
          stays reply.Kind (record {
            short = no_shortage;
            told = refl;
            places = 0;
            enough = omega arith;
            answered =
                pair-is
                ∙ ap (λ b. if b then joined t i j (join_answer (row_of s) (row_of o)) else
                (reply.Kind, t)) (never (eq-eqb i j is));
          }) refl
        where
          and-last : (b c : Bool) → c ≡ false → (b && c) ≡ false
          and-last true c none = none
          and-last false c none = refl

          never : (i == j) ≡ true → is_for_both setting.calls join i j (row_of s) (row_of o) ≡ false
          never alike =
              and-last (is_allowed setting.calls join (row_of s).role
              && is_allowed setting.calls join (row_of o).role) (not (i == j)) (ap not alike)

      module _ (two : (i == j) ≡ false) (passes' : List (Pass Whole)) where
        -- nothing changed
        unchanged : (r : ListReply T M) (new its : Option (SlotView T M)) → told ≡ (r, t)
            → JoinAdds old.standing r old.standing j → new ≡ Some s → its ≡ Some o
            → passes' ≡ passes
            → Done setting old join r (slice_set (slice_set slots j its) i new) passes'
        unchanged r new its is adds kept back same =
            subst (λ ps. Done setting old join r (slice_set (slice_set slots j its) i new) ps)
            (sym same)
            (subst (λ ss. Done setting old join r ss passes)
            (sym (ap (λ x. slice_set (slice_set slots j its) i x) kept
            ∙ ap (λ x. slice_set (slice_set slots j x) i (Some s)) back
            ∙ ap (λ ss. slice_set ss i (Some s)) (set-back slots j (Some o) beside)
            ∙ set-back slots i (Some s) there))
            (stays r (record {
              short = shortage r join;
              told = refl;
              places = 0;
              enough = omega arith;
              answered = pair-is ∙ is;
            }) adds))

        -- the two rows as one, and the other has gone
        module _ (whole : SlotView T M) (stand : stand_of (Some whole) ≡ stand_of (Some s))
            (left : Along (stand_of (Some o)) passes passes' Ended) where
          abbrev slots' : List (Option (SlotView T M))
          slots' = slice_set (slice_set slots j None) i (Some whole)

          rows' : map (option_map row_of) slots'
              ≡ slice_set (slice_set t.rows j None) i (Some (row_of whole))
          rows' =
              map-slice_set (option_map row_of) (slice_set slots j None) i (Some whole)
              ∙ ap (λ rs. slice_set rs i (Some (row_of whole)))
              (map-slice_set (option_map row_of) slots j None)

          apart : j ≡ i → ⊥
          apart is = false≢true (sym two ∙ eq-eqb i j (sym is))

          stands' : stands_of slots' ≡ slice_set (stands_of slots) j None
          stands' =
              map-slice_set stand_of (slice_set slots j None) i (Some whole)
              ∙ ap (λ ss. slice_set ss i (stand_of (Some whole)))
              (map-slice_set stand_of slots j None)
              ∙ ap (slice_set (slice_set (stands_of slots) j None) i) stand
              ∙ set-back (slice_set (stands_of slots) j None) i (stand_of (Some s))
              (get-set_other (stands_of slots) j i None apart ∙ stand-at i s there)

          ends : AddsAt (stand_of (Some o)) end_entry passes passes'
          ends = enters-along passes passes' Ended end_entry ended-comes (stand_of (Some o)) left

          pub joined-both : told ≡ joined t i j (reply.Ok, Some (row_of whole))
              → Done setting old join reply.Ok slots' passes'
          joined-both is =
              done fact.1
              (subst (λ ss. IsKept MAX_OWNERS ss passes') (sym stands')
              (gone-at (stands_of slots) passes fact.0 j (stand_of (Some o)) (stand-at j o beside)
              passes' ends))
              (record {
                short = no_shortage;
                told = refl;
                places = 0;
                enough = omega arith;
                answered =
                    pair-is ∙ is
                    ∙ ap (λ rs. (reply.Ok, record { rows = rs; blocks = length passes }))
                    (sym rows')
                    ∙ ap (λ n. (
                      reply.Ok,
                      record {
                        rows = map (option_map row_of) slots';
                        blocks =
                            n;
                      },
                    ))
                    (sym (many_along passes passes' (stand_of (Some o)) Ended left));
              }) (
                subst (λ st. AddsAt st end_entry passes passes') (sym (stand-is j o beside)) ends,
                stands',
              )

        pub paired : (r : ListReply T M) (new its : Option (SlotView T M))
            → JoinAnswers setting.calls i j s o passes r new its passes'
            → Done setting old join r (slice_set (slice_set slots j its) i new) passes'
        paired reply.Ok new its said =
            let whole = said.0 in
            subst (λ x. Done setting old join reply.Ok (slice_set (slice_set slots j its) i x)
            passes')
            (sym said.3)
            (subst (λ x. Done setting old join reply.Ok
            (slice_set (slice_set slots j x) i (Some whole)) passes') (sym said.4)
            (joined-both whole said.5 said.6
            (ap (λ b. if b then joined t i j (join_answer (row_of s) (row_of o)) else
            (reply.Kind, t)) said.1 ∙ ap (joined t i j) said.2)))
        paired reply.Refused new its said =
            unchanged reply.Refused new its
            (ap (λ b. if b then joined t i j (join_answer (row_of s) (row_of o)) else
            (reply.Kind, t)) said.0 ∙ ap (joined t i j) said.1) refl said.2 said.3 said.4
        paired reply.Kind new its said =
            unchanged reply.Kind new its
            (ap (λ b. if b then joined t i j (join_answer (row_of s) (row_of o)) else
            (reply.Kind, t)) said.0) refl said.1 said.2 said.3
        paired r new its said = absurd said

    -- what is said of two windows that are there is said of what stands under both numbers
    pub paired-at : (i == j) ≡ false → (place other : Option (SlotView T M))
        → slice_get slots i ≡ Some place → slice_get slots j ≡ Some other
        → is_some place ≡ true → is_some other ≡ true
        → (passes' : List (Pass Whole)) (r : ListReply T M) (new its : Option (SlotView T M))
        → IfSome place (λ s. IfSome other (λ o. (k l : ℕ) → (k == l) ≡ false
        → JoinAnswers setting.calls k l s o passes r new its passes'))
        → Done setting old join r (slice_set (slice_set slots j its) i new) passes'
    paired-at two None other there beside some is passes' r new its said =
        absurd (false≢true some)
    paired-at two (Some s) None there beside some is passes' r new its said =
        absurd (false≢true is)
    paired-at two (Some s) (Some o) there beside some is passes' r new its said =
        paired s o there beside two passes' r new its (said i j two)

-- what is the same is seen as the same
pub seen-so : {S X Y : Type 0} (f : X → Y) (x y : X) (place : Option S)
    → IfSome place (λ s. x ≡ y) → IfSome place (λ s. f x ≡ f y)
seen-so f x y None is = is
seen-so f x y (Some s) is = ap f is

-- what stands at a place within a list
pub at-place : {X : Type 0} (xs : List X) (i : ℕ) (x : X) → i < length xs
    → x ≡ slice_index_or xs i x → slice_get xs i ≡ Some x
at-place xs i x within read = slice_get_read xs (length xs) i x refl within read

-- what stands at a place where a window is
pub stands-there : {X : Type 0} (x : Option (Option X)) → is_some (option_flatten x) ≡ true
    → (y : X) × (x ≡ Some (Some y))
stands-there None is = absurd (false≢true is)
stands-there (Some None) is = absurd (false≢true is)
stands-there (Some (Some y)) is = (y, refl)

-- two numbers that aren't the same
pub apart-test : (i j : ℕ) → ¬ (i ≡ j) → (i == j) ≡ false
apart-test i j far = by (i == j) refl
  where
    by : (b : Bool) → (i == j) ≡ b → b ≡ false
    by false is = refl
    by true is = absurd (far (eqb-true i j is))

-- a place that is set, with another one set between, is as it was set last
pub set-swap : {X : Type 0} (xs : List X) (i j : ℕ) (x y z : X) → ¬ (i ≡ j)
    → slice_set (slice_set (slice_set xs j x) i y) j z ≡ slice_set (slice_set xs j z) i y
set-swap [] i j x y z far = refl
set-swap (w ∷ ws) zero zero x y z far = absurd (far refl)
set-swap (w ∷ ws) zero (suc j) x y z far = ap (λ vs. y ∷ vs) (set-twice ws j x z)
set-swap (w ∷ ws) (suc i) zero x y z far = refl
set-swap (w ∷ ws) (suc i) (suc j) x y z far =
    ap (λ vs. w ∷ vs) (set-swap ws i j x y z (λ e. far (ap suc e)))

-- what is said of each number of windows is said of this one
pub at-next : {X : Type 0} (P : ℕ → X → Type 0) (x : Option X) (n : ℕ)
    → IfSome x (λ s. (next : ℕ) → P next s) → IfSome x (P n)
at-next P None n said = tt
at-next P (Some s) n said = said n
