-- A part of the places of one of several writers that is handed out, as what that is answered.
use Rattle.std.proofs.Common.{◌≡◌, ℕ, ◌==◌, ◌&&◌, Bool, true, false, if◌then◌else◌, List, length}
use Rattle.std.proofs.Common.{Option, Some, None, Ok, Err, is_some, refl, sym, ap, ◌∙◌}
use Rattle.std.proofs.Common.{subst}
use Rattle.arc_owners.specs.declared.mark.Whole.{Whole}
use Rattle.arc_owners.specs.declared.count.tokens.Pass.{Pass}
use Rattle.arc_owners.specs.declared.error.OwnerError.{OwnerError}
use Rattle.arc_owners.specs.declared.error.RangeError.{RangeError}
use Rattle.arc_owners.specs.declared.error.OwnerError.TheVariants.{AllocError, CountFull}
use Rattle.arc_block.specs.Owned.{Stand}
use Rattle.arc_parts.specs.Shared.{is_vector_at, on_native}
use Rattle.arc_block.specs.Table.{Row, block_of, one_writer_of_several}
use Rattle.arc_parts.specs.Writers.{capacity_of}
use Rattle.arc_commands.specs.Additions.{Enters, GivesOther, MovesAndGives, RowAdds, Splits}
use Rattle.arc_commands.specs.Additions.{ended, refused}
use Rattle.arc_commands.specs.Blocks.{is_several}
use Rattle.arc_commands.specs.Changes.{Change, Setting, Shortage, in_range}
use Rattle.arc_commands.specs.Changes.{no_shortage, of_clones, of_table, with_made}
use Rattle.arc_commands.specs.Commands.{ListCmd, ListReply}
use Rattle.arc_commands.specs.Several.{parts_change}
use Rattle.arc_commands.specs.Step.{answer_any, is_allowed, with_block}
use Rattle.arc_commands.specs.declared.command.Cmd.TheVariants as command
use Rattle.arc_commands.specs.declared.command.Reply.TheVariants as reply
use Rattle.arc_commands.proofs.Roles.{several-is}
use Rattle.arc_slots.specs.Calls.{AddsNothing, Along, FindsFullAt}
use Rattle.arc_slots.specs.Parts.{part_command}
use Rattle.arc_slots.specs.Several.{RefusesBeside, RefusesIf, SplitsBeside, SplitsIf, SplitsMoved}
use Rattle.arc_slots.specs.Several.{SplitsThere, handed_places, kept_places}
use Rattle.arc_slots.specs.Several.{places_answer}
use Rattle.arc_slots.specs.Slots.{SlotView, row_of, stand_of}
use Rattle.arc_slots.specs.Stands.{HasPassFor}
use Rattle.arc_slots.specs.declared.part.Part.{Part}
use Rattle.arc_slots.specs.declared.part.Part.TheVariants.{Back, Front}
use Rattle.arc_slots.proofs.Added.{Ended, ended-comes, enters-along, nothing-comes, raises-beside}
use Rattle.arc_slots.proofs.Added.{refuses-at}
use Rattle.arc_slots.proofs.Answered.{for-role, same}
use Rattle.arc_slots.proofs.Parted.{handed-block}
use Rattle.arc_slots.proofs.Told.{full-at, full-beside, many-beside, many-founded, many-refused}
use Rattle.arc_slots.proofs.Told.{many_along, room-beside, row-block, stand_block}
use Rattle.arc_slots.proofs.Before.{before_of}

-- which of two comes of a test
picked : {X : Type 0} {b : Bool} {x : X} (y : X) → b ≡ true → (if b then x else y) ≡ x
picked {x = x} y is = ap (λ b. if b then x else y) is

unpicked : {X : Type 0} {b : Bool} {y : X} (x : X) → b ≡ false → (if b then x else y) ≡ y
unpicked {y = y} x is = ap (λ b. if b then x else y) is

-- a window stands somewhere where it stands on a block
some-block : (st : Stand) → is_some (stand_block st) ≡ is_some st
some-block None = refl
some-block (Some here) = refl

module _ {T M : Type 0} (setting : Setting T) (windows : ℕ) (s : SlotView T M)
    (passes : List (Pass Whole)) (several : is_several s.role ≡ true) (i : ℕ) where
  open before_of setting windows s passes use {here, row, around, Said}

  abbrev RowHas : (there : Stand) → (made : Option Stand) → (passes' : List (Pass Whole))
      → ListCmd T M → ListReply T M → Type 0
  RowHas there made passes' c r = RowAdds setting row c r here there made passes passes'

  -- ---- what a command is answered that splits

  several-for : (c : ListCmd T M) (is : Bool)
      → ((places : ℕ) → is_allowed setting.calls c (one_writer_of_several places) ≡ is)
      → is_allowed setting.calls c s.role ≡ is
  several-for c is each =
      ap (is_allowed setting.calls c) (several-is s.role several) ∙ each (capacity_of s.role)

  abbrev outcome : Part → Shortage → Change T M
  outcome part short =
      parts_change setting short around (kept_places part) (handed_places part) row

  split-is : (part : Part) (short : Shortage)
      → answer_any setting short around (part_command i part) row
      ≡ in_range (places_answer setting.boundary row.items (capacity_of row.role) part) row
      (outcome part short)
  split-is (Back at) short =
      for-role setting windows s passes short (command.Off i at)
      (several-for (command.Off i at) true (λ places. refl)) ∙ picked _ several
  split-is (Front at) short =
      for-role setting windows s passes short (command.To i at)
      (several-for (command.To i at) true (λ places. refl)) ∙ picked _ several

  -- what is added by one
  made-adds : (part : Part) (there made : Stand) (passes' : List (Pass Whole))
      → ((out : Bool) → Splits (is_several row.role) (is_vector_at row.place) out here there
      (Some made) passes passes')
      → RowHas there (Some made) passes' (part_command i part) (reply.New windows)
  made-adds (Back at) there made passes' splits = splits (at == 0)
  made-adds (Front at) there made passes' splits = splits (at == length row.items)

  refused-adds : (part : Part) (e : OwnerError) (passes' : List (Pass Whole))
      → Enters (refused e) here here None passes passes'
      → RowHas here None passes' (part_command i part) (reply.Owner e)
  refused-adds (Back at) e passes' enters = enters
  refused-adds (Front at) e passes' enters = enters

  alloc-adds : (part : Part) → RowHas here None passes (part_command i part) reply.Alloc
  alloc-adds (Back at) = (refl, refl, refl)
  alloc-adds (Front at) = (refl, refl, refl)

  range-adds : (part : Part) (e : RangeError)
      → RowHas here None passes (part_command i part) (reply.Range e)
  range-adds (Back at) e = (refl, refl, refl)
  range-adds (Front at) e = (refl, refl, refl)

  module _ (part : Part) where
    abbrev c : ListCmd T M
    c = part_command i part

    -- there is no such part
    pub no-places : (e : RangeError)
        → places_answer setting.boundary s.window.items (capacity_of s.role) part ≡ Err e
        → Said c (reply.Range e) (Some s) None passes
    no-places e is =
        same setting windows s passes c (reply.Range e)
        (split-is part no_shortage ∙ ap (λ a. in_range a row (outcome part no_shortage)) is)
        (range-adds part e)

    module _ (ok : places_answer setting.boundary s.window.items (capacity_of s.role) part ≡ Ok tt)
      where
        split-ok : (short : Shortage)
            → answer_any setting short around c row ≡ outcome part short
        split-ok short =
            split-is part short ∙ ap (λ a. in_range a row (outcome part short)) ok

        -- memory for the window was refused
        pub split-alloc : Said c reply.Alloc (Some s) None passes
        split-alloc =
            same setting windows s passes c reply.Alloc (split-ok of_table) (alloc-adds part)

        -- memory for the block was refused to which a window of a vector moves
        pub split-memory : is_vector_at row.place ≡ true → (passes' : List (Pass Whole))
            → Along here passes passes' AddsNothing
            → Said c (reply.Owner AllocError) (Some s) None passes'
        split-memory on passes' along = record {
          begins = false;
          places = 0;
          change = split-ok of_clones ∙ picked _ on;
          blocks = many_along passes passes' here AddsNothing along;
          adds =
              refused-adds part AllocError passes' (
                refl,
                refl,
                enters-along passes passes' AddsNothing (refused AllocError) nothing-comes here
                    along,
              );
        }

        module _ (has : HasPassFor passes here) (passes' : List (Pass Whole)) where
          -- the block has as many owners as it may have
          split-full : is_vector_at row.place ≡ false → FindsFullAt row.place here passes passes'
              → Said c (reply.Owner CountFull) (Some s) None passes'
          split-full off why = record {
            begins = false;
            places = 0;
            change =
                split-ok no_shortage ∙ unpicked _ off
                ∙ picked _ (full-beside passes passes' windows row.place here has why);
            blocks = many-refused passes passes' (λ sort. false) row.place here CountFull why;
            adds =
                refused-adds part CountFull passes' (
                  refl,
                  refl,
                  refuses-at passes passes' (λ sort. false) row.place CountFull here why,
                );
          }

          pub split-refused : (e : OwnerError) → RefusesBeside row.place here passes passes' e
              → Said c (reply.Owner e) (Some s) None passes'
          split-refused e why = by (is_vector_at row.place) refl why
            where
              by : (v : Bool) → is_vector_at row.place ≡ v
                  → RefusesIf v row.place here passes passes' e
                  → Said c (reply.Owner e) (Some s) None passes'
              by true on why =
                  subst (λ x. Said c (reply.Owner x) (Some s) None passes') (sym why.0)
                  (split-memory on passes' why.2)
              by false off why =
                  let full = full-at passes passes' row.place here e why in
                  subst (λ x. Said c (reply.Owner x) (Some s) None passes') (sym full.0)
                  (split-full off full.1)

          module _ (kept made : SlotView T M) where
            abbrev there : Stand
            there = stand_of (Some kept)

            abbrev other : Stand
            other = stand_of (Some made)

            -- it was split where it stands
            split-there : is_vector_at row.place ≡ false → SplitsThere part s kept made passes
                passes'
                → Said c (reply.New windows) (Some kept) (Some made) passes'
            split-there off h =
                let room =
                ap (λ x. around.full && is_some x)
                (sym (handed-block part row) ∙ ap (λ (r : Row T M). block_of r.place) (sym h.made)
                ∙ row-block made)
                ∙ room-beside passes passes' windows here other has h.beside in
                let gives : GivesOther here there (Some other) passes passes' =
                record {
                  other = other;
                  raises = raises-beside passes passes' here other h.beside;
                  stays = h.stand;
                  handed_out = refl;
                } in
                record {
                  begins = false;
                  places = 0;
                  change =
                      split-ok no_shortage ∙ unpicked _ off
                      ∙ unpicked _ room
                      ∙ ap (λ x. with_made around x (handed_places part row)) (sym h.stays)
                      ∙ ap (with_made around (row_of kept)) (sym h.made);
                  blocks = many-beside passes passes' here other h.beside;
                  adds =
                      made-adds part there other passes' (λ out.
                      subst (λ b. Splits b (is_vector_at row.place) out here there (Some other)
                      passes passes') (sym several)
                      (subst (λ b. Splits true b out here there (Some other) passes passes')
                      (sym off) gives));
                }

            -- it moved from a vector first
            split-moved : is_vector_at row.place ≡ true → setting.drops ≡ false
                → SplitsMoved part s kept made passes passes'
                → Said c (reply.New windows) (Some kept) (Some made) passes'
            split-moved on none m =
                let at = stand_of (Some m.whole) in
                let change : Row T M → Row T M → Change T M =
                λ keeps makes. record {
                  reply = reply.New windows;
                  row = Some keeps;
                  made = Some makes;
                  begins = true;
                } in
                let stands : is_some other ≡ true =
                sym (some-block other) ∙ ap is_some (sym (row-block made))
                ∙ ap (λ (r : Row T M). is_some (block_of r.place)) m.splits.made
                ∙ ap is_some (handed-block part (row_of m.whole))
                ∙ ap (λ (r : Row T M). is_some (block_of r.place)) m.row in
                let moves : MovesAndGives here at (Some other) passes passes' =
                record {
                  between = m.moved.between;
                  begun_with = m.between;
                  other = other;
                  left =
                      enters-along passes m.moved.between Ended ended ended-comes here m.moved.left;
                  stands = m.moved.stands;
                  begins = m.moved.begins;
                  raises = raises-beside m.between passes' at other m.splits.beside;
                  joins = stands;
                  handed_out = refl;
                } in
                record {
                  begins = true;
                  places = 0;
                  change =
                      split-ok no_shortage ∙ picked _ on
                      ∙ ap (λ d. let r = on_native d (Some (length passes)) row in
                      change (kept_places part r) (handed_places part r)) none
                      ∙ ap (λ r. change (kept_places part r) (handed_places part r)) (sym m.row)
                      ∙ ap (λ r. change r (handed_places part (row_of m.whole)))
                      (sym m.splits.stays)
                      ∙ ap (change (row_of kept)) (sym m.splits.made);
                  blocks =
                      many-beside m.between passes' at other m.splits.beside
                      ∙ many-founded m.moved.between m.between at m.moved.begins
                      ∙ ap (λ b. with_block b (length m.moved.between))
                      (some-block at ∙ m.moved.stands)
                      ∙ ap (with_block true)
                      (many_along passes m.moved.between here Ended m.moved.left);
                  adds =
                      made-adds part there other passes' (λ out.
                      subst (λ b. Splits b (is_vector_at row.place) out here there (Some other)
                      passes passes') (sym several)
                      (subst (λ b. Splits true b out here there (Some other) passes passes')
                      (sym on)
                      (subst (λ st. MovesAndGives here st (Some other) passes passes')
                      (sym m.splits.stand) moves)));
                }

            pub split-made : setting.drops ≡ false → SplitsBeside part s kept made passes passes'
                → Said c (reply.New windows) (Some kept) (Some made) passes'
            split-made none h = by (is_vector_at row.place) refl h
              where
                by : (v : Bool) → is_vector_at row.place ≡ v
                    → SplitsIf v part s kept made passes passes'
                    → Said c (reply.New windows) (Some kept) (Some made) passes'
                by true on h = split-moved on none h
                by false off h = split-there off h
