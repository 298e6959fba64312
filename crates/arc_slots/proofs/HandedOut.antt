-- A window that is handed out of a slot's, as what that is answered.
use Rattle.std.proofs.Common.{inl, inr, ◌≡◌, ℕ, ◌==◌, ◌&&◌, Bool, true, false, if◌then◌else◌}
use Rattle.std.proofs.Common.{List, Option, Some, None, Ok, Err, is_some, length, refl, sym, ap}
use Rattle.std.proofs.Common.{◌∙◌, subst}
use Rattle.std.proofs.lemmas.Bool.{false≢true}
use Rattle.arc_owners.specs.declared.mark.Whole.{Whole}
use Rattle.arc_owners.specs.declared.count.tokens.Pass.{Pass}
use Rattle.arc_owners.specs.declared.error.RangeError.{RangeError}
use Rattle.arc_owners.specs.declared.error.OwnerError.{OwnerError}
use Rattle.arc_owners.specs.declared.error.OwnerError.TheVariants.{AllocError, CountFull}
use Rattle.arc_buffer.specs.Slice.{edge_answer, range_answer}
use Rattle.arc_block.specs.Owned.{Stand}
use Rattle.arc_block.specs.Table.{Row, Role, reader, sole_writer, one_writer_of_several, inline}
use Rattle.arc_block.specs.Table.{forgotten, block_of}
use Rattle.arc_parts.specs.Shared.{is_vector_at}
use Rattle.arc_commands.specs.Additions.{Effect, Enters, GivesItself, GivesOther, RowAdds, Splits}
use Rattle.arc_commands.specs.Additions.{refused}
use Rattle.arc_commands.specs.Changes.{Change, Setting, Shortage, in_range, is_now}
use Rattle.arc_commands.specs.Changes.{no_shortage, of_table, part_beside, part_of, split_row}
use Rattle.arc_commands.specs.Changes.{with_made, with_new_part}
use Rattle.arc_commands.specs.Step.{answer_any, is_allowed, shortage}
use Rattle.arc_commands.specs.Blocks.{is_reader, is_several, is_writer}
use Rattle.arc_commands.specs.Several.{split_off_change, split_to_change}
use Rattle.arc_commands.specs.Commands.{ListCmd}
use Rattle.arc_commands.specs.declared.command.Cmd.TheVariants as command
use Rattle.arc_commands.specs.declared.command.Reply.TheVariants as reply
use Rattle.arc_slots.specs.Calls.{Beside, FindsFullAt, RefusesAt}
use Rattle.arc_slots.specs.Parts.{is_itself, part_command, part_row, rest_of, split_at}
use Rattle.arc_slots.specs.Slots.{IsSlotRole, SlotView, row_of, stand_of}
use Rattle.arc_slots.specs.Splits.{IsSplit}
use Rattle.arc_slots.specs.Stands.{HasPassFor}
use Rattle.arc_slots.specs.declared.part.Part.{Part}
use Rattle.arc_slots.specs.declared.part.Part.TheVariants.{Back, Front}
use Rattle.arc_slots.proofs.Added.{raises-beside, refuses-at}
use Rattle.arc_slots.proofs.Answered.{for-role, not-for, reads-for, same}
use Rattle.arc_slots.proofs.Before.{before_of}
use Rattle.arc_slots.proofs.Roles.{writer_each}
use Rattle.arc_slots.proofs.Told.{full-beside, many-beside, many-refused, room-beside, row-block}
use Rattle.arc_slots.proofs.Told.{why-refused-at}

-- a window itself is handed out, or another one
abbrev GivesBy : (itself : Bool) → Effect Whole
GivesBy false = GivesOther
GivesBy true = GivesItself

module _ {T M : Type 0} (setting : Setting T) (windows : ℕ) (s : SlotView T M)
    (passes : List (Pass Whole)) where
  open before_of setting windows s passes use {here, row, around, Said}

  abbrev allowed : ListCmd T M → Role → Bool
  allowed c role = is_allowed setting.calls c role

  -- A command that hands out a window: beside the slot's it makes this part, and the slot keeps the
  -- rest. Or the slot's window itself is handed out, and the part that was made stays under its
  -- number.
  pub record Hands (c : ListCmd T M) (itself : Bool) (rest part : Row T M) : Type 0 where
    pub change : (short : Shortage) → answer_any setting short around c row
        ≡ with_new_part setting short around row part
        (if itself then with_made around part row else with_made around rest part)
    pub gives : (number : ℕ) (there : Stand) (made : Option Stand) (passes' : List (Pass Whole))
        → GivesBy itself here there made passes passes'
        → RowAdds setting row c (reply.New number) here there made passes passes'
    pub enters : (e : OwnerError) (passes' : List (Pass Whole))
        → Enters (refused e) here here None passes passes'
        → RowAdds setting row c (reply.Owner e) here here None passes passes'
    pub nothing : RowAdds setting row c reply.Alloc here here None passes passes

  -- ---- clones and ranges

  -- what is for readers and small windows is for one that isn't written
  unwritten-for : (c : ListCmd T M) → allowed c reader ≡ true → allowed c inline ≡ true
      → (role : Role) → IsSlotRole role → is_writer role ≡ false → allowed c role ≡ true
  unwritten-for c reads small reader known other = reads
  unwritten-for c reads small (sole_writer places) known other = absurd (false≢true (sym other))
  unwritten-for c reads small (one_writer_of_several places) known other =
      absurd (false≢true (sym other))
  unwritten-for c reads small inline known other = small
  unwritten-for c reads small forgotten known other = absurd known

  pub clone-kind : (i : ℕ) → is_writer s.role ≡ true
      → Said (command.Clone i) reply.Kind (Some s) None passes
  clone-kind i is =
      same setting windows s passes (command.Clone i) reply.Kind
      (not-for setting windows s passes no_shortage (command.Clone i)
      (writer_each (λ role. allowed (command.Clone i) role ≡ false) (λ n. refl) (λ n. refl) s.role
      is)) (refl, refl, refl)

  pub range-kind : (i start end : ℕ) → is_writer s.role ≡ true
      → Said (command.Sub i start end) reply.Kind (Some s) None passes
  range-kind i start end is =
      same setting windows s passes (command.Sub i start end) reply.Kind
      (not-for setting windows s passes no_shortage (command.Sub i start end)
      (writer_each (λ role. allowed (command.Sub i start end) role ≡ false) (λ n. refl)
      (λ n. refl) s.role is)) (refl, refl, refl)

  module _ (known : IsSlotRole s.role) (other : is_writer s.role ≡ false) (i : ℕ) where
    pub clones : Hands (command.Clone i) false row row
    clones = record {
      change =
          λ short. for-role setting windows s passes short (command.Clone i)
          (unwritten-for (command.Clone i) refl refl s.role known other);
      gives = λ number there made passes' gives. gives;
      enters = λ e passes' enters. enters;
      nothing = (refl, refl, refl);
    }

    module _ (start end : ℕ) where
      abbrev range : Row T M
      range = part_of setting.layout.has_static row start end

      range-is : (short : Shortage) → answer_any setting short around (command.Sub i start end) row
          ≡ in_range (range_answer setting.boundary row.items start end) row
          (part_beside setting short around range row)
      range-is short =
          for-role setting windows s passes short (command.Sub i start end)
          (unwritten-for (command.Sub i start end) refl refl s.role known other)

      pub ranges : range_answer setting.boundary s.window.items start end ≡ Ok tt
          → Hands (command.Sub i start end) false row range
      ranges ok = record {
        change =
            λ short. range-is short
            ∙ ap (λ a. in_range a row (part_beside setting short around range row)) ok;
        gives = λ number there made passes' gives. gives;
        enters = λ e passes' enters. enters;
        nothing = (refl, refl, refl);
      }

      -- it isn't one of the window
      pub no-range : (e : RangeError)
          → range_answer setting.boundary s.window.items start end ≡ Err e
          → Said (command.Sub i start end) (reply.Range e) (Some s) None passes
      no-range e is =
          same setting windows s passes (command.Sub i start end) (reply.Range e)
          (range-is no_shortage
          ∙ ap (λ a. in_range a row (part_beside setting no_shortage around range row)) is)
          (refl, refl, refl)

  -- ---- splits

  -- they are of readers, and of several writers
  pub split-kind : (i : ℕ) (part : Part) → IsSlotRole s.role → is_several s.role ≡ false
      → is_reader s.role ≡ false → Said (part_command i part) reply.Kind (Some s) None passes
  split-kind i part known one unread = by part
    where
      not : (c : ListCmd T M) → ((places : ℕ) → allowed c (sole_writer places) ≡ false)
          → allowed c inline ≡ false → (role : Role) → IsSlotRole role → is_several role ≡ false
          → is_reader role ≡ false → allowed c role ≡ false
      not c writes small reader known one unread = absurd (false≢true (sym unread))
      not c writes small (sole_writer places) known one unread = writes places
      not c writes small (one_writer_of_several places) known one unread =
          absurd (false≢true (sym one))
      not c writes small inline known one unread = small
      not c writes small forgotten known one unread = absurd known

      none : (c : ListCmd T M) → ((places : ℕ) → allowed c (sole_writer places) ≡ false)
          → allowed c inline ≡ false
          → answer_any setting no_shortage around c row ≡ is_now reply.Kind row
      none c writes small =
          not-for setting windows s passes no_shortage c
          (not c writes small s.role known one unread)

      by : (p : Part) → Said (part_command i p) reply.Kind (Some s) None passes
      by (Back at) =
          same setting windows s passes (command.Off i at) reply.Kind
          (none (command.Off i at) (λ n. refl) refl) (refl, refl, refl)
      by (Front at) =
          same setting windows s passes (command.To i at) reply.Kind
          (none (command.To i at) (λ n. refl) refl) (refl, refl, refl)

  module _ (reads : s.role ≡ reader) (i : ℕ) where
    abbrev split_so : Shortage → Part → Change T M
    split_so short part =
        split_row setting short around (is_itself row part) (rest_of row part)
        (part_row setting.layout.has_static row part) row

    one : is_several s.role ≡ false
    one = ap is_several reads

    split-is : (part : Part) (short : Shortage)
        → answer_any setting short around (part_command i part) row
        ≡ in_range (edge_answer setting.boundary row.items (split_at part)) row
        (split_so short part)
    split-is (Back at) short =
        for-role setting windows s passes short (command.Off i at)
        (reads-for setting windows s passes reads (command.Off i at) true refl)
        ∙ ap (λ b. if b then split_off_change setting short around at row else
        in_range (edge_answer setting.boundary row.items at) row (split_so short (Back at))) one
    split-is (Front at) short =
        for-role setting windows s passes short (command.To i at)
        (reads-for setting windows s passes reads (command.To i at) true refl)
        ∙ ap (λ b. if b then split_to_change setting short around at row else
        in_range (edge_answer setting.boundary row.items at) row (split_so short (Front at))) one

    -- it has no such place
    pub no-split : (part : Part) (e : RangeError)
        → edge_answer setting.boundary s.window.items (split_at part) ≡ Err e
        → Said (part_command i part) (reply.Range e) (Some s) None passes
    no-split (Back at) e is =
        same setting windows s passes (command.Off i at) (reply.Range e)
        (split-is (Back at) no_shortage
        ∙ ap (λ a. in_range a row (split_so no_shortage (Back at))) is) (refl, refl, refl)
    no-split (Front at) e is =
        same setting windows s passes (command.To i at) (reply.Range e)
        (split-is (Front at) no_shortage
        ∙ ap (λ a. in_range a row (split_so no_shortage (Front at))) is) (refl, refl, refl)

    split-gives : (there : Stand) (made : Option Stand) (passes' : List (Pass Whole)) (out : Bool)
        → GivesBy out here there made passes passes'
        → Splits (is_several row.role) (is_vector_at row.place) out here there made passes passes'
    split-gives there made passes' out gives =
        subst (λ b. Splits b (is_vector_at row.place) out here there made passes passes') (sym one)
        (by out gives)
      where
        by : (b : Bool) → GivesBy b here there made passes passes'
            → Splits false (is_vector_at row.place) b here there made passes passes'
        by false gives = gives
        by true gives = gives

    pub splits : (part : Part)
        → edge_answer setting.boundary s.window.items (split_at part) ≡ Ok tt
        → Hands (part_command i part) (is_itself row part) (rest_of row part)
        (part_row setting.layout.has_static row part)
    splits (Back at) ok = record {
      change =
          λ short. split-is (Back at) short
          ∙ ap (λ a. in_range a row (split_so short (Back at))) ok;
      gives = λ number there made passes' gives. split-gives there made passes' (at == 0) gives;
      enters = λ e passes' enters. enters;
      nothing = (refl, refl, refl);
    }
    splits (Front at) ok = record {
      change =
          λ short. split-is (Front at) short
          ∙ ap (λ a. in_range a row (split_so short (Front at))) ok;
      gives =
          λ number there made passes' gives.
          split-gives there made passes' (at == length row.items) gives;
      enters = λ e passes' enters. enters;
      nothing = (refl, refl, refl);
    }

  -- ---- what such a command is answered

  module _ {c : ListCmd T M} {itself : Bool} {rest part : Row T M} (h : Hands c itself rest part)
    where
      abbrev outcome : Bool → Change T M
      outcome itself = if itself then with_made around part row else with_made around rest part

      -- both parts, unless the block has as many owners as it may have
      abbrev unless_full : Bool → Change T M
      unless_full full = if full then is_now (reply.Owner CountFull) row else outcome itself

      -- memory for the window was refused
      pub hand-alloc : Said c reply.Alloc (Some s) None passes
      hand-alloc = same setting windows s passes c reply.Alloc (h.change of_table) h.nothing

      module _ (has : HasPassFor passes here) (passes' : List (Pass Whole)) where
        -- an owner more was refused, as the row tells
        refused-so : (e : OwnerError)
            → RefusesAt setting.clone_wants part.place here passes passes' e
            → with_new_part setting (shortage {T = T} {M = M} (reply.Owner e) c) around row part
            (outcome itself) ≡ is_now (reply.Owner e) row
            → Said c (reply.Owner e) (Some s) None passes'
        refused-so e why is = record {
          begins = false;
          places = 0;
          change = h.change (shortage {T = T} {M = M} (reply.Owner e) c) ∙ is;
          blocks = many-refused passes passes' setting.clone_wants part.place here e why;
          adds =
              h.enters e passes' (
                refl,
                refl,
                refuses-at passes passes' setting.clone_wants part.place e here why,
              );
        }

        -- by memory
        refused-memory : RefusesAt setting.clone_wants part.place here passes passes' AllocError
            → Said c (reply.Owner AllocError) (Some s) None passes'
        refused-memory why =
            refused-so AllocError why
            (ap (λ (b : Bool). if b then is_now (reply.Owner AllocError) row else
            unless_full (around.full && is_some (block_of part.place))) why.0)

        -- as the block has as many as it may have
        refused-full : FindsFullAt part.place here passes passes'
            → Said c (reply.Owner CountFull) (Some s) None passes'
        refused-full why =
            refused-so CountFull why
            (ap unless_full (full-beside passes passes' windows part.place here has why))

        pub hand-refused : (e : OwnerError)
            → RefusesAt setting.clone_wants part.place here passes passes' e
            → Said c (reply.Owner e) (Some s) None passes'
        hand-refused e why =
            elim (why-refused-at passes passes' setting.clone_wants part.place here e why) [
              | inl full ↦
                  subst (λ x. Said c (reply.Owner x) (Some s) None passes') (sym full.0)
                  (refused-full full.1)
              | inr memory ↦
                  subst (λ x. Said c (reply.Owner x) (Some s) None passes') (sym memory.0)
                  (refused-memory memory.1)
            ]

        -- it was made: the window's owner has the one part, and that one the other
        hand-made : (kept made other : SlotView T M)
            → outcome itself ≡ with_made around (row_of kept) (row_of made)
            → row_of other ≡ part → Beside here passes passes' (stand_of (Some other))
            → GivesBy itself here (stand_of (Some kept)) (Some (stand_of (Some made))) passes
            passes' → Said c (reply.New windows) (Some kept) (Some made) passes'
        hand-made kept made other given-is other-is beside gives =
            let room =
            ap (λ x. around.full && is_some x)
            (ap (λ (r : Row T M). block_of r.place) (sym other-is) ∙ row-block other)
            ∙ room-beside passes passes' windows here (stand_of (Some other)) has beside in
            record {
              begins = false;
              places = 0;
              change =
                  h.change no_shortage ∙ ap unless_full room ∙ given-is;
              blocks = many-beside passes passes' here (stand_of (Some other)) beside;
              adds =
                  h.gives windows (stand_of (Some kept)) (Some (stand_of (Some made))) passes'
                  gives;
            }

        pub hand-itself : (handed kept : SlotView T M) → itself ≡ true
            → IsSplit s handed kept row part passes passes'
            → Said c (reply.New windows) (Some kept) (Some handed) passes'
        hand-itself handed kept is p =
            hand-made kept handed kept
            (ap outcome is ∙ ap (λ x. with_made around x row) (sym p.made_is)
            ∙ ap (with_made around (row_of kept)) (sym p.same_is)) p.made_is p.added
            (subst (λ b. GivesBy b here (stand_of (Some kept)) (Some (stand_of (Some handed)))
            passes passes') (sym is) (record {
              raises = raises-beside passes passes' here (stand_of (Some kept)) p.added;
              handed_out = ap Some p.owner;
            }))

        pub hand-beside : (handed kept : SlotView T M) → itself ≡ false
            → IsSplit s kept handed rest part passes passes'
            → Said c (reply.New windows) (Some kept) (Some handed) passes'
        hand-beside handed kept is p =
            hand-made kept handed handed
            (ap outcome is ∙ ap (λ x. with_made around x part) (sym p.same_is)
            ∙ ap (with_made around (row_of kept)) (sym p.made_is)) p.made_is p.added
            (subst (λ b. GivesBy b here (stand_of (Some kept)) (Some (stand_of (Some handed)))
            passes passes') (sym is) (record {
              other = stand_of (Some handed);
              raises = raises-beside passes passes' here (stand_of (Some handed)) p.added;
              stays = p.owner;
              handed_out = refl;
            }))
