-- A slot whose window was split, as its rows and where they stand.
use Rattle.std.proofs.Common.{inl, inr, ◌≡◌, ℕ, ◌≤◌, ◌==◌, ◌&&◌, Bool, true, false, if◌then◌else◌}
use Rattle.std.proofs.Common.{List, length, Option, Some, None, refl, sym, ap, ◌∙◌, subst, arith}
use Rattle.std.proofs.lemmas.Bool.{cases_Bool, eqb-true}
use Rattle.std.proofs.lemmas.Bool.Decides.{nat_tests}
use Rattle.arc_owners.specs.declared.count.tokens.Pass.{Pass}
use Rattle.arc_owners.specs.declared.error.OwnerError.{OwnerError}
use Rattle.arc_buffer.specs.Slice.{sub}
use Rattle.arc_block.specs.Block.{Sort}
use Rattle.arc_block.specs.Table.{Row, reader}
use Rattle.arc_parts.specs.Steps.{Refuses}
use Rattle.arc_parts.specs.Window.{Window}
use Rattle.arc_read.specs.Cuts.{SharesPart, cut_window, off_place, sub_place}
use Rattle.arc_slots.specs.Calls.{RefusesAt}
use Rattle.arc_slots.specs.Parts.{is_itself, part_row, rest_of, split_at}
use Rattle.arc_slots.specs.Slots.{SlotView, read_slot, row_of, stand_of}
use Rattle.arc_slots.specs.Splits.{IsSplit, SplitsPart, made_place}
use Rattle.arc_slots.specs.Stands.{is_numbered, put_back, stand_at}
use Rattle.arc_slots.specs.declared.part.Part.{Part}
use Rattle.arc_slots.specs.declared.part.Part.TheVariants.{Back, Front}
use Rattle.arc_commands.specs.Changes.{part_of, cut_row, off_part}
use Rattle.arc_slots.proofs.Cuts.{MadeBeside, sub-fits, sub-made, sub-refused}
use Rattle.arc_slots.proofs.Slots.{ReadCall, moved-fits, moved-numbered, moved-stand}

-- a window was split, and another part of it was made, from here to there
module _ {T M H : Type 0} {w : Window T M} {b : Option ℕ} {s : SlotView T M}
    {passes left : List (Pass H)} {p : Pass H} (r : ReadCall w b s passes left p) (new : Pass H)
    (after : List (Pass H)) (back : after ≡ put_back left b new) (has_static : Bool) where
  abbrev here : SlotView T M
  here = read_slot w b

  abbrev row : Row T M
  row = row_of here

  -- it finds the same of the slot by itself
  found : ReadCall w b here passes left p
  found = record { view = refl; fits = r.fits; has = r.has; took = r.took }

  -- a part that was made, and the block that its length tells
  module _ (start end : ℕ) (part : Window T M) (block : Option ℕ) (len : ℕ)
      (made : SharesPart has_static w start end p new part) (counted : len ≡ length part.items)
      (is : block ≡ (if has_static && (len == 0) then None else b)) where
    block-is : block ≡ (if has_static && (length (sub w.items start end) == 0) then None else b)
    block-is =
        is ∙ ap (λ n. if has_static && (n == 0) then None else b)
        (counted ∙ ap length made.0)

    part-made : MadeBeside here (read_slot part block) (part_of has_static row start end) passes
        after
    part-made =
        sub-made found new has_static start end part made.1 block block-is reader
        (read_slot part block) refl made.0 refl after back

    part-numbered : is_numbered block part.place ≡ true
    part-numbered = sub-fits found new has_static start end part made.1 block block-is

    -- beside the window itself
    split-itself : (one : Window T M) → one ≡ w
        → IsSplit here (read_slot one b) (read_slot part block) row
        (part_of has_static row start end) passes after
    split-itself one same = record {
      same_is = ap (λ v. row_of (read_slot v b)) same;
      made_is = part-made.row_is;
      owner = ap (λ (v : Window T M). stand_at b v.place) same;
      added = part-made.stand;
    }

    -- beside the window, cut
    split-rest : (from to : ℕ) (one : Window T M) → one ≡ cut_window w from to
        → IsSplit here (read_slot one b) (read_slot part block) (cut_row row from to)
        (part_of has_static row start end) passes after
    split-rest from to one same = record {
      same_is =
          ap (λ v. row_of (read_slot v b)) same
          ∙ ap (λ q. record { items = sub w.items from to; place = q; role = reader })
          (moved-numbered b from w.place);
      made_is = part-made.row_is;
      owner =
          ap (λ (v : Window T M). stand_at b v.place) same ∙ moved-stand b from w.place;
      added = part-made.stand;
    }

  itself-numbered : (one : Window T M) → one ≡ w → is_numbered b one.place ≡ true
  itself-numbered one same = ap (λ (v : Window T M). is_numbered b v.place) same ∙ r.fits

  rest-numbered : (from to : ℕ) (one : Window T M) → one ≡ cut_window w from to
      → is_numbered b one.place ≡ true
  rest-numbered from to one same =
      ap (λ (v : Window T M). is_numbered b v.place) same ∙ moved-fits b from w.place ∙ r.fits

  -- what is said of a slot by this number, by the slot as it is seen
  seen-split : (part : Part) (itself : Bool) (one made : SlotView T M)
      → (is_itself row part ≡ itself
      → IsSplit here one made (if itself then row else rest_of row part)
      (part_row has_static row part) passes after)
      → is_itself (row_of s) part ≡ itself
      → IsSplit s one made (if itself then row_of s else rest_of (row_of s) part)
      (part_row has_static (row_of s) part) passes after
  seen-split part itself one made =
      subst (λ (x : SlotView T M). is_itself (row_of x) part ≡ itself → IsSplit x one made
      (if itself then row_of x else rest_of (row_of x) part) (part_row has_static (row_of x) part)
      passes after) r.view

  module _ (stays handed : Window T M) (block : Option ℕ) (len : ℕ) where
    -- at an end the window itself is handed out
    module _ (counted : len ≡ length stays.items)
        (is : block ≡ (if has_static && (len == 0) then None else b)) where
      split-end : (part : Part) → SplitsPart has_static part w p new stays handed
          → is_itself row part ≡ true
          → IsSplit here (read_slot handed b) (read_slot stays block) row
          (part_row has_static row part) passes after
      split-end (Back at) splits zero =
          let parts = splits.at_start (eqb-true at 0 zero) in
          subst (λ c. IsSplit here (read_slot handed b) (read_slot stays block) row
          (if c then part_of has_static row 0 0 else part_of has_static row at (length w.items))
          passes after) (sym zero)
          (split-itself 0 0 stays block len parts.1 counted is handed parts.0)
      split-end (Front at) splits last =
          let parts = splits.at_end (eqb-true at (length w.items) last) in
          subst (λ c. IsSplit here (read_slot handed b) (read_slot stays block) row
          (if c then part_of has_static row at at else part_of has_static row 0 at)
          passes after) (sym last)
          (split-itself at at stays block len parts.1 counted is handed parts.0)

      pub itself_split : (part : Part) → SplitsPart has_static part w p new stays handed
          → is_itself (row_of s) part ≡ true
          → IsSplit s (read_slot handed b) (read_slot stays block) (row_of s)
          (part_row has_static (row_of s) part) passes after
      itself_split part splits =
          seen-split part true (read_slot handed b) (read_slot stays block)
          (split-end part splits)

      pub itself_fits : (part : Part) → SplitsPart has_static part w p new stays handed
          → is_itself row part ≡ true
          → (is_numbered block stays.place ≡ true) × (is_numbered b handed.place ≡ true)
      itself_fits (Back at) splits zero =
          let parts = splits.at_start (eqb-true at 0 zero) in (
            part-numbered 0 0 stays block len parts.1 counted is,
            itself-numbered handed parts.0,
          )
      itself_fits (Front at) splits last =
          let parts = splits.at_end (eqb-true at (length w.items) last) in (
            part-numbered at at stays block len parts.1 counted is,
            itself-numbered handed parts.0,
          )

    -- elsewhere the window stays, cut
    module _ (counted : len ≡ length handed.items)
        (is : block ≡ (if has_static && (len == 0) then None else b)) where
      split-inside : (part : Part) → SplitsPart has_static part w p new stays handed
          → split_at part ≤ length w.items → is_itself row part ≡ false
          → IsSplit here (read_slot stays b) (read_slot handed block) (rest_of row part)
          (part_row has_static row part) passes after
      split-inside (Back at) splits within some =
          let parts = splits.later (grind (arith, nat_tests)) in
          subst (λ c. IsSplit here (read_slot stays b) (read_slot handed block) (cut_row row 0 at)
          (if c then part_of has_static row 0 0 else part_of has_static row at (length w.items))
          passes after) (sym some)
          (split-rest at (length w.items) handed block len parts.1 counted is 0 at stays parts.0)
      split-inside (Front at) splits within some =
          let parts = splits.earlier (grind (arith, nat_tests)) in
          subst (λ c. IsSplit here (read_slot stays b) (read_slot handed block)
          (cut_row row at (length w.items))
          (if c then part_of has_static row at at else part_of has_static row 0 at)
          passes after) (sym some)
          (split-rest 0 at handed block len parts.1 counted is at (length w.items) stays parts.0)

      pub rest_split : (part : Part) → SplitsPart has_static part w p new stays handed
          → split_at part ≤ length w.items → is_itself (row_of s) part ≡ false
          → IsSplit s (read_slot stays b) (read_slot handed block) (rest_of (row_of s) part)
          (part_row has_static (row_of s) part) passes after
      rest_split part splits within =
          seen-split part false (read_slot stays b) (read_slot handed block)
          (split-inside part splits within)

      pub rest_fits : (part : Part) → SplitsPart has_static part w p new stays handed
          → split_at part ≤ length w.items → is_itself row part ≡ false
          → (is_numbered b stays.place ≡ true) × (is_numbered block handed.place ≡ true)
      rest_fits (Back at) splits within some =
          let parts = splits.later (grind (arith, nat_tests)) in (
            rest-numbered 0 at stays parts.0,
            part-numbered at (length w.items) handed block len parts.1 counted is,
          )
      rest_fits (Front at) splits within some =
          let parts = splits.earlier (grind (arith, nat_tests)) in (
            rest-numbered at (length w.items) stays parts.0,
            part-numbered 0 at handed block len parts.1 counted is,
          )

  -- none was made
  module _ (wants : Sort → Bool) (e : OwnerError) where
    -- of one of two parts, as a test tells
    refused-either : (c : Bool) (from to start end : ℕ)
        → Refuses wants (sub_place has_static w (if c then from else start)
        (if c then to else end)) p new e
        → RefusesAt wants (if c then part_of has_static row from to else
        part_of has_static row start end).place (stand_of (Some here)) passes after e
    refused-either true from to start end why =
        sub-refused found new has_static from to wants e why after back
    refused-either false from to start end why =
        sub-refused found new has_static start end wants e why after back

    refused-here : (part : Part) → Refuses wants (made_place has_static part w) p new e
        → RefusesAt wants (part_row has_static row part).place (stand_of (Some here)) passes
        after e
    refused-here (Back at) why = elim (cases_Bool (at == 0)) [
      | inl zero ↦
          let is = eqb-true at 0 zero in
          subst (λ n. RefusesAt wants (off_part has_static row n).place (stand_of (Some here))
          passes after e) (sym is)
          (refused-either true 0 0 0 (length w.items)
          (subst (λ n. Refuses wants (off_place has_static w n) p new e) is why))
      | inr some ↦
          subst (λ c. RefusesAt wants (if c then part_of has_static row 0 0 else
          part_of has_static row at (length w.items)).place (stand_of (Some here)) passes after e)
          (sym some)
          (refused-either false 0 0 at (length w.items)
          (subst (λ c. Refuses wants (sub_place has_static w at (if c then 0 else length w.items)) p
          new e) some why))
    ]
    refused-here (Front at) why =
        refused-either (at == length w.items) at at 0 at (ends (at == length w.items) why)
      where
        ends : (c : Bool) → Refuses wants (sub_place has_static w (if c then at else 0) at) p new e
            → Refuses wants (sub_place has_static w (if c then at else 0) (if c then at else at)) p
            new e
        ends true why = why
        ends false why = why

    pub part_refused : (part : Part) → Refuses wants (made_place has_static part w) p new e
        → RefusesAt wants (part_row has_static (row_of s) part).place (stand_of (Some s)) passes
        after e
    part_refused part why =
        subst (λ (x : SlotView T M). RefusesAt wants (part_row has_static (row_of x) part).place
        (stand_of (Some x)) passes after e) r.view (refused-here part why)
