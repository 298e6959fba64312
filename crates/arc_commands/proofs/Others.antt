-- No command changes another row.
use Rattle.std.proofs.Common.{inl, inr, ◌≡◌, ℕ, Bool, true, false, if◌then◌else◌, List, [], ◌∷◌}
use Rattle.std.proofs.Common.{Option, Some, None, slice_get, slice_set, sym, ap, ◌∙◌, subst}
use Rattle.std.specs.Option.{option_map_or}
use Rattle.arc_block.specs.Table.{Row, Table, row_at}
use Rattle.arc_block.proofs.Lists.{get-front, get-set_other}
use Rattle.arc_commands.specs.Commands.{ListCmd, ListReply}
use Rattle.arc_commands.specs.Others.{NoneIsOn, OtherRowsStay, RowStays}
use Rattle.arc_commands.specs.Changes.{Setting, Shortage, no_shortage, of_table, of_clones}
use Rattle.arc_commands.specs.Changes.{of_blocks, of_buffer, of_growth, Change}
use Rattle.arc_commands.specs.Several.{join_answer}
use Rattle.arc_commands.specs.Step.{Step, Run, answer_by, answer_on, joined}
use Rattle.arc_commands.specs.Step.{answer_any, around_of, changed, founded, is_for_both, other_of}
use Rattle.arc_commands.specs.Step.{row_by, window_of, with_row}
use Rattle.arc_commands.specs.declared.command.Reply.TheVariants as reply

module _ {T M : Type 0} where
  -- behind the rows that are there one more may be
  with-row-stays : (rows : List (Option (Row T M))) (made : Option (Row T M)) (j : ℕ)
      (row : Option (Row T M)) → slice_get rows j ≡ Some row
      → slice_get (with_row rows made) j ≡ Some row
  with-row-stays rows None j row at = at
  with-row-stays rows (Some made) j row at = get-front rows j row (Some made) at

  founded-stays : (short : Shortage) (t : Table T M) (made : Row T M) (j : ℕ)
      → RowStays j t (founded short t made).1
  founded-stays of_table t made j row at = at
  founded-stays no_shortage t made j row at = get-front t.rows j row (Some made) at
  founded-stays of_clones t made j row at = get-front t.rows j row (Some made) at
  founded-stays of_blocks t made j row at = get-front t.rows j row (Some made) at
  founded-stays of_buffer t made j row at = get-front t.rows j row (Some made) at
  founded-stays (of_growth e) t made j row at = get-front t.rows j row (Some made) at

  made-stays : (short : Shortage) (t : Table T M) (made : Option (Row T M)) (j : ℕ)
      → RowStays j t (option_map_or (founded short t) made (reply.Kind, t)).1
  made-stays short t None j row at = at
  made-stays short t (Some made) j row at = founded-stays short t made j row at

  changed-stays : (t : Table T M) (i : ℕ) (change : Change T M) (j : ℕ) → ¬ (i ≡ j)
      → RowStays j t (changed t i change).1
  changed-stays t i change j apart row at =
      with-row-stays (slice_set t.rows i change.row) change.made j row
      (get-set_other t.rows i j change.row apart ∙ at)

  joined-stays : (t : Table T M) (i k : ℕ) (change : ListReply T M × Option (Row T M)) (j : ℕ)
      → ¬ (i ≡ j) → ¬ (k ≡ j) → RowStays j t (joined t i k change).1
  joined-stays t i k (r, None) j apart other row at = at
  joined-stays t i k (r, Some whole) j apart other row at =
      get-set_other (slice_set t.rows k None) i j (Some whole) apart
      ∙ get-set_other t.rows k j None other ∙ at

  if-stays : (b : Bool) (t : Table T M) (one other : ListReply T M × Table T M) (j : ℕ)
      → RowStays j t one.1 → RowStays j t other.1 → RowStays j t (if b then one else other).1
  if-stays true t one other j h k = h
  if-stays false t one other j h k = k

  module _ (setting : Setting T) (short : Shortage) (places : ℕ) (t : Table T M)
      (c : ListCmd T M) where
    pair-stays : (i k j : ℕ) → ¬ (i ≡ j) → ¬ (k ≡ j) → (one other : Option (Row T M))
        → RowStays j t (option_map_or (λ row. option_map_or (λ other.
        if is_for_both setting.calls c i k row other then joined t i k (join_answer row other) else
        (reply.Kind, t)) other (reply.NoWindow, t)) one (reply.NoWindow, t)).1
    pair-stays i k j apart also None other row at = at
    pair-stays i k j apart also (Some one) None row at = at
    pair-stays i k j apart also (Some one) (Some other) row at =
        if-stays (is_for_both setting.calls c i k one other) t
        (joined t i k (join_answer one other)) (reply.Kind, t) j
        (joined-stays t i k (join_answer one other) j apart also) (λ kept here. here) row at

    on-stays : (i : ℕ) (here : Option (Row T M)) (j : ℕ) → ¬ (i ≡ j) → RowStays j t
        (option_map_or
        (λ row. changed t i (answer_any setting short (around_of places t row) c row))
        here (reply.NoWindow, t)).1
    on-stays i None j apart row at = at
    on-stays i (Some here) j apart row at =
        changed-stays t i (answer_any setting short (around_of places t here) c here) j apart row at

    answer-stays : (window : Option ℕ) (j : ℕ) → ¬ (window ≡ Some j)
        → RowStays j t (answer_by setting short places t c window).1
    answer-stays None j apart row at =
        made-stays short t (row_by setting places t.blocks c) j row at
    answer-stays (Some i) j apart row at =
        on-stays i (row_at t i) j (λ same. apart (ap Some same)) row at

    both-stay : (window other : Option ℕ) (j : ℕ) → ¬ (window ≡ Some j) → ¬ (other ≡ Some j)
        → RowStays j t (answer_on setting short places t c window other).1
    both-stay window None j apart also row at = answer-stays window j apart row at
    both-stay None (Some k) j apart also row at = at
    both-stay (Some i) (Some k) j apart also row at =
        pair-stays i k j (λ same. apart (ap Some same)) (λ same. also (ap Some same)) (row_at t i)
        (row_at t k) row at

  module _ (setting : Setting T) where
    pub step-stays : (t : Table T M) (c : ListCmd T M) (r : ListReply T M) (new : Table T M)
        → Step setting t c r new → OtherRowsStay c t new
    step-stays t c r new step j apart row at =
        subst (λ (o : ListReply T M × Table T M). slice_get o.1.rows j ≡ Some row) step.answered
        (both-stay setting step.short step.places t c (window_of c) (other_of c) j
        (λ same. apart (inl same)) (λ same. apart (inr same)) row at)

    pub run-stays : (t : Table T M) (cs : List (ListCmd T M)) (rs : List (ListReply T M))
        (new : Table T M) (j : ℕ) → Run setting t cs rs new → NoneIsOn cs j → RowStays j t new
    run-stays t [] [] new j run none row at =
        subst (λ (s : Table T M). slice_get s.rows j ≡ Some row) (sym run) at
    run-stays t (c ∷ cs) (r ∷ rs) new j run none row at =
        run-stays run.0 cs rs new j run.2 none.1 row
        (step-stays t c r run.0 run.1 j none.0 row at)
    run-stays t [] (r ∷ rs) new j run none row at = absurd run
    run-stays t (c ∷ cs) [] new j run none row at = absurd run
