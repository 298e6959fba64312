-- Each step keeps what rows say of their places, and so does each run.
use Rattle.std.proofs.Common.{inl, inr, ◌≡◌, ◌≤◌, ◌==◌, not, ◌∙◌, ℕ, false, List}
use Rattle.std.proofs.Common.{[], ◌∷◌}
use Rattle.std.proofs.lemmas.Bool.{cases_Bool, eqb-true, false≢true}
use Rattle.std.proofs.Common.{Option, Some, None, slice_set, refl, sym, ap}
use Rattle.std.proofs.Common.{subst}
use Rattle.std.proofs.lemmas.Option.{none-some}
use Rattle.arc_block.specs.Block.{BlockInfo}
use Rattle.arc_block.specs.Place.{Place, nowhere, static_data, on_block}
use Rattle.arc_block.specs.Table.{Row, Table, block_of, row_at}
use Rattle.arc_parts.specs.Writers.{as_sole}
use Rattle.arc_commands.specs.Fits.{RowFits, RowsFit}
use Rattle.arc_commands.specs.Blocks.{RowsAgree}
use Rattle.arc_commands.specs.Changes.{Setting, Shortage}
use Rattle.arc_commands.specs.Several.{are_apart}
use Rattle.arc_commands.specs.Step.{Step, Run, answer}
use Rattle.arc_commands.specs.Step.{count_brought}
use Rattle.arc_commands.specs.Commands.{ListCmd, ListReply}
use Rattle.arc_commands.proofs.Among.{IsOneSize, joined-fits}
use Rattle.arc_commands.proofs.Answers.{answer_each}
use Rattle.arc_commands.proofs.Blocks.{step_agrees}
use Rattle.arc_commands.proofs.EachRow.{each-push, each-set, this}
use Rattle.arc_commands.proofs.Lists.{there}
use Rattle.arc_commands.proofs.Fits.{sole-fits}

-- two numbers that aren't apart
pub not-apart : (n m : ℕ) → not (n == m) ≡ false → n ≡ m
not-apart n m is = elim (cases_Bool (n == m)) [
  | inl same ↦ eqb-true n m same
  | inr differ ↦ absurd (false≢true (sym is ∙ ap not differ))
]

-- two rows stand on one block, of which both say the same
module _ {T M : Type 0} (t : Table T M) (agree : RowsAgree t) (i j : ℕ) (row other : Row T M)
    (at : row_at t i ≡ Some row) (beside : row_at t j ≡ Some other) where
  one-size : (here there : Place (Option ℕ) M) → row.place ≡ here → other.place ≡ there
      → are_apart (block_of here) (block_of there) ≡ false → IsOneSize here there
  one-size nowhere there one two same = tt
  one-size static_data there one two same = tt
  one-size (on_block None o info) there one two same = tt
  one-size (on_block (Some n) o info) nowhere one two same = tt
  one-size (on_block (Some n) o info) static_data one two same = tt
  one-size (on_block (Some n) o info) (on_block None p its) one two same = tt
  one-size (on_block (Some n) o info) (on_block (Some m) p its) one two same =
      let here : row.place ≡ on_block (Some m) o info =
      one ∙ ap (λ k. on_block (Some k) o info) (not-apart n m same) in
      ap (λ (b : BlockInfo M). b.size)
      (agree.same m info its (i, row, o, at, here) (j, other, p, beside, two))

module _ {T M : Type 0} (setting : Setting T) where
  answer-fits : (short : Shortage) (places : ℕ) (t : Table T M) (c : ListCmd T M)
      → count_brought c ≤ places → RowsAgree t → RowsFit setting.drops t
      → RowsFit setting.drops (answer setting short places t c).1
  answer-fits short places t c enough agree fit =
      let d = setting.drops in
      answer_each setting short places t c enough (λ reply new. RowsFit d new) (record {
        same = λ reply tells. fit;
        founds = λ items role nothing info one fits. each-push (RowFits d) t.rows _ fit
            (this (RowFits d) _ fits);
        apart = λ row reads none fits. each-push (RowFits d) t.rows _ fit
            (this (RowFits d) row fits);
        splits = λ i row kept made at parts.
            each-push (RowFits d) (slice_set t.rows i (Some kept)) _
            (each-set (RowFits d) t.rows i (Some kept) fit
            (this (RowFits d) kept (parts.keeps.fits (fit i row at))))
            (this (RowFits d) made (parts.also.fits (fit i row at)));
        becomes = λ i row part at is fits.
            each-set (RowFits d) t.rows i _ fit (this (RowFits d) part (fits.fits (fit i row at)));
        writes = λ i row at may.
            each-set (RowFits d) t.rows i _ fit
            (this (RowFits d) (as_sole d row) (sole-fits d row (fit i row at)));
        refits = λ i row new r tells at lone may put fits.
            each-set (RowFits d) t.rows i _ fit (this (RowFits d) new (fits (fit i row at)));
        begins = λ i row items role nothing info at may fits.
            each-set (RowFits d) t.rows i _ fit (this (RowFits d) _ (fits (fit i row at)));
        moves = λ i row items role info kept made at may fits parts.
            let whole : Row T M =
            record { items = items; place = on_block (Some t.blocks) 0 info; role = role } in
            let w = fits (fit i row at) in
            let rows = slice_set t.rows i (Some whole) in
            each-push (RowFits d) (slice_set rows i (Some kept)) (Some made)
            (each-set (RowFits d) rows i (Some kept) (each-set (RowFits d) t.rows i (Some whole) fit
            (this (RowFits d) whole w))
            (this (RowFits d) kept (parts.keeps.fits w)))
            (this (RowFits d) made (parts.also.fits w));
        joins = λ i j row other apart at beside one two there can.
            each-set (RowFits d) (slice_set t.rows j None) i _
            (each-set (RowFits d) t.rows j None fit (λ row none. absurd (none-some row none)))
            (this (RowFits d) _ (joined-fits d row one other two (fit j other beside)
            (one-size t agree i j row other at beside row.place other.place refl refl there) can
            (fit i row at)));
        goes = λ r tells i.
            each-set (RowFits d) t.rows i None fit (λ row none. absurd (none-some row none));
      }) c refl

  pub step_fits : (t : Table T M) (c : ListCmd T M) (r : ListReply T M)
      (new : Table T M) → Step setting t c r new → RowsAgree t → RowsFit setting.drops t
      → RowsFit setting.drops new
  step_fits t c r new step agree fit =
      subst (λ (o : ListReply T M × Table T M). RowsFit setting.drops o.1) step.answered
      (answer-fits step.short step.places t c step.enough agree fit)

  pub run_fits : (t : Table T M) (cs : List (ListCmd T M))
      (rs : List (ListReply T M)) (new : Table T M) → Run setting t cs rs new → RowsAgree t
      → RowsFit setting.drops t → RowsFit setting.drops new
  run_fits t [] [] new run agree fit = subst (RowsFit setting.drops) (sym run) fit
  run_fits t (c ∷ cs) (r ∷ rs) new run agree fit =
      run_fits run.0 cs rs new run.2 (step_agrees setting t c r run.0 run.1 agree)
      (step_fits t c r run.0 run.1 agree fit)
  run_fits t [] (r ∷ rs) new run agree fit = absurd run
  run_fits t (c ∷ cs) [] new run agree fit = absurd run
