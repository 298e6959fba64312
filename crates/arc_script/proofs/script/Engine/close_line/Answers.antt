-- Nothing of the line came before, or more of it is held.
use Rattle.std.proofs.Common.{[], ◌∷◌, ◌++◌, refl, sym, ◌∙◌, arith}
use Rattle.std.proofs.lemmas.Bool.{eqb-true}
use Rattle.std.proofs.lemmas.List.{nil_from_length as none_held}
use Rattle.arc_forms.specs.Text.{line_feed}
use Rattle.arc_script.specs.declared.script.ScriptError.TheVariants.{Alloc}
use Rattle.arc_forms.proofs.Forms.{on_err}
use Rattle.arc_script.proofs.Going.{reads_in_place, stops_in_place, reads_held, reads_line}
use Rattle.arc_script.proofs.Going.{stops_now, stops_later, stops_at_line}
use Rattle.arc_script.proofs.script.Engine.close_line.Goals as goal

pub returns-then-is_empty-clause-ok : goal.returns-then-is_empty-clause-ok
returns-then-is_empty-clause-ok g c = λ w.
    let old = c.args.self.now in
    let answered = c.in_ok-answer_in_place.ensures in
    reads_in_place w old c.answer_in_place.new.self c.args.bytes.now c.requires (
      none_held old.line.items
          (omega (
            arith,
            old.line.ok.0,
            eqb-true _ _ (sym c.is_empty.ensures ∙ c.if-is_empty.true),
          )),
      c.if-not-self.true,
    )
    answered.ok answered.line

pub returns-in_err-answer_in_place-clause-err : goal.returns-in_err-answer_in_place-clause-err
returns-in_err-answer_in_place-clause-err g c =
    let old = c.args.self.now in
    let stopped = c.in_err-answer_in_place.ensures in
    on_err c.from_residual.result (λ w.
    stops_in_place w old c.answer_in_place.new.self c.args.bytes.now c.requires (
      none_held old.line.items
          (omega (
            arith,
            old.line.ok.0,
            eqb-true _ _ (sym c.is_empty.ensures ∙ c.if-is_empty.true),
          )),
      c.if-not-self.true,
    )
    stopped.broken stopped.err)

pub returns-in_err-hold-clause-err : goal.returns-in_err-hold-clause-err
returns-in_err-hold-clause-err g c =
    let hold = c.in_err-hold.ensures in
    on_err c.from_residual-in_err-hold.result
    (λ w. stops_now Alloc _ w c.args.self.now c.hold.new.self hold.windows hold.out)

pub returns-clause-ok : goal.returns-clause-ok
returns-clause-ok g c = λ w.
    let old = c.args.self.now in
    let e = c.hold.new.self in
    let hold = c.in_ok-hold.ensures in
    let line = c.in_ok-end_line.ensures in
    reads_line w old e c.end_line.new.self c.args.bytes.now
    (reads_held w old e c.args.bytes.now c.requires hold.ok hold.windows hold.out)
    line.ok line.line

pub returns-in_err-end_line-clause-err : goal.returns-in_err-end_line-clause-err
returns-in_err-end_line-clause-err g c =
    let bytes = c.args.bytes.now in
    let old = c.args.self.now in
    let e = c.hold.new.self in
    let hold = c.in_ok-hold.ensures in
    let end = c.in_err-end_line.ensures in
    on_err c.from_residual-in_err-end_line.result (λ w.
    stops_later Alloc (bytes ++ line_feed ∷ []) bytes (line_feed ∷ []) w w w old e
    c.end_line.new.self refl
    (reads_held w old e bytes c.requires hold.ok hold.windows hold.out)
    (stops_at_line w e c.end_line.new.self end.broken end.err))
