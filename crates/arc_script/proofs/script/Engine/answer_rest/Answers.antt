-- What stands behind the last line feed is the last line.
use Rattle.std.proofs.Common.{◌≡◌, [], false, length, vec_len, sym, subst, ap, ◌∙◌, arith}
use Rattle.std.proofs.lemmas.Bool.{eqb-false, eqb-true}
use Rattle.std.proofs.lemmas.List.{nil_from_length as none_held}
use Rattle.arc_script.specs.Underway.{IsBegun}
use Rattle.arc_script.specs.declared.script.ScriptError.TheVariants.{Alloc}
use Rattle.arc_forms.proofs.Forms.{on_err}
use Rattle.arc_script.proofs.Underway.{last_answered, last_broken, none_behind}
use Rattle.arc_script.proofs.script.Engine.answer_rest.Given.{Over}
use Rattle.arc_script.proofs.script.Engine.answer_rest.Goals.{After-end_line}
use Rattle.arc_script.proofs.script.Engine.answer_rest.Goals as goal
use Rattle.arc_script.proofs.script.Engine.answer_rest.Goals.{else-not-self-via-then-not-self+else-is_empty}
use Rattle.arc_script.proofs.script.Engine.answer_rest.Goals.{else-not-self-via-else-not-self}

-- something is held of a line
some : (g : Over) (c : After-end_line g) → c.args.self.now.line.items ≡ []
    → c.args.self.now.too_long ≡ false → ⊥
some g c none short =
    let engine = c.args.self.now in
    elim c.else-not-self.branch [
      | else-not-self-via-then-not-self+else-is_empty w ↦
          let empty : vec_len engine.line ≡ 0 = omega (arith, engine.line.ok.0, ap length none) in
          eqb-false _ _ (sym w.is_empty.ensures ∙ w.if-is_empty.false) empty
      | else-not-self-via-else-not-self w ↦ cc
    ]

-- nothing is
pub returns-then-is_empty-clause-ok : goal.returns-then-is_empty-clause-ok
returns-then-is_empty-clause-ok g c = λ early start input writer read.
    let line = c.args.self.now.line in
    none_behind read
    (none_held line.items
    (omega (arith, line.ok.0, eqb-true _ _ (sym c.is_empty.ensures ∙ c.if-is_empty.true))))
    c.if-not-self.true

pub returns-in_err-end_line-clause-err : goal.returns-in_err-end_line-clause-err
returns-in_err-end_line-clause-err g c =
    let end = c.in_err-end_line.ensures in
    on_err c.from_residual.result (λ early start input writer read.
    subst
    (λ o. IsBegun g.L.NamedLayout.named Alloc early start input writer o c.end_line.new.self.table)
    (sym end.err)
    (last_broken read (some g (goal.at.returns-in_err-end_line-clause-err g c).After-end_line)
    c.end_line.new.self.table end.broken))

pub returns-clause-ok : goal.returns-clause-ok
returns-clause-ok g c = λ early start input writer read.
    last_answered read (some g (goal.at.returns-clause-ok g c).After-end_line)
    c.end_line.new.self.table c.end_line.new.self.out.items
    c.in_ok-end_line.ensures.ok
