-- What stands behind the first word is read as its form wants it.
use Rattle.std.proofs.Common.{◌≡◌, ◌∙◌, ℕ, List, Option, subst}
use Rattle.std.specs.Prelude.{IfOk, OnErr, IsSomeAnd}
use Rattle.std.specs.Option.{option_map}
use Rattle.arc_forms.specs.Seen.{line_command}
use Rattle.arc_forms.specs.Commands.{ByteCmd}
use Rattle.arc_forms.specs.Reading.{BringsItems, read_as}
use Rattle.arc_forms.specs.declared.parse.Verb.{Verb}
use Rattle.arc_forms.proofs.Forms.{read_err, read_if_some, read_ok_some, read_some}
use Rattle.arc_forms.proofs.parse.parse_usual.Goals as goal

-- the form that was found is the one that the arm names
by_form : (words : List (List ℕ)) (said : Option ByteCmd) {found named : Verb} → found ≡ named
    → read_as words found ≡ said → read_as words named ≡ said
by_form words said is read = subst (λ v. read_as words v ≡ said) is read

pub returns-in-Some-Number-default-clause-ok : goal.returns-in-Some-Number-default-clause-ok
returns-in-Some-Number-default-clause-ok g c =
    let here = c.in-Some-Number-default in
    read_some (line_command {A = g.row.A.Denot}) c.args.line.now c.with_number.result
    c.if-line-gt-LONGEST_LINE.false
    (c.with_number.ensures ∙ by_form _ _ here.field-0-0-is here.ensures)

pub returns-in-Some-Sub-default-clause-ok : goal.returns-in-Some-Sub-default-clause-ok
returns-in-Some-Sub-default-clause-ok g c =
    let here = c.in-Some-Sub-default in
    read_some (line_command {A = g.row.A.Denot}) c.args.line.now c.sub.result
    c.if-line-gt-LONGEST_LINE.false
    (c.sub.ensures ∙ by_form _ _ here.field-0-0-is here.ensures)

pub returns-in-Some-Numbers-default-clause-ok : goal.returns-in-Some-Numbers-default-clause-ok
returns-in-Some-Numbers-default-clause-ok g c =
    let here = c.in-Some-Numbers-default in
    read_some (line_command {A = g.row.A.Denot}) c.args.line.now c.with_numbers.result
    c.if-line-gt-LONGEST_LINE.false
    (c.with_numbers.ensures ∙ by_form _ _ here.field-0-0-is here.ensures)

pub returns-in-Some-Push-default-clause-ok : goal.returns-in-Some-Push-default-clause-ok
returns-in-Some-Push-default-clause-ok g c =
    let here = c.in-Some-Push-default in
    read_some (line_command {A = g.row.A.Denot}) c.args.line.now c.push.result
    c.if-line-gt-LONGEST_LINE.false
    (c.push.ensures ∙ by_form _ _ here.field-0-0-is here.ensures)

pub returns-in-Some-Ext-default-clause-ok : goal.returns-in-Some-Ext-default-clause-ok
returns-in-Some-Ext-default-clause-ok g c =
    let here = c.in-Some-Ext-default in
    read_ok_some (line_command {A = g.row.A.Denot}) c.args.line.now c.ext.result
    c.if-line-gt-LONGEST_LINE.false
    (subst
    (λ read. IfOk c.ext.result (λ said. option_map (line_command {A = g.row.A.Denot}) said ≡ read))
    (by_form _ _ here.field-0-0-is here.ensures) c.ext.ensures.ok)

pub returns-in-Some-Ext-default-clause-err : goal.returns-in-Some-Ext-default-clause-err
returns-in-Some-Ext-default-clause-err g c =
    let here = c.in-Some-Ext-default in
    read_err c.args.line.now c.ext.result c.if-line-gt-LONGEST_LINE.false
    (subst (λ read. OnErr c.ext.result (IsSomeAnd read BringsItems))
    (by_form _ _ here.field-0-0-is here.ensures) c.ext.ensures.err)

pub returns-in-None-clause-ok : goal.returns-in-None-clause-ok
returns-in-None-clause-ok g c =
    read_if_some (line_command {A = g.row.A.Denot}) c.args.line.now c.usual_bare.result
    c.if-line-gt-LONGEST_LINE.false c.usual_bare.ensures
