use Rattle.arc_forms.specs.Seen.{line_command}
use Rattle.arc_forms.proofs.Forms.{read_ok, read_err}
use Rattle.arc_forms.proofs.parse.parse.Goals as goal

pub returns-clause-ok : goal.returns-clause-ok
returns-clause-ok g c = read_ok (line_command {A = g.row.A.Denot}) c.args.line.now c.command.result
    c.if-line-gt-LONGEST_LINE.false c.command.ensures.ok

pub returns-clause-err : goal.returns-clause-err
returns-clause-err g c =
    read_err c.args.line.now c.command.result c.if-line-gt-LONGEST_LINE.false c.command.ensures.err
