-- Line after line is read, and then what stands behind the last line feed of the piece.
use Rattle.std.proofs.Common.{◌++◌, ◌∷◌, [], ◌∙◌}
use Rattle.arc_forms.specs.Text.{line_feed}
use Rattle.arc_script.specs.declared.script.ScriptError.TheVariants.{Alloc}
use Rattle.arc_script.proofs.Going.{if_err_is, stops_now, stops_later, stops_longer, reads_on}
use Rattle.arc_script.proofs.Going.{reads_held, reads_whole, line_parts, more_parts}
use Rattle.arc_script.proofs.Devices.{takes_on}
use Rattle.arc_script.proofs.script.Engine.feed.Goals as goal

pub returns-in_err-take_line-clause-err : goal.returns-in_err-take_line-clause-err
returns-in_err-take_line-clause-err g c =
    let front = c.lines.invariant.front in
    let e = c.lines.self in
    let e1 = c.take_line.new.self in
    let line = c.in-Some.line.now in
    let behind = c.in-Some.behind.now in
    let rest = c.lines.rest.now in
    let fault = c.in_err-take_line.field-0.0 in
    if_err_is _ c.from_residual.result fault c.from_residual.ensures.1
    (stops_later fault c.args.piece.now front.0 rest _ (g.W.Sink.traffic c.lines.writer) _
    c.args.self.now
    e e1 front.1 front.2
    (stops_longer fault rest (line ++ line_feed ∷ []) behind _ _ e e1
    (line_parts line behind rest c.in-Some.ensures.1) c.in_err-take_line.ensures.err))

pub lines-preserved : goal.lines-preserved
lines-preserved g c =
    let front = c.lines.invariant.front in
    let line = c.in-Some.line.now in
    let took = c.in_ok-take_line.ensures in
    let clean = c.lines.invariant.clean in
    record {
      front = (
        front.0 ++ (line ++ line_feed ∷ []),
        more_parts c.args.piece.now front.0 c.lines.rest.now line c.in-Some.behind.now front.1
            c.in-Some.ensures.1,
        reads_on front.0 (line ++ line_feed ∷ []) _ (g.W.Sink.traffic c.lines.writer) _
            c.args.self.now c.lines.self c.take_line.new.self front.2 took.ok,
      );
      few = λ h. took.few (c.lines.invariant.few h);
      clean = (took.clean.0 ∙ clean.0, took.clean.1 ∙ clean.1);
      taken = takes_on c.lines.invariant.taken took.taken;
    }

pub returns-in_err-hold-clause-err : goal.returns-in_err-hold-clause-err
returns-in_err-hold-clause-err g c =
    let front = c.lines.invariant.front in
    let hold = c.in_err-hold.ensures in
    if_err_is _ c.from_residual-in_err-hold.result Alloc c.from_residual-in_err-hold.ensures.1
    (stops_later Alloc c.args.piece.now front.0 c.lines.rest.now _
    (g.W.Sink.traffic c.lines.writer) _ c.args.self.now c.lines.self c.hold.new.self front.1 front.2
    (stops_now Alloc c.lines.rest.now _ c.lines.self c.hold.new.self hold.windows hold.out))

pub returns-clause-ok : goal.returns-clause-ok
returns-clause-ok g c =
    let front = c.lines.invariant.front in
    let hold = c.in_ok-hold.ensures in
    reads_whole c.args.piece.now front.0 c.lines.rest.now _ (g.W.Sink.traffic c.lines.writer) _
    c.args.self.now c.lines.self c.hold.new.self front.1 front.2
    (reads_held _ c.lines.self c.hold.new.self c.lines.rest.now c.in_default.ensures hold.ok
    hold.windows hold.out)

pub returns-in_err-take_line-clause-taken : goal.returns-in_err-take_line-clause-taken
returns-in_err-take_line-clause-taken g c =
    takes_on c.lines.invariant.taken c.in_err-take_line.ensures.taken
