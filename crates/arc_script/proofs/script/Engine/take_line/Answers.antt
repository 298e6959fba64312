-- The line is answered; where many replies are held, they go out.
use Rattle.arc_script.specs.declared.script.ScriptError.TheVariants.{Write, Alloc}
use Rattle.arc_script.proofs.Going.{if_err_is, if_err_as, reads_and_out, reads_then_stops}
use Rattle.arc_script.proofs.script.Engine.take_line.Goals as goal

pub returns-in_err-close_line-clause-err : goal.returns-in_err-close_line-clause-err
returns-in_err-close_line-clause-err g c =
    if_err_is _ c.from_residual.result Alloc c.from_residual.ensures.1
    (c.in_err-close_line.ensures.err (g.W.Sink.traffic c.args.writer.now))

pub returns-in_err-flush-clause-err : goal.returns-in_err-flush-clause-err
returns-in_err-flush-clause-err g c =
    let w = g.W.Sink.traffic c.args.writer.now in
    let w' = g.W.Sink.traffic c.flush.new.writer in
    let flush = c.in_err-flush.ensures in
    if_err_as _ c.from_residual-in_err-flush.result _ Write c.from_residual-in_err-flush.ensures.1
    flush.write
    (reads_then_stops _ w w w' c.args.self.now c.close_line.new.self c.flush.new.self
    (c.in_ok-close_line.ensures.ok w) flush.err flush.out flush.windows)

pub returns-in_ok-flush-clause-ok : goal.returns-in_ok-flush-clause-ok
returns-in_ok-flush-clause-ok g c =
    let w = g.W.Sink.traffic c.args.writer.now in
    let w' = g.W.Sink.traffic c.flush.new.writer in
    let flush = c.in_ok-flush.ensures in
    reads_and_out _ w w w' c.args.self.now c.close_line.new.self c.flush.new.self
    (c.in_ok-close_line.ensures.ok w) (flush.ok, flush.out) flush.windows flush.line

pub returns-else-len-ge-PIECE-clause-ok : goal.returns-else-len-ge-PIECE-clause-ok
returns-else-len-ge-PIECE-clause-ok g c =
    c.in_ok-close_line.ensures.ok (g.W.Sink.traffic c.args.writer.now)
