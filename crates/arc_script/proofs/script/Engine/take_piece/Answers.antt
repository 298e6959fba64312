-- What was read goes through the engine, and the replies go out, but behind a write that failed.
use Rattle.std.proofs.Common.{ap, ◌∙◌}
use Rattle.arc_script.specs.declared.script.ScriptError.TheVariants.{Read, Write}
use Rattle.arc_script.proofs.Going.{if_err_as, reads_and_out, stops_and_out}
use Rattle.arc_script.proofs.Going.{fed_then_stops, run_stops_now, run_answered, run_stops}
use Rattle.arc_script.proofs.Going.{run_goes_on, run_stops_writing, why_no_read}
use Rattle.arc_script.proofs.Devices.{takes_on}
use Rattle.arc_script.proofs.script.Engine.take_piece.Goals as goal

pub returns-in_default-clause-begun : goal.returns-in_default-clause-begun
returns-in_default-clause-begun g c = λ r w run.
    run_stops_now Read r _ _ w _ c.args.self.now run (ap (λ t. t.bytes) c.in_default.ensures.told)

pub returns-in_default-clause-answered : goal.returns-in_default-clause-answered
returns-in_default-clause-answered g c = λ is r w run.
    run_answered r _ _ w _ c.args.self.now run (ap (λ t. t.bytes) c.in_default.ensures.told)

pub returns-in_err-flush-in-Ok-feed-clause-taken : goal.returns-in_err-flush-in-Ok-feed-clause-taken
returns-in_err-flush-in-Ok-feed-clause-taken g c =
    takes_on c.feed.ensures.taken c.in_err-flush-in-Ok-feed.ensures.taken

pub returns-in_err-flush-in-Ok-feed-clause-begun : goal.returns-in_err-flush-in-Ok-feed-clause-begun
returns-in_err-flush-in-Ok-feed-clause-begun g c =
    let flush = c.in_err-flush-in-Ok-feed.ensures in
    let fed = c.feed in
    if_err_as _ c.from_residual.result _ Write c.from_residual.ensures.1 flush.write (λ r w run.
    run_stops Write r _ _ w _ _ c.args.self.now c.flush.new.self _ run
    (ap (λ t. t.bytes) c.in-Ok.ensures.told) (ap (λ t. t.last) c.in-Ok.ensures.told)
    (fed_then_stops fed.result _ _ (g.W.Sink.traffic fed.new.writer) _ c.args.self.now fed.new.self
    c.flush.new.self fed.ensures.ok fed.ensures.err flush.err flush.out flush.windows) flush.out)

pub returns-in_err-flush-in-Err-clause-taken : goal.returns-in_err-flush-in-Err-clause-taken
returns-in_err-flush-in-Err-clause-taken g c =
    takes_on c.feed.ensures.taken c.in_err-flush-in-Err.ensures.taken

pub returns-in_err-flush-in-Err-clause-begun : goal.returns-in_err-flush-in-Err-clause-begun
returns-in_err-flush-in-Err-clause-begun g c =
    let flush = c.in_err-flush-in-Err.ensures in
    let fed = c.feed in
    if_err_as _ c.from_residual-in_err-flush-in-Err.result _ Write
    c.from_residual-in_err-flush-in-Err.ensures.1 flush.write (λ r w run.
    run_stops Write r _ _ w _ _ c.args.self.now c.flush-in-Err.new.self _ run
    (ap (λ t. t.bytes) c.in-Ok.ensures.told) (ap (λ t. t.last) c.in-Ok.ensures.told)
    (fed_then_stops fed.result _ _ (g.W.Sink.traffic fed.new.writer) _ c.args.self.now fed.new.self
    c.flush-in-Err.new.self fed.ensures.ok fed.ensures.err flush.err flush.out flush.windows)
    flush.out)

pub returns-in_err-flush-in-Err-clause-answered : goal.returns-in_err-flush-in-Err-clause-answered
returns-in_err-flush-in-Err-clause-answered g c =
    if_err_as _ c.from_residual-in_err-flush-in-Err.result _ Write
    c.from_residual-in_err-flush-in-Err.ensures.1 c.in_err-flush-in-Err.ensures.write
    (λ is r w run. absurd cc)

pub returns-in_ok-flush-in-Ok-feed-clause-ok : goal.returns-in_ok-flush-in-Ok-feed-clause-ok
returns-in_ok-flush-in-Ok-feed-clause-ok g c = λ r w run.
    let fed = c.in-Ok-feed.ensures in
    let out = c.in_ok-flush-in-Ok-feed.ensures in
    run_goes_on r _ _ w _ _ c.args.self.now c.flush.new.self _ run
    (ap (λ t. t.bytes) c.in-Ok.ensures.told) (ap (λ t. t.failures) c.in-Ok.ensures.told)
    (out.clean.0 ∙ fed.clean.0, out.clean.1 ∙ fed.clean.1)
    (reads_and_out _ _ (g.W.Sink.traffic c.feed.new.writer) _ c.args.self.now
    c.feed.new.self c.flush.new.self fed.ok (out.ok, out.out) out.windows out.line) out.out

pub returns-in_ok-flush-in-Ok-feed-clause-taken : goal.returns-in_ok-flush-in-Ok-feed-clause-taken
returns-in_ok-flush-in-Ok-feed-clause-taken g c =
    takes_on c.feed.ensures.taken c.in_ok-flush-in-Ok-feed.ensures.taken

pub returns-in-Err-Write-clause-begun : goal.returns-in-Err-Write-clause-begun
returns-in-Err-Write-clause-begun g c = λ r w run.
    run_stops_writing r _ _ w _ _ c.args.self.now c.feed.new.self _ _ run
    (ap (λ t. t.bytes) c.in-Ok.ensures.told) (ap (λ t. t.last) c.in-Ok.ensures.told)
    c.in-Err-Write.field-0-is c.in-Err-Write.ensures.err

pub returns-in_ok-flush-in-Err-clause-taken : goal.returns-in_ok-flush-in-Err-clause-taken
returns-in_ok-flush-in-Err-clause-taken g c =
    takes_on c.feed.ensures.taken c.in_ok-flush-in-Err.ensures.taken

pub returns-in_ok-flush-in-Err-clause-begun : goal.returns-in_ok-flush-in-Err-clause-begun
returns-in_ok-flush-in-Err-clause-begun g c = λ r w run.
    let flush = c.in_ok-flush-in-Err.ensures in
    run_stops c.in-Err.fault r _ _ w _ _ c.args.self.now c.flush-in-Err.new.self _ run
    (ap (λ t. t.bytes) c.in-Ok.ensures.told) (ap (λ t. t.last) c.in-Ok.ensures.told)
    (stops_and_out c.in-Err.fault _ _ (g.W.Sink.traffic c.feed.new.writer) _ c.args.self.now
    c.feed.new.self c.flush-in-Err.new.self c.in-Err.ensures.err flush.ok flush.out flush.windows)
    flush.out

pub returns-in_ok-flush-in-Err-clause-answered : goal.returns-in_ok-flush-in-Err-clause-answered
returns-in_ok-flush-in-Err-clause-answered g c =
    why_no_read (g.W.Sink.traffic c.args.writer.now) (g.W.Sink.traffic c.feed.new.writer)
    c.in-Err.fault c.in-Err.ensures.fault
