-- All lines are answered, and the replies go out, or a front of them.
use Rattle.std.proofs.Common.{[], sym, subst}
use Rattle.arc_script.specs.Underway.{IsAnswered, IsBegun}
use Rattle.arc_script.specs.declared.script.ScriptError.TheVariants.{Write, Alloc}
use Rattle.arc_script.proofs.Going.{if_err_is, if_err_as, rest_then_stops}
use Rattle.arc_script.proofs.Underway.{all_out, begun_out}
use Rattle.arc_script.proofs.script.Engine.finish.Goals as goal

pub returns-in_err-answered-clause-err : goal.returns-in_err-answered-clause-err
returns-in_err-answered-clause-err g c =
    let w' = g.W.Sink.traffic c.flush.new.writer in
    let flush = c.in_ok-flush.ensures in
    if_err_is _ c.from_residual-in_err-answered.result Alloc
    c.from_residual-in_err-answered.ensures.1
    (λ early start input read.
    subst (IsBegun g.L.NamedLayout.named Alloc early start input w' []) (sym flush.windows)
    (begun_out (c.in_err-answered.ensures.err early start input _ read) w' flush.ok))

pub returns-in_err-flush-clause-err : goal.returns-in_err-flush-clause-err
returns-in_err-flush-clause-err g c =
    let w' = g.W.Sink.traffic c.flush.new.writer in
    let flush = c.in_err-flush.ensures in
    let rest = c.answer_rest-answered in
    if_err_as _ c.from_residual.result _ Write c.from_residual.ensures.1 flush.write
    (λ early start input read.
    subst (IsBegun g.L.NamedLayout.named Write early start input w' []) (sym flush.windows)
    (rest_then_stops rest.result early start input _ w' c.args.self.now rest.new.self
    rest.ensures.ok rest.ensures.err read flush.err))

pub returns-clause-ok : goal.returns-clause-ok
returns-clause-ok g c = λ early start input read.
    let w = g.W.Sink.traffic c.args.writer.now in
    let w' = g.W.Sink.traffic c.flush.new.writer in
    subst (IsAnswered g.L.NamedLayout.named early start input w' [])
    (sym c.in_ok-flush.ensures.windows)
    (all_out w' (c.in_ok-answered.ensures.ok early start input w read) c.in_ok-flush.ensures.ok)
