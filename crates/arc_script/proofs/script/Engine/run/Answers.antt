-- Pieces are taken one after another; at the end of the input the engine finishes.
use Rattle.std.proofs.Common.{◌∙◌, arith, refl}
use Rattle.arc_script.specs.Script.{feeds}
use Rattle.arc_script.specs.declared.script.ScriptError.TheVariants.{Alloc}
use Rattle.arc_script.proofs.Going.{if_err_is, on_ok, on_ok_then, if_err_then, run_begins}
use Rattle.arc_script.proofs.Going.{nothing_exchanged, exchange_answered, exchange_begun}
use Rattle.arc_script.proofs.Going.{no_fewer}
use Rattle.arc_script.proofs.Going.{why_is_cause, why_no_read}
use Rattle.arc_script.proofs.Devices.{gives_nothing, gives_on, gives_all, takes_nothing, takes_on}
use Rattle.arc_script.proofs.script.Engine.run.Goals as goal

pub returns-in_err-piece-clause-begun : goal.returns-in_err-piece-clause-begun
returns-in_err-piece-clause-begun g c =
    if_err_is _ c.from_residual.result Alloc c.from_residual.ensures.1
    (nothing_exchanged g.L.NamedLayout.named Alloc _ _ _ c.requires.windows)

pub pieces-init : goal.pieces-init
pieces-init g c = record {
  running = run_begins _ _ c.args.self.now c.requires.windows c.requires.line c.requires.out;
  empties = refl;
  given = gives_nothing _ _;
  taken = takes_nothing _ _;
  room = c.in_ok-piece.ensures;
}

pub returns-then-not-branch-clause-ok : goal.returns-then-not-branch-clause-ok
returns-then-not-branch-clause-ok g c =
    let run = c.in_ok-take_piece.ensures.ok _ _ c.pieces.invariant.running in
    let w = g.W.Sink.traffic c.args.writer.now in
    on_ok_then c.finish.result c.finish.ensures.ok (λ h.
    exchange_answered _ _ w _ _ run.input run.given
    (h (feeds run.input) w.bytes run.input run.read))

pub returns-then-not-branch-clause-end : goal.returns-then-not-branch-clause-end
returns-then-not-branch-clause-end g c =
    let end = c.in_ok-take_piece.ensures.end c.if-not-branch.true in
    on_ok c.finish.result (omega (arith, c.pieces.invariant.empties, end))

pub returns-then-not-branch-clause-clean : goal.returns-then-not-branch-clause-clean
returns-then-not-branch-clause-clean g c =
    let run = c.in_ok-take_piece.ensures.ok _ _ c.pieces.invariant.running in
    on_ok_then c.finish.result c.finish.ensures.clean (λ h.
    (run.failures, (h.0 ∙ run.clean.0, h.1 ∙ run.clean.1)))

pub returns-then-not-branch-clause-begun : goal.returns-then-not-branch-clause-begun
returns-then-not-branch-clause-begun g c =
    let run = c.in_ok-take_piece.ensures.ok _ _ c.pieces.invariant.running in
    let w = g.W.Sink.traffic c.args.writer.now in
    if_err_then c.finish.result c.finish.ensures.err (λ fault h.
    exchange_begun fault _ _ w _ _ run.input run.given
    (h (feeds run.input) w.bytes run.input run.read)
    (no_fewer (feeds run.input) (feeds (g.R.Source.traffic c.take_piece.new.reader).last)))

pub returns-then-not-branch-clause-fault : goal.returns-then-not-branch-clause-fault
returns-then-not-branch-clause-fault g c =
    let run = c.in_ok-take_piece.ensures.ok _ _ c.pieces.invariant.running in
    let r = g.R.Source.traffic in
    let w = g.W.Sink.traffic in
    if_err_then c.finish.result c.finish.ensures.fault
    (why_is_cause (r c.args.reader.now) (r c.take_piece.new.reader) (w c.args.writer.now)
    (w c.take_piece.new.writer) (w c.finish.new.writer) run.failures run.clean)

pub pieces-preserved : goal.pieces-preserved
pieces-preserved g c = record {
  running = c.in_ok-take_piece.ensures.ok _ _ c.pieces.invariant.running;
  empties = c.in_ok-take_piece.ensures.empties (c.if-not-branch.false) ∙ c.pieces.invariant.empties;
  given = gives_on c.pieces.invariant.given c.in_ok-take_piece.ensures.given;
  taken = takes_on c.pieces.invariant.taken c.in_ok-take_piece.ensures.taken;
  room = c.pieces.invariant.room;
}

pub returns-in_err-take_piece-clause-given : goal.returns-in_err-take_piece-clause-given
returns-in_err-take_piece-clause-given g c =
    gives_on c.pieces.invariant.given c.in_err-take_piece.ensures.given

pub returns-then-not-branch-clause-given : goal.returns-then-not-branch-clause-given
returns-then-not-branch-clause-given g c =
    gives_on c.pieces.invariant.given c.in_ok-take_piece.ensures.given

pub returns-then-not-branch-clause-drained : goal.returns-then-not-branch-clause-drained
returns-then-not-branch-clause-drained g c =
    let given = gives_on c.pieces.invariant.given c.in_ok-take_piece.ensures.given in
    let end = c.in_ok-take_piece.ensures.drained c.if-not-branch.true in
    on_ok c.finish.result (gives_all given end)

pub returns-in_err-piece-clause-taken : goal.returns-in_err-piece-clause-taken
returns-in_err-piece-clause-taken g c = takes_nothing _ _

pub returns-in_err-take_piece-clause-taken : goal.returns-in_err-take_piece-clause-taken
returns-in_err-take_piece-clause-taken g c =
    takes_on c.pieces.invariant.taken c.in_err-take_piece.ensures.taken

pub returns-then-not-branch-clause-taken : goal.returns-then-not-branch-clause-taken
returns-then-not-branch-clause-taken g c =
    let taken = takes_on c.pieces.invariant.taken c.in_ok-take_piece.ensures.taken in
    takes_on taken c.finish.ensures.taken

pub returns-in_err-take_piece-clause-begun : goal.returns-in_err-take_piece-clause-begun
returns-in_err-take_piece-clause-begun g c =
    if_err_is _ c.from_residual-in_err-take_piece.result c.in_err-take_piece.field-0.0
    c.from_residual-in_err-take_piece.ensures.1
    (c.in_err-take_piece.ensures.begun _ _ c.pieces.invariant.running)

pub returns-in_err-piece-clause-answered : goal.returns-in_err-piece-clause-answered
returns-in_err-piece-clause-answered g c =
    if_err_is _ c.from_residual.result Alloc c.from_residual.ensures.1 (λ is. absurd cc)

pub returns-in_err-take_piece-clause-answered : goal.returns-in_err-take_piece-clause-answered
returns-in_err-take_piece-clause-answered g c =
    if_err_is _ c.from_residual-in_err-take_piece.result c.in_err-take_piece.field-0.0
    c.from_residual-in_err-take_piece.ensures.1
    (λ is. c.in_err-take_piece.ensures.answered is _ _ c.pieces.invariant.running)

pub returns-then-not-branch-clause-answered : goal.returns-then-not-branch-clause-answered
returns-then-not-branch-clause-answered g c =
    let w = g.W.Sink.traffic in
    if_err_then c.finish.result c.finish.ensures.fault
    (why_no_read (w c.take_piece.new.writer) (w c.finish.new.writer))
