use Rattle.std.proofs.Common.{◌≡◌, vec_len}
use Rattle.arc_script.specs.Traffic.{Gives, Takes}
use Rattle.arc_script.specs.Engine.{IsRunning}
use Rattle.arc_script.specs.declared.script.TheConstants.{PIECE}
use Rattle.arc_script.proofs.script.Engine.run.Given as goal

-- the engine has read all that the reader gave, and no call went wrong
abbrev pub invariant-pieces : goal.invariant-pieces
invariant-pieces g l =
    let given = g.R.Source.traffic in
    let told = g.W.Sink.traffic in
    let left = g.R.Source.remaining in
    let held = g.W.Sink.contents in
    record {
      running :
          IsRunning g.L.NamedLayout.named (given l.fn.reader) (given l.reader) (told l.fn.writer)
          (told l.writer) l.self;
      empties : (given l.reader).empties ≡ (given l.fn.reader).empties;
      given : Gives (given l.fn.reader) (given l.reader) (left l.fn.reader) (left l.reader);
      taken : Takes (told l.fn.writer) (told l.writer) (held l.fn.writer) (held l.writer);
      room : vec_len l.piece ≡ PIECE;
    }
