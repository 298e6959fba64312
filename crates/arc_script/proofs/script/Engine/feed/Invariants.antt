use Rattle.std.proofs.Common.{◌≡◌, ◌<◌, List, ℕ, ◌++◌, length}
use Rattle.arc_script.specs.Traffic.{NoFault, Takes}
use Rattle.arc_script.specs.Engine.{Reads}
use Rattle.arc_script.specs.declared.script.TheConstants.{PIECE}
use Rattle.arc_script.proofs.script.Engine.feed.Given as goal

-- a front of the piece was read, and the rest is left
abbrev pub invariant-lines : goal.invariant-lines
invariant-lines g l =
    let told = g.W.Sink.traffic in
    let held = g.W.Sink.contents in
    record {
      front :
          (front : List ℕ) × (l.piece ≡ front ++ l.rest)
          × Reads g.L.NamedLayout.named front (told l.fn.writer) (told l.writer) l.fn.self l.self;
      few : length l.fn.self.out.items < PIECE → length l.self.out.items < PIECE;
      clean : NoFault (told l.fn.writer) (told l.writer);
      taken : Takes (told l.fn.writer) (told l.writer) (held l.fn.writer) (held l.writer);
    }

abbrev pub decreases-lines : goal.decreases-lines
decreases-lines g l = length l.rest
