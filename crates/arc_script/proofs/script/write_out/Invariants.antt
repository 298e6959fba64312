use Rattle.std.proofs.Common.{◌≡◌, List, ℕ, ◌++◌, length}
use Rattle.arc_script.specs.Traffic.{NoFault, Takes}
use Rattle.arc_script.proofs.script.write_out.Given as goal

-- a front was taken, and the rest is left
abbrev pub invariant-loop-rest : goal.invariant-loop-rest
invariant-loop-rest g l =
    let told = g.W.Sink.traffic in
    let held = g.W.Sink.contents in
    record {
      front : (sent : List ℕ) × (l.bytes ≡ sent ++ l.rest)
          × ((told l.writer).bytes ≡ (told l.fn.writer).bytes ++ sent);
      clean : NoFault (told l.fn.writer) (told l.writer);
      taken : Takes (told l.fn.writer) (told l.writer) (held l.fn.writer) (held l.writer);
    }

abbrev pub decreases-loop-rest : goal.decreases-loop-rest
decreases-loop-rest g l = length l.rest
