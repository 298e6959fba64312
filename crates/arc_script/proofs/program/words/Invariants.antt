use Rattle.std.proofs.Common.{◌≡◌, ◌+◌, map, string_bytes}
use Rattle.std.specs.Vec.{vec_len}
use Rattle.arc_script.specs.Arguments.{WordsFrom}
use Rattle.arc_script.specs.declared.program.TheConstants.{WORD}
use Rattle.arc_script.proofs.program.words.Given as goal

-- so many words were read, one of each argument
abbrev pub invariant-words : goal.invariant-words
invariant-words g l = record {
  number : l.i ≡ vec_len l.words + 1;
  each : WordsFrom (λ i. g.G.Arguments.answers l.given i WORD) 1 (map string_bytes l.words.items);
}
