-- The program ran on the words that it was given.
use Rattle.std.proofs.Common.{inl, map, string_bytes, subst, sym}
use Rattle.arc_script.specs.Arguments.{AreWords}
use Rattle.arc_script.specs.declared.program.TheConstants.{WORD}
use Rattle.arc_script.proofs.program.start.Goals as goal

pub returns-in-Ok-clause-ran : goal.returns-in-Ok-clause-ran
returns-in-Ok-clause-ran g c =
    let words = subst (λ words. AreWords
    (λ i. g.G.Arguments.answers c.args.given.now i WORD) (map string_bytes words))
    (sym c.deref.ensures.value) c.in-Ok.ensures in
    inl (
      c.deref.result.now,
      words,
      record {
        script = c.run_args.ensures.script;
        storm = c.run_args.ensures.storm;
        usage = c.run_args.ensures.usage;
      },
    )
