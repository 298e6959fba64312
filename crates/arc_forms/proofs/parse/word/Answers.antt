use Rattle.std.proofs.Common.{arith}
use Rattle.arc_forms.proofs.Words.{words_at_end, words_at_space}
use Rattle.arc_forms.proofs.parse.word.Goals as goal

pub returns-then-line-i-eq32 : goal.returns-then-line-i-eq32
returns-then-line-i-eq32 c = words_at_space c.args.line.now c.loop-i.i c.loop-i-test.true
    c.loop-i.invariant c.if-line-i-eq32.true

pub returns : goal.returns
returns c = words_at_end c.args.line.now (λ k below. c.loop-i.invariant k (omega arith))
