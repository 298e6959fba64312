use Rattle.std.proofs.Common.{◌∙◌, arith, sym}
use Rattle.std.proofs.lemmas.Bool.{both_ways}
use Rattle.arc_forms.proofs.Words.{byte_of_digits, byte_refused, two_digits}
use Rattle.arc_forms.proofs.hex.byte_in.Goals as goal

pub returns-then-not-are_digits : goal.returns-then-not-are_digits
returns-then-not-are_digits c =
    sym (byte_refused c.args.word.now (omega arith) (λ digits. both_ways _ c.if-not-are_digits.true
    (c.are_digits.ensures ∙ digits)))

pub value_of-requires : goal.value_of-requires
value_of-requires c =
    (two_digits c.args.word.now c.in-len2.len_at_least (sym c.are_digits.ensures
    ∙ c.if-not-are_digits.false)).high

pub value_of-requires-2 : goal.value_of-requires-2
value_of-requires-2 c =
    (two_digits c.args.word.now c.in-len2.len_at_least (sym c.are_digits.ensures
    ∙ c.if-not-are_digits.false)).low

pub returns : goal.returns
returns c =
    rw (c.value_of.ensures.value, c.value_of-2.ensures.value)
    (sym (byte_of_digits c.args.word.now (omega arith) (sym c.are_digits.ensures
    ∙ c.if-not-are_digits.false)))
