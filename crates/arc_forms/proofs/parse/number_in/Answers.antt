use Rattle.std.proofs.Common.{◌≡◌, ℕ, ◌<◌, arith, length, take, sym, subst, get_or, ◌∙◌, inl, inr}
use Rattle.std.proofs.Common.{Some, ap}
use Rattle.std.specs.Int.{IsInRange}
use Rattle.std.specs.Str.Parse.{digits_value, AllDigits}
use Rattle.std.proofs.lemmas.Int.Digits.{digits_value_more, digits_more}
use Rattle.std.proofs.lemmas.List.{take_all}
use Rattle.std.proofs.lemmas.Bool.{both_ways, eqb-true, eqb-false}
use Rattle.arc_forms.proofs.Words.{number_refused, number_refused_at, number_of_digits}
use Rattle.arc_forms.proofs.Words.{number_so_far, digit_value_is, digit_tested, IsNumberWord}
use Rattle.arc_forms.proofs.parse.number_in.Goals as goal

pub returns-then-is_empty : goal.returns-then-is_empty
returns-then-is_empty c = sym (number_refused c.args.word.now (λ is. elim c.then-is_empty.either [
  | inl empty ↦ omega (arith, is.some, eqb-true _ _ (sym c.is_empty.ensures ∙ empty))
  | inr long ↦ omega (arith, long.1, is.most)
]))

pub returns-then-word-gt1 : goal.returns-then-word-gt1
returns-then-word-gt1 c =
    sym (number_refused c.args.word.now (λ is. let first = is.first in omega arith))

pub returns-then-not-is_ascii_digit : goal.returns-then-not-is_ascii_digit
returns-then-not-is_ascii_digit c =
    sym (number_refused_at c.args.word.now c.loop-byte.byte-index c.loop-byte-test.true
    (λ range. both_ways _ c.if-not-is_ascii_digit.true
    ((digit_tested _ _ c.is_ascii_digit.ensures.value).1 range)))

pub overflow_mul-number : goal.overflow_mul-number
overflow_mul-number c = let below = number_so_far c.args.word.now c.loop-byte.byte-index
    c.loop-byte.invariant.digits c.loop-byte-test.true (omega arith) in omega arith

pub overflow_add-number : goal.overflow_add-number
overflow_add-number c = let below = number_so_far c.args.word.now c.loop-byte.byte-index
    c.loop-byte.invariant.digits c.loop-byte-test.true (omega arith) in omega arith

pub loop-byte-preserved : goal.loop-byte-preserved
loop-byte-preserved c =
    let range : IsInRange 48 57 (get_or c.args.word.now c.loop-byte.byte-index 0) =
    (digit_tested _ _ c.is_ascii_digit.ensures.value).0 c.if-not-is_ascii_digit.false in
    let digit = digit_value_is _ range in
    record {
      digits = digits_more 10 c.args.word.now c.loop-byte.byte-index c.loop-byte-test.true
          c.loop-byte.invariant.digits digit.0;
      value = omega (
        arith,
        digits_value_more 10 c.args.word.now c.loop-byte.byte-index
            c.loop-byte-test.true,
        digit.1,
      );
    }

pub returns : goal.returns
returns c =
    let word = c.args.word.now in
    let all : take c.loop-byte.byte-index word ≡ word = take_all c.loop-byte.byte-index word
    c.loop-byte-test.false in
    let ne = eqb-false _ _ (sym c.is_empty.ensures ∙ c.if-is_empty.false) in
    let some : 0 < length word = omega arith in
    let is : IsNumberWord word = record {
      digits = subst (AllDigits 10) all c.loop-byte.invariant.digits;
      some = some;
      most = c.if-word-gt-MOST_DIGITS.false;
      first = λ zero. elim c.else-word-eq48.either [
        | inl one ↦ omega (arith, some, one.1)
        | inr other ↦ absurd (other zero)
      ];
    } in
    sym (number_of_digits word is ∙ ap (λ (n : ℕ). Some n) (ap (digits_value 10) (sym all)
    ∙ sym c.loop-byte.invariant.value))
