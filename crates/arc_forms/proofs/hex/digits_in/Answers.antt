-- A word of hex digits has an even number of bytes, and a dash has one.
use Rattle.std.proofs.Common.{◌≡◌, ◌%◌, ◌∙◌, arith, ap, length, sym}
use Rattle.std.proofs.lemmas.Bool.{both_ways, eqb-true, eqb-false}
use Rattle.std.proofs.lemmas.Slice.Eq.{bytes_eq-Decides}
use Rattle.arc_forms.proofs.Words.{items_refused, items_of_digits}
use Rattle.arc_forms.proofs.hex.digits_in.Goals as goal
use Rattle.arc_forms.proofs.hex.digits_in.Goals.{then-is_empty-via-then-is_empty}
use Rattle.arc_forms.proofs.hex.digits_in.Goals.{then-is_empty-via-else-is_empty+then-not-are_digits}

pub returns-then-word-ne0 : goal.returns-then-word-ne0
returns-then-word-ne0 c = sym (items_refused c.args.word.now
    (λ dash. both_ways c.eq.result c.if-eq.false (c.eq.ensures
    ∙ (bytes_eq-Decides c.args.word.now c.as_slice.result.now).1
    (dash ∙ sym c.as_slice.ensures)))
    (λ is. c.if-word-ne0.true is.even))

pub returns-then-is_empty : goal.returns-then-is_empty
returns-then-is_empty c = sym (items_refused c.args.word.now
    (λ dash.
    let one : length c.args.word.now % 2 ≡ 1 = ap (λ word. length word % 2) dash in
    let even = c.if-word-ne0.false in
    absurd (omega (arith, one, even)))
    (λ is. elim c.then-is_empty.branch [
      | then-is_empty-via-then-is_empty w ↦
          omega (arith, is.some, eqb-true _ _ (sym c.is_empty.ensures ∙ w.if-is_empty.true))
      | then-is_empty-via-else-is_empty+then-not-are_digits w ↦
          both_ways _ w.if-not-are_digits.true (w.are_digits.ensures ∙ is.digits)
    ]))

pub returns : goal.returns
returns c = sym (items_of_digits c.args.word.now (record {
  digits = sym c.are_digits.ensures ∙ c.if-not-are_digits.false;
  some = (let ne = eqb-false _ _ (sym c.is_empty.ensures ∙ c.if-is_empty.false) in omega arith);
  even = c.if-word-ne0.false;
}))
