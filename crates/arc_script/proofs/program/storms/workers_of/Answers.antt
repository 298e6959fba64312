-- There are two words, and the second one was read as a number.
use Rattle.std.proofs.Common.{◌≡◌, ℕ, Bool, true, false, not, List, [], ◌∷◌, map, Option, refl}
use Rattle.std.proofs.Common.{string_bytes, subst, sym, ◌∙◌, arith}
use Rattle.std.specs.Prelude.{codes}
use Rattle.std.specs.Str.{bytes_eq}
use Rattle.std.proofs.lemmas.Slice.Eq.{bytes_eq-Decides}
use Rattle.arc_forms.specs.Reading.{number_of}
use Rattle.arc_script.proofs.Storms.{two_texts, no_number, same_number, asks_for_storm}
use Rattle.arc_script.proofs.program.storms.workers_of.Goals.{After-number_in}
use Rattle.arc_script.proofs.program.storms.workers_of.Goals as goal

-- what was read of the second word's bytes
read-as : (found : Option ℕ) (bytes text : List ℕ) → found ≡ number_of bytes → bytes ≡ text
    → number_of text ≡ found
read-as found bytes text read same = sym (subst (λ b. found ≡ number_of b) same read)

-- the first word isn't another one
is-named : (differs : Bool) (text name word : List ℕ) → differs ≡ not (bytes_eq text name)
    → differs ≡ false → text ≡ word → word ≡ name
is-named differs text name word told passed same =
    sym same ∙ (bytes_eq-Decides text name).0 (equal (bytes_eq text name) (sym told ∙ passed))
  where
    equal : (b : Bool) → not b ≡ false → b ≡ true
    equal true e = refl
    equal false e = cc

module _ (c : After-number_in) where
  -- the words' texts
  texts : map string_bytes c.args.words.now
      ≡ string_bytes c.word-item.result ∷ string_bytes c.number-item.result ∷ []
  texts =
      two_texts c.args.words.now c.word-item.result c.number-item.result c.in-len2.len_at_least
      c.in-len2.len_below c.word-item.is c.number-item.is

  -- the number that the second one says
  read : number_of (string_bytes c.number-item.result) ≡ c.number_in.result
  read =
      read-as c.number_in.result c.as_bytes.result.now (string_bytes c.number-item.result)
      c.number_in.ensures c.as_bytes.ensures.value

pub returns-in_default-number_in : goal.returns-in_default-number_in
returns-in_default-number_in c =
    let told = (goal.at.returns-in_default-number_in c).After-number_in in
    no_number c.args.words.now (string_bytes c.word-item.result)
    (string_bytes c.number-item.result) (texts told) (read told ∙ c.in_default-number_in.is)

pub returns-then-workers-lt1 : goal.returns-then-workers-lt1
returns-then-workers-lt1 c workers asks =
    let told = (goal.at.returns-then-workers-lt1 c).After-number_in in
    let same = same_number c.args.words.now (string_bytes c.word-item.result)
    (string_bytes c.number-item.result) c.in-Some.workers workers (texts told)
    (read told ∙ c.in-Some.is) asks in
    absurd (omega (arith, same, asks.some, c.if-workers-lt1.true))

pub returns-then-workers-gt-MOST_WORKERS : goal.returns-then-workers-gt-MOST_WORKERS
returns-then-workers-gt-MOST_WORKERS c workers asks =
    let told = (goal.at.returns-then-workers-gt-MOST_WORKERS c).After-number_in in
    let same = same_number c.args.words.now (string_bytes c.word-item.result)
    (string_bytes c.number-item.result) c.in-Some.workers workers (texts told)
    (read told ∙ c.in-Some.is) asks in
    absurd (omega (arith, same, asks.most, c.if-workers-gt-MOST_WORKERS.true))

pub returns : goal.returns
returns c =
    let told = (goal.at.returns c).After-number_in in
    asks_for_storm c.args.words.now (string_bytes c.word-item.result)
    (string_bytes c.number-item.result) c.in-Some.workers (texts told)
    (is-named c.ne.result c.as_str.result.now (codes "storm") (string_bytes c.word-item.result)
    c.ne.ensures c.if-ne.false c.as_str.ensures.value)
    (read told ∙ c.in-Some.is) c.if-workers-lt1.false c.if-workers-gt-MOST_WORKERS.false
