-- Finding a first word in two tables, one behind the other.
use Rattle.std.proofs.Common.{◌≡◌, ℕ, List, [], ◌∷◌, ◌++◌, Some, None, inl, inr, refl, sym, ◌∙◌}
use Rattle.std.proofs.lemmas.Bool.{cases_Bool, cond-false, cond-true}
use Rattle.std.proofs.lemmas.Option.{none-some}
use Rattle.std.specs.Str.{bytes_eq}
use Rattle.arc_forms.specs.Reading.{named}
use Rattle.arc_forms.specs.declared.parse.Verb.{Verb}

-- a word that the first one hasn't is looked for in the second
pub named_behind : (word : List ℕ) (front back : List (List ℕ × Verb)) → None ≡ named word front
    → named word back ≡ named word (front ++ back)
named_behind word [] back none = refl
named_behind word (line ∷ front) back none =
    elim (cases_Bool (bytes_eq line.0 word)) [
      | inl is ↦ absurd (none-some line.1 (none ∙ cond-true _ (Some line.1) (named word front) is))
      | inr other ↦
          named_behind word front back (none ∙ cond-false _ (Some line.1) (named word front) other)
          ∙ sym (cond-false _ (Some line.1) (named word (front ++ back)) other)
    ]

-- one that it has is found there
pub named_front : (word : List ℕ) (front back : List (List ℕ × Verb)) (v : Verb)
    → Some v ≡ named word front → Some v ≡ named word (front ++ back)
named_front word [] back v found = absurd (none-some v (sym found))
named_front word (line ∷ front) back v found =
    elim (cases_Bool (bytes_eq line.0 word)) [
      | inl is ↦
          found ∙ cond-true _ (Some line.1) (named word front) is
          ∙ sym (cond-true _ (Some line.1) (named word (front ++ back)) is)
      | inr other ↦
          named_front word front back v
          (found ∙ cond-false _ (Some line.1) (named word front) other)
          ∙ sym (cond-false _ (Some line.1) (named word (front ++ back)) other)
    ]
