-- Runs of a step relation.
use Rattle.std.specs.Prelude.{◌≡◌, List, [], ◌∷◌}

-- from old, one step after another leads to new: each input is answered by the output at its place
abbrev pub RunOf : {S A B : Type 0} → (S → A → B → S → Type 0) → S → List A → List B → S → Type 0
RunOf step old [] [] new = new ≡ old
RunOf {S} step old (input ∷ inputs) (output ∷ outputs) new = (between : S)
    × step old input output between × RunOf step between inputs outputs new
RunOf step old [] (output ∷ outputs) new = ⊥
RunOf step old (input ∷ inputs) [] new = ⊥
