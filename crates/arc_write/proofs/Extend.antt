-- Items that were pushed one by one.
use Rattle.std.proofs.Common.{◌≡◌, List, [], ◌∷◌, ◌++◌, refl, subst, ap, ◌∙◌}
use Rattle.std.proofs.lemmas.List.{append_assoc}
use Rattle.arc_write.specs.Extend.{EachOf}

-- what stands behind the items, with one more
pub items_more : {T : Type 0} → (old xs : List T) (x : T) (last new : List T) → last ≡ old ++ xs
    → new ≡ last ++ x ∷ [] → new ≡ old ++ (xs ++ x ∷ [])
items_more old xs x last new is more =
    more ∙ ap (λ ys. ys ++ x ∷ []) is ∙ append_assoc old xs (x ∷ [])

-- one step more behind those that were
pub pushed_more : {T W : Type 0} → (step : T → W → W → Type 0) (xs : List T) (x : T)
    (old last new : W) → EachOf step xs old last → step x last new
    → EachOf step (xs ++ x ∷ []) old new
pushed_more step [] x old last new each one =
    (new, subst (λ w. step x w new) each one, refl)
pushed_more step (y ∷ ys) x old last new each one =
    (each.0, each.1, pushed_more step ys x each.0 last new each.2 one)
