-- Runs one after another.
use Rattle.std.proofs.Common.{List, [], ◌∷◌, ◌++◌, map, refl, sym, ap, subst}
use Rattle.std.proofs.lemmas.List.{map-append}
use Rattle.arc_commands.specs.RunOf.{RunOf}

-- a run, and a run from where it ends
pub run_append : {S A B : Type 0} (step : S → A → B → S → Type 0) (old : S) (xs : List A)
    (us : List B) (mid : S) (ys : List A) (vs : List B) (new : S) → RunOf step old xs us mid
    → RunOf step mid ys vs new → RunOf step old (xs ++ ys) (us ++ vs) new
run_append step old [] [] mid ys vs new one other =
    subst (λ s. RunOf step s ys vs new) one other
run_append step old (x ∷ xs) (u ∷ us) mid ys vs new one other =
    (one.0, one.1, run_append step one.0 xs us mid ys vs new one.2 other)
run_append step old [] (u ∷ us) mid ys vs new one other = absurd one
run_append step old (x ∷ xs) [] mid ys vs new one other = absurd one

-- a run, and one step more
pub run_push : {S A B : Type 0} (step : S → A → B → S → Type 0) (old : S) (xs : List A)
    (us : List B) (mid : S) (x : A) (u : B) (new : S) → RunOf step old xs us mid
    → step mid x u new → RunOf step old (xs ++ x ∷ []) (us ++ u ∷ []) new
run_push step old xs us mid x u new one last =
    run_append step old xs us mid (x ∷ []) (u ∷ []) new one (new, last, refl)

-- the same, of inputs and outputs as they are seen by f and g
pub run_push_seen : {S X Y A B : Type 0} (step : S → A → B → S → Type 0) (f : X → A) (g : Y → B)
    (old : S) (xs : List X) (us : List Y) (mid : S) (x : X) (u : Y) (new : S)
    → RunOf step old (map f xs) (map g us) mid → step mid (f x) (g u) new
    → RunOf step old (map f (xs ++ x ∷ [])) (map g (us ++ u ∷ [])) new
run_push_seen step f g old xs us mid x u new one last =
    subst (λ cs. RunOf step old cs (map g (us ++ u ∷ [])) new) (sym (map-append f xs (x ∷ [])))
    (subst (λ rs. RunOf step old (map f xs ++ f x ∷ []) rs new) (sym (map-append g us (u ∷ [])))
    (run_push step old (map f xs) (map g us) mid (f x) (g u) new one last))

-- a run, as its states are seen by f
pub run_seen : {S T A B : Type 0} (step : S → A → B → S → Type 0)
    (seen : T → A → B → T → Type 0) (f : S → T)
    → ((old : S) (x : A) (u : B) (new : S) → step old x u new → seen (f old) x u (f new))
    → (old : S) (xs : List A) (us : List B) (new : S)
    → RunOf step old xs us new → RunOf seen (f old) xs us (f new)
run_seen step seen f each old [] [] new run = ap f run
run_seen step seen f each old (x ∷ xs) (u ∷ us) new run = (
  f run.0,
  each old x u run.0 run.1,
  run_seen step seen f each run.0 xs us new run.2,
)
run_seen step seen f each old [] (u ∷ us) new run = absurd run
run_seen step seen f each old (x ∷ xs) [] new run = absurd run
