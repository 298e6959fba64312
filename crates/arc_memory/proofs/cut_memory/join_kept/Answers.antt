-- Places are full, or none are behind them.
use Rattle.std.proofs.Common.{◌≡◌, ℕ, ◌<◌, ◌≤◌, ◌⊎◌, List, [], ◌∷◌, length, refl, arith, inl, inr}
use Rattle.std.proofs.Common.{nat_lt, Bool, true, false}
use Rattle.std.proofs.lemmas.Bool.{ltb-true, ltb-false}
use Rattle.arc_memory.proofs.cut_memory.join_kept.Goals as goal

nothing : {T : Type 0} (ys : List T) → length ys ≡ 0 → ys ≡ []
nothing [] none = refl
nothing (y ∷ ys) none = absurd (omega (arith, none))

full-or-last : {T : Type 0} (xs ys : List T) (count behind : ℕ) → length xs ≤ count
    → length ys ≤ behind → (length xs < count → behind ≡ 0) → (b : Bool)
    → nat_lt (length xs) count ≡ b → (length xs ≡ count) ⊎ (ys ≡ [])
full-or-last xs ys count behind within few last true less =
    inr (nothing ys (omega (arith, few, last (ltb-true (length xs) count less))))
full-or-last xs ys count behind within few last false more =
    inl (omega (arith, within, ltb-false (length xs) count more))

pub join-requires-clause-full : goal.join-requires-clause-full
join-requires-clause-full g c =
    let front = c.args.front in let back = c.args.back in
    full-or-last front.items back.items front.count back.count front.inside.1 back.inside.1
    c.requires.full (nat_lt (length front.items) front.count) refl
