-- Zeros that a window was made of are legal.
use Rattle.std.proofs.Common.{◌≡◌, ℕ, zero, suc, Bool, List, replicate, refl, sym, ap, subst, arith}
use Rattle.arc_owners.specs.declared.count.tokens.Pass.{Pass}
use Rattle.arc_parts.specs.Window.{PartsView}
use Rattle.arc_parts.specs.Writers.{MakesWriter}

-- they are the items of the window, also where there are none
zeros-made : {T M H : Type 0} → (drops one_pass : Bool) (z : T) (n : ℕ) (w : PartsView T M)
    (before after : Pass H)
    → MakesWriter drops one_pass (replicate n z) n w before after → w.items ≡ replicate n z
zeros-made drops one_pass z zero w before after m = ap (λ v. v.items) (m.idle refl).0
zeros-made drops one_pass z (suc n) w before after m =
    let new = m.new (omega arith) in ap (λ v. v.items) new.made

pub zeros_legal : {T M H : Type 0} → (legal : List T → Type 0) (drops one_pass : Bool) (z : T)
    (n : ℕ) (w : PartsView T M) (before after : Pass H)
    → MakesWriter drops one_pass (replicate n z) n w before after → legal (replicate n z)
    → ∥ legal w.items ∥₁
zeros_legal legal drops one_pass z n w before after m l =
    ∣ subst legal (sym (zeros-made drops one_pass z n w before after m)) l ∣₁
