-- A function whose code is one call of the machine, whose number it answers. What it brings to the
-- call, and what it has afterwards, is then said without its code. Assumes `Logic`.
use Rattle.std.proofs.Common.{◌≡◌, ℕ, ◌^◌, ◌<◌, List, [], ◌∷◌, refl, sym, w64}
use seplogic.Ra.Ura.{Ura}
use mir.Syntax.{Fn, Callee, Place}
use mir.Val.{Val, vint}
use base.Logic.{SProp, via}
use base.Fml.{Fml}
use prog.Model.{Model}
use prog.Wp.{Env, WpFn}
use types.Logic.{Logic}
use types.Kit.{Item, Seq, Post, settles, upd, pop, push, ‵, raw, some, given, later, mean, ⋆, ◌$◌}
use types.Kit.{◌∵◌, !, qed, by, updating, await, now, pick, learn, show, check, regoal, done, use2}
use contract.Running.{Running, MachineTables, tables}
use Rattle.std.proofs.raw_atomic.Calls.{fm, found}
use Rattle.arc_owners.proofs.count.Signs.{signs}

module _ {M : Type 1} {𝓤 : Ura M} (𝓛 : Logic 𝓤) where
  open signs 𝓛 use {Pr}

  -- a number is answered, of which the postcondition holds
  abbrev pub number_at : (Val → Pr) → Val → Item 𝓤
  number_at P v = later (some (λ (n : ℕ). given ((vint w64 n ≡ v) × (n < 2 ^ 64))
      (raw (P (vint w64 n)))))

module _ {M : Type 1} {𝓤 : Ura M} {𝓛 : Logic 𝓤} {K : Type 0} {Γ : List (Item 𝓤)}
    {E : Env 𝓤 𝓛.H} {d : Place} {q : Post 𝓤 𝓛.H} {v : Val} where
  -- after `Calls-last`
  pub takes_number : K → (P : Val → SProp 𝓤)
      → ((n : ℕ) → n < 2 ^ 64 → Seq K 𝓛 (raw (P (vint w64 n)) ∷ Γ) (settles E d (vint w64 n) q))
      → Seq K 𝓛 (number_at 𝓛 P v ∷ Γ) (settles E d v q)
  takes_number t P k = await t tt $ pick t (λ n. learn t (λ e.
      regoal t (λ (u : Val). settles E d u q) (sym e.0) refl $ k n e.1))

module _ {M : Type 1} {𝓤 : Ura M} (𝓛 : Logic 𝓤) (𝓜 : Model 𝓤 𝓛.H) (𝓡 : Running 𝓤 𝓛.H 𝓜) where
  open 𝓛 use {H}
  open signs 𝓛 use {Pr, ◌⊢◌, ◌∗◌}

  infix 26 ◌⊢◌
  infixr 35 ◌∗◌
  abbrev 𝓣 : MachineTables 𝓤 H 𝓜
  𝓣 = tables 𝓤 H 𝓜 𝓡 𝓡.env

  -- the call answers a number, and then this is there
  abbrev pub Answers : Callee → List Val → (ℕ → Fml) → Pr
  Answers k vs out = 𝓣.C k vs (λ v. mean 𝓛 (found out v))

  abbrev pub Ends_at : Callee → List Val → (Val → Pr) → Pr
  Ends_at k vs P = 𝓣.C k vs (λ v. mean 𝓛 (number_at 𝓛 P v))

  -- the code is this call, whose number it answers
  abbrev pub IsCall : Fn → List Val → Callee → List Val → Type 2
  IsCall fn args k vs = (P : Val → Pr) → H.⇛ (Ends_at k vs P) ⊢ WpFn 𝓤 H 𝓣.C 𝓣.Λ fn args P

  module _ {K : Type 0} {Γ : List (Item 𝓤)} where
    -- what is there beside the call is there after it
    pub after_call : K → (k : Callee) (vs : List Val) (out : ℕ → Fml) (P : Val → Pr)
        → ((n : ℕ) → n < 2 ^ 64 → Seq K 𝓛 (‵ (out n) ∷ Γ) (upd (P (vint w64 n))))
        → Seq K 𝓛 (raw (Answers k vs out) ∷ Γ) (upd (Ends_at k vs P))
    after_call t k vs out P ends = now t $ by t (via 𝓤 (Answers k vs out ∗ ⋆ 𝓛 Γ)
        (pop 𝓛 (raw (Answers k vs out)) Γ)
        (fm 𝓛 𝓜 𝓡 k vs (λ v. mean 𝓛 (found out v)) (λ v. mean 𝓛 (number_at 𝓛 P v)) (⋆ 𝓛 Γ) (λ v.
        qed 𝓛 (found out v ∷ raw (⋆ 𝓛 Γ) ∷ []) ∵ updating ! $ await ! tt $
        pick ! (λ n. learn ! (λ e. use2 𝓛 (later (raw (P (vint w64 n))))
        (via 𝓤 (⋆ 𝓛 (‵ (out n) ∷ Γ)) (push 𝓛 (‵ (out n)) Γ) (ends n e.1).prf) $ await ! tt $
        now ! $
        show ! (λ (m : ℕ). mean 𝓛 (given ((vint w64 m ≡ v) × (m < 2 ^ 64)) (raw (P (vint w64 m)))))
        n $ check ! e $ done !)))))
