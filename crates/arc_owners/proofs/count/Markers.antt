-- What walks over types without bytes share. Assumes `Logic`.
--     marked      a struct with no bytes that owns it
--     told        facts that a walk tells at its end
use Rattle.std.proofs.Common.{List, [], ◌∷◌}
use seplogic.Ra.Ura.{Ura}
use base.Logic.{SProp, ent, sep, emp}
use base.Fml.{Fml, fsep}
use contract.Monad.{fact, fact_i}
use denote.RattleType.{RattleType}
use types.Logic.{Logic}
use types.Kit.{Goal, Step, step, Item, ‵, raw, ◌$◌, ◌∵◌, !, qed, use0, fjoin, done}
use Rattle.logbook.proofs.Fields.{token, Token, token_made}

pub told : {M : Type 1} (𝓤 : Ura M) {F : Type 0} {P : SProp 𝓤} → F → ent 𝓤 (emp 𝓤) P
    → (𝓛 : Logic 𝓤) → ent 𝓤 (emp 𝓤) (sep 𝓤 (fact 𝓤 F) P)
told 𝓤 {F} {P} known more 𝓛 = qed 𝓛 [] ∵ use0 𝓛 (raw P) more $
    use0 𝓛 (raw (fact 𝓤 F)) (fact_i 𝓤 F (emp 𝓤) known) $ done !

module _ (X : RattleType) {M : Type 1} {𝓤 : Ura M} {𝓛 : Logic 𝓤} {K : Type 0} {Γ : List (Item 𝓤)}
    {G : Goal 𝓤 𝓛.H} where
  pub marked : K → {P : Fml}
      → Step K 𝓛 (‵ (fsep ((Token X).own_val (record {}, tt) (token ∷ [])) P) ∷ Γ) G (‵ P ∷ Γ) G
  marked t {P} = step (λ s.
      use0 𝓛 (‵ ((Token X).own_val (record {}, tt) (token ∷ []))) (token_made X 𝓛) $ fjoin t $ s)
