-- The signs in which lemmas on assertions are stated: what follows, what is had beside what, and
-- what a formula means. Assumes nothing.
use seplogic.Ra.Ura.{Ura}
use base.Logic.{SProp, ent, sep, wand}
use base.Fml.{Fml}
use types.Logic.{Logic, sem}

pub record Signs : Type 3 where
  pub Pr : Type 2
  pub ◌⊢◌ : Pr → Pr → Type 1
  pub ◌∗◌ : Pr → Pr → Pr
  pub ◌-∗◌ : Pr → Pr → Pr
  pub ⟦◌⟧ : Fml → Pr

abbrev pub signs : {M : Type 1} {𝓤 : Ura M} → Logic 𝓤 → Signs
signs {𝓤 = 𝓤} 𝓛 = record {
  Pr = SProp 𝓤;
  ◌⊢◌ = λ P Q. ent 𝓤 P Q;
  ◌∗◌ = λ P Q. sep 𝓤 P Q;
  ◌-∗◌ = λ P Q. wand 𝓤 P Q;
  ⟦◌⟧ = λ P. sem 𝓛 P;
}
