-- What can be had twice is all that a `&` to it has, at each lifetime. Assumes `Logic`.
use seplogic.Ra.Ura.{Ura}
use base.Logic.{ent, sep, snd∗}
use base.Fml.{Fml}
use base.Before.{before}
use types.Logic.{Logic, sem}
use denote.Sharing.{ShrLaws, said}

pub twice_shr : (P : Fml)
    → ((M : Type 1) (𝓤 : Ura M) (𝓛 : Logic 𝓤) → ent 𝓤 (sem 𝓛 P) (sep 𝓤 (sem 𝓛 P) (sem 𝓛 P)))
    → ShrLaws (said P)
twice_shr P twice = record {
  contraction = λ M 𝓤 𝓛 κ. twice M 𝓤 𝓛;
  mono = λ M 𝓤 𝓛 κ' κ. snd∗ 𝓤 (sem 𝓛 (before κ' κ)) (sem 𝓛 P);
}
