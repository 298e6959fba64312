-- A struct with no fields is made of nothing.
use Rattle.std.proofs.Common.{List, [], ◌∷◌, refl}
use seplogic.Ra.Ura.{Ura}
use mir.Val.{Val, vstruct, vnil}
use types.Logic.{Logic}
use types.Kit.{Goal, Step, step, Item, ‵, ◌$◌, fjoin, fpack, feq_i}
use denote.RattleType.{RattleType, Valss}
use denote.Steps.{nothing}
use denote.Struct.Struct.{Struct, within}

-- the machine's value of it
abbrev pub no_fields : Val
no_fields = vstruct vnil

abbrev pub fieldless : RattleType
fieldless = Struct (record { name = []; args = []; types = []; fields = [] })

-- what it owns, added to what is owned
pub made_of_nothing : {M : Type 1} {𝓤 : Ura M} {𝓛 : Logic 𝓤} {K : Type 0} {Γ : List (Item 𝓤)}
    {G : Goal 𝓤 𝓛.H} → K → Step K 𝓛 (‵ (fieldless.own_val tt (no_fields ∷ [])) ∷ Γ) G Γ G
made_of_nothing at = step (λ rest.
    nothing at $ feq_i at (List Val) (no_fields ∷ []) (no_fields ∷ []) refl $ fjoin at $
    fpack at (Valss []) (within (record { name = []; args = []; types = []; fields = [] }) tt
    (no_fields ∷ [])) tt $ rest)
