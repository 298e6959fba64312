-- The room for a header is its place, as a machine value. Assumes `Logic`.
--     room_told, room_made      what is owned of its field tells that value, and is made of nothing
use Rattle.std.proofs.Common.{◌≡◌, List, [], ◌∷◌, ◌++◌, refl, ◌∙◌}
use seplogic.Ra.Ura.{Ura}
use mir.Val.{Val, vstruct, vcons, vnil, of_list}
use base.Logic.{ent, emp}
use base.Fml.{Fml}
use types.Logic.{Logic, sem}
use denote.RawPtr.{Ptr, RawPtr, ptr_val}
use denote.Shadow.{shadow, makes_shadow}
use denote.Struct.Struct.{Struct}

abbrev pub room_val : Ptr → Val
room_val p = vstruct (vcons (ptr_val p) vnil)

module _ (p : Ptr) where
  abbrev pub room_own : List Val → Fml
  room_own = (Struct record { name = []; args = []; types = []; fields = RawPtr ∷ [] }).own_val
      (p, tt)

  pub room_told : (vs : List Val) → shadow (room_own vs) → vs ≡ room_val p ∷ []
  room_told vs s = s.1.0 ∙ (λ i. vstruct (of_list (s.1.1.0 i ++ [])) ∷ [])

  pub room_made : {M : Type 1} {𝓤 : Ura M} (𝓛 : Logic 𝓤)
      → ent 𝓤 (emp 𝓤) (sem 𝓛 (room_own (room_val p ∷ [])))
  room_made 𝓛 = makes_shadow 𝓛 (room_own (room_val p ∷ [])) (λ vss. (tt, (tt, tt)))
      ((ptr_val p ∷ [], tt), (refl, (refl, tt)))
