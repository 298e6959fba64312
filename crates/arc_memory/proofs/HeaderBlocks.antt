-- The block that a piece of memory is, as a machine value. Assumes `Logic`.
-- block_told, block_made what is owned of its fields tells that value, and is made of nothing
use Rattle.std.proofs.Common.{◌≡◌, List, [], ◌∷◌, ◌++◌, refl, ◌∙◌}
use seplogic.Ra.Ura.{Ura}
use mir.Val.{Val, vstruct, vcons, vnil, of_list}
use base.Logic.{ent, emp}
use base.Fml.{Fml}
use types.Logic.{Logic, sem}
use denote.RattleType.{RattleType}
use denote.RawPtr.{Ptr, RawPtr, ptr_val}
use denote.Shadow.{shadow, makes_shadow}
use denote.Struct.Struct.{Struct}
use Rattle.core.specs.contracts.marker.PhantomData as marker

abbrev pub block_val : Ptr → Val
block_val p = vstruct (vcons (ptr_val p) (vcons (vstruct vnil) vnil))

module _ (X : RattleType) (p : Ptr) where
  abbrev pub block_own : List Val → Fml
  block_own = (Struct record {
    name = [];
    args = [];
    types = [];
    fields =
        RawPtr ∷ marker.the_row X ∷ [];
  }).own_val (p, (record {}, tt))

  pub block_told : (vs : List Val) → shadow (block_own vs) → vs ≡ block_val p ∷ []
  block_told vs s = s.1.0 ∙ (λ i. vstruct (of_list (s.1.1.0 i ++ (s.1.1.1.0.1.0 i ++ []))) ∷ [])

  pub block_made : {M : Type 1} {𝓤 : Ura M} (𝓛 : Logic 𝓤)
      → ent 𝓤 (emp 𝓤) (sem 𝓛 (block_own (block_val p ∷ [])))
  block_made 𝓛 = makes_shadow 𝓛 (block_own (block_val p ∷ []))
      (λ vss. (tt, (tt, ((λ uss. (tt, tt)), tt)))) (
        (ptr_val p ∷ [], (vstruct vnil ∷ [], tt)),
        (refl, (refl, ((tt, (refl, tt)), tt))),
      )
