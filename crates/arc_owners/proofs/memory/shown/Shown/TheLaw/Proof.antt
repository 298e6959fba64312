-- A `&` to what is shown says all that it does. Assumes `Logic`.
use denote.RattleType.{RattleType}
use denote.Param.Laws.{Laws}
use denote.Param.Shared.{copy_shared}
use denote.Struct.Laws.{field_copy}
use denote.Struct.Lending.{of_Lends}
use Rattle.core.specs.contracts.marker.PhantomData as marker
use Rattle.arc_owners.specs.contracts.memory.shown.Shown as C
use Rattle.arc_owners.specs.memory.LentSlices.{shown_for}
use Rattle.arc_owners.proofs.memory.LentSlices.{kept_laws, kept_lends}
use Rattle.arc_owners.proofs.memory.ShownSlices.{Marks}
use Rattle.arc_owners.proofs.memory.shown.Shown.TheLaw.Statement.{statement}

pub shares : (T V : RattleType) (L : Laws T) (K : Laws V) → statement T V L K
shares T V L K =
    of_Lends (C.struct T V) (C.the_codes T.Denot V.Denot T.coded V.coded
    (marker.the_row Marks).coded) (C.the_heap T V) (C.the_lent T V) (λ d p. kept_laws T L.shr_laws
    d.at d.items (shown_for T V d.lifetime))
    (copy_shared (marker.the_field Marks) (field_copy (marker.the_type Marks) tt), tt)
    (λ M 𝓤 𝓛 d p. kept_lends T L.shr_laws d.at d.items (shown_for T V d.lifetime) 𝓛
    (C.the_row T V).lives)
