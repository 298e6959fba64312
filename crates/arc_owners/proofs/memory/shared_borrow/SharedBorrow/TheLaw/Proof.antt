-- A `&` to a loan says all that the loan does. Assumes `Logic`.
use denote.RattleType.{RattleType}
use denote.Param.Laws.{Laws}
use denote.Param.Shared.{copy_shared}
use denote.Struct.Laws.{field_copy}
use denote.Struct.Lending.{of_Lends}
use Rattle.core.specs.contracts.marker.PhantomData as marker
use Rattle.arc_owners.specs.contracts.memory.shared_borrow.SharedBorrow as C
use Rattle.arc_owners.proofs.memory.Borrows.{loan_shr, loan_lends}
use Rattle.arc_owners.proofs.memory.shared_borrow.SharedBorrow.TheLaw.Statement.{statement}

pub shares : (T : RattleType) (L : Laws T) → statement T L
shares T L = of_Lends (C.struct T) (C.the_codes T.Denot T.coded (marker.the_row T).coded)
    (C.the_heap T) (C.the_lent T) (λ d p. loan_shr T L d.at d.value d.lifetime)
    (copy_shared (marker.the_field T) (field_copy (marker.the_type T) tt), tt)
    (λ M 𝓤 𝓛 d p. loan_lends T L d.at d.value d.lifetime 𝓛 (C.the_row T).lives)
