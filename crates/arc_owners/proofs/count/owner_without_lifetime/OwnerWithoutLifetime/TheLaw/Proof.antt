-- A `&` to an owner whose share is elsewhere holds its invariant and shares of the right. Assumes
-- `Logic`.
use denote.Param.Shared.{copy_shared}
use denote.Struct.Laws.{field_copy}
use denote.Struct.Lending.{of_Lends}
use denote.RattleType.{RattleType}
use denote.Param.Laws.{Laws}
use Rattle.core.specs.contracts.marker.PhantomData as marker
use Rattle.arc_owners.specs.contracts.count.owner_without_lifetime.OwnerWithoutLifetime as C
use Rattle.arc_owners.proofs.count.Shared.{shown_shr, without_lends}
use Rattle.arc_owners.proofs.count.owner_without_lifetime.OwnerWithoutLifetime.TheLaw.Statement.{statement}

pub shares : (T : RattleType) (L : Laws T) → statement T L
shares T L = of_Lends (C.struct T) (C.the_codes T.Denot T.coded (marker.the_row T).coded)
    (C.the_heap T) (C.the_lent T) (λ d p. shown_shr d.block d.owner d.lease d.born)
    (copy_shared (marker.the_field T) (field_copy (marker.the_type T) tt), tt)
    (λ M 𝓤 𝓛 d p. without_lends 𝓛 d.block d.owner d.lease d.born d.share (C.the_row T).lives)
