-- A `&` to what is lent for good says all that it does. Assumes `Logic`.
use Rattle.std.proofs.Common.{[]}
use denote.RattleType.{RattleType}
use denote.RawPtr.{RawPtr}
use denote.Param.Laws.{Laws}
use denote.Param.Shared.{copy_shared}
use denote.Struct.Laws.{field_copy}
use denote.Struct.Lending.{of_Lends}
use Rattle.std.specs.contracts.marker.PhantomData as marker
use Rattle.arc_block.specs.contracts.static_slice.StaticShare as C
use Rattle.arc_owners.proofs.LentSlices.{kept_laws, kept_lends}
use Rattle.arc_block.proofs.static_slice.StaticShare.TheLaw.Statement.{statement}

pub shares : (T : RattleType) (L : Laws T) → statement T L
shares T L = of_Lends (C.struct T) (C.the_codes T.Denot T.coded (marker.the_row RawPtr).coded)
    (C.the_heap T) (C.the_lent T) (λ d p. kept_laws T L.shr_laws d.ptr d.items [])
    (copy_shared (marker.the_field RawPtr) (field_copy (marker.the_type RawPtr) tt), tt)
    (λ M 𝓤 𝓛 d p. kept_lends T L.shr_laws d.ptr d.items [] 𝓛 (C.the_row T).lives)
