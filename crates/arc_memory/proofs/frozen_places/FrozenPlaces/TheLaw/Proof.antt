-- A `&` to a frozen range says all that the range does. Assumes `Logic`.
use denote.RattleType.{RattleType}
use denote.Param.Laws.{Laws}
use denote.Param.Shared.{copy_shared}
use denote.Struct.Laws.{field_copy}
use denote.Struct.Lending.{of_Lends}
use Rattle.core.specs.contracts.marker.PhantomData as marker
use Rattle.logbook.proofs.Fields.{lends_twice}
use Rattle.arc_memory.specs.LentMemory.{frozen_owns}
use Rattle.arc_memory.proofs.Frozen.{owned_twice, owned_shr}
use Rattle.arc_memory.specs.contracts.frozen_places.FrozenPlaces as C
use Rattle.arc_memory.proofs.frozen_places.FrozenPlaces.TheLaw.Statement.{statement}

pub shares : (T : RattleType) (L : Laws T) → statement T L
shares T L = of_Lends (C.struct T) (C.the_codes T.Denot T.coded (marker.the_row T).coded)
    (C.the_heap T) (C.the_lent T) (λ d p. owned_shr T L d.memory d.start d.items)
    (copy_shared (marker.the_field T) (field_copy (marker.the_type T) tt), tt)
    (λ M 𝓤 𝓛 d p. lends_twice 𝓛 (frozen_owns T d.memory d.start d.items)
    (owned_twice T L d.memory d.start d.items 𝓛) (C.the_row T).lives)
