-- A `&` to a pass holds what it knows. Assumes `Logic`.
use denote.Param.Shared.{copy_shared}
use denote.Struct.Laws.{field_copy}
use denote.Struct.Lending.{of_Lends}
use denote.Builtin.{unit}
use Rattle.core.specs.contracts.marker.PhantomData as marker
use Rattle.arc_owners.specs.contracts.count.word.PassState as C
use Rattle.arc_owners.proofs.count.Shared.{trace_shr, trace_lends}
use Rattle.arc_owners.proofs.count.word.PassState.TheLaw.Statement.{statement}

pub shares : statement
shares = of_Lends C.struct (C.the_codes (marker.the_row unit).coded) C.the_heap C.the_lent
    (λ d p. trace_shr d.bound d.block d.lines)
    (copy_shared (marker.the_field unit) (field_copy (marker.the_type unit) tt), tt)
    (λ M 𝓤 𝓛 d p. trace_lends 𝓛 d.block d.bound d.number d.ready d.lines C.the_row.lives)
