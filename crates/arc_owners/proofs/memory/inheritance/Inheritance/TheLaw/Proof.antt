-- A `&` to what is kept says all that it does. Assumes `Logic`.
use Rattle.std.proofs.Common.{[], ◌∷◌}
use base.Fml.{Fml}
use denote.RattleType.{RattleType}
use denote.Param.Laws.{Laws}
use denote.Param.Shared.{copy_shared}
use denote.Struct.Laws.{field_copy}
use denote.Struct.Lending.{of_Lends}
use denote.Struct.Tuple.{Tuple}
use Rattle.core.specs.declared.alloc.Allocator.{Ghosts}
use Rattle.core.specs.contracts.marker.PhantomData as marker
use Rattle.std_alloc.specs.Box.Ownership.{box_owns}
use Rattle.arc_owners.specs.contracts.memory.inheritance.Inheritance as C
use Rattle.arc_owners.proofs.memory.Inheritances.{keep_shr, keep_lends}
use Rattle.arc_owners.proofs.memory.inheritance.Inheritance.TheLaw.Statement.{statement}

pub shares : (T A : RattleType) (g : Ghosts A.Denot) (L : Laws T) (K : Laws A) → statement T A g L K
shares T A g L K = let P : RattleType = Tuple (T ∷ A ∷ []) in let at : (C.the_row T A g).Denot
    → Fml = λ d. box_owns (g.dealloc_token d.alloc) T d.at d.value in
    of_Lends (C.struct T A g) (C.the_codes T.Denot A.Denot T.coded A.coded (marker.the_row P).coded)
    (C.the_heap T A g) (C.the_lent T A g) (λ d p. keep_shr (at d) d.lease)
    (copy_shared (marker.the_field P) (field_copy (marker.the_type P) tt), tt)
    (λ M 𝓤 𝓛 d p. keep_lends (at d) d.lease 𝓛 (C.the_row T A g).lives)
