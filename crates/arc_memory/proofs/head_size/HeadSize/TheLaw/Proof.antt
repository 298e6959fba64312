-- A `&` to the size says all that it does. Assumes `Logic`.
use Rattle.std.proofs.Common.{ℕ, []}
use base.Fml.{Fml, feq}
use denote.RattleType.{RattleType}
use denote.Param.Laws.{Laws}
use denote.Param.Shared.{copy_shared}
use denote.SharingLaws.{said_shr_laws, contraction}
use denote.Sharing.{said}
use denote.Struct.Laws.{field_copy}
use denote.Struct.Lending.{of_Lends}
use Rattle.core.specs.contracts.marker.PhantomData as marker
use Rattle.logbook.proofs.Fields.{lends_twice}
use Rattle.arc_memory.specs.Pieces.{head_size}
use Rattle.arc_memory.specs.contracts.head_size.HeadSize as C
use Rattle.arc_memory.proofs.head_size.HeadSize.TheLaw.Statement.{statement}

pub shares : (X : RattleType) (L : Laws X) → statement X L
shares X L = let is : ℕ × ℕ → Fml = λ s. feq (ℕ × ℕ) s (head_size X) in
    of_Lends (C.struct X) (C.the_codes X.Denot X.coded (marker.the_row X).coded) (C.the_heap X)
    (C.the_lent X) (λ d p. said_shr_laws (is d.size) tt)
    (copy_shared (marker.the_field X) (field_copy (marker.the_type X) tt), tt)
    (λ M 𝓤 𝓛 d p. lends_twice 𝓛 (is d.size)
    (contraction 𝓛 (said (is d.size)) (said_shr_laws (is d.size) tt) []) (C.the_row X).lives)
