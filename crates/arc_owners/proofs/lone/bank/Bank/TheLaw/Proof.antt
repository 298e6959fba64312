-- A `&` to a bank says all that it does. Assumes `Logic`.
use denote.RattleType.{RattleType}
use denote.Param.Laws.{Laws}
use denote.Param.Shared.{copy_shared}
use denote.Struct.Laws.{field_copy}
use denote.Struct.Lending.{of_Lends}
use Rattle.core.specs.declared.alloc.Allocator.{Ghosts}
use Rattle.core.specs.contracts.marker.PhantomData as marker
use Rattle.arc_owners.specs.contracts.lone.bank.Bank as C
use Rattle.arc_owners.proofs.count.Banks.{bank_shr, bank_lends}
use Rattle.arc_owners.proofs.lone.bank.Bank.TheLaw.Statement.{statement}

pub shares : (A : RattleType) (g : Ghosts A.Denot) (K : Laws A) → statement A g K
shares A g K = of_Lends (C.struct A g) (C.the_codes A.Denot A.coded (marker.the_row A).coded)
    (C.the_heap A g) (C.the_lent A g)
    (λ d p. bank_shr (g.dealloc_token d.alloc) d.number d.receipts)
    (copy_shared (marker.the_field A) (field_copy (marker.the_type A) tt), tt)
    (λ M 𝓤 𝓛 d p. bank_lends (g.dealloc_token d.alloc) d.number d.receipts 𝓛 (C.the_row A g).lives)
