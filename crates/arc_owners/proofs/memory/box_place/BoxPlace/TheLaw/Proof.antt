-- A `&` to the place of a box is made where one to what lies there is. Assumes `Logic`.
use Rattle.std.proofs.Common.{[], ◌++◌}
use mir.Raw.{raw as bare}
use base.Fraction.{full_share}
use base.Fml.{Incl-trans}
use contract.BorrowLft.{meet_⊑_left}
use denote.RattleType.{RattleType}
use denote.Memory.{lone}
use denote.RawPtr.{lies_at}
use denote.Shares.{Shares-less}
use denote.Param.Laws.{Laws}
use denote.Param.Shared.{copy_shared}
use denote.Struct.Field.{RawPtr-field}
use denote.Struct.Laws.{RawPtr-copy, field_copy}
use denote.Struct.Lending.{lent_at, lent_at_shr_laws, Lends-lies, Lends-first, of_Lends}
use Rattle.core.specs.declared.alloc.Allocator.{Ghosts}
use Rattle.core.specs.contracts.marker.PhantomData as marker
use Rattle.arc_owners.specs.contracts.memory.box_place.BoxPlace as C
use Rattle.arc_owners.proofs.memory.box_place.BoxPlace.TheLaw.Statement.{statement}

pub shares : (T A : RattleType) (g : Ghosts A.Denot) (L : Laws T) (K : Laws A) → statement T A g L K
shares T A g L K = let l = (C.the_row T A g).lives in
    of_Lends (C.struct T A g) (C.the_codes T.Denot A.Denot T.coded A.coded (marker.the_row A).coded)
    (C.the_heap T A g) (C.the_lent T A g) (λ d p. lent_at_shr_laws T L.shr_laws d.at d.value) (
      copy_shared RawPtr-field RawPtr-copy,
      (copy_shared (marker.the_field A) (field_copy (marker.the_type A) tt), tt),
    )
    (λ M 𝓤 𝓛 d p. Lends-first 𝓛 (lies_at T full_share d.at d.value)
    (g.dealloc_token d.alloc (bare (lone T.mir)) d.at) (lent_at T d.at d.value) l
    (Lends-lies 𝓛 T l d.at d.value
    (Shares-less 𝓛 T T.lives l (Incl-trans (meet_⊑_left (T.lives ++ (A.lives ++ [])) _)
    (meet_⊑_left T.lives (A.lives ++ []))) (L.shares 𝓛) d.value)))
