-- A `&` to places is made where one to the items in them is. Assumes `Logic`.
use Rattle.std.proofs.Common.{[], ◌++◌, length, sym, subst, ◌-◌}
use base.Fraction.{full_share}
use base.Fml.{Incl-trans}
use contract.BorrowLft.{meet_⊑_left}
use denote.RattleType.{RattleType}
use denote.Array.{Array}
use denote.ArrayMemory.{Single}
use denote.RawPtr.{lies_at, room_for}
use denote.Sharing.{said}
use denote.Shares.{Shares-less, Shares-Array}
use denote.Param.Laws.{Laws}
use denote.Param.Shared.{copy_shared}
use denote.Struct.Laws.{field_copy}
use denote.Struct.Lending.{lent_at, Lends-lies, Lends-said, Lends-first, Lends-both, of_Lends}
use Rattle.core.specs.Allocator.{array_of}
use Rattle.core.specs.contracts.marker.PhantomData as marker
use Rattle.std_alloc.proofs.SharedLaws.{lent_shr_laws}
use Rattle.arc_memory.specs.Memory.{place_at, is_small, side_by_side}
use Rattle.arc_memory.specs.contracts.places.Places as C
use Rattle.arc_memory.proofs.places.Places.TheLaw.Statement.{statement}

pub shares : (T : RattleType) (L : Laws T) → statement T L
shares T L = let l = (C.the_row T).lives in
    of_Lends (C.struct T) (C.the_codes T.Denot T.coded (marker.the_row T).coded) (C.the_heap T)
    (C.the_lent T) (λ d p. lent_shr_laws T L.shr_laws (place_at T d.base d.start)
    (length d.items) d.whole d.items)
    (copy_shared (marker.the_field T) (field_copy (marker.the_type T) tt), tt)
    (λ M 𝓤 𝓛 d p. let n = length d.items in let first = place_at T d.base d.start in
    let seen = lent_at (Array T n) first d.items in
    Lends-both 𝓛 (is_small T d.whole) (side_by_side T first d.count d.items)
    (said (is_small T d.whole)) seen l (Lends-said 𝓛 (is_small T d.whole) tt l)
    (Lends-first 𝓛 (lies_at (Array T n) full_share first d.items)
    (room_for (array_of T (d.count - n)) (place_at T first n)) seen l
    (Lends-lies 𝓛 (Array T n) l first d.items
    (Shares-Array 𝓛 T (subst Single (sym L.one) tt) n l
    (Shares-less 𝓛 T T.lives l (Incl-trans (meet_⊑_left (T.lives ++ []) _)
    (meet_⊑_left T.lives [])) (L.shares 𝓛)) d.items))))
