-- What a read by `Buf` leaves of a window, written as numbers, since the trait's `kept` has nothing
-- else.
use Rattle.std.specs.Prelude.{◌≡◌, ℕ, zero, suc, true, false, List, [], ◌∷◌, Option, Some, None}
use Rattle.std.specs.Prelude.{refl}
use Rattle.std.specs.Coded.{Coded, code_by, coded×, coded_list, coded_option, coded_ℕ}
use base.Stored.{Gv, gnil, gnum, gcons}
use Rattle.arc_owners.specs.count.Calls.{Owner}
use Rattle.arc_owners.specs.count.Invariant.{BlockId, Line, block_id_coded, line_coded}
use Rattle.arc_block.specs.Block.{Sort, native, vector, buffer, raw}
use Rattle.arc_block.specs.Place.{Place, nowhere, static_data, on_block}
use Rattle.arc_read.specs.Ends.{end_place}

-- the numbers of a tree, before others. Each part of it begins with what it is
unfoldable pub numbers : Gv → List ℕ → List ℕ
numbers gnil rest = 0 ∷ rest
numbers (gnum n) rest = 1 ∷ n ∷ rest
numbers (gcons a b) rest = 2 ∷ numbers a (numbers b rest)

abbrev pub sort_number : Sort → ℕ
sort_number native = 0
sort_number vector = 1
sort_number (buffer false) = 2
sort_number (buffer true) = 3
sort_number raw = 4

abbrev pub numbered_sort : ℕ → Sort
numbered_sort zero = native
numbered_sort (suc zero) = vector
numbered_sort (suc (suc zero)) = buffer false
numbered_sort (suc (suc (suc zero))) = buffer true
numbered_sort (suc (suc (suc (suc n)))) = raw

pub sort_again : (s : Sort) → numbered_sort (sort_number s) ≡ s
sort_again native = refl
sort_again vector = refl
sort_again (buffer false) = refl
sort_again (buffer true) = refl
sort_again raw = refl

abbrev pub sort_coded : Coded Sort
sort_coded = code_by ℕ coded_ℕ sort_number numbered_sort sort_again

abbrev pub owner_coded : Coded Owner
owner_coded = code_by (BlockId × (ℕ × List Line))
    (coded× block_id_coded (coded× coded_ℕ (coded_list line_coded)))
    (λ o. (o.block, (o.number, o.born)))
    (λ t. record { block = t.0; number = t.1.0; born = t.1.1 })
    (λ _. refl)

-- what of a place has a code: all but the offset, and the buffer with its metadata
abbrev pub Standing : Type 0
Standing = Option (Option (Option Owner × (Sort × (ℕ × Option ℕ))))

abbrev pub standing : {M : Type 0} → Place (Option Owner) M → Standing
standing nowhere = None
standing static_data = Some None
standing (on_block owner offset facts) = Some (Some (
  owner,
  (facts.sort, (facts.size, facts.full)),
))

abbrev pub standing_coded : Coded Standing
standing_coded = coded_option (coded_option
    (coded× (coded_option owner_coded) (coded× sort_coded (coded× coded_ℕ (coded_option coded_ℕ)))))

-- what a read leaves of a window that reads: its block, as the same owner, with the sort, the size
-- and the full places, and where its items end
abbrev pub kept_read : {T M : Type 0} → Place (Option Owner) M → List T → List (List ℕ × ℕ)
kept_read place items =
    (numbers (standing_coded.code (standing place)) [], end_place place items) ∷ []

-- the same place, without the buffer of its block and the metadata
abbrev pub without_metadata : {N M : Type 0} → Place N M → Place N (Unit {0})
without_metadata nowhere = nowhere
without_metadata static_data = static_data
without_metadata (on_block block offset facts) = on_block block offset (record {
  sort = facts.sort;
  size = facts.size;
  full = facts.full;
  given = None;
})
