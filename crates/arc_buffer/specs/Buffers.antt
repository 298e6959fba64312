-- What buffers answer.
use Rattle.std.proofs.Common.{◌≡◌, ℕ, Bool, true, false, if◌then◌else◌, nat_lt, subst}
use Rattle.std.proofs.Common.{List, ◌++◌, length, take, drop}
use Rattle.std.proofs.Common.{refl, sym, ap}
use Rattle.std.specs.List.{refill, length_refill}
use Rattle.std.specs.declared.vec.Vec.{Vec}
use Rattle.std.specs.Vec.{vec_items, with_items_from}
use Rattle.arc_owners.specs.declared.error.TryReserveError.{TryReserveError}
use Rattle.arc_owners.specs.declared.error.TryReserveError.TheVariants.{AllocError, NotUnique}
use Rattle.arc_owners.specs.declared.error.TryReserveError.TheVariants.{CapacityOverflow}
use Rattle.arc_owners.specs.declared.error.TryReserveError.TheVariants.{Unsupported}

-- why a vector refuses to have so many places: no block is so large, or there was no memory
abbrev pub vec_refusal : ℕ → TryReserveError
vec_refusal places = if nat_lt 9223372036854775807 places then CapacityOverflow else AllocError

-- that another owner stands on the block
abbrev IsNotUnique : TryReserveError → Type 0
IsNotUnique NotUnique = Unit {0}
IsNotUnique Unsupported = ⊥
IsNotUnique AllocError = ⊥
IsNotUnique CapacityOverflow = ⊥

-- it names no other owner
refusal_names_no_owner : (is_large : Bool)
    → NotUnique ≡ (if is_large then CapacityOverflow else AllocError) → ⊥
refusal_names_no_owner true same = subst IsNotUnique same tt
refusal_names_no_owner false same = subst IsNotUnique same tt

pub vec_names_no_owner : (places : ℕ) → NotUnique ≡ vec_refusal places → ⊥
vec_names_no_owner places same =
    refusal_names_no_owner (nat_lt 9223372036854775807 places) same

-- nor does a buffer that never grows
pub unsupported_names_no_owner : NotUnique ≡ Unsupported → ⊥
unsupported_names_no_owner same = subst IsNotUnique same tt

-- the list with other items from a place on, of which as many count as there are places
abbrev pub written_from : {T : Type 0} → List T → (start : ℕ) → List T → List T
written_from xs start ws =
    refill (length xs) xs (take start xs ++ (ws ++ drop (length ws) (drop start xs)))

-- a vector has the list that was written
pub vec_written : {T A : Type 0} (v : Vec T A) (start : ℕ) (ws : List T)
    → vec_items (with_items_from v start ws) ≡ written_from (vec_items v) start ws
vec_written v start ws =
    let ys : List _ = take start v.items ++ (ws ++ drop (length ws) (drop start v.items)) in
    ap (λ n. take n (ys ++ drop (length ys) v.items)) v.ok.0

-- which is as long as before
pub written_long : {T : Type 0} (xs : List T) (start : ℕ) (ws : List T)
    → length (written_from xs start ws) ≡ length xs
written_long xs start ws =
    sym (length_refill (length xs) xs (take start xs ++ (ws ++ drop (length ws) (drop start xs)))
    refl)
