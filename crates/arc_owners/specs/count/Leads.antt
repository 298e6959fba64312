-- The pointer in the cell of a block that began lone: what a load of it says, and a count that no
-- cell leads to.
use Rattle.std.specs.Prelude.{ℕ, ◌^◌, ◌<◌, Bool, true, false}
use mathlib.Core.Option.{Option, none, some}
use mir.Syntax.{Ty}
use mir.Raw.{raw}
use base.Fml.{Fml, ftrue, ffalse, fsep, fex, fnamed}
use base.Growing.{at_least}
use denote.Builtin.{u64}
use denote.Memory.{lone}
use denote.RawPtr.{Ptr, block_ptr, null_ptr}
use Rattle.core.specs.Sync.RawAtomic.{word}
use Rattle.arc_owners.specs.count.Invariant.{BlockId, places, told, receipt, banked}

abbrev pub is_null : Ptr → Bool
is_null null_ptr = true
is_null (block_ptr b o) = false

-- where a pointer leads
abbrev pub target : Ptr → Option (ℕ × ℕ)
target null_ptr = none
target (block_ptr b o) = some (b, o)

-- what is known for good of the place of a count: the word has it there, and it can be compared
-- with null
abbrev pub known_at : BlockId → Option (ℕ × ℕ) → Fml
known_at t none = ftrue
known_at t (some x) = fsep (told (x.1 < 2 ^ 63)) (at_least places t.place (some x))

-- a count of so many that no cell leads to, and the receipt for its memory
abbrev pub pending_at : ℕ → ℕ × ℕ → ℕ → Fml
pending_at δ x n = fsep (word x.0 x.1 n)
    (fsep (told (x.1 < 2 ^ 63)) (fex ℕ (λ k. receipt δ k x)))

-- such a count that is held, or none
abbrev pub pending : Bool → ℕ → Ptr → ℕ → Fml
pending true δ (block_ptr b o) n = pending_at δ (b, o) n
pending true δ null_ptr n = ffalse
pending false δ p n = ftrue

-- the right to free the memory of a count at a place
abbrev pub frees_count : (Ty → Ptr → Fml) → ℕ × ℕ → Fml
frees_count holds x = holds (raw (lone u64.mir)) (block_ptr x.0 x.1)

-- a bank for such rights: its number, and the name of the receipts
abbrev pub bank_of : (Ty → Ptr → Fml) → ℕ → ℕ → Fml
bank_of holds n δ = fnamed n (banked (frees_count holds) δ)
