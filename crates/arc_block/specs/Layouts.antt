-- What layouts differ in.
use Rattle.std.specs.Prelude.{◌≡◌, ◌==◌, ◌&&◌, ℕ, Bool, true, false, not, refl, Option, Some, None}
use Rattle.std.specs.Prelude.{List, length}
use Rattle.std.proofs.lemmas.Bool.{false≢true}
use Rattle.arc_owners.specs.history.Histories.{Beginning, Counted}
use Rattle.arc_block.specs.Block.{Sort, native, vector, buffer, raw, IsWritable}
use Rattle.arc_block.specs.Block.{BlockInfo, memory_info}

-- what windows under a layout may stand on
pub record LayoutFacts : Type 0 where
  -- nothing, and static data
  pub has_static : Bool
  -- a block of a caller's making: a vector, a buffer, or an `Arc` of one
  pub has_any : Bool
  -- an `Arc` is a block by itself, and isn't counted once more
  pub by_itself : Bool
  -- whether a vector of this length and capacity may be without a count (`is_lone`)
  pub lone : ℕ → ℕ → Bool

-- what `is_lone` says of vectors by length and capacity: no, yes, or yes of those that are full
abbrev pub never : ℕ → ℕ → Bool
never length capacity = false

abbrev pub always : ℕ → ℕ → Bool
always length capacity = true

abbrev pub where_full : ℕ → ℕ → Bool
where_full length capacity = length == capacity

-- how the word of a block begins of which this is known, and which holds so many items: with a
-- count, whatever the block and the layout are
abbrev pub begins_as : {M : Type 0} → (lone : ℕ → ℕ → Bool) → BlockInfo M → (length : ℕ)
    → Beginning
begins_as lone info length = Counted

-- how the word of a vector of so many places with these items begins
abbrev pub vector_begins : {T : Type 0} → (lone : ℕ → ℕ → Bool) → (drops : Bool) → (places : ℕ)
    → List T → Beginning
vector_begins lone drops places items =
    begins_as {M = Unit {0}} lone (memory_info vector drops places (length items)) (length items)

-- The sorts of blocks on which a clone may be refused for memory: a vector, under a layout whose
-- `is_lone` may say yes, and an `Arc` that is a block by itself, which may refuse to be cloned.
abbrev pub clones_want : (lone : Bool) → (raw_by_itself : Bool) → Sort → Bool
clones_want lone raw_by_itself native = false
clones_want lone raw_by_itself vector = lone
clones_want lone raw_by_itself (buffer writable) = false
clones_want lone raw_by_itself raw = raw_by_itself

-- where `is_lone` says no and no `Arc` is a block by itself, no clone is refused for memory
pub never_wanted : (sort : Sort) → false ≡ clones_want false false sort
never_wanted native = refl
never_wanted vector = refl
never_wanted (buffer writable) = refl
never_wanted raw = refl

-- what holds of a layout under which an `Arc` is a block by itself, where none is
pub never_by_itself : {any : Bool} → false ≡ true → any ≡ true
never_by_itself same = absurd (false≢true same)

-- whether a layout under which blocks may be of a caller's making, or not, holds those of a sort:
-- native ones all do
abbrev pub holds_sort : (has_any : Bool) → Sort → Bool
holds_sort has_any native = true
holds_sort has_any vector = has_any
holds_sort has_any (buffer writable) = has_any
holds_sort has_any raw = has_any

-- Whether a layout holds a block with this owner, of this sort. The only blocks that count no
-- owners are an `Arc` each, and an `Arc` is counted only where it isn't a block by itself.
abbrev pub holds_block : {O : Type 0} → LayoutFacts → Option O → Sort → Bool
holds_block layout None sort = layout.by_itself
holds_block layout (Some owner) native = true
holds_block layout (Some owner) vector = layout.has_any
holds_block layout (Some owner) (buffer writable) = layout.has_any
holds_block layout (Some owner) raw = layout.has_any && not layout.by_itself

-- the only owner of a block of this sort may write it under a layout, which holds it
abbrev pub MayWrite : (has_any : Bool) → Sort → Type 0
MayWrite has_any sort = IsWritable sort × (holds_sort has_any sort ≡ true)
