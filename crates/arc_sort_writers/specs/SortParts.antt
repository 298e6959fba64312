-- What contracts see of a sole writer's parts, by the sort of their block.
use Rattle.std.specs.Prelude.{◌≡◌, ℕ, ◌+◌, ◌-◌, ◌≤◌, Bool, true, false, List, length}
use Rattle.std.specs.Prelude.{Some}
use Rattle.std.specs.declared.vec.Vec.{Vec}
use Rattle.std.specs.Vec.{vec_capacity}
use Rattle.arc_owners.specs.count.Calls.{Owner}
use Rattle.arc_memory.specs.declared.writer_memory.WriterMemory.{WriterMemory}
use Rattle.arc_buffer.specs.Slice.{sub}
use Rattle.arc_block.specs.declared.block.TheConstants.{MAX_OWNERS}
use Rattle.arc_block.specs.Block.{Sort, native, vector, buffer, BlockView, IsLimited, memory_info}
use Rattle.arc_block.specs.Place.{on_block, IsOnBlock, size_at, offset_at}
use Rattle.arc_block.specs.Table.{sole_writer}
use Rattle.arc_parts.specs.Window.{PartsView}
use Rattle.arc_parts.specs.Writers.{writer_capacity, capacity_of}

-- the part from start to end of a block, as its only owner's
abbrev pub block_part : {T M : Type 0} → Bool → BlockView T M → (start end : ℕ) → PartsView T M
block_part drops block start end = record {
  items = sub block.items start end;
  place = on_block (Some block.owner) start block.facts;
  role = sole_writer (writer_capacity drops block.facts start (end - start));
}

-- Start to end lies within the full places of a caller's buffer that may be written.
abbrev pub IsBufferWithin : {T M : Type 0} → Bool → BlockView T M → (start end : ℕ) → Type 0
IsBufferWithin one_pass block start end = IsLimited MAX_OWNERS one_pass block.owner
    × (start ≤ end) × (end ≤ length block.items) × (length block.items ≤ block.facts.size)
    × (block.facts.sort ≡ buffer true)

-- The part from start to end of these items, which are memory of ours, as the only owner's of a
-- block of this sort and so many places, so many of which are full. The part is at this offset.
abbrev pub memory_part : {T M : Type 0} → Sort → Bool → Owner → (size full offset : ℕ) → List T
    → (start end : ℕ) → PartsView T M
memory_part sort drops owner size full offset items start end =
    let info = memory_info sort drops size full in
    record {
      items = sub items start end;
      place = on_block (Some owner) offset info;
      role = sole_writer (writer_capacity drops info offset (end - start));
    }

-- the part from start to end of a vector that is a block's memory, as its only owner's
abbrev pub vector_part : {T M A : Type 0} → Bool → Owner → Vec T A → (start end : ℕ)
    → PartsView T M
vector_part drops owner v start end =
    memory_part vector drops owner (vec_capacity v) (length v.items) start v.items start end

-- Start to end lies within the full places of a vector that is a block's memory. Items that aren't
-- dropped one by one end where these do.
abbrev pub IsVectorWithin : {T A : Type 0} → Bool → Bool → Owner → Vec T A → (start end : ℕ)
    → Type 0
IsVectorWithin drops one_pass owner v start end = IsLimited MAX_OWNERS one_pass owner
    × (start ≤ end) × (end ≤ length v.items) × (drops ≡ false → end ≡ length v.items)

module _ {T M A : Type 0} where
  -- the part from start to end of a writer's items, whose memory is a native block's, as its only
  -- owner's
  abbrev pub sole_native_part : Bool → Owner → WriterMemory T A → (start end : ℕ) → PartsView T M
  sole_native_part drops owner memory start end =
      let first = memory.places.under.start in let items = memory.places.vec.items in
      memory_part native drops owner memory.places.under.whole (first + length items)
      (first + start) items start end

-- a writer on a block, whose places go up to the end of the block, which isn't to have fewer
pub record CanGrow {T M : Type 0} (w : PartsView T M) (places : ℕ) : Type 0 where
  pub stands : IsOnBlock w.place
  pub larger : size_at w.place ≤ places
  pub behind : capacity_of w.role ≡ size_at w.place - offset_at w.place

-- A writer on a block, which isn't to have fewer places. Items that are dropped one by one are to
-- have all places behind them.
pub record CanGrowNative {T M : Type 0} (drops : Bool) (w : PartsView T M) (places : ℕ) : Type 0
  where
    pub stands : IsOnBlock w.place
    pub larger : size_at w.place ≤ places
    pub behind : drops ≡ true → capacity_of w.role ≡ size_at w.place - offset_at w.place
