-- One of several writers on a native block: what he took back, and what is seen of him.
use Rattle.std.proofs.Common.{◌≡◌, ℕ, Bool, true, false, List, sym, ap, ◌∙◌, subst}
use denote.RawPtr.{Ptr}
use Rattle.arc_owners.specs.declared.memory.header_room.HeaderRoom.{HeaderRoom}
use Rattle.arc_memory.specs.KeptPlaces.{kept_in}
use Rattle.arc_memory.specs.LentMemory.{LentMemory}
use Rattle.arc_memory.specs.PieceParts.{IsRoomOf}
use Rattle.arc_memory.specs.declared.kept.Kept.{Kept}
use Rattle.arc_memory.specs.declared.kept.Kept.TheVariants.{Places, Items}
use Rattle.arc_memory.specs.declared.frozen_places.FrozenPlaces.{FrozenPlaces}
use Rattle.arc_memory.specs.LentRanges.{LentRange}
use Rattle.arc_memory.specs.SharedWriters.{writer_owner, writer_value, writer_range, writer_items}
use Rattle.arc_memory.specs.WriterParts.{SplitsOwner}
use Rattle.arc_memory.specs.declared.shared_writer.SharedWriter.{SharedWriter}
use Rattle.arc_owners.specs.count.Calls.{Owner, MakesAnother}
use Rattle.arc_owners.specs.declared.count.tokens.Pass.{Pass}
use Rattle.arc_owners.specs.declared.mark.Mark.{Ghosts}
use Rattle.arc_block.specs.Block.{IsLimited}
use Rattle.arc_block.specs.Natives.{IsKeptFor, IsLaidFor}
use Rattle.arc_sort_writers.specs.NativeWriters.{KeepsPlaces, native_writer_seen}

-- how many places the memory has that a block keeps
pub kept_size : {T A : Type 0} (kept kept' : Kept T A) (memory : LentMemory) (count : ℕ)
    → KeepsPlaces kept memory
    → kept' ≡ kept → count ≡ (kept_in kept').inheritance.memory.whole → count ≡ memory.whole
kept_size (Places kept) kept' memory count keeps is counts =
    counts ∙ ap (λ k. (kept_in k).inheritance.memory.whole) is ∙ ap (λ m. m.whole) keeps
kept_size (Items kept) kept' memory count keeps is counts = absurd keeps

module _ {T A : Type 0} (kept kept' : Kept T A) (is : kept' ≡ kept) where
  -- the lifetime for which its memory is lent
  pub kept_until : (memory : LentMemory) (ended : ℕ) → KeepsPlaces kept memory
      → ended ≡ memory.lifetime → (kept_in kept').inheritance.memory.lifetime ≡ ended
  kept_until memory ended keeps same =
      ap (λ k. (kept_in k).inheritance.memory.lifetime) is
      ∙ ap (λ m. m.lifetime) (memory-of kept memory keeps) ∙ sym same
    where
      memory-of : (k : Kept T A) (m : LentMemory) → KeepsPlaces k m
          → (kept_in k).inheritance.memory ≡ m
      memory-of (Places k) m keeps = keeps
      memory-of (Items k) m keeps = absurd keeps

  module _ (place : Ptr) (head : ℕ × ℕ) (laid : IsLaidFor place head kept) where
    -- the room in which it lay is that of the piece's header
    pub laid_room : {X : Type 0} (room : HeaderRoom X) → room.at ≡ place
        → IsRoomOf room head (kept_in kept').piece
    laid_room room there = (
      there ∙ laid.0 ∙ ap (λ k. (kept_in k).piece.right.place) (sym is),
      laid.1 ∙ ap (λ k. (kept_in k).piece.right.head) (sym is),
    )

    -- another one to whom the same is lent
    pub laid_alike : (place' : Ptr) (head' : ℕ × ℕ) → place' ≡ place → head' ≡ head
        → IsLaidFor place' head' kept'
    laid_alike place' head' there same = (
      there ∙ laid.0 ∙ ap (λ k. (kept_in k).piece.right.place) (sym is),
      same ∙ laid.1 ∙ ap (λ k. (kept_in k).piece.right.head) (sym is),
    )

  -- a reader's places are those that it keeps
  pub kept_frozen : (drops : Bool) → drops ≡ false → (memory : LentMemory) (range : FrozenPlaces T)
      → KeepsPlaces kept memory → range.memory ≡ memory → IsKeptFor drops range kept'
  kept_frozen drops none memory range keeps same =
      subst (λ k. IsKeptFor drops range k) (sym is) (kept-by kept keeps)
    where
      kept-by : (k : Kept T A) → KeepsPlaces k memory → IsKeptFor drops range k
      kept-by (Places k) keeps = (none, keeps ∙ sym same)
      kept-by (Items k) keeps = absurd keeps

module _ {T A Z H : Type 0} {MAX : ℕ} {G : Ghosts H} where
  -- what is seen of an owner who has these places
  pub seen_with : (w : SharedWriter T (Kept T A) Z MAX H G) (o : Owner) (r : LentRange)
      (xs : List T) → writer_owner w ≡ o → (writer_range w ≡ r) × (writer_items w ≡ xs)
      → native_writer_seen w ≡ record {
        owner = o;
        items = xs;
        start = r.start;
        capacity = r.count;
        size = r.memory.whole;
      }
  seen_with w o r xs owner has = λ i. record {
    owner = owner i;
    items = has.1 i;
    start = (has.0 i).start;
    capacity = (has.0 i).count;
    size = (has.0 i).memory.whole;
  }

  -- another owner of the same block, whose places lie in the same memory
  pub kept_alike : (v w : SharedWriter T (Kept T A) Z MAX H G)
      → writer_value w ≡ writer_value v → (r : LentRange) → writer_range w ≡ r
      → r.memory ≡ (writer_range v).memory
      → KeepsPlaces (writer_value v) (writer_range v).memory
      → KeepsPlaces (writer_value w) (writer_range w).memory
  kept_alike v w same r range lent keeps =
      subst (λ k. KeepsPlaces k (writer_range w).memory) (sym same)
      (subst (λ m. KeepsPlaces (writer_value v) m) (sym (ap (λ s. s.memory) range ∙ lent)) keeps)

-- another owner of the block is limited as this one
pub limited_alike : {H : Type 0} (greatest : ℕ) (one_pass : Bool) (o other : Owner)
    (old new : Pass H) → MakesAnother o old new other → IsLimited greatest one_pass o
    → IsLimited greatest one_pass other
limited_alike greatest one_pass o other old new made limited = record {
  most = ap (λ p. p.block.most) made.made ∙ limited.most;
  whole = ap (λ p. p.block.whole) made.made ∙ limited.whole;
}

-- both owners of what one had are limited as he is
pub limited_both : {H : Type 0} (greatest : ℕ) (one_pass front_stays : Bool)
    (o front back : Owner) (old new : Pass H) → SplitsOwner front_stays o old new front back
    → IsLimited greatest one_pass o
    → IsLimited greatest one_pass front × IsLimited greatest one_pass back
limited_both greatest one_pass true o front back old new split limited = (
  subst (IsLimited greatest one_pass) (sym split.stays) limited,
  limited_alike greatest one_pass o back old new split.made limited,
)
limited_both greatest one_pass false o front back old new split limited = (
  limited_alike greatest one_pass o front old new split.made limited,
  subst (IsLimited greatest one_pass) (sym split.stays) limited,
)
