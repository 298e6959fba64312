-- What a native block keeps, for readers of the same places.
use Rattle.std.proofs.Common.{◌≡◌, ℕ, ◌-◌, Bool, true, false, List, sym, ap, ◌∙◌, subst}
use Rattle.std.proofs.Common.{Option, None, Some}
use Rattle.std.proofs.lemmas.Bool.{false≢true}
use Rattle.std.specs.Option.{IfSome}
use Rattle.arc_owners.specs.declared.lifetime.EndedLifetime.{EndedLifetime}
use Rattle.arc_owners.specs.count.Calls.{Owner}
use Rattle.arc_memory.specs.declared.frozen_places.FrozenPlaces.{FrozenPlaces}
use Rattle.arc_memory.specs.declared.kept.Kept.{Kept}
use Rattle.arc_memory.specs.declared.kept.Kept.TheVariants.{Places, Items}
use denote.RawPtr.{Ptr}
use Rattle.arc_owners.specs.declared.memory.header_room.HeaderRoom.{HeaderRoom}
use Rattle.arc_memory.specs.KeptPlaces.{kept_in}
use Rattle.arc_memory.specs.PieceParts.{IsRoomOf}
use Rattle.arc_memory.specs.WriterParts.{IsSameRange}
use Rattle.arc_memory.specs.declared.kept_items.KeptItems.{KeptItems}
use Rattle.arc_memory.specs.declared.kept_places.KeptPlaces.{KeptPlaces}
use Rattle.arc_memory.specs.declared.writer_memory.WriterMemory.{WriterMemory}
use Rattle.arc_buffer.specs.Slice.{sub}
use Rattle.arc_block.specs.Natives.{NativeView, IsKeptFor, IsLaidFor, native_over, native_view}
use Rattle.arc_block.specs.Natives.{native_taken, range_seen}

module _ {T A : Type 0} (drops : Bool) (range other : FrozenPlaces T) where
  same-kept : (kept : Kept T A) → IsSameRange range other → IsKeptFor drops range kept
      → IsKeptFor drops other kept
  same-kept (Places kept) same keeps = (keeps.0, keeps.1 ∙ sym same.0)
  same-kept (Items kept) same keeps =
      (keeps.0, keeps.1 ∙ sym same.0, same.1 ∙ keeps.2, keeps.3 ∙ sym same.2)

  -- another reader of the same places
  pub kept_alike : (kept kept' : Kept T A) → kept' ≡ kept → IsSameRange range other
      → IsKeptFor drops range kept → IsKeptFor drops other kept'
  kept_alike kept kept' is same keeps =
      subst (λ k. IsKeptFor drops other k) (sym is) (same-kept kept same keeps)

module _ {T A : Type 0} (place place' : Ptr) (head head' : ℕ × ℕ) (kept kept' : Kept T A) where
  -- another one to whom the same is lent
  pub laid_alike : kept' ≡ kept → place' ≡ place → head' ≡ head → IsLaidFor place head kept
      → IsLaidFor place' head' kept'
  laid_alike is there same laid = (
    there ∙ laid.0 ∙ ap (λ k. (kept_in k).piece.right.place) (sym is),
    same ∙ laid.1 ∙ ap (λ k. (kept_in k).piece.right.head) (sym is),
  )

-- the room in which it lay is that of the piece's header
pub laid_room : {T A : Type 0} (place : Ptr) (head : ℕ × ℕ) (kept kept' : Kept T A)
    {X : Type 0} (room : HeaderRoom X) → kept' ≡ kept → room.at ≡ place → IsLaidFor place head kept
    → IsRoomOf room head (kept_in kept').piece
laid_room place head kept kept' room is there laid = (
  there ∙ laid.0 ∙ ap (λ k. (kept_in k).piece.right.place) (sym is),
  laid.1 ∙ ap (λ k. (kept_in k).piece.right.head) (sym is),
)

module _ {T A : Type 0} (drops : Bool) (range : FrozenPlaces T) where
  -- it is the memory of these places
  pub kept_memory : (kept : Kept T A) → IsKeptFor drops range kept
      → (kept_in kept).inheritance.memory ≡ range.memory
  kept_memory (Places kept) keeps = keeps.1
  kept_memory (Items kept) keeps = keeps.1

  -- the memory that is kept has as many places as the one that is read
  pub kept_places : (count : ℕ) (kept : Kept T A) → IsKeptFor drops range kept
      → count ≡ (kept_in kept).inheritance.memory.whole → count ≡ range.memory.whole
  kept_places count kept keeps counts = counts ∙ ap (λ m. m.whole) (kept_memory kept keeps)

  -- the lifetime has ended for which it is lent
  pub kept_ended : (ended : ℕ) → ended ≡ range.memory.lifetime → (kept kept' : Kept T A)
      → kept' ≡ kept → IsKeptFor drops range kept
      → (kept_in kept').inheritance.memory.lifetime ≡ ended
  kept_ended ended is kept kept' same keeps =
      ap (λ k. (kept_in k).inheritance.memory.lifetime) same
      ∙ ap (λ m. m.lifetime) (kept_memory kept keeps) ∙ sym is

-- what the last owner gave out, if it was the last one
module _ {T A X : Type 0} (kept : Kept T A) where
  -- the lifetime has ended for which it was lent
  pub given_ended : (drops : Bool) (range : FrozenPlaces T) → IsKeptFor drops range kept
      → (last : Option (Kept T A × HeaderRoom X × EndedLifetime))
      → IfSome last (λ r. r.0 ≡ kept)
      → IfSome last (λ r. r.2.lifetime ≡ range.memory.lifetime)
      → IfSome last (λ r. (kept_in r.0).inheritance.memory.lifetime ≡ r.2.lifetime)
  given_ended drops range keeps None same ended = tt
  given_ended drops range keeps (Some r) same ended =
      kept_ended drops range r.2.lifetime ended kept r.0 same keeps

  -- the room in which it lay is that of the piece's header
  pub given_room : (place : Ptr) (head : ℕ × ℕ) → IsLaidFor place head kept
      → (last : Option (Kept T A × HeaderRoom X × EndedLifetime))
      → IfSome last (λ r. r.0 ≡ kept) → IfSome last (λ r. r.1.at ≡ place)
      → IfSome last (λ r. IsRoomOf r.1 head (kept_in r.0).piece)
  given_room place head laid None same there = tt
  given_room place head laid (Some r) same there =
      laid_room place head kept r.0 r.1 same there laid

module _ {T A : Type 0} (o : Owner) (range : FrozenPlaces T) (memory : WriterMemory T A)
    (start end : ℕ) where
  -- The memory of a block whose items need no drop has those that were taken.
  pub places_taken : (drops : Bool) → drops ≡ false → (kept : KeptPlaces T A)
      → kept.inheritance.memory ≡ range.memory
      → memory.places.vec.items ≡ sub range.items (start - range.start) (end - range.start)
      → memory.places.under.whole ≡ kept.inheritance.memory.whole
      → memory.places.under.start ≡ start
      → native_over drops o memory ≡ native_taken drops (range_seen drops o range) start end
  places_taken true is kept lent items size front = absurd (false≢true (sym is))
  places_taken false is kept lent items size front =
      let make : List T → ℕ → ℕ → NativeView T = λ xs f n. native_view false o xs f n in
      let whole : memory.places.under.whole ≡ range.memory.whole =
      size ∙ ap (λ m. m.whole) lent in
      ap (λ xs. make xs memory.places.under.start memory.places.under.whole) items
      ∙ ap (λ f. make (sub range.items (start - range.start) (end - range.start)) f
      memory.places.under.whole) front
      ∙ ap (λ n. make (sub range.items (start - range.start) (end - range.start)) start n) whole

  -- Of one whose items are dropped one by one it has all.
  pub items_taken : (drops : Bool) → drops ≡ true → (kept : KeptItems T A)
      → kept.kept.inheritance.memory ≡ range.memory → range.start ≡ 0
      → kept.full.items ≡ range.items
      → memory.places.vec.items ≡ kept.full.items
      → memory.places.under.whole ≡ kept.kept.inheritance.memory.whole
      → memory.places.under.start ≡ 0
      → native_over drops o memory ≡ native_taken drops (range_seen drops o range) start end
  items_taken false is kept lent first full items size front = absurd (false≢true is)
  items_taken true is kept lent first full items size front =
      let make : List T → ℕ → ℕ → NativeView T = λ xs f n. native_view true o xs f n in
      let whole : memory.places.under.whole ≡ range.memory.whole =
      size ∙ ap (λ m. m.whole) lent in
      ap (λ xs. make xs memory.places.under.start memory.places.under.whole) (items ∙ full)
      ∙ ap (λ f. make range.items f memory.places.under.whole) (front ∙ sym first)
      ∙ ap (λ n. make range.items range.start n) whole
