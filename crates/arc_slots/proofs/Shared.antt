-- Who becomes one of several writers.
use Rattle.std.proofs.Common.{◌≡◌, ℕ, ◌&&◌, not, Bool, true, false}
use Rattle.std.proofs.Common.{Option, refl, ap, ◌∙◌, subst}
use Rattle.arc_owners.specs.count.Calls.{Owner}
use Rattle.arc_block.specs.Block.{Sort, native, vector, buffer, raw, IsBuffer}
use Rattle.arc_block.specs.Block.{IsWritable}
use Rattle.arc_block.specs.Place.{Place}
use Rattle.arc_parts.specs.Shared.{as_shared, as_unique}
use Rattle.arc_parts.specs.Window.{IsOfBuffer, PartsView}
use Rattle.arc_parts.specs.Writers.{IsWriterPlace}
use Rattle.arc_commands.specs.Several.{can_share, is_memory}
use Rattle.arc_slots.specs.Slots.{SlotView, row_of, writer_slot}
use Rattle.arc_slots.specs.Stands.{is_numbered, numbered}
use Rattle.arc_slots.proofs.Filled.{numbered_each}
use Rattle.arc_slots.proofs.Native.{and_none}

-- where a window stands, by its owner
abbrev At : Type 0 → Type 0
At M = Place (Option Owner) M

memory-if : (drops : Bool) → drops ≡ false → (sort : Sort) → IsWritable sort → ¬ IsBuffer sort
    → (not drops && is_memory sort) ≡ true
memory-if drops none native writes other = ap (λ d. not d && true) none
memory-if drops none vector writes other = ap (λ d. not d && true) none
memory-if drops none (buffer writable) writes other = absurd (other tt)
memory-if drops none raw writes other = absurd writes

memory-not : (drops : Bool) (sort : Sort) → IsBuffer sort → (not drops && is_memory sort) ≡ false
memory-not drops native is = absurd is
memory-not drops vector is = absurd is
memory-not drops (buffer writable) is = and_none (not drops)
memory-not drops raw is = and_none (not drops)

module _ {M : Type 0} (drops : Bool) where
  share-at : drops ≡ false → (b : Option ℕ) (place : At M) → is_numbered b place ≡ true
      → IsWriterPlace place → ¬ IsOfBuffer place → can_share drops (numbered b place) ≡ true
  share-at none =
      numbered_each (λ n place. IsWriterPlace place → ¬ IsOfBuffer place
      → can_share drops (numbered n place) ≡ true) (λ writes other. ap not none)
      (λ writes other. absurd writes) (λ offset info writes other. absurd writes)
      (λ n o offset info writes other. memory-if drops none info.sort writes other)

  share-not : (b : Option ℕ) (place : At M) → is_numbered b place ≡ true → IsOfBuffer place
      → can_share drops (numbered b place) ≡ false
  share-not =
      numbered_each (λ n place. IsOfBuffer place → can_share drops (numbered n place) ≡ false)
      (λ is. absurd is) (λ is. absurd is) (λ offset info is. refl)
      (λ n o offset info is. memory-not drops info.sort is)

-- a sole writer's slot, and what it is as that of one of several
module _ {T M : Type 0} (w : PartsView T M) (b : Option ℕ) (s : SlotView T M)
    (seen : writer_slot w b ≡ s) (fits : is_numbered b w.place ≡ true) where
  pub shared-row : (v : PartsView T M) → v ≡ as_shared w
      → row_of (writer_slot v b) ≡ as_shared (row_of s)
  shared-row v is =
      ap (λ u. row_of (writer_slot u b)) is ∙ ap (λ t. as_shared (row_of t)) seen

  pub unique-row : (v : PartsView T M) → v ≡ as_unique w
      → row_of (writer_slot v b) ≡ as_unique (row_of s)
  unique-row v is =
      ap (λ u. row_of (writer_slot u b)) is ∙ ap (λ t. as_unique (row_of t)) seen

  pub may-share : (drops : Bool) → drops ≡ false → IsWriterPlace w.place → ¬ IsOfBuffer w.place
      → can_share drops (row_of s).place ≡ true
  may-share drops none writes other =
      subst (λ t. can_share drops (row_of t).place ≡ true) seen
      (share-at drops none b w.place fits writes other)

  pub may-not-share : (drops : Bool) → IsOfBuffer w.place
      → can_share drops (row_of s).place ≡ false
  may-not-share drops is =
      subst (λ t. can_share drops (row_of t).place ≡ false) seen
      (share-not drops b w.place fits is)
