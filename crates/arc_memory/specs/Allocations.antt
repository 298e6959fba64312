-- Places as parts of an allocation, as contracts see them.
use Rattle.std.specs.Prelude.{◌≡◌}
use Rattle.arc_memory.specs.Memory.{Extent}
use Rattle.arc_memory.specs.LentMemory.{LentMemory}
use Rattle.arc_memory.specs.declared.places.Places.{Places}
use Rattle.arc_memory.specs.declared.lodging.Lodging.{Lodging}

module _ {T : Type 0} where
  -- both lie in the same allocation
  abbrev pub IsPart : Places T → Places T → Type 0
  IsPart p q = (q.base ≡ p.base) × (q.whole ≡ p.whole)

  -- all the places that an allocation has
  abbrev pub IsAllOf : {A : Type 0} → Places T → Extent A → Type 0
  IsAllOf p e = (p.base ≡ e.base) × (p.whole ≡ e.count) × (p.start ≡ 0) × (p.count ≡ e.count)

  -- they lie in the memory that was lent
  abbrev pub IsPartOfLent : LentMemory → Places T → Type 0
  IsPartOfLent m p = (p.base ≡ m.base) × (p.whole ≡ m.whole)

  -- these places lie under what lodges there
  abbrev pub LieUnder : Lodging T → Places T → Type 0
  LieUnder l p = (l.base ≡ p.base) × (l.whole ≡ p.whole) × (l.start ≡ p.start) × (l.count ≡ p.count)
