-- A writer's places, as contracts see them.
use Rattle.std.specs.Prelude.{◌≡◌, ℕ}
use Rattle.arc_memory.specs.declared.places.Places.{Places}
use Rattle.arc_memory.specs.declared.writer_places.WriterPlaces.{WriterPlaces}

module _ {T : Type 0} where
  -- the writer has these places, with the items in them
  pub record HasPlaces (w : WriterPlaces T) (p : Places T) : Type 0 where
    pub base : w.under.base ≡ p.base
    pub whole : w.under.whole ≡ p.whole
    pub start : w.under.start ≡ p.start
    pub count : w.under.count ≡ p.count
    pub items : w.vec.items ≡ p.items

  -- both have the same places
  pub record SamePlaces (v w : WriterPlaces T) : Type 0 where
    pub base : w.under.base ≡ v.under.base
    pub whole : w.under.whole ≡ v.under.whole
    pub start : w.under.start ≡ v.under.start
    pub count : w.under.count ≡ v.under.count

  -- the second has so many of the first's places, from the one of this number on
  pub record IsRangeOf (v : WriterPlaces T) (at many : ℕ) (w : WriterPlaces T) : Type 0 where
    pub base : w.under.base ≡ v.under.base
    pub whole : w.under.whole ≡ v.under.whole
    pub start : w.under.start ≡ at
    pub count : w.under.count ≡ many

  -- these are so many of the writer's places, from the one of this number on
  pub record IsPartOf (v : WriterPlaces T) (at many : ℕ) (p : Places T) : Type 0 where
    pub base : p.base ≡ v.under.base
    pub whole : p.whole ≡ v.under.whole
    pub start : p.start ≡ at
    pub count : p.count ≡ many
