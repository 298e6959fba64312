-- Parts of a row: where they stand, and that they fit.
use Rattle.std.proofs.Common.{◌≡◌, ℕ, Bool, true, false, if◌then◌else◌, Option}
use Rattle.std.proofs.Common.{refl}
use Rattle.arc_block.specs.Place.{Place, nowhere, static_data, on_block, moved}
use Rattle.arc_block.specs.Table.{Row, Role}
use Rattle.arc_block.specs.Table.{reader, sole_writer, one_writer_of_several, inline, forgotten}
use Rattle.arc_parts.specs.Writers.{with_capacity}
use Rattle.arc_commands.specs.Blocks.{is_sole, is_writer}
use Rattle.arc_commands.specs.Apart.{Covers, ShareNone}
use Rattle.arc_commands.specs.Fits.{RowFits}

-- a part stands on the block on which the whole does, or on none
abbrev pub StaysOn : {M : Type 0} → Place (Option ℕ) M → Place (Option ℕ) M → Type 0
StaysOn whole nowhere = Unit {0}
StaysOn whole static_data = Unit {0}
StaysOn nowhere (on_block block offset info) = ⊥
StaysOn static_data (on_block block offset info) = ⊥
StaysOn (on_block one here old) (on_block block offset info) = (one ≡ block) × (old ≡ info)

module _ {M : Type 0} where
  pub stays-same : (place : Place (Option ℕ) M) → StaysOn place place
  stays-same nowhere = tt
  stays-same static_data = tt
  stays-same (on_block block offset info) = (refl, refl)

  pub stays-moved : (by : ℕ) (place : Place (Option ℕ) M) → StaysOn place (moved by place)
  stays-moved by nowhere = tt
  stays-moved by static_data = tt
  stays-moved by (on_block block offset info) = (refl, refl)

  pub stays-part : (nothing : Bool) (by : ℕ) (place : Place (Option ℕ) M)
      → StaysOn place (if nothing then nowhere else moved by place)
  stays-part true by place = tt
  stays-part false by place = stays-moved by place

-- a part stands so, and is a sole writer's where the whole is
abbrev pub IsPart : {T M : Type 0} → Row T M → Row T M → Type 0
IsPart row part = StaysOn row.place part.place × (is_sole part.role ≡ is_sole row.role)

-- with other places a role is a sole writer's, or any writer's, as before
same-with : (role : Role) (places : ℕ)
    → (is_sole (with_capacity role places) ≡ is_sole role)
    × (is_writer (with_capacity role places) ≡ is_writer role)
same-with reader places = (refl, refl)
same-with (sole_writer before) places = (refl, refl)
same-with (one_writer_of_several before) places = (refl, refl)
same-with inline places = (refl, refl)
same-with forgotten places = (refl, refl)

pub sole-with : (role : Role) (places : ℕ) → is_sole (with_capacity role places) ≡ is_sole role
sole-with role places = (same-with role places).0

-- either of two roles of which this is the same
same-either : (what : Role → Bool) (b : Bool) (role other : Role) → what other ≡ what role
    → what (if b then other else role) ≡ what role
same-either what true role other same = same
same-either what false role other same = refl

pub sole-either : (b : Bool) (role other : Role) → is_sole other ≡ is_sole role
    → is_sole (if b then other else role) ≡ is_sole role
sole-either = same-either is_sole

-- where a row fits its place, what comes of it does too
abbrev pub KeepsFit : {T M : Type 0} → Bool → Row T M → Row T M → Type 0
KeepsFit drops row part = RowFits drops row → RowFits drops part

-- A part fits where the row does. It is a writer's only where that is one's, and has no places
-- beside its own, unless that is a sole writer's, beside whom nobody stands.
pub record KeepsPart {T M : Type 0} (drops : Bool) (row part : Row T M) : Type 0 where
  pub fits : KeepsFit drops row part
  pub writes : is_writer part.role ≡ true → is_writer row.role ≡ true
  pub places : is_sole row.role ≡ false → RowFits drops row → (n : ℕ) → Covers part n
      → Covers row n

pub part-itself : {T M : Type 0} (drops : Bool) (row : Row T M) → KeepsPart drops row row
part-itself drops row = record {
  fits = λ f. f;
  writes = λ writes. writes;
  places = λ shares f n covers. covers;
}

pub writes-with : (role : Role) (places : ℕ) → is_writer (with_capacity role places) ≡ is_writer
    role
writes-with role places = (same-with role places).1

-- Two parts of a row that isn't a sole writer's: of a writer's they share no place.
pub record Parts {T M : Type 0} (drops : Bool) (row one other : Row T M) : Type 0 where
  pub shares : is_sole row.role ≡ false
  pub first : IsPart row one
  pub second : IsPart row other
  pub keeps : KeepsPart drops row one
  pub also : KeepsPart drops row other
  pub apart : is_writer row.role ≡ true → RowFits drops row → ShareNone one other
