-- Whether an owner's end was that of the last one.
use Rattle.std.specs.Prelude.{Bool, true, false}
use Rattle.arc_owners.specs.declared.count.tokens.Release.{Release}
use Rattle.arc_owners.specs.declared.count.tokens.LifetimeEnd.{LifetimeEnd}
use Rattle.arc_owners.specs.declared.count.tokens.Release.TheVariants.{Last, NotLast}

abbrev pub is_last : Release → Bool
is_last (Last term) = true
is_last NotLast = false

-- what holds of the right to end the lifetime, where it was the last owner
abbrev pub IfLast : Release → (LifetimeEnd → Type 0) → Type 0
IfLast (Last term) φ = φ term
IfLast NotLast φ = Unit {0}
