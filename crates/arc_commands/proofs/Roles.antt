-- The roles of rows.
use Rattle.std.proofs.Common.{◌≡◌, ℕ, true, false, refl, sym, ap}
use Rattle.std.proofs.lemmas.Bool.{false≢true}
use Rattle.arc_block.specs.Table.{Role, reader, sole_writer, one_writer_of_several, inline}
use Rattle.arc_block.specs.Table.{forgotten}
use Rattle.arc_parts.specs.Writers.{capacity_of, with_capacity}
use Rattle.arc_commands.specs.Blocks.{is_several, is_small, is_sole, is_writer}

-- what holds of each sole writer's role holds of a role that is one
pub sole_each : (P : Role → Type 0) → ((places : ℕ) → P (sole_writer places)) → (role : Role)
    → is_sole role ≡ true → P role
sole_each P each reader sole = absurd (false≢true sole)
sole_each P each (sole_writer places) sole = each places
sole_each P each (one_writer_of_several places) sole = absurd (false≢true sole)
sole_each P each inline sole = absurd (false≢true sole)
sole_each P each forgotten sole = absurd (false≢true sole)

-- and so of the role of each writer of several
pub several_each : (P : Role → Type 0) → ((places : ℕ) → P (one_writer_of_several places))
    → (role : Role) → is_several role ≡ true → P role
several_each P each reader several = absurd (false≢true several)
several_each P each (sole_writer places) several = absurd (false≢true several)
several_each P each (one_writer_of_several places) several = each places
several_each P each inline several = absurd (false≢true several)
several_each P each forgotten several = absurd (false≢true several)

-- what isn't a writer's role is that of no writer of either sort
pub reads-sole : (role : Role) → is_writer role ≡ false → is_sole role ≡ false
reads-sole reader reads = refl
reads-sole (sole_writer places) reads = absurd (false≢true (sym reads))
reads-sole (one_writer_of_several places) reads = refl
reads-sole inline reads = refl
reads-sole forgotten reads = refl

pub reads-several : (role : Role) → is_writer role ≡ false → is_several role ≡ false
reads-several reader reads = refl
reads-several (sole_writer places) reads = refl
reads-several (one_writer_of_several places) reads = absurd (false≢true (sym reads))
reads-several inline reads = refl
reads-several forgotten reads = refl

-- a sole writer is no writer of several
pub sole-several : (role : Role) → is_sole role ≡ true → is_several role ≡ false
sole-several role sole = sole_each (λ r. is_several r ≡ false) (λ places. refl) role sole

-- a writer who isn't the only one is one of several
pub writes-several : (role : Role) → is_writer role ≡ true → is_sole role ≡ false
    → is_several role ≡ true
writes-several reader writes shares = absurd (false≢true writes)
writes-several (sole_writer places) writes shares = absurd (false≢true (sym shares))
writes-several (one_writer_of_several places) writes shares = refl
writes-several inline writes shares = absurd (false≢true writes)
writes-several forgotten writes shares = absurd (false≢true writes)

-- a writer's role is no small window's
pub sole-small : (role : Role) → is_sole role ≡ true → is_small role ≡ false
sole-small role sole = sole_each (λ r. is_small r ≡ false) (λ places. refl) role sole

pub several-small : (role : Role) → is_several role ≡ true → is_small role ≡ false
several-small role several = several_each (λ r. is_small r ≡ false) (λ places. refl) role several

-- one of several has this role, and with other places that
pub several-is : (role : Role) → is_several role ≡ true
    → role ≡ one_writer_of_several (capacity_of role)
several-is role several =
    several_each (λ r. r ≡ one_writer_of_several (capacity_of r)) (λ places. refl) role several

pub several-with : (role : Role) (places : ℕ) → is_several role ≡ true
    → with_capacity role places ≡ one_writer_of_several places
several-with role places several =
    several_each (λ r. with_capacity r places ≡ one_writer_of_several places) (λ before. refl) role
    several

-- he is a writer, and not the only one
pub several-writes : (role : Role) → is_several role ≡ true → is_writer role ≡ true
several-writes role several = ap is_writer (several-is role several)

pub several-sole : (role : Role) → is_several role ≡ true → is_sole role ≡ false
several-sole role several = ap is_sole (several-is role several)

-- a writer who isn't one of several is the only one
pub writes-sole : (role : Role) → is_writer role ≡ true → is_several role ≡ false
    → is_sole role ≡ true
writes-sole reader writes shares = absurd (false≢true writes)
writes-sole (sole_writer places) writes shares = refl
writes-sole (one_writer_of_several places) writes shares = absurd (false≢true (sym shares))
writes-sole inline writes shares = absurd (false≢true writes)
writes-sole forgotten writes shares = absurd (false≢true writes)
