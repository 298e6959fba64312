-- Places that are lent for a lifetime. Each is borrowed by itself, under a ghost name that says
-- what lies there, so a range of them is cut and put together with nothing opened.
use Rattle.std.specs.Prelude.{◌≡◌, refl, ℕ, zero, suc, ◌+◌, List, [], ◌∷◌, length, drop}
use Rattle.std.specs.Prelude.{Option, Some, None}
use Rattle.std.specs.Coded.{Coded, code_by, coded×, coded_ℕ, coded_list, coded_option}
use base.Share
use base.Stored.{Coded-set}
use base.Fraction.{full_share}
use base.Fml.{GName, Share, Fml, ftrue, ffalse, fsep, fex, flft, fobs, fauth, fres}
use base.Fml.{fbor, fobor, flent, froom}
use mir.Raw.{raw}
use denote.RattleType.{RattleType}
use denote.Memory.{lone, part_at}
use denote.RawPtr.{Ptr, block_ptr, null_ptr, coded_ptr}
use denote.Slice.{elements_shared}
use Rattle.core.specs.Mem.{type_size}
use Rattle.arc_memory.specs.Memory.{is_small, place_at}

-- which memory is lent: for which lifetime, the name of each place from the first of the allocation
-- on, where they begin, and how many places it has
pub record LentMemory : Type 0 where
  pub lifetime : ℕ
  pub names : List ℕ
  pub base : Ptr
  pub whole : ℕ

-- it is stored as the tuple of its fields
abbrev pub lent_memory_code : Coded LentMemory
lent_memory_code = code_by (ℕ × (List ℕ × (Ptr × ℕ)))
    (coded× coded_ℕ (coded× (coded_list coded_ℕ) (coded× coded_ptr coded_ℕ)))
    (λ m. (m.lifetime, (m.names, (m.base, m.whole))))
    (λ p. record { lifetime = p.0; names = p.1.0; base = p.1.1.0; whole = p.1.1.1 }) (λ _. refl)

-- which memory is lent can be a fact of a type
pub LentMemory-set : (m n : LentMemory) (e f : m ≡ n) → e ≡ f
LentMemory-set = Coded-set lent_memory_code

-- what lies in so many places, of which the first hold these items and the others nothing
abbrev pub contents : {T : Type 0} → ℕ → List T → List (Option T)
contents zero xs = []
contents (suc n) [] = None ∷ contents n []
contents (suc n) (x ∷ xs) = Some x ∷ contents n xs

-- what lies at a place, by its block and its offset: nothing lies at null
abbrev pub in_memory : Ptr → (ℕ → ℕ → Fml) → Fml
in_memory (block_ptr b o) F = F b o
in_memory null_ptr F = ffalse

module _ (R : RattleType) where
  abbrev pub Held : Type 0
  Held = Option R.Denot

  abbrev pub held_code : Coded Held
  held_code = coded_option R.coded

  -- one place: with an item, or with nothing
  abbrev pub holds : Held → ℕ → ℕ → Fml
  holds None b o = froom (raw (lone R.mir)) b o
  holds (Some x) b o = part_at R full_share x b o

  abbrev pub says : GName → Held → Fml
  says γ y = fobs γ (held_code.code y)

  abbrev pub decides : GName → Held → Fml
  decides γ y = fauth γ (held_code.code y)

  -- what a name says once it can't be set again, to all who ask
  abbrev pub settles : GName → Held → Fml
  settles γ y = fres γ (held_code.code y)

  -- this of each name of places side by side
  abbrev pub each_name : (GName → Held → Fml) → List GName → List Held → Fml
  each_name K gs [] = ftrue
  each_name K [] (y ∷ ys) = ffalse
  each_name K (γ ∷ gs) (y ∷ ys) = fsep (K γ y) (each_name K gs ys)

  -- what is lent of a place: what lies there is what its name says
  abbrev pub named_as : GName → ℕ → ℕ → Held → Fml
  named_as γ b o y = fsep (holds y b o) (decides γ y)

  abbrev pub named : GName → ℕ → ℕ → Fml
  named γ b o = fex Held (named_as γ b o)

  module _ (a : ℕ) where
    -- borrows of places side by side, whose names say what lies there
    abbrev pub borrowed : List GName → List Held → ℕ → ℕ → Fml
    borrowed gs [] b o = ftrue
    borrowed [] (y ∷ ys) b o = ffalse
    borrowed (γ ∷ gs) (y ∷ ys) b o =
        fsep (fsep (fbor (a ∷ []) (named γ b o)) (says γ y)) (borrowed gs ys b (o + type_size R))

    -- both halves of a name, which can be set
    abbrev pub settable : GName → Held → Fml
    settable γ y = fsep (says γ y) (decides γ y)

    -- the same borrows while these places are out: they hold the share q of the lifetime
    abbrev pub opened : Share → List GName → ℕ → ℕ → ℕ → Fml
    opened q gs zero b o = flft (a ∷ []) q
    opened q [] (suc n) b o = ffalse
    opened q (γ ∷ gs) (suc n) b o =
        fsep (fsep (fobor (a ∷ []) (Share.left q) (named γ b o)) (fex Held (settable γ)))
        (opened (Share.right q) gs n b (o + type_size R))

    -- the places come back once the lifetime has ended
    abbrev pub returning : List GName → ℕ → ℕ → Fml
    returning [] b o = ftrue
    returning (γ ∷ gs) b o =
        fsep (flent (a ∷ []) (named γ b o)) (returning gs b (o + type_size R))

    -- items side by side, to be read while the lifetime lasts, and their names have settled
    abbrev pub frozen : List GName → List R.Denot → ℕ → ℕ → Fml
    frozen gs xs b o = fsep (elements_shared R xs b o (a ∷ []))
        (each_name settles gs (contents (length xs) xs))

  module _ (m : LentMemory) (start : ℕ) where
    -- the names from the place `start` on
    abbrev pub names_from : List GName
    names_from = drop start m.names

    abbrev pub there : (ℕ → ℕ → Fml) → Fml
    there F = fsep (is_small R m.whole) (in_memory (place_at R m.base start) F)

    -- what is owned of `count` lent places, of which the first hold these items
    abbrev pub part_owns : ℕ → List R.Denot → Fml
    part_owns count xs = there (borrowed m.lifetime names_from (contents count xs))

    -- what is left of so many lent places while they are out
    abbrev pub open_owns : Share → ℕ → Fml
    open_owns q count = there (opened m.lifetime q names_from count)

    -- what the end of the lifetime gives back
    abbrev pub inheritance_owns : Fml
    inheritance_owns = there (returning m.lifetime names_from)

    -- what each reader has of lent places that are frozen with these items
    abbrev pub frozen_owns : List R.Denot → Fml
    frozen_owns xs = there (frozen m.lifetime names_from xs)
