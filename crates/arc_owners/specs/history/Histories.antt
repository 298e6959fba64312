-- Owner histories: who lives after one, and which are legal.
use Rattle.std.specs.Prelude.{◌≡◌, ℕ, ◌<◌, ◌==◌, Bool, true, false, not, IsTrue, ◌↔◌, List, [], ◌∷◌}
use Rattle.std.specs.Prelude.{◌++◌, length, Option, Some, None, filter}
use Rattle.std.specs.List.{list_any, filter_map}
use Rattle.arc_owners.specs.declared.history.entry.Entry.{Entry}
use Rattle.arc_owners.specs.declared.history.entry.Entry.TheVariants.{Up, Full, Down, Alone}
use Rattle.arc_owners.specs.declared.history.entry.Entry.TheVariants.{Promote, Joined}

-- a block begins with a lone vector, or with a count
pub data Beginning : Type 0 where
  Lone : Beginning
  Counted : Beginning

-- whether a number stands among these
abbrev pub is_in : ℕ → List ℕ → Bool
is_in number numbers = list_any (λ x. x == number) numbers

-- the owner that an entry makes
abbrev pub owner_made : Entry → Option ℕ
owner_made (Up by new) = Some new
owner_made (Full by) = None
owner_made (Down owner) = None
owner_made (Alone by found) = None
owner_made (Promote by new) = Some new
owner_made (Joined by) = None

-- the owner that an entry ends
abbrev pub owner_ended : Entry → Option ℕ
owner_ended (Up by new) = None
owner_ended (Full by) = None
owner_ended (Down owner) = Some owner
owner_ended (Alone by found) = None
owner_ended (Promote by new) = None
owner_ended (Joined by) = None

-- whether an entry is a promotion
abbrev pub is_promotion : Entry → Bool
is_promotion (Up by new) = false
is_promotion (Full by) = false
is_promotion (Down owner) = false
is_promotion (Alone by found) = false
is_promotion (Promote by new) = true
is_promotion (Joined by) = false

-- the owners that ever lived: the first one, and those made since
unfoldable pub owners_ever : List Entry → List ℕ
owners_ever history = 0 ∷ filter_map owner_made history

-- the owners that ended
unfoldable pub owners_ended : List Entry → List ℕ
owners_ended history = filter_map owner_ended history

-- the live owners: those that ever lived, but for the ones that ended
unfoldable pub live_owners : List Entry → List ℕ
live_owners history =
    filter (λ owner. not (is_in owner (owners_ended history))) (owners_ever history)

-- whether a promotion stands in a history
unfoldable pub is_promoted : List Entry → Bool
is_promoted history = list_any is_promotion history

-- whether the word has a count: it began with one, or a promotion stands
unfoldable pub is_counted : Beginning → List Entry → Bool
is_counted Counted history = true
is_counted Lone history = is_promoted history

-- the owner lives
abbrev pub Lives : ℕ → List Entry → Type 0
Lives owner history = IsTrue (is_in owner (live_owners history))

-- the owner lives, and no other
abbrev pub LivesAlone : ℕ → List Entry → Type 0
LivesAlone owner history = live_owners history ≡ owner ∷ []

-- the owner is alone with a block that can have so many owners at most: what a look at the count
-- finds, and what the last one is
abbrev pub IsAlone : (most owner : ℕ) → List Entry → Type 0
IsAlone most owner history = LivesAlone owner history

-- the owner never lived
abbrev pub NeverLived : ℕ → List Entry → Type 0
NeverLived owner history = is_in owner (owners_ever history) ≡ false

-- the entry may stand after this history of a block that can have so many owners at most
abbrev pub MayFollow : ℕ → Beginning → List Entry → Entry → Type 0
MayFollow most began before (Up by new) =
    Lives by before × (is_in new (owners_ever before) ≡ false) × (is_counted began before ≡ true)
    × (length (live_owners before) < most)
MayFollow most began before (Full by) =
    Lives by before × (is_counted began before ≡ true) × (length (live_owners before) ≡ most)
MayFollow most began before (Down owner) = Lives owner before
MayFollow most began before (Alone by found) =
    Lives by before × (is_counted began before ≡ true) × (IsTrue found ↔ IsAlone most by before)
MayFollow most began before (Promote by new) =
    LivesAlone by before × (is_in new (owners_ever before) ≡ false)
    × (is_counted began before ≡ false)
MayFollow most began before (Joined by) = Lives by before × IsTrue (is_promoted before)

-- a legal history: each entry may follow what stands before it
pub record IsLegal (most : ℕ) (began : Beginning) (history : List Entry) : Type 0 where
  pub each : (before after : List Entry) (entry : Entry) → history ≡ before ++ entry ∷ after
      → MayFollow most began before entry
