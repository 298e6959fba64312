-- What a reader looks for in an owner history.
use Rattle.std.specs.Prelude.{◌≡◌, ℕ, ◌≤◌, Bool, IsTrue, ◌↔◌, List, [], ◌∷◌, ◌++◌, length, filter}
use Rattle.arc_owners.specs.declared.history.entry.Entry.{Entry}
use Rattle.arc_owners.specs.declared.history.entry.Entry.TheVariants.{Down, Alone, Joined}
use Rattle.arc_owners.specs.history.Histories.{live_owners, is_promotion, is_promoted, IsAlone}

-- one exchange wins at most
abbrev pub PromotedOnce : List Entry → Type 0
PromotedOnce history = length (filter is_promotion history) ≤ 1

-- each exchange that lost comes after the one that won
abbrev pub LosersAfterWinner : List Entry → Type 0
LosersAfterWinner history = (before after : List Entry) (by : ℕ)
    → history ≡ before ++ Joined by ∷ after → IsTrue (is_promoted before)

-- nothing stands after no owner lives
abbrev pub NothingAfterLast : List Entry → Type 0
NothingAfterLast history = (before after : List Entry) → history ≡ before ++ after
    → live_owners before ≡ [] → after ≡ []

-- the entry after which no owner lives is the Down of an owner that was alone
abbrev pub ReleasedByLast : ℕ → List Entry → Type 0
ReleasedByLast most history =
    (before after : List Entry) (entry : Entry) → history ≡ before ++ entry ∷ after
    → live_owners (before ++ entry ∷ []) ≡ []
    → (owner : ℕ) × (entry ≡ Down owner) × IsAlone most owner before

-- of owners that have all ended one was the last: he was alone, and his Down is the history's last
-- entry; of no other entry is that so
pub record OneIsLast (most : ℕ) (history : List Entry) : Type 0 where
  pub before : List Entry
  pub owner : ℕ
  pub ends : history ≡ before ++ Down owner ∷ []
  pub alone : IsAlone most owner before
  pub only : (earlier later : List Entry) (other : ℕ) → history ≡ earlier ++ Down other ∷ later
      → IsAlone most other earlier → later ≡ []

-- uniqueness is found exactly where the owner is alone
abbrev pub AloneIsExact : ℕ → List Entry → Type 0
AloneIsExact most history = (before after : List Entry) (by : ℕ) (found : Bool)
    → history ≡ before ++ Alone by found ∷ after → (IsTrue found ↔ IsAlone most by before)
