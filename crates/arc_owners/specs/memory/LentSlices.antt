-- Slices that are lent: what is known of their items' place.
use Rattle.std.specs.Prelude.{ℕ, List, ◌∷◌, ◌++◌, length}
use base.Fml.{Lft, Fml, ftrue, fsep}
use denote.RattleType.{RattleType}
use denote.RawPtr.{Ptr, block_of, count_of, in_block}
use denote.Sharing.{said, beside}
use denote.Slice.{room, elements_shared}

-- items lie side by side from p on, where they may be read for a lifetime: p isn't null, a slice
-- has room for as many items, and each is there as behind a `&`
abbrev pub slice_lent : (R : RattleType) → Ptr → List R.Denot → Lft → Fml
slice_lent R p xs = beside (said (fsep (in_block p ftrue) (room R (length xs))))
    (elements_shared R xs (block_of p) (count_of p))

-- for how long a value of type S that is lent for a lifetime shows items of type R: for as long as
-- that lasts, and both types live
abbrev pub shown_for : (R S : RattleType) → ℕ → Lft
shown_for R S a = a ∷ (S.lives ++ R.lives)

-- the items that it shows are there for as long
abbrev pub shown_lent : (R S : RattleType) → Ptr → List R.Denot → ℕ → Fml
shown_lent R S p xs a = slice_lent R p xs (shown_for R S a)
