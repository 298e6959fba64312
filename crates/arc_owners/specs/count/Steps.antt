-- What a step says of an owner's right and of the pass that makes it.
use Rattle.std.specs.Prelude.{◌≡◌, ℕ, ◌+◌, ◌-◌, ◌^◌, ◌<◌, Bool, true, false, List, [], IsTrue, ◌↔◌}
use Rattle.std.specs.Prelude.{not}
use mathlib.Core.List.{IsPrefix}
use Rattle.arc_owners.specs.declared.history.entry.Entry.{Entry}
use Rattle.arc_owners.specs.declared.history.entry.Entry.TheVariants.{Down, Promote}
use Rattle.arc_owners.specs.history.Histories.{Beginning, IsAlone, IsLegal, Lives, is_counted}
use Rattle.arc_owners.specs.declared.count.word.OwnerToken.{OwnerToken}
use Rattle.arc_owners.specs.declared.count.word.PassState.{PassState}
use Rattle.arc_owners.specs.declared.count.word.WordBorrow.{WordBorrow}
use Rattle.arc_owners.specs.declared.count.owner_without_lifetime.OwnerWithoutLifetime as declared
use denote.RawPtr.{Ptr}
use Rattle.arc_owners.specs.count.Invariant.{BlockId, Line, Written, Filled, MadeOne, AddedTo}
use Rattle.arc_owners.specs.count.Invariant.{entries_of, made_by, Lease, lease_after, next_owner}

-- the right is held, by an owner of this block
abbrev pub IsRightOf : {H : Type 0} → BlockId → OwnerToken H → Type 0
IsRightOf t r = (r.held ≡ true) × (r.block ≡ t)

-- the same, to whom the block is lent
abbrev pub IsHeld : {H : Type 0} → BlockId → OwnerToken H → Type 0
IsHeld t r = (r.held ≡ true) × (r.block ≡ t) × (r.lease.is_lent ≡ true)

-- the right is held, by an owner of this block who has it to itself
abbrev pub IsSole : {H : Type 0} → BlockId → OwnerToken H → Type 0
IsSole t r = (r.held ≡ true) × (r.block ≡ t) × (r.lease.is_lent ≡ false)

-- the same owner, whose share of the lifetime is elsewhere
abbrev pub IsWithoutLifetime : {H : Type 0} → OwnerToken H → declared.OwnerWithoutLifetime H
    → Type 0
IsWithoutLifetime r w = (w.block ≡ r.block) × (w.owner ≡ r.owner) × (w.lease ≡ r.lease)
    × (w.born ≡ r.born)

-- the pass is of this block
abbrev pub IsOf : BlockId → PassState → Type 0
IsOf t p = (p.bound ≡ true) × (p.block ≡ t)

-- the word of a new block, which begins with a count or lone, its first owner, to whom it is lent
-- or not, and a pass that has seen nothing
abbrev pub IsOpened : {H : Type 0} → ℕ → Beginning → Bool → Bool → BlockId → OwnerToken H
    → PassState → Type 0
IsOpened most began whole lent t r p =
    (t.most ≡ most) × (t.began ≡ began) × (t.whole ≡ whole)
    × ((r.held ≡ true) × (r.block ≡ t) × (r.lease.is_lent ≡ lent)) × IsOf t p × (r.owner ≡ 0)
    × (r.born ≡ [])
    × (p.number ≡ 0) × (p.ready ≡ false) × (p.lines ≡ [])

-- the same pass of this block, which may have seen more
abbrev pub SamePass : BlockId → PassState → PassState → Type 0
SamePass t p r = (r.bound ≡ true) × (r.block ≡ t) × (r.number ≡ p.number) × (r.ready ≡ p.ready)

-- the pass added this entry to the history before it, which begins with all that it had seen
abbrev pub Wrote : BlockId → PassState → PassState → Entry → Type 0
Wrote t p r e = Written t p.number p.lines e r.lines

-- the pass found the count at its greatest, or is as it was
abbrev pub FullIf : {H : Type 0} → BlockId → PassState → PassState → OwnerToken H → Bool → Type 0
FullIf t p r by b = Filled t p.number p.lines by.owner b r.lines

-- a new owner was made through this one, or nothing was done
abbrev pub RaisedIf : {H : Type 0} → BlockId → PassState → PassState → OwnerToken H → OwnerToken H
    → Bool → Type 0
RaisedIf t p r by new b = MadeOne t p.number p.lines by.owner b r.lines (new.held, new.owner)
    × (new.block ≡ t) × (new.lease ≡ by.lease) × (new.born ≡ r.lines)

-- the word lies at this place for as long as this lease
abbrev pub IsLodged : WordBorrow → Ptr → Lease → Type 0
IsLodged g place l = (g.at ≡ place) × (g.lifetime ≡ l.lifetime)

-- An owner asked for the block back. It is the same owner, and where it was found alone it has the
-- block to itself.
abbrev pub Claimed : {H : Type 0} → BlockId → OwnerToken H → OwnerToken H → Bool → Type 0
Claimed t own new found = (new.held ≡ true) × (new.block ≡ t) × (new.owner ≡ own.owner)
    × (new.born ≡ own.born) × (new.lease ≡ lease_after own.lease found)

-- what the word counts once there is one owner more, of a block that so many may have
abbrev pub next_count : (most count : ℕ) → ℕ
next_count most count = count + 1

abbrev pub IsNext : (most old next : ℕ) → Type 0
IsNext most old next = old < 2 ^ 64 - 1 → next ≡ next_count most old

-- this owner ended, and whether it was the last one
abbrev pub Ends : BlockId → PassState → PassState → ℕ → Bool → Type 0
Ends t p r o last = (before : List Line) × AddedTo t p.number p.lines (λ _. Down o) before r.lines
    × (IsTrue last ↔ IsAlone t.most o (entries_of before))

-- the pass sees the block's whole history, in which this owner lives alone; it added nothing, and
-- under `Whole` it had seen it all
abbrev pub SeesSole : {H : Type 0} → OwnerToken H → PassState → PassState → Type 0
SeesSole own p r =
    SamePass own.block p r × IsPrefix p.lines r.lines
    × (made_by p.number r.lines ≡ made_by p.number p.lines)
    × (own.block.whole ≡ true → r.lines ≡ p.lines)
    × IsAlone own.block.most own.owner (entries_of r.lines)

-- A load of the cell of a block that began lone found the word lone, or its count. The pass has
-- seen all of the history up to there, and added nothing; one that found the word lone is ready.
pub record Looked {H : Type 0} (by : OwnerToken H) (p r : PassState) (lone : Bool)
    : Type 0 where
  pub same : (r.bound ≡ true) × (r.block ≡ by.block) × (r.number ≡ p.number)
  pub ready : (lone ≡ true → r.ready ≡ true) × (p.ready ≡ true → r.ready ≡ true)
  pub kept : IsPrefix p.lines r.lines
  pub own : made_by p.number r.lines ≡ made_by p.number p.lines
  pub undisturbed : by.block.whole ≡ true → p.lines ≡ r.lines
  pub told : is_counted by.block.began (entries_of r.lines) ≡ not lone
  pub legal : IsLegal by.block.most by.block.began (entries_of r.lines)
  pub lives : Lives by.owner (entries_of r.lines)

-- the promoting exchange won through this owner, which made another one
pub record Promoted {H : Type 0} (by : OwnerToken H) (p r : PassState) (new : OwnerToken H)
    : Type 0 where
  pub before : List Line
  pub added : AddedTo by.block p.number p.lines (λ h. Promote by.owner (next_owner h)) before
      r.lines
  pub held : new.held ≡ true
  pub block : new.block ≡ by.block
  pub owner : new.owner ≡ next_owner before
  pub lease : new.lease ≡ by.lease
  pub born : new.born ≡ r.lines

-- a new pass of a block: it has seen these lines, and made nothing
abbrev pub IsForkOf : BlockId → List Line → PassState → Type 0
IsForkOf t born new = IsOf t new × (new.ready ≡ false) × IsPrefix born new.lines
    × (made_by new.number new.lines ≡ [])

-- of an owner's block, which has seen how the owner was made
abbrev pub IsFork : {H : Type 0} → OwnerToken H → PassState → Type 0
IsFork own new = IsForkOf own.block own.born new

-- this owner ended with a new pass, which this one is afterwards, and whether it was the last one
pub record EndsWithNew {H : Type 0} (own : OwnerToken H) (after : PassState)
    (last : Bool) : Type 0 where
  pub new : PassState
  pub made : IsFork own new
  pub same : SamePass own.block new after
  pub ended : Ends own.block new after own.owner last
