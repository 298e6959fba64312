-- What a block's word, its owners and their passes own: the ghost state behind a count.
-- A block's invariant holds ghost state alone, and lasts for good. The word lies elsewhere, and
-- its number and the invariant's agree.
use Rattle.std.specs.Prelude.{◌≡◌, ℕ, zero, suc, ◌^◌, ◌<◌, ◌≤◌, ◌==◌, Bool, true, false, List, []}
use Rattle.std.specs.Prelude.{◌∷◌, ◌++◌, length, slice_index_or, if◌then◌else◌}
use mathlib.Core.List.{IsPrefix}
use mathlib.Core.Option.{Option, none, some}
use base.Fraction.{full_share}
use base.FractionLaws.{Counts}
use base.Share.{quarter, three_quarters}
use base.Stored.{Coded, coded×, coded_ℕ, coded_bool, coded_list, coded_via}
use base.Algebra.{Algebra}
use base.SetCodes.{coded}
use base.Algebras.{both, shares, agreed}
use base.Growing.{Order, prefixes, once, latest, at_least}
use base.Before.{before}
use base.Fml.{Lft, Share, Fml, ftrue, ffalse, fsep, fex, flft, flent, fbor, fshr_bor, fnamed}
use types.Keyed.{entry, entries_from, ticket}
use types.RcWeak.{part, rest}
use denote.RawPtr.{Ptr, block_ptr, null_ptr}
use Rattle.core.specs.Sync.RawAtomic.{word}
use Rattle.core.specs.Sync.RawAtomic.Pointer.{cell}
use Rattle.arc_owners.specs.count.LentNotes.{LentNote, note_coded, no_note}
use Rattle.arc_owners.specs.declared.history.entry.Entry.{Entry}
use Rattle.arc_owners.specs.declared.history.entry.Entry.TheVariants.{Up, Full}
use Rattle.arc_owners.specs.contracts.history.entry.Entry as entry_type
use Rattle.arc_owners.specs.history.Histories.{Beginning, Lone, Counted, live_owners, owners_ever}
use Rattle.arc_owners.specs.history.Histories.{is_counted, MayFollow, IsLegal}
use Rattle.arc_owners.specs.history.Machine.{begins_counted}
use Rattle.std.proofs.Common.{refl, sym}
use Rattle.std.proofs.lemmas.Bool.{false≢true}

-- how a block begins is told by whether it has a count then
pub beginning_told : (x y : Beginning) → begins_counted x ≡ begins_counted y → x ≡ y
beginning_told Lone Lone e = refl
beginning_told Lone Counted e = absurd (false≢true e)
beginning_told Counted Lone e = absurd (false≢true (sym e))
beginning_told Counted Counted e = refl

abbrev pub beginning_coded : Coded Beginning
beginning_coded = coded_via coded_bool begins_counted beginning_told

-- which block it is: the number of its invariant, the ghost names in it, the number of its bank
-- with the name of the receipts for what lies there, and what is fixed when it begins
pub record BlockId : Type 0 where
  pub number : ℕ
  pub history : ℕ
  pub rights : ℕ
  pub passes : ℕ
  pub count : ℕ
  pub place : ℕ
  pub bank : ℕ
  pub receipts : ℕ
  pub most : ℕ
  pub began : Beginning
  pub whole : Bool

abbrev pub block_id_coded : Coded BlockId
block_id_coded = coded_via
    (coded× coded_ℕ (coded× coded_ℕ (coded× coded_ℕ (coded× coded_ℕ (coded× coded_ℕ
    (coded× coded_ℕ (coded× coded_ℕ (coded× coded_ℕ (coded× coded_ℕ
    (coded× beginning_coded coded_bool))))))))))
    (λ (t : BlockId). (
      t.number,
      (
        t.history,
        (
          t.rights,
          (
            t.passes,
            (
              t.count,
              (t.place, (t.bank, (t.receipts, (t.most, (t.began, t.whole))))),
            ),
          ),
        ),
      ),
    ))
    (λ x y e i. record {
      number = (e i).0;
      history = (e i).1.0;
      rights = (e i).1.1.0;
      passes = (e i).1.1.1.0;
      count = (e i).1.1.1.1.0;
      place = (e i).1.1.1.1.1.0;
      bank = (e i).1.1.1.1.1.1.0;
      receipts = (e i).1.1.1.1.1.1.1.0;
      most = (e i).1.1.1.1.1.1.1.1.0;
      began = (e i).1.1.1.1.1.1.1.1.1.0;
      whole = (e i).1.1.1.1.1.1.1.1.1.1;
    })

-- an entry, with the number of the pass that made it
abbrev pub Line : Type 0
Line = ℕ × Entry

abbrev pub line_coded : Coded Line
line_coded = coded× coded_ℕ entry_type.the_row.coded

abbrev pub entries_of : List Line → List Entry
entries_of [] = []
entries_of (l ∷ ls) = l.1 ∷ entries_of ls

-- the entries that one pass made
abbrev pub made_by : ℕ → List Line → List Entry
made_by p [] = []
made_by p (l ∷ ls) = if l.0 == p then l.1 ∷ made_by p ls else made_by p ls

-- whether the block is lent to its owners, for which lifetime, the name of the ticket for its end,
-- and what else is lent for it. A sole owner has it unlent
pub record Lease : Type 0 where
  pub is_lent : Bool
  pub lifetime : ℕ
  pub key : ℕ
  pub note : LentNote

abbrev pub lease_coded : Coded Lease
lease_coded = coded_via (coded× coded_bool (coded× coded_ℕ (coded× coded_ℕ note_coded)))
    (λ (l : Lease). (l.is_lent, (l.lifetime, (l.key, l.note))))
    (λ x y e i. record {
      is_lent = (e i).0;
      lifetime = (e i).1.0;
      key = (e i).1.1.0;
      note = (e i).1.1.1;
    })

-- whether a pass is ready, and what it has made
abbrev pub Seat : Type 0
Seat = Bool × List Entry

abbrev pub seat_coded : Coded Seat
seat_coded = coded× coded_bool (coded_list entry_type.the_row.coded)

abbrev pub told : Type 0 → Fml
told φ = fex φ (λ _. ftrue)

-- cells under one ghost name. Whoever has any share of a cell knows what it holds, and the whole
-- share sets it
abbrev pub halved : {X : Type 0} → Coded X → Algebra
halved c = both shares (agreed (coded c))

module _ {X : Type 0} (c : Coded X) where
  abbrev pub ghost_var : ℕ → ℕ → Share → X → Fml
  ghost_var δ k q x = entry (halved c) δ k (q, x)

  -- what the invariant has of a cell: all but a quarter while that is out, or the whole
  abbrev pub kept : ℕ → ℕ → Bool × X → Fml
  kept δ k (true, x) = ghost_var δ k three_quarters x
  kept δ k (false, x) = ghost_var δ k full_share x

  abbrev pub row : X → ℕ → ℕ → List (Bool × X) → Fml
  row first δ k [] = entries_from (halved c) δ k (λ _. (full_share, first))
  row first δ k (x ∷ xs) = fsep (kept δ k x) (row first δ (suc k) xs)

abbrev pub no_lease : Lease
no_lease = record { is_lent = false; lifetime = 0; key = 0; note = no_note }

abbrev pub fresh_seat : Seat
fresh_seat = (false, [])

abbrev pub counted_as : BlockId → Share → ℕ → Fml
counted_as t q n = ghost_var coded_ℕ t.count 0 q n

-- the right of an owner
abbrev pub right : BlockId → ℕ → Lease → Share → Fml
right t o l q = ghost_var lease_coded t.rights o q l

abbrev pub lines_order : Order (List Line)
lines_order = prefixes line_coded

abbrev pub history_at_least : BlockId → List Line → Fml
history_at_least t ls = at_least lines_order t.history ls

-- under `Whole` the one pass of a block keeps a part of the right to write its history
abbrev pub authority : Bool → Share
authority true = three_quarters
authority false = full_share

abbrev pub withheld : BlockId → Bool → List Line → Fml
withheld t true ls = latest lines_order quarter t.history ls
withheld t false ls = ftrue

abbrev pub places : Order (Option (ℕ × ℕ))
places = once (coded (coded× coded_ℕ coded_ℕ))

abbrev pub is_there : Option (ℕ × ℕ) → Bool
is_there none = false
is_there (some x) = true

-- the word has a count, and so it stays
abbrev pub has_place : BlockId → Fml
has_place t = fex (ℕ × ℕ) (λ x. at_least places t.place (some x))

-- the owners that live, in a roll of who does
abbrev pub living : ℕ → List (Bool × Lease) → List ℕ
living k [] = []
living k (x ∷ xs) = if x.0 then k ∷ living (suc k) xs else living (suc k) xs

abbrev pub upto : ℕ → ℕ → List ℕ
upto k zero = []
upto k (suc n) = k ∷ upto (suc k) n

abbrev pub how_many : List (Bool × Lease) → ℕ
how_many xs = length (living 0 xs)

-- what an invariant says: its lines, who lives, its passes, and for which lifetime the block is
-- lent
pub record State : Type 0 where
  pub lines : List Line
  pub roll : List (Bool × Lease)
  pub seats : List (Bool × Seat)
  pub lease : Lease

pub record FitsFor (most : ℕ) (began : Beginning) (a : State) : Type 0 where
  pub legal : IsLegal most began (entries_of a.lines)
  pub live : live_owners (entries_of a.lines) ≡ living 0 a.roll
  pub ever : owners_ever (entries_of a.lines) ≡ upto 0 (length a.roll)
  pub made : (p : ℕ) → (slice_index_or a.seats p (false, fresh_seat)).1.1 ≡ made_by p a.lines
  pub leased : (o : ℕ) (l : Lease) → slice_index_or a.roll o (false, no_lease) ≡ (true, l)
      → l ≡ a.lease
  pub within : how_many a.roll ≤ most
  pub least : 2 ≤ most
  pub small : most < 2 ^ 64

-- the state is true of the block
abbrev pub Fits : BlockId → State → Type 0
Fits t a = FitsFor t.most t.began a

-- what the owners leave in the invariant of the lifetime, with the ticket for its end: nothing
-- where a sole owner has the block
abbrev pub pooled : Bool → Lease → ℕ → Fml
pooled true l n = fsep (rest 64 l.lifetime (suc n)) (ticket l.key 0)
pooled false l n = told (n ≡ 0)

abbrev pub pool : Lease → ℕ → Fml
pool l zero = ftrue
pool l (suc n) = pooled l.is_lent l n

-- why a share of the lifetime may be an owner's: it is one of the parts that are counted
abbrev pub IsStake : Share → Type 0
IsStake e = Counts 64 e 1

-- what an owner has of the lifetime
abbrev pub staked : Bool → Lease → Fml
staked true l = part 64 l.lifetime
staked false l = ftrue

abbrev pub stake : Lease → Fml
stake l = staked l.is_lent l

-- what a `&` to an owner has of the lifetime
abbrev pub tokens : Bool → Lease → Lft → Fml
tokens true l κ = fshr_bor κ (λ q. flft (l.lifetime ∷ []) q)
tokens false l κ = ftrue

abbrev pub located : BlockId → List Line → Fml
located t ls = fex (Option (ℕ × ℕ)) (λ x.
    fsep (latest places three_quarters t.place x)
    (told (is_counted t.began (entries_of ls) ≡ is_there x)))

-- while an owner lives the word counts how many do. A sole owner may end without a step, and then
-- the word stays as it was
abbrev pub tally_of : BlockId → ℕ → ℕ → Fml
tally_of t n m = fsep (told (0 < n → m ≡ n)) (counted_as t three_quarters m)

abbrev pub tally : BlockId → ℕ → Fml
tally t n = fex ℕ (tally_of t n)

abbrev pub funds : BlockId → Lease → ℕ → Fml
funds t l n = fsep (tally t n) (pool l n)

abbrev pub standing : BlockId → State → Fml
standing t a =
    fsep (latest lines_order (authority t.whole) t.history a.lines)
    (fsep (located t a.lines)
    (fsep (row lease_coded no_lease t.rights 0 a.roll)
    (fsep (row seat_coded fresh_seat t.passes 0 a.seats)
    (fsep (funds t a.lease (how_many a.roll)) (told (Fits t a))))))

abbrev pub contents : BlockId → Fml
contents t = fex State (standing t)

-- the word of a count, wherever it lies
abbrev pub behind : BlockId → ℕ → Fml
behind t n = fsep (counted_as t quarter n) (has_place t)

abbrev pub lies : BlockId → ℕ → ℕ → ℕ → Fml
lies t b o n = fsep (word b o n) (behind t n)

abbrev pub counting : BlockId → ℕ → ℕ → Fml
counting t b o = fex ℕ (lies t b o)

-- A block that began lone has a cell in place of a word: null while it is lone, and then for good
-- the place of the count.
abbrev pub placed : BlockId → Share → Option (ℕ × ℕ) → Fml
placed t q x = latest places q t.place x

abbrev pub pointer : Option (ℕ × ℕ) → Ptr
pointer none = null_ptr
pointer (some x) = block_ptr x.0 x.1

abbrev pub place_coded : Coded (ℕ × ℕ)
place_coded = coded× coded_ℕ coded_ℕ

-- a receipt for the right to free the memory at a place. That right has a type, the receipt has
-- none
abbrev pub receipt : ℕ → ℕ → ℕ × ℕ → Fml
receipt δ k x = ghost_var place_coded δ k quarter x

-- the rights that lie in a bank, which was made for the memory of one allocator
abbrev pub laid : (ℕ × ℕ → Fml) → List (Bool × (ℕ × ℕ)) → Fml
laid right [] = ftrue
laid right ((true, x) ∷ xs) = fsep (right x) (laid right xs)
laid right ((false, x) ∷ xs) = laid right xs

abbrev pub banked_as : (ℕ × ℕ → Fml) → ℕ → List (Bool × (ℕ × ℕ)) → Fml
banked_as right δ xs = fsep (row place_coded (0, 0) δ 0 xs) (laid right xs)

abbrev pub banked : (ℕ × ℕ → Fml) → ℕ → Fml
banked right δ = fex (List (Bool × (ℕ × ℕ))) (banked_as right δ)

-- what lies behind the cell: while it is lone, what the invariant lacks of a count of one owner;
-- then the count, whose place can be compared with null, and a receipt for its memory
abbrev pub pointed : BlockId → Option (ℕ × ℕ) → Fml
pointed t none = counted_as t quarter 1
pointed t (some x) = fsep (told (x.1 < 2 ^ 63))
    (fsep (fex ℕ (λ k. receipt t.receipts k x)) (counting t x.0 x.1))

abbrev pub cell_holds : BlockId → Option (ℕ × ℕ) → Fml
cell_holds t x = fsep (placed t quarter x) (pointed t x)

abbrev pub cell_lies : BlockId → ℕ → ℕ → Option (ℕ × ℕ) → Fml
cell_lies t b o x = fsep (cell b o (pointer x)) (cell_holds t x)

abbrev pub cell_at : BlockId → ℕ → ℕ → Fml
cell_at t b o = fex (Option (ℕ × ℕ)) (cell_lies t b o)

-- whose borrow leads to the count at this place: the count's own, or that of the cell with its
-- pointer
abbrev pub borrowed : BlockId → ℕ → ℕ → Option (ℕ × ℕ) → Fml
borrowed t b o none = counting t b o
borrowed t b o (some c) = cell_at t c.0 c.1

abbrev pub leads : BlockId → ℕ → ℕ → Option (ℕ × ℕ) → Fml
leads t b o none = ftrue
leads t b o (some c) = at_least places t.place (some (b, o))

-- the invariant, and a beginning of its history: what can be had twice
abbrev pub known : BlockId → List Line → Fml
known t ls = fsep (fnamed t.number (contents t)) (history_at_least t ls)

-- what an owner has: the invariant, the history in which it was made, its right, and its stake
abbrev pub share_owns : BlockId → ℕ → Lease → List Line → Fml
share_owns t o l born = fsep (known t born) (fsep (right t o l quarter) (stake l))

-- what an owner has whose part of the lifetime is elsewhere: the invariant, its right, and which
-- share of the lifetime that part is
abbrev pub right_without : BlockId → ℕ → Lease → List Line → Share → Fml
right_without t o l born e = fsep (known t born)
    (fsep (right t o l quarter) (told (IsStake e)))

-- what a pass of a block has: the invariant, what it has seen, and its seat, with what it has made
-- of that
abbrev pub pass_holds : BlockId → ℕ → Bool → List Line → Fml
pass_holds t p ready seen = fsep (history_at_least t seen)
    (fsep (withheld t t.whole seen)
    (ghost_var seat_coded t.passes p quarter (ready, made_by p seen)))

-- the pass p, which has seen these lines, adds an entry to the history before it
pub record Adds (t : BlockId) (p : ℕ) (seen before : List Line) (e : Entry) : Type 0 where
  pub after_seen : IsPrefix seen before
  pub own : made_by p before ≡ made_by p seen
  pub grown : made_by p (before ++ (p, e) ∷ []) ≡ made_by p seen ++ e ∷ []
  pub undisturbed : t.whole ≡ true → seen ≡ before
  pub may : MayFollow t.most t.began (entries_of before) e
  pub legal : IsLegal t.most t.began (entries_of (before ++ (p, e) ∷ []))

-- the number of the next owner of a running call: how many owners the history had
abbrev pub next_owner : List Line → ℕ
next_owner ls = length (owners_ever (entries_of ls))

-- what the last owner has from its end: the whole token of the lifetime, and the ticket
abbrev pub end_tokens : Lease → Bool → Fml
end_tokens l true = fsep (flft (l.lifetime ∷ []) full_share) (ticket l.key 0)
end_tokens l false = ftrue

-- what is lent for the lifetime of a lease comes back for its ticket, once
abbrev pub kept_if : Fml → Lease → Bool → Fml
kept_if P l true = flent (l.lifetime ∷ []) P
kept_if P l false = ticket l.key 0

abbrev pub kept_for : Fml → Lease → Fml
kept_for P l = fex Bool (kept_if P l)

-- how many owners live after these lines
abbrev pub how_many_live : List Line → ℕ
how_many_live ls = length (live_owners (entries_of ls))

-- the lease of an owner who asked for the block back: taken where it was found alone
abbrev pub taken : Lease → Lease
taken l = record { is_lent = false; lifetime = l.lifetime; key = l.key; note = l.note }

abbrev pub lease_after : Lease → Bool → Lease
lease_after l true = taken l
lease_after l false = l

-- what such an owner has: its right, and the end of the lifetime or its part of it
abbrev pub claim_gain : BlockId → ℕ → Lease → Bool → Fml
claim_gain t o l y = fsep (right t o (lease_after l y) quarter)
    (fsep (stake (lease_after l y)) (end_tokens l y))

-- a borrow of the word: the number of the invariant behind which it stands, and the cell that leads
-- to the word, if one does
abbrev pub Borrowing : Type 0
Borrowing = ℕ × Option (ℕ × ℕ)

-- a borrow of the word stands behind an invariant whose number is past the invariant's
abbrev pub word_borrow_as : BlockId → ℕ → ℕ → Lft → Borrowing → Fml
word_borrow_as t b o κ j = fsep (told (t.number < j.0))
    (fsep (leads t b o j.1) (fnamed j.0 (fbor κ (borrowed t b o j.1))))

abbrev pub word_borrow_for : BlockId → ℕ → ℕ → Lft → Fml
word_borrow_for t b o κ = fex Borrowing (word_borrow_as t b o κ)

-- a `&` to the word: such a borrow, for a lifetime that outlasts the reference
abbrev pub lent : BlockId → ℕ → ℕ → Lft → Lft × Borrowing → Fml
lent t b o κ z = fsep (before κ z.0) (word_borrow_as t b o z.0 z.1)

abbrev pub word_shares : BlockId → Ptr → Lft → Fml
word_shares t (block_ptr b o) κ = fex (Lft × Borrowing) (lent t b o κ)
word_shares t null_ptr κ = ffalse

-- the same of a cell
abbrev pub cell_borrow_as : BlockId → ℕ → ℕ → Lft → ℕ → Fml
cell_borrow_as t b o κ j = fsep (told (t.number < j)) (fnamed j (fbor κ (cell_at t b o)))

abbrev pub cell_borrow_for : BlockId → ℕ → ℕ → Lft → Fml
cell_borrow_for t b o κ = fex ℕ (cell_borrow_as t b o κ)

abbrev pub cell_lent : BlockId → ℕ → ℕ → Lft → Lft × ℕ → Fml
cell_lent t b o κ z = fsep (before κ z.0) (cell_borrow_as t b o z.0 z.1)

abbrev pub cell_shares : BlockId → Ptr → Lft → Fml
cell_shares t (block_ptr b o) κ = fex (Lft × ℕ) (cell_lent t b o κ)
cell_shares t null_ptr κ = ffalse

-- the word lies at this place for as long as the block is lent
abbrev pub word_borrow : BlockId → Ptr → ℕ → Fml
word_borrow t (block_ptr b o) a = word_borrow_for t b o (a ∷ [])
word_borrow t null_ptr a = ffalse

-- an owner's right that is held, or none
abbrev pub right_owns : Bool → BlockId → ℕ → Lease → List Line → Fml
right_owns true t o l born = share_owns t o l born
right_owns false t o l born = ftrue

-- what a `&` to an owner has of its right
abbrev pub right_shown : BlockId → ℕ → Lease → List Line → Lft → Fml
right_shown t o l born κ = fsep (known t born) (fshr_bor κ (λ q. right t o l q))

abbrev pub right_shares : Bool → BlockId → ℕ → Lease → List Line → Lft → Fml
right_shares true t o l born κ = fsep (known t born)
    (fsep (fshr_bor κ (λ q. right t o l q)) (tokens l.is_lent l κ))
right_shares false t o l born κ = ftrue

-- a pass of a block, or of none
abbrev pub trace_owns : Bool → BlockId → ℕ → Bool → List Line → Fml
trace_owns true t p ready seen = fsep (known t seen)
    (fsep (withheld t t.whole seen)
    (ghost_var seat_coded t.passes p quarter (ready, made_by p seen)))
trace_owns false t p ready seen = ftrue

-- that a pass has seen a beginning of its block's history
abbrev pub told_of : Bool → BlockId → List Line → Fml
told_of true t seen = history_at_least t seen
told_of false t seen = ftrue

abbrev pub trace_shares : Bool → BlockId → List Line → Fml
trace_shares true t seen = known t seen
trace_shares false t seen = ftrue

-- these lines are those before, after all that the pass had seen, and then its own entry
abbrev pub AddedTo : BlockId → ℕ → List Line → (List Line → Entry) → List Line → List Line → Type 0
AddedTo t p seen e before ls = Adds t p seen before (e before) × (ls ≡ before ++ (p, e before) ∷ [])

abbrev pub Written : BlockId → ℕ → List Line → Entry → List Line → Type 0
Written t p seen e ls = (before : List Line) × AddedTo t p seen (λ _. e) before ls

-- the count was found at its greatest, which is an entry, or the pass is as it was
abbrev pub Filled : BlockId → ℕ → List Line → ℕ → Bool → List Line → Type 0
Filled t p seen o true ls = Written t p seen (Full o) ls
Filled t p seen o false ls = ls ≡ seen

-- a new owner, by its number and the history in which it was made, or none
abbrev pub MadeOne : BlockId → ℕ → List Line → ℕ → Bool → List Line → Bool × ℕ → Type 0
MadeOne t p seen o true ls new = (before : List Line)
    × AddedTo t p seen (λ h. Up o (next_owner h)) before ls × (new.0 ≡ true)
    × (new.1 ≡ next_owner before)
MadeOne t p seen o false ls new = (ls ≡ seen) × (new.0 ≡ false)
