-- Items once: the books of a run say what was put into each block, and where it is: in the block,
-- handed out, or dropped.
use Rattle.std.specs.Prelude.{◌≡◌, ◌↔◌, ℕ, ◌+◌, ◌<◌, ◌==◌, Bool, true, false, if◌then◌else◌}
use Rattle.std.specs.Prelude.{◌||◌, not, nat_lt, is_some, List, [], ◌∷◌, ◌++◌, length, replicate}
use Rattle.std.specs.Prelude.{Option, Some, None}
use Rattle.std.specs.Option.{option_map_or}
use Rattle.arc_buffer.specs.Slice.{sub}
use Rattle.arc_block.specs.Block.{Sort, BlockInfo, vector, raw}
use Rattle.arc_block.specs.Place.{on_block}
use Rattle.arc_block.specs.Table.{Row, Table, StandsOn, block_of, owners, row_at}
use Rattle.arc_commands.specs.Blocks.{SaysOf}
use Rattle.arc_commands.specs.Changes.{Setting, is_buffer}
use Rattle.arc_commands.specs.Commands.{ListCmd, ListReply}
use Rattle.arc_commands.specs.Step.{Step, window_of}
use Rattle.arc_commands.specs.declared.command.Cmd.TheVariants.{Slice, Small, Vec, Raw, Buf, MBuf}
use Rattle.arc_commands.specs.declared.command.Cmd.TheVariants.{Zero, MSlice, Push, Ext}
use Rattle.arc_commands.specs.declared.command.Reply.TheVariants as reply

-- where the things of a block are
pub data Whereabouts : Type 0 where
  in_block : Whereabouts
  handed_out : Whereabouts
  dropped : Whereabouts

-- What the books say of a block: the items that were put into it, each at the place at which it was
-- put in, and where they are. The block's vector or buffer is where its items are.
pub record Holding (T : Type 0) : Type 0 where
  pub items : List T
  pub are : Whereabouts

-- the books, by the numbers of blocks
abbrev pub Books : Type 0 → Type 0
Books T = ℕ → Holding T

-- a block into which nothing was put yet
abbrev pub nothing_yet : {T : Type 0} → Holding T
nothing_yet = record { items = []; are = in_block }

-- the items that a command brings
abbrev pub brought : {T M : Type 0} → Setting T → ListCmd T M → List T
brought setting (Slice items) = items
brought setting (Small items) = items
brought setting (Vec items) = items
brought setting (Raw given) = given
brought setting (Buf given metadata) = given
brought setting (MBuf given metadata) = given
brought setting (Zero count) = option_map_or (λ item. replicate count item) setting.zero []
brought setting (MSlice items) = items
brought setting (Push i item) = item ∷ []
brought setting (Ext i items) = items
brought setting command = []

-- those that it puts into a block, by what it is answered
abbrev pub put_in : {T M : Type 0} → Setting T → ListCmd T M → ListReply T M → List T
put_in setting c (reply.New number) = brought setting c
put_in setting c reply.Ok = brought setting c
put_in setting c other = []

-- the items that a reply hands out, in a vector, a box, a buffer or an `Arc`
abbrev pub given : {T M : Type 0} → ListReply T M → Option (List T)
given (reply.Vec items) = Some items
given (reply.Boxed items) = Some items
given (reply.Buffer items) = Some items
given (reply.Raw items) = Some items
given other = None

-- a reply hands out what a block of this sort keeps
abbrev pub HandsOutSort : {T M : Type 0} → ListReply T M → Sort → Type 0
HandsOutSort (reply.Vec items) sort = sort ≡ vector
HandsOutSort (reply.Boxed items) sort = sort ≡ vector
HandsOutSort (reply.Buffer items) sort = is_buffer sort ≡ true
HandsOutSort (reply.Raw items) sort = sort ≡ raw
HandsOutSort other sort = ⊥

-- Where the things of a block are after a step, by where they were, whether the reply hands
-- something out, and whether a window stands on the block then. Without one they have left it.
abbrev pub where_then : (hands stands : Bool) → Whereabouts → Whereabouts
where_then hands true was = was
where_then true false in_block = handed_out
where_then false false in_block = dropped
where_then hands false handed_out = handed_out
where_then hands false dropped = dropped

-- The block of this number was handed out, and these are all its items: they were in it, and in
-- these books they are handed out.
pub record WasHandedOut {T : Type 0} (drops : Bool) (before after : Books T) (n : ℕ)
    (items : List T) : Type 0 where
  pub was : (before n).are ≡ in_block
  pub now : (after n).are ≡ handed_out
  pub all : drops ≡ true → (before n).items ≡ items

module _ {T M : Type 0} where
  -- whether a window stands on the block with this number
  abbrev pub has_window : Table T M → ℕ → Bool
  has_window t n = nat_lt 0 (owners t n)

  -- whether a window stands on it that this is the number of, if it is one
  abbrev pub is_under : Table T M → Option ℕ → ℕ → Bool
  is_under t window n = option_map_or (λ i. option_map_or (λ row.
      option_map_or (λ block. block == n) (block_of row.place) false)
      (row_at t i) false) window false

  -- The books after a step. What is put in comes into the new block, or else into the block on
  -- which the command's window stood, behind the items there.
  abbrev pub books_after : Setting T → (old : Table T M) → ListCmd T M → ListReply T M
      → (new : Table T M) → Books T → Books T
  books_after setting old c r new books n =
      let is_old = nat_lt n old.blocks in
      let before = if is_old then books n else nothing_yet in
      let here = not is_old || is_under old (window_of c) n in
      record {
        items = before.items ++ (if here then put_in setting c r else []);
        are = where_then (is_some (given r)) (has_window new n) before.are;
      }

  -- What a row shows of the block on which it stands: that as many places are full as items were
  -- put in, and at its own places just these.
  pub record ShowsOf (row : Row T M) (offset : ℕ) (info : BlockInfo M) (items : List T)
      : Type 0 where
    pub full : info.full ≡ Some (length items)
    pub shown : row.items ≡ sub items offset (offset + length row.items)

  -- The books are right: the things of a block are in it exactly as long as a window stands on it;
  -- and where items are dropped one by one, each row shows of these what the books say.
  pub record AreRight (drops : Bool) (t : Table T M) (books : Books T) : Type 0 where
    pub inside : (n : ℕ) → n < t.blocks
        → ((books n).are ≡ in_block) ↔ ((i : ℕ) × StandsOn t i n)
    pub shows : drops ≡ true → (i n offset : ℕ) (info : BlockInfo M) (row : Row T M)
        → row_at t i ≡ Some row → row.place ≡ on_block (Some n) offset info
        → ShowsOf row offset info (books n).items

  -- row i is the only one on the block with this number
  pub record IsLastOn (t : Table T M) (i n : ℕ) : Type 0 where
    pub stands : StandsOn t i n
    pub only : (j : ℕ) → StandsOn t j n → j ≡ i

  -- A reply hands out what the block of the command's window keeps. An `Arc` that is a block by
  -- itself has no number, and isn't in the books.
  pub record HandsOut (drops : Bool) (t : Table T M) (c : ListCmd T M) (r : ListReply T M)
      (before after : Books T) (items : List T) : Type 0 where
    pub window : ℕ
    pub row : Row T M
    pub block : Option ℕ
    pub offset : ℕ
    pub info : BlockInfo M
    pub on : window_of c ≡ Some window
    pub alive : row_at t window ≡ Some row
    pub stood : row.place ≡ on_block block offset info
    pub keeps : HandsOutSort r info.sort
    pub out : (n : ℕ) → block ≡ Some n → WasHandedOut drops before after n items

  -- What a step does to the things of blocks.
  pub record EachOnce (setting : Setting T) (old : Table T M) (c : ListCmd T M)
      (r : ListReply T M) (new : Table T M) (before after : Books T) : Type 0 where
    -- a block keeps its vector or buffer, and its metadata, as long as a window stands on it
    pub same : (n : ℕ) (one other : BlockInfo M) → SaysOf old n one → SaysOf new n other
        → (other.sort ≡ one.sort) × (other.given ≡ one.given)
    -- they leave it by a command on the last window there
    pub last : (n : ℕ) → n < old.blocks → (before n).are ≡ in_block
        → ¬ ((after n).are ≡ in_block)
        → (i : ℕ) × (window_of c ≡ Some i) × IsLastOn old i n
    -- what was handed out or dropped stays so
    pub once : (n : ℕ) → n < old.blocks → ¬ ((before n).are ≡ in_block) → after n ≡ before n
    -- what a reply hands out was in a block until then
    pub hands : (items : List T) → given r ≡ Some items
        → HandsOut setting.drops old c r before after items

  -- a table and its books after a step
  abbrev pub Booked : Setting T → (old : Table T M × Books T) → ListCmd T M → ListReply T M
      → (new : Table T M × Books T) → Type 0
  Booked setting old c r new = Step setting old.0 c r new.0
      × (new.1 ≡ books_after setting old.0 c r new.0 old.1)

  -- What holds of the books of each table of a run: they are right, and what was handed out or
  -- dropped before is where it was.
  pub record StayRight (drops : Bool) (old new : Table T M × Books T) : Type 0 where
    pub right : AreRight drops new.0 new.1
    pub once : (n : ℕ) → n < old.0.blocks → ¬ ((old.1 n).are ≡ in_block) → new.1 n ≡ old.1 n
