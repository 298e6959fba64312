-- The slots of a table as rows, and where their windows stand.
use Rattle.std.specs.Prelude.{ℕ, Bool, true, List, [], ◌∷◌, ◌++◌, Option, Some, None, length, map}
use Rattle.std.specs.Option.{option_map}
use Rattle.arc_owners.specs.declared.count.tokens.Pass.{Pass}
use Rattle.arc_owners.specs.declared.mark.Whole.{Whole}
use Rattle.arc_parts.specs.Window.{Window, PartsView, window_of}
use Rattle.arc_block.specs.Given.{Given}
use Rattle.arc_block.specs.Owned.{Stand}
use Rattle.arc_block.specs.Place.{bare_place}
use Rattle.arc_block.specs.Table.{Row, Role, bare, forgotten, inline, one_writer_of_several}
use Rattle.arc_block.specs.Table.{reader, sole_writer}
use Rattle.arc_commands.specs.Blocks.{is_several, is_sole}
use Rattle.arc_commands.specs.State.{State}
use Rattle.arc_slots.specs.Stands.{numbered, stand_at}
use Rattle.arc_slots.specs.declared.window.Held.{Held}
use Rattle.arc_slots.specs.declared.window.Held.TheVariants.{Read, Several, Small, Write}
use Rattle.arc_slots.specs.declared.window.ReadOnly.{ReadOnly}
use Rattle.arc_slots.specs.declared.window.ReadOnly.TheVariants as read_only

-- What contracts see of a slot: its window, what that may do, and the number of the block on which
-- it stands. Of a caller's buffer it is the metadata that is seen, and not the value (`bare`).
pub record SlotView (T M : Type 0) : Type 0 where
  pub window : Window T M
  pub role : Role
  pub block : Option ℕ

-- the role of a slot's window: it is read, or a writer's, or a small one
abbrev pub IsSlotRole : Role → Type 0
IsSlotRole reader = Unit {0}
IsSlotRole (sole_writer places) = Unit {0}
IsSlotRole (one_writer_of_several places) = Unit {0}
IsSlotRole inline = Unit {0}
IsSlotRole forgotten = ⊥

-- the window that a slot holds, of small ones K
abbrev pub AnyWindow : (T M K : Type 0) → Type 0
AnyWindow T M K = Held (Window T M) (PartsView T M) (PartsView T M) K

-- one that isn't written, as a slot holds it
abbrev pub as_held : {T M K : Type 0} → ReadOnly (Window T M) K → AnyWindow T M K
as_held (read_only.Read window) = Read window
as_held (read_only.Small window) = Small window

-- ---- without the value of a block's buffer

module _ {T B M : Type 0} where
  -- a window that is read
  abbrev pub bare_window : Window T (Given B M) → Window T M
  bare_window w = record { items = w.items; place = bare_place w.place }

  -- the one that a slot holds; small ones are seen so already
  abbrev pub bare_held : {K : Type 0} → AnyWindow T (Given B M) K → AnyWindow T M K
  bare_held (Read window) = Read (bare_window window)
  bare_held (Write window) = Write (bare window)
  bare_held (Several window) = Several (bare window)
  bare_held (Small window) = Small window

  -- one that isn't written
  abbrev pub bare_read : {K : Type 0} → ReadOnly (Window T (Given B M)) K
      → ReadOnly (Window T M) K
  bare_read (read_only.Read window) = read_only.Read (bare_window window)
  bare_read (read_only.Small window) = read_only.Small window

-- ---- as it is seen of a slot

module _ {T M K : Type 0} where
  -- the window by itself, where a small one is seen as these parts
  abbrev pub window_in : (K → PartsView T M) → AnyWindow T M K → Window T M
  window_in small (Read window) = window
  window_in small (Write window) = window_of window
  window_in small (Several window) = window_of window
  window_in small (Small window) = window_of (small window)

  -- what it may do
  abbrev pub role_in : AnyWindow T M K → Role
  role_in (Read window) = reader
  role_in (Write window) = window.role
  role_in (Several window) = window.role
  role_in (Small window) = inline

  -- its items, where they stand, and what it may do
  abbrev pub parts_in : (K → PartsView T M) → AnyWindow T M K → PartsView T M
  parts_in small h = record {
    items = (window_in small h).items;
    place = (window_in small h).place;
    role = role_in h;
  }

  -- it, on the block with this number, as it is seen of a slot
  abbrev pub held : (K → PartsView T M) → AnyWindow T M K → Option ℕ → SlotView T M
  held small h block = record { window = window_in small h; role = role_in h; block = block }

  -- a window that is written is a sole writer's, or that of one of several
  abbrev pub role_fits : AnyWindow T M K → Bool
  role_fits (Read window) = true
  role_fits (Write window) = is_sole window.role
  role_fits (Several window) = is_several window.role
  role_fits (Small window) = true

  -- several write only where the kind has windows of several writers
  abbrev pub may_be_shared : (shares : Bool) → AnyWindow T M K → Bool
  may_be_shared shares (Read window) = true
  may_be_shared shares (Write window) = true
  may_be_shared shares (Several window) = shares
  may_be_shared shares (Small window) = true

module _ {T M : Type 0} where
  -- a writer's window, on the block with this number, as it is seen of a slot
  abbrev pub writer_slot : PartsView T M → Option ℕ → SlotView T M
  writer_slot window block = record {
    window = window_of window;
    role = window.role;
    block = block;
  }

  -- a window that is read, on the block with this number, as it is seen of a slot
  abbrev pub read_slot : Window T M → Option ℕ → SlotView T M
  read_slot window block = record { window = window; role = reader; block = block }

  -- a slot as a row
  abbrev pub row_of : SlotView T M → Row T M
  row_of s = record {
    items = s.window.items;
    place = numbered s.block s.window.place;
    role = s.role;
  }

  -- where its window stands, if that hasn't gone
  abbrev pub stand_of : Option (SlotView T M) → Stand
  stand_of None = None
  stand_of (Some s) = stand_at s.block s.window.place

  abbrev pub stands_of : List (Option (SlotView T M)) → List Stand
  stands_of slots = map stand_of slots

-- a slot more, if there is one
abbrev pub with_slot : {X : Type 0} → List (Option X) → Option X → List (Option X)
with_slot slots None = slots
with_slot slots (Some slot) = slots ++ Some slot ∷ []

-- what these slots are seen as, with the passes of the blocks: there were as many blocks as there
-- are passes
abbrev pub state_of : {T M : Type 0} → List (Option (SlotView T M)) → List (Pass Whole) → State T M
state_of slots passes = record {
  table = record { rows = map (option_map row_of) slots; blocks = length passes };
  standing = record { stands = stands_of slots; passes = passes };
}
