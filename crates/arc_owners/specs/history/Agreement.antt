-- When a run of the word machine agrees with an owner history.
use Rattle.std.specs.Prelude.{◌≡◌, ℕ, Bool, true, false, List, [], ◌∷◌, ◌++◌, length, ◌⊎◌}
use Rattle.arc_owners.specs.history.Histories.{Beginning, is_in, live_owners, is_counted}
use Rattle.arc_owners.specs.history.Machine.{Machine, may_happen, changed, after_events}
use Rattle.arc_owners.specs.declared.history.entry.Entry.{Entry}
use Rattle.arc_owners.specs.declared.history.event.Event.{Event}
use Rattle.arc_owners.specs.declared.history.event.Event.TheVariants.{Load, ExchangeWon}
use Rattle.arc_owners.specs.declared.history.event.Event.TheVariants.{ExchangeLost, CountUp}
use Rattle.arc_owners.specs.declared.history.event.Event.TheVariants.{FullFound, CountDown}
use Rattle.arc_owners.specs.declared.history.event.Event.TheVariants.{UniquenessLoad}
use Rattle.arc_owners.specs.declared.history.entry.Entry.TheVariants.{Up, Full, Down, Alone}
use Rattle.arc_owners.specs.declared.history.entry.Entry.TheVariants.{Promote, Joined}

-- the machine tells the history: its entries in order, its live owners, and their number; a lone
-- word has one owner
pub record Tells (began : Beginning) (m : Machine) (history : List Entry) : Type 0 where
  pub entries : m.entries ≡ history
  pub live : m.live ≡ live_owners history
  pub count : m.count ≡ length (live_owners history)
  pub counted : m.counted ≡ is_counted began history
  pub lone : m.counted ≡ false → length (live_owners history) ≡ 1

-- the machine after its sole owner ended the block without a step: the word is as it was, and no
-- owner lives
abbrev pub ended_by : ℕ → Machine → Machine
ended_by owner m = record m { live = []; entries = m.entries ++ Down owner ∷ [] }

-- the machine agrees with a history: it tells it, or it tells all but the Down by which a sole
-- owner ended the block without a step
abbrev pub Agrees : Beginning → Machine → List Entry → Type 0
Agrees began m history =
    Tells began m history
    ⊎ ((owner : ℕ) × (m.live ≡ owner ∷ []) × Tells began m m.entries
    × (history ≡ m.entries ++ Down owner ∷ []))

-- the run of these events on a block from its beginning agrees with the history
abbrev pub RunAgrees : ℕ → Beginning → List Event → List Entry → Type 0
RunAgrees most began events history = Agrees began (after_events most began events) history

-- the thread that makes an event
abbrev pub thread_of : Event → ℕ
thread_of (Load thread by) = thread
thread_of (ExchangeWon thread by new) = thread
thread_of (ExchangeLost thread by) = thread
thread_of (CountUp thread by seen new) = thread
thread_of (FullFound thread by) = thread
thread_of (CountDown thread by seen) = thread
thread_of (UniquenessLoad thread by seen) = thread

-- whether an entry is that of a promoting exchange, which a thread makes that has found the word
-- lone
abbrev pub is_exchange : Entry → Bool
is_exchange (Up by new) = false
is_exchange (Full by) = false
is_exchange (Down owner) = false
is_exchange (Alone by found) = false
is_exchange (Promote by new) = true
is_exchange (Joined by) = true

-- one event of this thread leads from the machine to one that tells the history
abbrev pub LeadsTo : ℕ → Beginning → Machine → ℕ → List Entry → Type 0
LeadsTo most began m thread history =
    (event : Event) × (thread_of event ≡ thread) × (may_happen most m event ≡ true)
    × Tells began (changed m event) history

-- the entry is one event of the word machine: whichever machine tells the history before it, an
-- event of whichever thread, ready where that is asked, leads to one that tells it with the entry
abbrev pub IsOneEvent : ℕ → Beginning → List Entry → Entry → Type 0
IsOneEvent most began history entry =
    (m : Machine) (thread : ℕ) → Tells began m history
    → (is_exchange entry ≡ true → is_in thread m.ready ≡ true)
    → LeadsTo most began m thread (history ++ entry ∷ [])

-- the entry is the end without a step: whichever machine tells the history before it agrees with it
-- and the entry, as it is
abbrev pub IsEndWithoutStep : Beginning → List Entry → Entry → Type 0
IsEndWithoutStep began history entry = (m : Machine) → Tells began m history
    → Agrees began m (history ++ entry ∷ [])

-- a step on a block's word: one event of the word machine. On a lone word an owner's end is the end
-- without a step
abbrev pub IsOneStep : ℕ → Beginning → List Entry → Entry → Type 0
IsOneStep most began history entry =
    IsOneEvent most began history entry
    ⊎ ((is_counted began history ≡ false) × IsEndWithoutStep began history entry)
