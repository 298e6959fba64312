-- The word machine: what each event does to a block's word.
use Rattle.std.specs.Prelude.{ℕ, ◌+◌, ◌-◌, ◌==◌, nat_lt, Bool, true, false, not, ◌&&◌, List, []}
use Rattle.std.specs.Prelude.{◌∷◌, ◌++◌, filter, if◌then◌else◌}
use Rattle.std.specs.List.{fold}
use Rattle.arc_owners.specs.history.Histories.{Beginning, Lone, Counted, is_in, owners_ended}
use Rattle.arc_owners.specs.declared.history.entry.Entry.{Entry}
use Rattle.arc_owners.specs.declared.history.entry.Entry.TheVariants.{Up, Full, Down, Alone}
use Rattle.arc_owners.specs.declared.history.entry.Entry.TheVariants.{Promote, Joined}
use Rattle.arc_owners.specs.declared.history.event.Event.{Event}
use Rattle.arc_owners.specs.declared.history.event.Event.TheVariants.{Load, ExchangeWon}
use Rattle.arc_owners.specs.declared.history.event.Event.TheVariants.{ExchangeLost, CountUp}
use Rattle.arc_owners.specs.declared.history.event.Event.TheVariants.{FullFound, CountDown}
use Rattle.arc_owners.specs.declared.history.event.Event.TheVariants.{UniquenessLoad}

-- the word with its owners, the threads that found it lone, and the entries so far
pub record Machine : Type 0 where
  pub counted : Bool
  pub count : ℕ
  pub live : List ℕ
  pub ready : List ℕ
  pub entries : List Entry

-- whether a block begins with a count
abbrev pub begins_counted : Beginning → Bool
begins_counted Lone = false
begins_counted Counted = true

-- how a block begins, from whether it has a count
abbrev pub beginning : Bool → Beginning
beginning false = Lone
beginning true = Counted

-- the machine as a block begins: owner 0 lives
abbrev pub opening : Beginning → Machine
opening began = record {
  counted = begins_counted began;
  count = 1;
  live = 0 ∷ [];
  ready = [];
  entries = [];
}

-- whether an owner's number is one that never was live
unfoldable pub is_fresh : ℕ → Machine → Bool
is_fresh owner m = not (is_in owner m.live) && not (is_in owner (owners_ended m.entries))

-- the owner through which an event's thread acts
abbrev pub actor : Event → ℕ
actor (Load thread by) = by
actor (ExchangeWon thread by new) = by
actor (ExchangeLost thread by) = by
actor (CountUp thread by seen new) = by
actor (FullFound thread by) = by
actor (CountDown thread by seen) = by
actor (UniquenessLoad thread by seen) = by

-- whether the event may happen: its actor lives, and the word is as the event found it
abbrev pub may_happen : ℕ → Machine → Event → Bool
may_happen most m (Load thread by) = is_in by m.live && not m.counted
may_happen most m (ExchangeWon thread by new) = is_in by m.live && not m.counted
    && is_in thread m.ready && is_fresh new m
may_happen most m (ExchangeLost thread by) = is_in by m.live && m.counted && is_in thread m.ready
may_happen most m (CountUp thread by seen new) = is_in by m.live && m.counted && (m.count == seen)
    && nat_lt seen most && is_fresh new m
may_happen most m (FullFound thread by) = is_in by m.live && m.counted && (m.count == most)
may_happen most m (CountDown thread by seen) = is_in by m.live && m.counted && (m.count == seen)
may_happen most m (UniquenessLoad thread by seen) = is_in by m.live && m.counted
    && (m.count == seen)

-- the numbers with this one among them
abbrev pub with_number : ℕ → List ℕ → List ℕ
with_number number numbers = if is_in number numbers then numbers else numbers ++ number ∷ []

-- the numbers but for this one
abbrev pub without_number : ℕ → List ℕ → List ℕ
without_number number numbers = filter (λ x. not (x == number)) numbers

-- the machine after an event that may happen
abbrev pub changed : Machine → Event → Machine
changed m (Load thread by) = record m { ready = with_number thread m.ready }
changed m (ExchangeWon thread by new) = record m {
  counted = true;
  count = 2;
  live = m.live ++ new ∷ [];
  entries = m.entries ++ Promote by new ∷ [];
}
changed m (ExchangeLost thread by) = record m { entries = m.entries ++ Joined by ∷ [] }
changed m (CountUp thread by seen new) = record m {
  count = m.count + 1;
  live = m.live ++ new ∷ [];
  entries = m.entries ++ Up by new ∷ [];
}
changed m (FullFound thread by) = record m { entries = m.entries ++ Full by ∷ [] }
changed m (CountDown thread by seen) = record m {
  count = m.count - 1;
  live = without_number by m.live;
  entries = m.entries ++ Down by ∷ [];
}
changed m (UniquenessLoad thread by seen) =
    record m { entries = m.entries ++ Alone by (m.count == 1) ∷ [] }

-- one event: one that may not happen changes nothing
unfoldable pub step : ℕ → Machine → Event → Machine
step most m event = if may_happen most m event then changed m event else m

-- the machine after these events, in order
abbrev pub run : ℕ → Machine → List Event → Machine
run most m events = fold (step most) m events

-- the machine after these events on a block from its beginning
abbrev pub after_events : ℕ → Beginning → List Event → Machine
after_events most began events = run most (opening began) events
