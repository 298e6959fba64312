-- Worked runs, computed from the definitions alone.
use Rattle.std.proofs.Common.{◌≡◌, ℕ, true, false, List, [], ◌∷◌, length, refl, sym, ap, arith}
use Rattle.std.proofs.Common.{lit<}
use Rattle.std.proofs.lemmas.Bool.{false≢true}
use Rattle.arc_owners.specs.declared.history.entry.Entry.TheVariants.{Up, Full, Down, Alone}
use Rattle.arc_owners.specs.declared.history.entry.Entry.TheVariants.{Promote, Joined}
use Rattle.arc_owners.specs.declared.history.event.Event.TheVariants.{Load, ExchangeWon}
use Rattle.arc_owners.specs.declared.history.event.Event.TheVariants.{ExchangeLost, CountUp}
use Rattle.arc_owners.specs.declared.history.event.Event.TheVariants.{FullFound, CountDown}
use Rattle.arc_owners.specs.declared.history.event.Event.TheVariants.{UniquenessLoad}
use Rattle.arc_owners.specs.history.Histories.{Lone, Counted, owners_ever, owners_ended}
use Rattle.arc_owners.specs.history.Histories.{live_owners, is_promoted, is_counted, IsLegal}
use Rattle.arc_owners.proofs.history.Legality.{legal_from}
use Rattle.arc_owners.specs.history.Machine.{is_fresh, step, after_events}

-- two owners are made, the count is found full, one goes, and uniqueness is read of 2; the last
-- event finds another count
pub counted_run : after_events 3 Counted (CountUp 1 0 1 1 ∷ CountUp 1 0 2 2 ∷ FullFound 1
    0 ∷ CountDown 1 1 3 ∷ UniquenessLoad 1 0 2 ∷ CountUp 1 0 5 3 ∷ [])
    ≡ record {
      counted = true;
      count = 2;
      live = 0 ∷ 2 ∷ [];
      ready = [];
      entries =
          Up 0 1 ∷ Up 0 2 ∷ Full 0 ∷ Down 1 ∷ Alone 0 false ∷ [];
    }
unfolding step is_fresh owners_ended
counted_run = refl

-- two threads promote at once
pub promotion : after_events 3 Lone (Load 1 0 ∷ Load 2 0 ∷ ExchangeWon 1 0 1 ∷ ExchangeLost 2
    0 ∷ CountUp 2 0 2 2 ∷ [])
    ≡ record {
      counted = true;
      count = 3;
      live = 0 ∷ 1 ∷ 2 ∷ [];
      ready = 1 ∷ 2 ∷ [];
      entries =
          Promote 0 1 ∷ Joined 0 ∷ Up 0 2 ∷ [];
    }
unfolding step is_fresh owners_ended
promotion = refl

-- one thread promotes, and the first owner goes
pub first_goes : after_events 3 Lone (Load 2 0 ∷ Load 1 0 ∷ ExchangeWon 1 0 1 ∷ CountDown 1 0
    2 ∷ [])
    ≡ record {
      counted = true;
      count = 1;
      live = 1 ∷ [];
      ready = 2 ∷ 1 ∷ [];
      entries =
          Promote 0 1 ∷ Down 0 ∷ [];
    }
unfolding step is_fresh owners_ended
first_goes = refl

-- the history of the promotion is legal
pub promotion_legal : IsLegal 3 Lone (Promote 0 1 ∷ Joined 0 ∷ Up 0 2 ∷ [])
unfolding live_owners owners_ever owners_ended is_counted is_promoted
promotion_legal = legal_from 3 Lone (Promote 0 1 ∷ Joined 0 ∷ Up 0 2 ∷ [])
    ((refl, refl, refl), ((refl, refl), ((refl, refl, refl, lit< tt), tt)))

-- no third owner where there can be two
pub up_at_most_illegal : IsLegal 2 Counted (Up 0 1 ∷ Up 0 2 ∷ []) → ⊥
unfolding live_owners owners_ever owners_ended is_counted is_promoted
up_at_most_illegal h = absurd (omega (arith, (h.each (Up 0 1 ∷ []) [] (Up 0 2) refl).3))

-- nothing after the last owner is gone
pub after_last_illegal : IsLegal 3 Counted (Down 0 ∷ Down 0 ∷ []) → ⊥
unfolding live_owners owners_ever owners_ended
after_last_illegal h = false≢true (h.each (Down 0 ∷ []) [] (Down 0) refl)

-- no second promotion
pub promoted_twice_illegal : IsLegal 3 Lone (Promote 0 1 ∷ Down 1 ∷ Promote 0 2 ∷ []) → ⊥
unfolding live_owners owners_ever owners_ended is_counted is_promoted
promoted_twice_illegal h =
    false≢true (sym (h.each (Promote 0 1 ∷ Down 1 ∷ []) [] (Promote 0 2) refl).2)

-- an owner beside another isn't found alone
pub alone_at_two_illegal : IsLegal 3 Counted (Up 0 1 ∷ Alone 0 true ∷ []) → ⊥
unfolding live_owners owners_ever owners_ended is_counted is_promoted
alone_at_two_illegal h =
    let e : ◌≡◌ {A = List ℕ} (0 ∷ 1 ∷ []) (0 ∷ []) =
    (h.each (Up 0 1 ∷ []) [] (Alone 0 true) refl).2.0 refl in absurd (omega (arith, ap length e))

-- a lone word has no uniqueness to read
pub alone_when_lone_illegal : IsLegal 3 Lone (Alone 0 true ∷ []) → ⊥
unfolding live_owners owners_ever owners_ended is_counted is_promoted
alone_when_lone_illegal h = false≢true (h.each [] [] (Alone 0 true) refl).1
