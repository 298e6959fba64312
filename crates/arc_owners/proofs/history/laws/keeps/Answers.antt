use Rattle.std.proofs.Common.{length, ap, refl, ◌∙◌, inl, inr}
use Rattle.arc_owners.specs.history.Machine.{after_events}
use Rattle.arc_owners.specs.history.Agreement.{ended_by}
use Rattle.arc_owners.proofs.history.Told.{stands, tells, agrees-legal, sole-ended, stays}
use Rattle.arc_owners.proofs.history.Told.{promoted_once, losers_after_winner, nothing_after_last}
use Rattle.arc_owners.proofs.history.Told.{released_by_last, alone_is_exact}
use Rattle.arc_owners.proofs.history.laws.keeps.Goals as goal

pub returns-clause-agrees : goal.returns-clause-agrees
returns-clause-agrees g c began =
    let events = c.args.events.now in
    inl (tells g.row.MAX began (after_events g.row.MAX began events)
    (stands g.row.MAX began events c.requires))

pub returns-clause-legal : goal.returns-clause-legal
returns-clause-legal g c began history agrees =
    let events = c.args.events.now in
    agrees-legal g.row.MAX began (after_events g.row.MAX began events) history
    (stands g.row.MAX began events c.requires) agrees

pub returns-clause-counts_owners : goal.returns-clause-counts_owners
returns-clause-counts_owners g c began counted =
    let s = stands g.row.MAX began c.args.events.now c.requires in s.count ∙ ap length s.live

pub returns-clause-within : goal.returns-clause-within
returns-clause-within g c began = (stands g.row.MAX began c.args.events.now c.requires).within

pub returns-clause-promoted_once : goal.returns-clause-promoted_once
returns-clause-promoted_once g c began history agrees =
    promoted_once g.row.MAX began history (returns-clause-legal g c began history agrees)

pub returns-clause-losers_after_winner : goal.returns-clause-losers_after_winner
returns-clause-losers_after_winner g c began history agrees =
    losers_after_winner g.row.MAX began history (returns-clause-legal g c began history agrees)

pub returns-clause-nothing_after_last : goal.returns-clause-nothing_after_last
returns-clause-nothing_after_last g c began history agrees =
    nothing_after_last g.row.MAX began history (returns-clause-legal g c began history agrees)

pub returns-clause-released_by_last : goal.returns-clause-released_by_last
returns-clause-released_by_last g c began history agrees =
    released_by_last g.row.MAX began history (returns-clause-legal g c began history agrees)

pub returns-clause-alone_is_exact : goal.returns-clause-alone_is_exact
returns-clause-alone_is_exact g c began history agrees =
    alone_is_exact g.row.MAX began history (returns-clause-legal g c began history agrees)

pub returns-clause-no_event_after_last : goal.returns-clause-no_event_after_last
returns-clause-no_event_after_last g c began later none =
    stays g.row.MAX (after_events g.row.MAX began c.args.events.now) later none

pub returns-clause-sole_owner_ends : goal.returns-clause-sole_owner_ends
returns-clause-sole_owner_ends g c began owner alone =
    let m = after_events g.row.MAX began c.args.events.now in
    let s = stands g.row.MAX began c.args.events.now c.requires in (
      inr (owner, alone, tells g.row.MAX began m s, refl),
      sole-ended g.row.MAX began m owner s
          alone,
    )

pub returns-clause-no_event_after_end : goal.returns-clause-no_event_after_end
returns-clause-no_event_after_end g c began owner later alone =
    stays g.row.MAX (ended_by owner (after_events g.row.MAX began c.args.events.now)) later refl
