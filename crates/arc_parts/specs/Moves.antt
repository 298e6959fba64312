-- What a move to another layout makes of parts.
use Rattle.std.specs.Prelude.{◌≡◌, Bool, false, Some, None}
use Rattle.arc_owners.specs.history.Histories.{Counted}
use Rattle.arc_owners.specs.declared.count.tokens.Pass.{Pass}
use Rattle.arc_owners.specs.count.Calls.{Owner, IsFirst, IsFreshPass, Leaves}
use Rattle.arc_block.specs.Place.{at_owner, owned_by}
use Rattle.arc_block.specs.declared.block.TheConstants.{MAX_OWNERS}
use Rattle.arc_block.specs.declared.layout.Move.{Move}
use Rattle.arc_block.specs.declared.layout.Move.TheVariants.{Stays, HandedBack, NewEmpty}
use Rattle.arc_block.specs.declared.layout.Move.TheVariants.{NewCount, LeavesCount}
use Rattle.arc_parts.specs.Window.{PartsView, window_of}
use Rattle.arc_parts.specs.Steps.{Makes, Begins}

module _ {T M H : Type 0} where
  -- The window v was made of w by such a move. Where there is a new block, the pass is the new
  -- block's. Where the window left its block, the pass is still the old block's, and v has none.
  abbrev pub Moves : Move → (drops one_pass : Bool) → (w v : PartsView T M)
      → (before after : Pass H) → Type 0
  Moves Stays drops one_pass w v before after = (v ≡ w) × (after ≡ before)
  Moves HandedBack drops one_pass w v before after = ⊥
  Moves NewEmpty drops one_pass w v before after =
      Makes false drops one_pass w.items (window_of v) × Begins (window_of v) before after
      × (v.role ≡ w.role)
  Moves NewCount drops one_pass w v before after = (owner : Owner)
      × (v ≡ record { items = w.items; place = owned_by (Some owner) w.place; role = w.role })
      × IsFirst MAX_OWNERS one_pass Counted owner × IsFreshPass owner after
  Moves LeavesCount drops one_pass w v before after =
      (v ≡ record { items = w.items; place = owned_by None w.place; role = w.role })
      × at_owner w.place ⊥ (λ o. (last : Bool) × Leaves o before after last)
