-- The place of a box, when what lies there is lent to be changed.
use base.Fml.{Fml}
use denote.RattleType.{RattleType}
use denote.Ref.{MutBor}
use denote.Follow.{follows}
use Rattle.core.specs.declared.alloc.Allocator.{Ghosts}
use Rattle.arc_owners.specs.declared.memory.box_place.BoxPlace.{BoxPlace}
use Rattle.arc_owners.specs.contracts.memory.box_place.BoxPlace.{the_row}

-- the place of a box, where this value lies now
abbrev pub with_value : {X Z : Type 0} → BoxPlace X Z → X → BoxPlace X Z
with_value b w = record b { value = w }

-- once the borrow ends, what was last written through it lies there
abbrev pub Follows : (R Z : RattleType) (g : Ghosts Z.Denot) → MutBor (BoxPlace R.Denot Z.Denot)
    → MutBor R.Denot → Fml
Follows R Z g b r = follows (the_row R Z g) R b.ghost_name r.ghost_name (with_value b.now)
