-- A count by value with its only owner, as contracts see it.
use Rattle.std.specs.Prelude.{ℕ}
use Rattle.arc_owners.specs.declared.mark.Mark.{Ghosts}
use Rattle.arc_owners.specs.declared.memory.sole_count.SoleCount.{SoleCount}
use Rattle.arc_owners.specs.count.Calls.{Owner}

module _ {H : Type 0} {MAX : ℕ} {G : Ghosts H} where
  -- the owner that it is
  abbrev pub count_owner : SoleCount MAX H G → Owner
  count_owner c = record {
    block = c.sole.right.block;
    number = c.sole.right.owner;
    born = c.sole.right.born;
  }
