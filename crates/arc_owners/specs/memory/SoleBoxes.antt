-- The only owner of a value, who has its memory, as contracts see it.
use Rattle.std.specs.Prelude.{ℕ}
use Rattle.std.specs.Borrow.{Lends, MutBor, Fml}
use denote.RattleType.{RattleType}
use denote.Param.{value_of}
use denote.RawPtr.{Ptr}
use Rattle.core.specs.declared.alloc.Allocator.{Ghosts as Frees}
use Rattle.arc_owners.specs.declared.mark.Mark.{Ghosts}
use Rattle.arc_owners.specs.declared.memory.sole_box.SoleBox.{SoleBox}
use Rattle.arc_owners.specs.contracts.memory.sole_box.SoleBox.{the_row}
use Rattle.arc_owners.specs.count.Calls.{Owner}

module _ {V A H : Type 0} {MAX : ℕ} {G : Ghosts H} where
  -- the owner that it is, and its value
  abbrev pub sole_in : SoleBox V A MAX H G → Owner
  sole_in b = record {
    block = b.sole.right.block;
    number = b.sole.right.owner;
    born = b.sole.right.born;
  }

  abbrev pub sole_value : SoleBox V A MAX H G → V
  sole_value b = b.memory.value.value.value

  -- where its memory begins
  abbrev pub sole_place : SoleBox V A MAX H G → Ptr
  sole_place b = b.memory.at

  -- the same owner, with this value in the place of its own
  abbrev pub with_sole_value : SoleBox V A MAX H G → V → SoleBox V A MAX H G
  with_sole_value b w = record b {
    memory = record b.memory {
      value = record b.memory.value { value = record b.memory.value.value { value = w } };
    };
  }

module _ (V A MAX H : RattleType) (G : Ghosts H.Denot) (F : Frees A.Denot) where
  -- once the borrow ends, the same owner has what was last written through it
  abbrev pub LendsSoleValue : MutBor (SoleBox V.Denot A.Denot (value_of MAX) H.Denot G)
      → MutBor V.Denot → Fml
  LendsSoleValue b r = Lends (the_row V A MAX H G F) V b r (with_sole_value b.now)
