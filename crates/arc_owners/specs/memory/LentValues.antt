-- What is lent to the owners of a block, as contracts see it.
use Rattle.std.specs.Prelude.{◌≡◌}
use Rattle.arc_owners.specs.declared.mark.Mark.{Ghosts}
use Rattle.arc_owners.specs.declared.count.tokens.Share.{Share}
use Rattle.arc_owners.specs.declared.count.tokens.LifetimeEnd.{LifetimeEnd}
use Rattle.arc_owners.specs.declared.memory.lent_value.LentValue.{LentValue}
use Rattle.arc_owners.specs.count.Calls.{lease_of}
use Rattle.arc_owners.specs.count.Invariant.{Lease}

module _ {T A : Type 0} where
  -- the value, the allocator of its memory, and the lease for which it is lent
  abbrev pub lent_value : LentValue T A → T
  lent_value l = l.borrow.value

  abbrev pub lent_allocator : LentValue T A → A
  lent_allocator l = l.kept.alloc

  abbrev pub lease_in : LentValue T A → Lease
  lease_in l = l.kept.lease

  -- the same value in the same memory, lent for the same lease
  abbrev pub IsSameLent : LentValue T A → LentValue T A → Type 0
  IsSameLent l m = (m.at ≡ l.at) × (lent_value m ≡ lent_value l)
      × (lent_allocator m ≡ lent_allocator l) × (lease_in m ≡ lease_in l)

  -- it is lent to this owner
  abbrev pub IsLentTo : {H : Type 0} {G : Ghosts H} → LentValue T A → Share H G → Type 0
  IsLentTo l s = lease_in l ≡ lease_of s

  -- the right to end the lifetime for which it is lent
  abbrev pub IsEndOf : LentValue T A → LifetimeEnd → Type 0
  IsEndOf l end = end.spoils.lease ≡ lease_in l
