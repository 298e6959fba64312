-- What contracts read in an owner whose share of the lifetime is elsewhere.
use base.Fml.{Share as Fraction}
use Rattle.arc_owners.specs.declared.mark.Mark.{Ghosts}
use Rattle.arc_owners.specs.declared.count.share_without_lifetime.ShareWithoutLifetime as declared
use Rattle.arc_owners.specs.count.Calls.{Owner}
use Rattle.arc_owners.specs.count.Invariant.{Lease}

module _ {H : Type 0} {G : Ghosts H} where
  -- the owner, and for which lifetime the block is lent to it
  abbrev pub owner_of_rest : declared.ShareWithoutLifetime H G → Owner
  owner_of_rest s = record {
    block = s.right.block;
    number = s.right.owner;
    born = s.right.born;
  }

  abbrev pub lease_of_rest : declared.ShareWithoutLifetime H G → Lease
  lease_of_rest s = s.right.lease

  -- the share of the lifetime that is elsewhere
  abbrev pub share_taken : declared.ShareWithoutLifetime H G → Fraction
  share_taken s = s.right.share
