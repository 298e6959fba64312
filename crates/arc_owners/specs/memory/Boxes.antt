-- A counted box as contracts see it.
use Rattle.std.specs.Prelude.{ℕ}
use base.Fml.{Share as Fraction}
use denote.RawPtr.{Ptr}
use Rattle.arc_owners.specs.declared.mark.Mark.{Ghosts}
use Rattle.arc_owners.specs.declared.memory.counted_box.CountedBox.{CountedBox}
use Rattle.arc_owners.specs.declared.memory.counted_box_without_lifetime.CountedBoxWithoutLifetime
    as rest
use Rattle.arc_owners.specs.count.Calls.{Owner}
use Rattle.arc_owners.specs.count.LentNotes.{LentNote}

module _ {V A H : Type 0} {MAX : ℕ} {G : Ghosts H} where
  -- the owner that a box is, its value, and the lifetime for which that is lent
  abbrev pub owner_in : CountedBox V A MAX H G → Owner
  owner_in p = record {
    block = p.lodging.block;
    number = p.share.right.owner;
    born = p.share.right.born;
  }

  abbrev pub value_of : CountedBox V A MAX H G → V
  value_of p = p.memory.borrow.value.value.value

  abbrev pub lifetime_in : CountedBox V A MAX H G → ℕ
  lifetime_in p = p.lodging.lifetime

  -- where its memory begins
  abbrev pub place_in : CountedBox V A MAX H G → Ptr
  place_in p = p.memory.at

  -- the note of what else is lent for that lifetime
  abbrev pub note_in : CountedBox V A MAX H G → LentNote
  note_in p = p.share.right.lease.note

  -- the same of a box whose share of the lifetime is elsewhere, and that share
  abbrev pub owner_in_rest : rest.CountedBoxWithoutLifetime V A MAX H G → Owner
  owner_in_rest p = record {
    block = p.lodging.block;
    number = p.share.right.owner;
    born = p.share.right.born;
  }

  abbrev pub value_of_rest : rest.CountedBoxWithoutLifetime V A MAX H G → V
  value_of_rest p = p.memory.borrow.value.value.value

  abbrev pub lifetime_in_rest : rest.CountedBoxWithoutLifetime V A MAX H G → ℕ
  lifetime_in_rest p = p.lodging.lifetime

  abbrev pub place_in_rest : rest.CountedBoxWithoutLifetime V A MAX H G → Ptr
  place_in_rest p = p.memory.at

  abbrev pub note_in_rest : rest.CountedBoxWithoutLifetime V A MAX H G → LentNote
  note_in_rest p = p.share.right.lease.note

  abbrev pub share_taken_from : rest.CountedBoxWithoutLifetime V A MAX H G → Fraction
  share_taken_from p = p.share.right.share
