-- One of several writers with its places, as contracts see it.
use Rattle.std.specs.Prelude.{◌≡◌, ℕ, List}
use denote.RawPtr.{Ptr}
use Rattle.arc_owners.specs.declared.mark.Mark.{Ghosts}
use Rattle.arc_owners.specs.count.Calls.{Owner}
use Rattle.arc_owners.specs.memory.Boxes.{owner_in_rest, value_of_rest, place_in_rest}
use Rattle.arc_memory.specs.LentRanges.{LentRange}
use Rattle.arc_memory.specs.declared.shared_writer.SharedWriter.{SharedWriter}

module _ {T V A H : Type 0} {MAX : ℕ} {G : Ghosts H} where
  -- the owner that a writer is, its value, its range, and its items
  abbrev pub writer_owner : SharedWriter T V A MAX H G → Owner
  writer_owner w = owner_in_rest w.rest.rest

  abbrev pub writer_value : SharedWriter T V A MAX H G → V
  writer_value w = value_of_rest w.rest.rest

  -- where its value lies
  abbrev pub writer_place : SharedWriter T V A MAX H G → Ptr
  writer_place w = place_in_rest w.rest.rest

  abbrev pub writer_range : SharedWriter T V A MAX H G → LentRange
  writer_range w = record {
    memory = w.rest.out.memory;
    start = w.rest.out.start;
    count = w.rest.out.count;
  }

  abbrev pub writer_items : SharedWriter T V A MAX H G → List T
  writer_items w = w.places.vec.items

  -- the same owner of the same value in the same place
  abbrev pub IsSameWriter : SharedWriter T V A MAX H G → SharedWriter T V A MAX H G → Type 0
  IsSameWriter v w = (writer_owner w ≡ writer_owner v) × (writer_value w ≡ writer_value v)
      × (writer_place w ≡ writer_place v)

  -- with this range and these items
  abbrev pub HasRange : SharedWriter T V A MAX H G → LentRange → List T → Type 0
  HasRange w r xs = (writer_range w ≡ r) × (writer_items w ≡ xs)
