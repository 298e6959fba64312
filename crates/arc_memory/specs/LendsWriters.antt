-- What one of several writers holds, where its items are lent to be changed.
use Rattle.std.specs.Prelude.{ℕ, List}
use Rattle.std.specs.Borrow.{Lends, Fml, RattleType, MutBor, Array}
use Rattle.core.specs.declared.alloc.Allocator.{Ghosts as Frees}
use Rattle.arc_owners.specs.declared.mark.Mark.{Ghosts}
use Rattle.arc_memory.specs.LendsPlaces.{with_written}
use Rattle.arc_memory.specs.declared.shared_writer.SharedWriter.{SharedWriter}
use Rattle.arc_memory.specs.contracts.shared_writer.SharedWriter.{the_row}
use denote.Param.{value_of}

-- the writer with these items written over those that lie in its places
abbrev pub with_all_written : {T V A H : Type 0} {MAX : ℕ} {G : Ghosts H}
    → SharedWriter T V A MAX H G → List T → SharedWriter T V A MAX H G
with_all_written w ws = record {
  rest = w.rest;
  places = with_written w.places ws;
  there = w.there;
  range = w.range;
}

-- once the borrow r ends, the items are those that r shows last
abbrev pub LendsWriter : (T V A MAX H : RattleType) (G : Ghosts H.Denot) (F : Frees A.Denot)
    → MutBor (SharedWriter T.Denot V.Denot A.Denot (value_of MAX) H.Denot G)
    → MutBor (List T.Denot) → Fml
LendsWriter T V A MAX H G F writer r =
    Lends (the_row T V A MAX H G F) (Array T 0) writer r (with_all_written writer.now)
