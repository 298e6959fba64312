-- What is written stands in the same places of the same memory: two proofs of what else is known of
-- them are one.
use Rattle.std.proofs.Common.{◌≡◌, ℕ, refl, List}
use Rattle.std.specs.Coded.{coded_ℕ}
use base.Stored.{Coded-set}
use denote.RawPtr.{coded_ptr}
use Rattle.arc_owners.specs.declared.mark.Mark.{Ghosts}
use Rattle.arc_memory.specs.LendsPlaces.{with_written}
use Rattle.arc_memory.specs.LendsWriters.{with_all_written}
use Rattle.arc_memory.specs.declared.shared_writer.SharedWriter.{SharedWriter}
use Rattle.arc_memory.proofs.shared_writer.SharedWriter.as_mut_slice.Goals as goal

module _ {T V A H : Type 0} {MAX : ℕ} {G : Ghosts H} (w : SharedWriter T V A MAX H G) (ws : List T)
  where
    same_writer : (t : (w.places.under.base ≡ w.rest.out.memory.base)
        × (w.places.under.whole ≡ w.rest.out.memory.whole))
        → (r : (w.places.under.start ≡ w.rest.out.start)
        × (w.places.under.count ≡ w.rest.out.count))
        → ◌≡◌ {A = SharedWriter T V A MAX H G} (record {
          rest = w.rest;
          places = with_written w.places ws;
          there = t;
          range = r;
        }) (with_all_written w ws)
    same_writer t r i = record {
      rest = w.rest;
      places = with_written w.places ws;
      there = (Coded-set coded_ptr _ _ t.0 w.there.0 i, Coded-set coded_ℕ _ _ t.1 w.there.1 i);
      range = (Coded-set coded_ℕ _ _ r.0 w.range.0 i, Coded-set coded_ℕ _ _ r.1 w.range.1 i);
    }

pub returns : goal.returns
returns g c = (
  (refl, λ ws. same_writer c.args.self.now ws _ _),
  record { writes_back = tt; value = c.as_mut_slice.ensures.value },
)
