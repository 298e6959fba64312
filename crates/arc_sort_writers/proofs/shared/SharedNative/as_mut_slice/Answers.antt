-- What is written stands in the same places.
use Rattle.std.proofs.Common.{refl, ap, ◌∙◌, ◌++◌, length, take, drop}
use Rattle.arc_sort_writers.specs.NativeWriters.{native_writer_seen, with_writer_items}
use Rattle.arc_sort_writers.specs.NativeWriters.{with_written_items}
use Rattle.arc_sort_writers.proofs.shared.SharedNative.as_mut_slice.Goals as goal

pub returns : goal.returns
returns g c = let w = c.self.inside.writer in let v = w.places.vec in (
  (
    refl,
    λ ws. ap (λ n. with_writer_items (native_writer_seen w)
        (take n (ws ++ drop (length ws) v.items))) v.ok.0
        ∙ ap (λ s. with_written_items s ws) c.self.view_is,
  ),
  record {
    writes_back = tt;
    value = c.as_mut_slice.ensures.value ∙ ap (λ s. s.items) c.self.view_is;
  },
)
