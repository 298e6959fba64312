-- The part that is lent is the vector's own.
use Rattle.std.proofs.Common.{refl, sym, ◌∙◌}
use Rattle.arc_buffer.specs.Laws.{sub-slice_range}
use Rattle.arc_buffer.proofs.buffer.vec.VecBufferMut.as_mut_part.Goals as goal

pub returns : goal.returns
returns g c = (
  (refl, λ w. refl),
  record {
    writes_back = tt;
    value = c.slice_mut.ensures.value
        ∙ sym (sub-slice_range c.args.self.now.items c.args.start c.args.end c.requires.range.0);
  },
)
