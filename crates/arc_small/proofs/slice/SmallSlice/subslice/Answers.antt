-- A range in the words of std's slices.
use Rattle.std.proofs.Common.{◌∙◌, ap}
use Rattle.arc_buffer.specs.Slice.{sub}
use Rattle.arc_buffer.specs.Laws.{sub-slice_range}
use Rattle.arc_small.specs.Inline.{Inlined}
use Rattle.arc_small.proofs.slice.SmallSlice.subslice.Goals as goal

pub returns-clause-slice : goal.returns-clause-slice
returns-clause-slice g c =
    let from = c.args.start in
    let to = c.args.end in
    c.keep.ensures ∙ ap (λ (v : Inlined). sub v.items from to) c.copied-part.ensures
    ∙ sub-slice_range c.args.self.now.items from to c.requires.ordered
