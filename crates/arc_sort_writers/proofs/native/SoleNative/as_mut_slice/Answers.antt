-- What is written stands in the same places.
use Rattle.std.proofs.Common.{refl, ap, ◌∙◌}
use Rattle.std.specs.Option.{option_map}
use Rattle.arc_owners.specs.memory.SoleCounts.{count_owner}
use Rattle.arc_sort_writers.proofs.CutNatives.{lent_cut}
use Rattle.arc_sort_writers.proofs.CutKeeps.{within_lent}
use Rattle.arc_sort_writers.proofs.native.SoleNative.as_mut_slice.Goals as goal

pub returns : goal.returns
returns g c = (
  (
    refl,
    λ ws. lent_cut g.S.Slice.DROPS (option_map count_owner c.self.inside.count)
        c.self.inside.memory ws c.args.self.now c.self.view_is,
  ),
  record {
    writes_back = tt;
    value = c.as_mut_slice.ensures.value ∙ ap (λ s. s.items) c.self.view_is;
  },
)

pub invariant_of-self-lent : goal.invariant_of-self-lent
invariant_of-self-lent g c = λ ws.
    within_lent g.S.Slice.DROPS g.H.Mark.whole (option_map count_owner c.self.inside.count)
    c.self.inside.memory ws c.self.invariant
