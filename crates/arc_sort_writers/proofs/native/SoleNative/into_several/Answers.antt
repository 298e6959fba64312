-- The same owner, items and places.
use Rattle.std.proofs.Common.{sym, ap, ◌∙◌}
use Rattle.std.specs.Option.{option_map}
use Rattle.arc_owners.specs.memory.SoleCounts.{count_owner}
use Rattle.arc_sort_writers.specs.CutParts.{cut_native}
use Rattle.arc_sort_writers.proofs.CutNatives.{shared_cut}
use Rattle.arc_sort_writers.specs.NativeWriters.{native_row, native_writer_over}
use Rattle.arc_sort_writers.proofs.native.SoleNative.into_several.Goals as goal

pub returns-clause-shared : goal.returns-clause-shared
returns-clause-shared g c =
    let drops = g.S.Slice.DROPS in let m = c.self.inside.memory in
    let o = count_owner c.in-Some.count in let w = c.into_own-memory.result in
    ap native_row (c.of_sole.ensures
    ∙ ap (native_writer_over o w) c.capacity-capacity.ensures)
    ∙ shared_cut drops o m w c.args.self
    (ap (λ n. cut_native drops (option_map count_owner n) m) (sym c.in-Some.is) ∙ c.self.view_is)
    c.requires c.into_own-memory.ensures.items c.into_own-memory.ensures.memory
