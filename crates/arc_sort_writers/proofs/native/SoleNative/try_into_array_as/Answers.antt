-- The items are all of the memory's.
use Rattle.std.proofs.Common.{length, sym, ap, ◌∙◌, rules}
use Rattle.std.specs.Option.{option_map}
use Rattle.arc_owners.specs.memory.SoleCounts.{count_owner}
use Rattle.arc_parts.specs.Writers.{IsWholeWriter}
use Rattle.arc_sort_writers.proofs.CutNatives.{whole_cut}
use Rattle.arc_sort_writers.proofs.native.SoleNative.try_into_array_as.Goals as goal

pub returns-clause-taken : goal.returns-clause-taken
returns-clause-taken g c =
    let whole : IsWholeWriter g.row.N c.args.self = c.is_whole.ensures.0 (search rules) in
    let fields = c.into_fields-count.result in let was = c.into_fields-count.ensures in (
      whole,
      c.into_array.ensures
          ∙ whole_cut g.S.Slice.DROPS g.H.Mark.whole (option_map count_owner fields.0) fields.1
          c.whole_of.result g.row.N c.args.self (sym was.parts) was.within c.whole_of.ensures.own
          c.whole_of.ensures.all whole,
    )

pub into_array-requires : goal.into_array-requires
into_array-requires g c =
    let whole : IsWholeWriter g.row.N c.args.self = c.is_whole.ensures.0 (search rules) in
    let fields = c.into_fields-count.result in let was = c.into_fields-count.ensures in (
      search rules,
      ap (λ zs. length zs) (whole_cut g.S.Slice.DROPS g.H.Mark.whole
          (option_map count_owner fields.0) fields.1 c.whole_of.result g.row.N c.args.self
          (sym was.parts) was.within c.whole_of.ensures.own c.whole_of.ensures.all whole)
          ∙ whole.items,
    )
