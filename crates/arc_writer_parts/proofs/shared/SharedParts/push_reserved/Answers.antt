-- By what they consist of.
use Rattle.std.proofs.Common.{◌∷◌, [], sym, ap, ◌∙◌}
use Rattle.arc_block.specs.Table.{bare}
use Rattle.arc_parts.specs.Shared.{as_shared, extended}
use Rattle.arc_sort_writers.specs.NativeWriters.{native_row}
use Rattle.arc_writer_parts.specs.PartsOn.{shared_on}
use Rattle.arc_writer_parts.proofs.Bare.{bare_extended}
use Rattle.arc_writer_parts.proofs.shared.SharedParts.push_reserved.Goals.{in-Several, in-Alone}
use Rattle.arc_writer_parts.proofs.shared.SharedParts.push_reserved.Goals as goal

pub returns : goal.returns
returns g c =
    elim c.match-self.branch [
      | in-Several w ↦ ap (λ s. bare (shared_on s.on)) w.self-inside-is
          ∙ ap (λ n. bare {B = g.row.B.Denot} {M = g.row.M.Denot} (native_row n))
          w.push_reserved.ensures
          ∙ ap (λ v. extended (c.args.item ∷ []) (bare v))
          (sym (ap shared_on w.in-Several.is) ∙ c.self.view_is)
      | in-Alone w ↦ let parts = w.in-Alone.parts in
          let new = w.push_reserved-in-Alone.new.self in
          ap (λ s. bare (shared_on s.on)) w.self-inside-is
          ∙ ap as_shared (bare_extended (c.args.item ∷ []) parts new w.known_uncounted.ensures
          w.push_reserved-in-Alone.ensures)
          ∙ ap (λ v. extended (c.args.item ∷ []) (bare v))
          (sym (ap shared_on w.in-Alone.is) ∙ c.self.view_is)
    ]
