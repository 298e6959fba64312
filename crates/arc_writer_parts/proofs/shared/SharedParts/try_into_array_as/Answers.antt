-- What the native block's writer was refused.
use Rattle.std.proofs.Common.{sym, ap, ◌∙◌}
use Rattle.arc_sort_writers.specs.NativeWriters.{native_row}
use Rattle.arc_writer_parts.specs.PartsOn.{shared_on}
use Rattle.arc_writer_parts.proofs.Takes.{several_refused}
use Rattle.arc_writer_parts.proofs.shared.SharedParts.try_into_array_as.Goals as goal

pub returns-in-Err-clause-refused : goal.returns-in-Err-clause-refused
returns-in-Err-clause-refused g c =
    let seen = sym (ap shared_on c.in-Several.is) ∙ c.self.view_is in (
      c.several.ensures ∙ ap native_row c.in-Err.ensures.same ∙ seen,
      several_refused g.row.N c.in-Several.writer c.args.self c.args.pass.now
          c.try_into_array_as.new.pass seen c.in-Err.ensures.asked c.in-Err.ensures.unasked,
    )
