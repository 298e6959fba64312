-- What is said of an arm's writer is said of these.
use Rattle.std.proofs.Common.{sym, ap, ◌∙◌}
use Rattle.arc_sort_writers.specs.NativeWriters.{native_row}
use Rattle.arc_writer_parts.specs.PartsOn.{shared_on}
use Rattle.arc_writer_parts.proofs.Rooms.{sole_again}
use Rattle.arc_writer_parts.proofs.shared.SharedParts.try_into_unique_as.Goals as goal

pub returns-in-Err-clause-refused : goal.returns-in-Err-clause-refused
returns-in-Err-clause-refused g c =
    c.several.ensures ∙ ap native_row c.in-Err.ensures.others
    ∙ (sym (ap shared_on c.in-Several.is) ∙ c.self.view_is)

pub returns-else-is_alone_as-clause-refused : goal.returns-else-is_alone_as-clause-refused
returns-else-is_alone_as-clause-refused g c =
    c.alone.ensures ∙ (sym (ap shared_on c.in-Alone.is) ∙ c.self.view_is)

pub returns-then-is_alone_as-clause-sole : goal.returns-then-is_alone_as-clause-sole
returns-then-is_alone_as-clause-sole g c =
    sole_again c.in-Alone.parts c.args.self c.known_role.ensures
    (sym (ap shared_on c.in-Alone.is) ∙ c.self.view_is)
