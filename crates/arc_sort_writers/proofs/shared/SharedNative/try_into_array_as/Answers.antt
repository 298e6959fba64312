-- The block has another number of places.
use Rattle.std.proofs.Common.{sym, ◌∙◌}
use Rattle.std.proofs.lemmas.Bool.{false≢true}
use Rattle.arc_sort_writers.proofs.shared.SharedNative.try_into_array_as.Goals as goal

pub returns-then-not-is_whole-clause-asked : goal.returns-then-not-is_whole-clause-asked
returns-then-not-is_whole-clause-asked g c whole =
    absurd (false≢true (sym c.if-not-is_whole.true
    ∙ c.is_of_places-writer.ensures.answer.1 whole.1))
