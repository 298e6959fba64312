-- Worked scripts of several writers, computed.
use Rattle.std.proofs.Common.{ℕ, List, [], ◌∷◌, refl, arith}
use Rattle.arc_block.specs.Table.{Table, empty_table}
use Rattle.arc_commands.specs.Changes.{Setting, no_shortage}
use Rattle.arc_commands.specs.Commands.{ListCmd, ListReply}
use Rattle.arc_commands.specs.Step.{Run, answer, count_brought}
use Rattle.arc_commands.specs.Worked.{MayAnswer, bytes_setting}
use Rattle.arc_commands.proofs.Answers.{answer_step}

module _ {T M : Type 0} (setting : Setting T) where
  -- the replies where no memory is refused, and each vector that comes in is full
  abbrev replies : Table T M → List (ListCmd T M) → List (ListReply T M)
  replies t [] = []
  replies t (c ∷ cs) =
      let first = answer setting no_shortage (count_brought c) t c in
      first.0 ∷ replies first.1 cs

  abbrev after : Table T M → List (ListCmd T M) → Table T M
  after t [] = t
  after t (c ∷ cs) = after (answer setting no_shortage (count_brought c) t c).1 cs

  runs : (t : Table T M) (cs : List (ListCmd T M)) → Run setting t cs (replies t cs) (after t cs)
  runs t [] = refl
  runs t (c ∷ cs) = (
    (answer setting no_shortage (count_brought c) t c).1,
    answer_step setting (count_brought c) t c (omega arith),
    runs (answer setting no_shortage (count_brought c) t c).1 cs,
  )

pub answers : (cs : List (ListCmd ℕ ℕ)) → MayAnswer (cs, replies bytes_setting empty_table cs)
answers cs = (after bytes_setting empty_table cs, runs bytes_setting empty_table cs)
