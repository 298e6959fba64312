-- Runs of a table, and ends one after another.
use Rattle.std.proofs.Common.{ℕ, ◌+◌, List, [], ◌∷◌, ◌++◌, sym, subst, arith}
use Rattle.std.proofs.lemmas.List.FromFn.{map-range_with_len_more}
use Rattle.arc_commands.specs.RunOf.{RunOf}
use Rattle.arc_commands.specs.State.{State, CarriesOut, drops}
use Rattle.arc_commands.specs.Changes.{Setting}
use Rattle.arc_commands.specs.Step.{Run, Step}
use Rattle.arc_commands.specs.declared.command.Cmd.TheVariants.{Drop}
use Rattle.arc_commands.specs.Commands.{ListCmd, ListReply}
use Rattle.arc_commands.proofs.Runs.{run_push, run_seen}

-- a run of commands that a table carries out is one of its rows
pub rows_run : {T M : Type 0} (setting : Setting T) (old : State T M)
    (commands : List (ListCmd T M)) (replies : List (ListReply T M)) (new : State T M)
    → RunOf (CarriesOut setting) old commands replies new
    → Run setting old.table commands replies new.table
rows_run {T} {M} setting =
    run_seen (CarriesOut setting) (Step setting) (λ (s : State T M). s.table)
    (λ before command reply after carried. carried.rows)

-- one window more has ended
pub dropped_more : {T M : Type 0} (setting : Setting T) (old : State T M) (n : ℕ)
    (replies : List (ListReply T M)) (mid : State T M)
    (reply : ListReply T M) (new : State T M)
    → RunOf (CarriesOut setting) old (drops n) replies mid
    → CarriesOut setting mid (Drop n) reply new
    → RunOf (CarriesOut setting) old (drops (n + 1)) (replies ++ reply ∷ []) new
dropped_more setting old n replies mid reply new run one =
    subst (λ cs. RunOf (CarriesOut setting) old cs (replies ++ reply ∷ []) new)
    (sym (map-range_with_len_more Drop 0 n n (omega arith)))
    (run_push (CarriesOut setting) old (drops n) replies mid (Drop n) reply new run one)
