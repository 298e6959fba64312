-- The log that is made has seen one call more: its ghost field is ours to choose.
use Rattle.std.proofs.Common.{List, [], ◌∷◌, refl}
use Rattle.std.proofs.raw_atomic.Walks.{proved}
use mir.Syntax.{named}
use mir.Val.{Val}
use types.Kit.{‵, raw, ◌⊛◌, ◌$◌, ◌∵◌, !, qed, keep, move, drop, split, fjoin, suffices, done}
use types.Part.{agg}
use types.Run.{enter, returns, no_more}
use types.ByLocal.{alloc_all, pass_all, free_all, look_at, sets}
use denote.Exit.{yes}
use denote.RattleType.{owns}
use denote.Builtin.{RefOf}
use denote.Ref.{shr_vals, shr_Tells}
use denote.Signature.{plain, types_at, named_lft}
use denote.Steps.{nothing}
use denote.Triple.Entry.{alive}
use denote.Triple.Walked.{Stays, stay_dropped, Goes-dropped, walk_of, says, ends_at}
use Rattle.arc_script.proofs.Empty.{no_fields, made_of_nothing}
use Rattle.arc_script.specs.Traffic.{after_call}
use Rattle.arc_script.specs.contracts.io.Log as Log
use Rattle.arc_script.specs.contracts.io.Call as Call
use Rattle.arc_script.specs.contracts.io.Log.then as f
use Rattle.arc_script.proofs.io.Log.then.Statement.{statement}
use Rattle.arc_script.proofs.io.Log.then.Code as code

abbrev stayed : Stays f.ended.signature.params f.ended.kept
stayed = (stay_dropped _ yes, (stay_dropped _ yes, tt))

pub then_spec : {M : Type 1} → statement M
then_spec 𝓤 𝓛 𝓜 𝓡 wired =
    let c = f.clauses 𝓛 𝓜.mem 𝓡.returns in let W = walk_of 𝓛 f.ended stayed c in
    proved 𝓛 f.ended stayed c 𝓜 𝓡 (
      Goes-dropped 𝓛 3 (RefOf (0 ∷ []) tt (plain (λ _. Log.the_row)) (λ _. tt)) yes (λ κs x w. refl),
      (
        Goes-dropped 𝓛 3 (RefOf (1 ∷ []) tt (plain (λ κs. Call.the_row (named_lft 3 2 tt κs)))
            (λ _. tt)) yes (λ κs x w. refl),
        tt,
      ),
    )
    f.Key.name code.function (code.unfolded 𝓤 𝓛.H 𝓜 𝓡 wired)
    (λ κs. (shr_vals, (shr_vals, tt)))
    (λ κs. (
      shr_Tells (named 0) κs.0 Log.the_row,
      (shr_Tells (named 1) κs.1.0 (Call.the_row (named_lft 3 2 tt κs)), tt),
    ))
    (λ κs qs bounds a n are.
    let values : List Val × (List Val × Unit {0}) = (shr_vals a.0, (shr_vals a.1.0, tt)) in
    let y : W.Ghost = ((κs, qs, bounds, a, values), n) in
    let log : Log.the_row.Denot = record {
      traffic = after_call a.0.now.traffic a.1.0.now.slice.now
          a.1.0.now.passed;
    } in
    qed 𝓛 ((raw (alive 𝓛 f.signature κs qs) ⊛ ‵ (owns (types_at f.signature.params κs) a
    values)) ∷ raw ((c κs a).requires n) ∷ []) ∵
    keep ! (0 ∷ []) $ split ! $ move ! (1 ∷ []) $ drop ! $
    enter ! _ _ _ _ _ $ alloc_all ! (λ l. pass_all ! refl ((tt, tt), ((tt, tt), tt)) $
    -- [the tokens; the locals]
    sets ! (agg ! (no_more !)) refl (tt, tt) $
    nothing ! $ made_of_nothing ! $ fjoin ! $
    returns ! (look_at ! 0 refl) $ free_all ! refl $
    suffices ! _ (ends_at 𝓛 f.ended stayed c y no_fields log (tt, (tt, tt)) (tt, (tt, tt))) $
    says ! refl $
    nothing ! $ nothing ! $ fjoin ! $ nothing ! $ fjoin ! $ move ! (2 ∷ 0 ∷ 1 ∷ []) $ done !))
