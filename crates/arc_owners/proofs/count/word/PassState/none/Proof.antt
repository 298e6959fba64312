-- `none` makes a value that owns nothing.
use Rattle.std.proofs.Common.{false, [], ◌∷◌, refl}
use mir.Val.{Val}
use base.Logic.{SProp, emp}
use base.Fml.{ftrue}
use types.Kit.{‵, raw, ◌⊛◌, ◌$◌, ◌∵◌, !, qed, by, keep, split}
use types.Run.{no_more, and_then, returns, enter}
use types.ByLocal.{alloc_all, pass_all, free_all, look_at, get, sets}
use types.Part.{agg}
use contract.Monad.{fact_i}
use contract.Running.{tables}
use denote.RattleType.{owns}
use denote.Signature.{types_at}
use denote.Builtin.{unit}
use denote.Steps.{nothing}
use denote.Triple.Walked.{Stays, walk_of}
use Rattle.std.proofs.raw_atomic.Walks.{proved}
use Rattle.logbook.proofs.Fields.{token, ends}
use Rattle.arc_owners.specs.history.Histories.{Counted}
use Rattle.arc_owners.proofs.count.Walks.{tokened}
use Rattle.arc_owners.specs.contracts.count.word.PassState.none as f
use Rattle.arc_owners.proofs.count.word.PassState.none.Statement.{statement}
use Rattle.arc_owners.proofs.count.word.PassState.none.Code as code

pub none_spec : {M : Type 1} → statement M
none_spec 𝓤 𝓛 𝓜 𝓡 wired =
    let H = 𝓛.H in let 𝓣 = tables 𝓤 H 𝓜 𝓡 𝓡.env in let fn = code.function in
    let c = f.clauses 𝓛 𝓜.mem 𝓡.returns in
    let stayed : Stays f.ended.signature.params f.ended.kept = tt in
    proved 𝓛 f.ended stayed c 𝓜 𝓡 tt f.Key.name fn (code.unfolded 𝓤 H 𝓜 𝓡 wired) (λ κs. tt)
    (λ κs. tt) (λ κs qs bounds a gh are.
    let y : (walk_of 𝓛 f.ended stayed c).Ghost = ((κs, qs, bounds, a, tt), gh) in
    let Post : Val → SProp 𝓤 = (walk_of 𝓛 f.ended stayed c).post y in
    qed 𝓛 ((‵ ftrue ⊛ ‵ (owns (types_at f.ended.signature.params κs) a y.0.4)) ∷ raw
    ((c κs a).requires gh) ∷ []) ∵ keep ! (0 ∷ []) $ split ! $ keep ! (0 ∷ []) $
    enter ! 𝓣.C 𝓣.Λ fn [] Post $ alloc_all ! (λ l. pass_all ! refl tt $
    nothing ! $ tokened ! unit $ sets ! (agg ! (no_more !)) refl (tt, tt) $
    sets ! (agg ! (and_then ! (get ! refl) (no_more !))) refl (tt, (tt, tt)) $ nothing ! $
    returns ! (look_at ! 0 refl) $ free_all ! refl $ keep ! (2 ∷ 0 ∷ 1 ∷ []) $
    by ! (ends 𝓛 f.ended stayed c y token
    (record {
      marker = record {};
      bound = false;
      block =
          record {
            number = 0;
            history = 0;
            rights = 0;
            passes = 0;
            count = 0;
            place = 0;
            bank = 0;
            receipts = 0;
            most = 0;
            began = Counted;
            whole = false;
          };
      number = 0;
      ready = false;
      lines = [];
    }) tt tt
    (fact_i 𝓤 _ (emp 𝓤) refl))))
