-- `none` makes a value that owns nothing.
use Rattle.std.proofs.Common.{false, [], ◌∷◌, refl}
use mir.Val.{Val}
use base.Logic.{SProp, emp}
use base.Fml.{ftrue, fsep, flft}
use types.Kit.{‵, raw, ◌⊛◌, ◌$◌, ◌∵◌, !, qed, by, keep, split}
use types.Run.{no_more, and_then, returns, enter}
use types.ByLocal.{alloc_all, pass_all, free_all, look_at, get, sets}
use types.Part.{agg}
use contract.Monad.{fact_i}
use contract.Running.{tables}
use denote.RattleType.{owns}
use denote.Signature.{types_at}
use denote.Builtin.{unit}
use denote.Steps.{nothing}
use denote.Triple.Walked.{Stays, walk_of}
use Rattle.std.proofs.raw_atomic.Walks.{proved}
use Rattle.logbook.proofs.Fields.{token, ends}
use Rattle.arc_owners.specs.history.Histories.{Counted}
use Rattle.arc_owners.specs.count.Invariant.{no_lease}
use Rattle.arc_owners.proofs.count.Walks.{tokened}
use Rattle.arc_owners.specs.contracts.count.word.OwnerToken.none as f
use Rattle.arc_owners.proofs.count.AtType.{layouts_at, code_at}
use Rattle.arc_owners.proofs.count.word.OwnerToken.none.Statement.{statement}
use Rattle.arc_owners.proofs.count.word.OwnerToken.none.Code as code

pub none_spec : {M : Type 1} → statement M
none_spec 𝓤 𝓛 𝓜 𝓡 wired T L =
    let 𝓣 = tables 𝓤 𝓛.H 𝓜 𝓡 𝓡.env in let En = f.ended T in let c = f.clauses T 𝓛 𝓜.mem 𝓡.returns in
    let fn = code_at T code.function in
    let hs : Stays En.signature.params En.kept = tt in
    proved 𝓛 En hs c 𝓜 𝓡 tt (f.Key.name (layouts_at T)) fn
    (code.unfolded 𝓤 𝓛.H 𝓜 𝓡 wired (T, tt)) (λ κs. tt) (λ κs. tt) (λ κs qs bounds a gh are.
    let y : (walk_of 𝓛 En hs c).Ghost = ((κs, qs, bounds, a, tt), gh) in
    let Post : Val → SProp 𝓤 = (walk_of 𝓛 En hs c).post y in
    qed 𝓛 ((‵ (fsep (flft κs.0 qs.0) ftrue) ⊛ ‵ (owns (types_at En.signature.params κs) a
    y.0.4)) ∷ raw ((c κs a).requires gh) ∷ []) ∵ keep ! (0 ∷ []) $ split ! $ keep ! (0 ∷ []) $
    enter ! 𝓣.C 𝓣.Λ fn [] Post $ alloc_all ! (λ l. pass_all ! refl tt $
    nothing ! $ tokened ! unit $ sets ! (agg ! (no_more !)) refl (tt, tt) $
    sets ! (agg ! (and_then ! (get ! refl) (no_more !))) refl (tt, (tt, tt)) $ nothing ! $
    returns ! (look_at ! 0 refl) $ free_all ! refl $ keep ! (2 ∷ 0 ∷ 1 ∷ []) $
    by ! (ends 𝓛 En hs c y token
    (record {
      marker = record {};
      held = false;
      block =
          record {
            number = 0;
            history = 0;
            rights = 0;
            passes = 0;
            count = 0;
            place = 0;
            bank = 0;
            receipts = 0;
            most = 0;
            began = Counted;
            whole = false;
          };
      owner = 0;
      lease = no_lease;
      born = [];
    }) tt tt
    (fact_i 𝓤 _ (emp 𝓤) refl))))
