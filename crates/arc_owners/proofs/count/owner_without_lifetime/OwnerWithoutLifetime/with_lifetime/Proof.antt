-- `with_lifetime` puts an owner's share of the lifetime back into its right.
use Rattle.std.proofs.Common.{◌≡◌, ℕ, Bool, true, List, [], ◌∷◌, ◌++◌, refl, sym, subst}
use contract.BorrowLft.{◌⊑◌}
use denote.Param.{param}
use mir.Val.{Val}
use base.Logic.{SProp, ent, emp, id⊢}
use base.Fml.{Share, ftrue, fsep, flft}
use prog.Wp.{WpFn}
use types.Kit.{‵, raw, ◌⊛◌, ◌$◌, ◌∵◌, !, qed, by, move, keep, drop, split, fsplit, fsplit3, fjoin}
use types.Kit.{fpick, suffices, use1, rewrite}
use types.Run.{no_more, and_then, returns, enter}
use types.ByLocal.{alloc_all, pass_all, free_all, look_at, get, sets}
use types.Part.{agg}
use types.RcWeak.{part, part_in}
use contract.Monad.{fact, fact_i}
use contract.Running.{tables}
use denote.Builtin.{unit}
use denote.Exit.{yes, no}
use denote.RattleType.{RattleType, owns}
use denote.Signature.{types_at, plain}
use denote.Steps.{nothing, heard}
use denote.Triple.Walked.{Stays, stay_dropped, walk_of}
use Rattle.core.proofs.alloc.Calls.{Goes-blank}
use Rattle.std.proofs.raw_atomic.Walks.{proved_at}
use Rattle.logbook.proofs.Fields.{token, token_told, ends}
use Rattle.arc_owners.specs.count.Invariant.{staked}
use Rattle.arc_owners.proofs.count.AtType.{layouts_at, code_at, Right}
use Rattle.arc_owners.proofs.count.Markers.{marked}
use Rattle.arc_owners.specs.contracts.lifetime.LifetimeToken as LifetimeToken
use Rattle.arc_owners.specs.contracts.count.owner_without_lifetime.OwnerWithoutLifetime as OwnerWithoutLifetime
use Rattle.arc_owners.specs.contracts.count.owner_without_lifetime.OwnerWithoutLifetime.with_lifetime as f
use Rattle.arc_owners.proofs.count.owner_without_lifetime.OwnerWithoutLifetime.with_lifetime.Statement.{statement}
use Rattle.arc_owners.proofs.count.owner_without_lifetime.OwnerWithoutLifetime.with_lifetime.Code as code

pub with_lifetime_spec : {M : Type 1} → statement M
with_lifetime_spec 𝓤 𝓛 𝓜 𝓡 wired T L =
    let 𝓣 = tables 𝓤 𝓛.H 𝓜 𝓡 𝓡.env in let R : RattleType = param 0 T in
    let Rest : RattleType = OwnerWithoutLifetime.the_row R in
    let Tok : RattleType = LifetimeToken.the_row in let En = f.ended T in
    let c = f.clauses T 𝓛 𝓜.mem 𝓡.returns in let fn = code_at T code.function in
    let hs : Stays En.signature.params En.kept =
    (stay_dropped (plain (λ _. Rest)) no, (stay_dropped (plain (λ _. Tok)) yes, tt)) in
    proved_at 𝓛 En hs c 𝓜 𝓡 (
      Goes-blank 𝓛 1 (plain (λ _. Rest)) no (λ κs x w. tt),
      (Goes-blank 𝓛 1 (plain (λ _. Tok)) yes (λ κs x w. tt), tt),
    ) (f.Key.name (layouts_at T)) fn
    (code.unfolded 𝓤 𝓛.H 𝓜 𝓡 wired (T, tt)) (λ y are.
    let κs = y.0.0 in let qs = y.0.1 in let me : Rest.Denot = y.0.3.0 in
    let other : Tok.Denot = y.0.3.1.0 in let vss = y.0.4 in let l = me.lease in
    let n : ℕ = l.lifetime in
    let Post : Val → SProp 𝓤 = (walk_of 𝓛 En hs c).post y in
    let Run : List Val → SProp 𝓤 = λ ws. WpFn 𝓤 𝓛.H 𝓣.C 𝓣.Λ fn ws Post in
    let Lent : Type 0 = l.is_lent ≡ true in let Same : Type 0 = (other.lifetime ≡ n)
    × (other.share ≡ me.share) in
    qed 𝓛 ((‵ (fsep (flft κs.0 qs.0) ftrue) ⊛ ‵ (owns (types_at En.signature.params κs) y.0.3
    vss)) ∷ (raw (fact 𝓤 (κs.0 ⊑ T.lives)) ⊛ raw (fact 𝓤 Lent) ⊛ raw (fact 𝓤 Same)) ∷ []) ∵
    move ! (1 ∷ []) $ split ! $ drop ! $ split ! $
    heard ! Lent (λ lent. heard ! Same (λ same. split ! $ move ! (1 ∷ []) $ fsplit ! $
    fsplit ! $ drop ! $ fsplit3 ! $ move ! (2 ∷ []) $
    fpick ! (λ counts. drop ! $ move ! (2 ∷ []) $ fsplit ! $ fsplit ! $ drop ! $
    -- [the share of the lifetime; no more parameters; the invariant; the right; the tokens]
    rewrite ! 0 (λ (k : ℕ × Share). ‵ (flft (k.0 ∷ []) k.1)) (λ i. (same.0 i, same.1 i)) refl $
    use1 𝓛 (‵ (part 64 n)) (part_in 64 𝓛 n me.share counts) $
    rewrite ! 0 (λ (k : Bool). ‵ (staked k l)) (sym lent) refl $
    move ! (3 ∷ 0 ∷ []) $ fjoin ! $ move ! (2 ∷ 0 ∷ []) $ fjoin ! $ marked R ! $
    let now : (Right T).Denot = record {
      marker = record {};
      held = true;
      block = me.block;
      owner = me.owner;
      lease = l;
      born = me.born;
    } in
    let e₀ : vss.0 ≡ token ∷ [] = token_told R vss.0 are.0.0 in
    let e₁ : vss.1.0 ≡ token ∷ [] = token_told unit vss.1.0 are.1.0.0 in
    let ws : List Val = token ∷ token ∷ [] in
    suffices ! (Run ws) (subst (λ (us : List Val). ent 𝓤 (Run ws) (Run us))
    (sym (λ j. e₀ j ++ (e₁ j ++ []))) (id⊢ 𝓤 (Run ws))) $
    enter ! 𝓣.C 𝓣.Λ fn ws Post $
    alloc_all ! (λ l. pass_all ! refl ((tt, (tt, tt)), ((tt, (tt, tt)), tt)) $
    sets ! (agg ! (no_more !)) refl (tt, tt) $ sets ! (agg ! (and_then ! (get ! refl) (no_more !)))
    refl (tt, (tt, tt)) $
    nothing ! $ nothing ! $ fjoin ! $ nothing ! $ fjoin ! $
    returns ! (look_at ! 0 refl) $ free_all ! refl $ keep ! (3 ∷ 0 ∷ 1 ∷ []) $
    by ! (ends 𝓛 En hs c y token now (tt, (tt, tt)) (tt, (tt, tt))
    (fact_i 𝓤 _ (emp 𝓤) (refl, (refl, refl, refl, refl)))))))))
