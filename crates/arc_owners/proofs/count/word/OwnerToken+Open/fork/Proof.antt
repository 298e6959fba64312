-- `fork` opens the invariant for a new pass.
use Rattle.std.proofs.Common.{◌≡◌, ℕ, true, false, List, [], ◌∷◌, refl}
use mir.Syntax.{named}
use mir.Val.{Val, vptr}
use base.Logic.{SProp, emp, id⊢}
use base.Fml.{ftrue, fsep, flft}
use types.Kit.{‵, ◌⊛◌, some, given, later, ◌$◌, ◌∵◌, !, qed, by, move, keep, drop, split, fsplit}
use types.Kit.{fjoin, pick, learn, use1, await}
use types.Run.{no_more, and_then, returns, enter}
use types.ByLocal.{alloc_all, pass_all, free_all, look_at, get, sets}
use types.Part.{agg}
use contract.Monad.{fact_i}
use contract.Running.{tables}
use denote.Exit.{yes}
use denote.RattleType.{RattleType, owns}
use denote.Signature.{types_at, plain}
use denote.Builtin.{RefOf, unit}
use denote.Ref.{shr_vals, shr_Tells}
use denote.Steps.{nothing}
use denote.Triple.Walked.{Stays, stay_dropped, walk_of, Goes-dropped}
use Rattle.std.proofs.raw_atomic.Walks.{proved}
use Rattle.logbook.proofs.Fields.{token, ends}
use Rattle.arc_owners.specs.count.Invariant.{Line, trace_owns}
use Rattle.arc_owners.specs.contracts.count.word.OwnerToken as OwnerToken
use Rattle.arc_owners.specs.contracts.mark.Open.{the_row}
use mathlib.Core.List.{IsPrefix}
use Rattle.arc_owners.specs.count.Invariant.{made_by, known}
use Rattle.arc_owners.proofs.count.Begins as begins
use Rattle.arc_owners.proofs.count.Walks.{tokened}
use Rattle.arc_owners.proofs.count.Walks.{owner_shown}
use Rattle.arc_owners.specs.contracts.count.word.OwnerToken+Open.fork as f
use Rattle.arc_owners.proofs.count.word.OwnerToken+Open.fork.Statement.{statement}
use Rattle.arc_owners.proofs.count.word.OwnerToken+Open.fork.Code as code

abbrev R : RattleType
R = the_row

abbrev Own : RattleType
Own = OwnerToken.the_row R

abbrev stayed : Stays f.ended.signature.params f.ended.kept
stayed = (stay_dropped (RefOf (0 ∷ []) tt (plain (λ _. Own)) (λ _. tt)) yes, tt)

pub fork_spec : {M : Type 1} → statement M
fork_spec 𝓤 𝓛 𝓜 𝓡 wired =
    let H = 𝓛.H in let 𝓣 = tables 𝓤 H 𝓜 𝓡 𝓡.env in let fn = code.function in
    let c = f.clauses 𝓛 𝓜.mem 𝓡.returns in
    proved 𝓛 f.ended stayed c 𝓜 𝓡 (
      Goes-dropped 𝓛 1 (RefOf (0 ∷ []) tt (plain (λ _. Own)) (λ _. tt))
          yes (λ κs x w. refl),
      tt,
    ) f.Key.name fn (code.unfolded 𝓤 H 𝓜 𝓡 wired)
    (λ κs. (shr_vals, tt)) (λ κs. (shr_Tells (named 0) κs.0 Own, tt)) (λ κs qs bounds a gh are.
    let own = a.0.now in
    let y : (walk_of 𝓛 f.ended stayed c).Ghost =
    ((κs, qs, bounds, a, (vptr a.0.ref_ptr.0 a.0.ref_ptr.1 ∷ [], tt)), gh) in
    let Post : Val → SProp 𝓤 = (walk_of 𝓛 f.ended stayed c).post y in
    qed 𝓛 ((‵ (fsep (flft κs.0 qs.0) ftrue) ⊛ ‵ (owns (types_at f.ended.signature.params κs) a
    y.0.4)) ∷ given _ (‵ ftrue) ∷ []) ∵ keep ! (1 ∷ 0 ∷ []) $
    learn ! (λ asked. drop ! $ split ! $
    move ! (1 ∷ []) $ fsplit ! $ fsplit ! $ keep ! (1 ∷ 3 ∷ []) $
    -- [the owner; the tokens]
    enter ! 𝓣.C 𝓣.Λ fn (vptr a.0.ref_ptr.0 a.0.ref_ptr.1 ∷ []) Post $
    alloc_all ! (λ l. pass_all ! refl ((tt, tt), tt) $
    owner_shown R ! a.0.ref_ptr.0 a.0.ref_ptr.1 own.block own (asked.0, refl) $ fsplit ! $
    move ! (1 ∷ []) $ drop ! $ use1 𝓛 (‵ (known own.block own.born)) (id⊢ 𝓤 _) $
    use1 𝓛 (later (some (λ (x : ℕ × List Line). given (IsPrefix own.born x.1
    × (made_by x.0 x.1 ≡ [])) (‵ (trace_owns true own.block x.0 false x.1)))))
    (begins.forks 𝓛 own.block own.born asked.1) $ await ! tt $ pick ! (λ x. learn ! (λ so.
    sets ! (agg ! (no_more !)) refl (tt, tt) $ sets ! (agg ! (and_then ! (get ! refl) (no_more !)))
    refl (tt, (tt, tt)) $ tokened ! unit $ nothing ! $ nothing ! $ fjoin ! $
    returns ! (look_at ! 0 refl) $ free_all ! refl $ keep ! (2 ∷ 0 ∷ 1 ∷ []) $
    by ! (ends 𝓛 f.ended stayed c y token
    (record {
      marker = record {};
      bound = true;
      block = own.block;
      number = x.0;
      ready =
          false;
      lines = x.1;
    }) (tt, tt) (tt, tt)
    (fact_i 𝓤 _ (emp 𝓤) ((refl, refl), refl, so.0, so.1))))))))
