-- `learn` opens the invariant and reads its history, which is past both passes.
use Rattle.std.proofs.Common.{◌≡◌, Bool, true, List, [], ◌∷◌, refl}
use mir.Syntax.{named}
use mir.Val.{Val, vunit, vptr}
use base.Logic.{SProp, emp}
use base.Fml.{Fml, ftrue, fsep, flft}
use types.Kit.{‵, ◌⊛◌, some, given, later, ◌$◌, ◌∵◌, !, qed, by, move, keep, drop, split, fsplit}
use types.Kit.{fsplit3, fjoin, pick, learn, use2, await, rewrite, feq_i}
use types.Run.{unit_lit, of_opd, returns, enter}
use types.ByLocal.{alloc_all, pass_all, free_all, look_at, sets}
use contract.Monad.{fact_i}
use contract.Running.{tables}
use denote.Exit.{yes}
use denote.RattleType.{owns}
use denote.Signature.{types_at, plain}
use denote.Builtin.{RefOf}
use denote.Ref.{mut_vals, mut_Tells, shr_vals, shr_Tells}
use denote.Steps.{nothing}
use denote.Triple.Walked.{Stays, stay_dropped, stay_ref, walk_of, Goes-dropped, Goes-ref}
use Rattle.std.proofs.raw_atomic.Walks.{proved}
use Rattle.logbook.proofs.Fields.{ends}
use Rattle.arc_owners.specs.count.Invariant.{BlockId, Line, trace_owns}
use Rattle.arc_owners.specs.contracts.count.word.PassState as PassState
use mathlib.Core.List.{IsPrefix}
use Rattle.arc_owners.specs.count.Invariant.{made_by, trace_shares}
use Rattle.arc_owners.proofs.count.Begins as begins
use Rattle.arc_owners.proofs.count.Walks.{pass_shown}
use Rattle.arc_owners.proofs.count.Walks.{a_pass, no_pass, pass_out, pass_in, given_back}
use Rattle.arc_owners.specs.contracts.count.word.PassState.learn as f
use Rattle.arc_owners.proofs.count.word.PassState.learn.Statement.{statement}
use Rattle.arc_owners.proofs.count.word.PassState.learn.Code as code

abbrev stayed : Stays f.ended.signature.params f.ended.kept
stayed = (
  stay_ref (0 ∷ []) tt (plain (λ _. PassState.the_row)),
  (stay_dropped (RefOf (1 ∷ []) tt (plain (λ _. PassState.the_row)) (λ _. tt)) yes, tt),
)

pub learn_spec : {M : Type 1} → statement M
learn_spec 𝓤 𝓛 𝓜 𝓡 wired =
    let H = 𝓛.H in let 𝓣 = tables 𝓤 H 𝓜 𝓡 𝓡.env in let fn = code.function in
    let c = f.clauses 𝓛 𝓜.mem 𝓡.returns in
    proved 𝓛 f.ended stayed c 𝓜 𝓡 (
      Goes-ref 𝓛 2 0 tt (plain (λ _. PassState.the_row)),
      (
        Goes-dropped 𝓛 2 (RefOf (1 ∷ []) tt (plain (λ _. PassState.the_row)) (λ _. tt)) yes
            (λ κs x w. refl),
        tt,
      ),
    ) f.Key.name fn (code.unfolded 𝓤 H 𝓜 𝓡 wired)
    (λ κs. (mut_vals, (shr_vals, tt)))
    (λ κs. (
      mut_Tells (named 0) κs.0 PassState.the_row,
      (shr_Tells (named 1) κs.1.0 PassState.the_row, tt),
    )) (λ κs qs bounds a gh are.
    let me = a.0.now in let other = a.1.0.now in let t = me.block in let b = a.0.ref_ptr.0 in
    let o = a.0.ref_ptr.1 in let b₁ = a.1.0.ref_ptr.0 in let o₁ = a.1.0.ref_ptr.1 in
    let y : (walk_of 𝓛 f.ended stayed c).Ghost =
    ((κs, qs, bounds, a, (vptr b o ∷ [], (vptr b₁ o₁ ∷ [], tt))), gh) in
    let Post : Val → SProp 𝓤 = (walk_of 𝓛 f.ended stayed c).post y in
    let toks : Fml = fsep (flft κs.0 qs.0) (fsep (flft κs.1.0 qs.1.0) ftrue) in
    qed 𝓛 ((‵ toks ⊛ ‵ (owns (types_at f.ended.signature.params κs) a y.0.4)) ∷ given _
    (‵ ftrue) ∷ []) ∵ keep ! (1 ∷ 0 ∷ []) $ learn ! (λ asked. drop ! $ split ! $
    fsplit ! $ move ! (2 ∷ []) $ fsplit ! $ fsplit3 ! $ move ! (3 ∷ []) $ fsplit ! $ fsplit ! $
    keep ! (1 ∷ 4 ∷ 5 ∷ 6 ∷ 7 ∷ []) $
    -- [the other pass; two parts of this one; its token; the other tokens]
    enter ! 𝓣.C 𝓣.Λ fn (vptr b o ∷ vptr b₁ o₁ ∷ []) Post $
    alloc_all ! (λ l. pass_all ! refl ((tt, tt), ((tt, tt), tt)) $
    pass_shown ! b₁ o₁ other $
    rewrite ! 0 (λ (k : Bool × BlockId). ‵ (trace_shares k.0 k.1 other.lines))
    (λ i. (asked.1 i, asked.2 i)) refl $ fsplit ! $ drop ! $
    move ! (1 ∷ 2 ∷ 3 ∷ []) $ pass_out ! tt b o t me (asked.0, refl) $
    -- [this pass; its two parts and its token; what the other has seen; the tokens]
    move ! (0 ∷ 4 ∷ []) $
    use2 𝓛 (later (some (λ (ls : List Line). given (IsPrefix me.lines ls
    × IsPrefix other.lines ls × (made_by me.number ls ≡ made_by me.number me.lines))
    (‵ (trace_owns true t me.number me.ready ls)))))
    (begins.learns 𝓛 t me.number me.ready me.lines other.lines) $ await ! tt $
    pick ! (λ ls. learn ! (λ so.
    let after : PassState.the_row.Denot = a_pass t me.number me.ready ls in
    pass_in ! tt b o (no_pass me) after $
    sets ! (of_opd ! (unit_lit !)) refl (tt, tt) $ feq_i ! (List Val) (vunit ∷ []) (vunit ∷ []) refl
    $
    -- [the result; two parts of this pass; its token; the other tokens]
    move ! (3 ∷ 4 ∷ []) $ fjoin ! $ nothing ! $ nothing ! $ fjoin ! $ move ! (3 ∷ 4 ∷ 0 ∷ []) $
    given_back ! b o $
    returns ! (look_at ! 0 refl) $ free_all ! refl $ keep ! (1 ∷ 0 ∷ 2 ∷ []) $
    by ! (ends 𝓛 f.ended stayed c y vunit tt (after, (tt, tt)) (tt, (tt, tt))
    (fact_i 𝓤 _ (emp 𝓤) ((refl, refl, refl, refl), so.0, so.1, so.2))))))))
