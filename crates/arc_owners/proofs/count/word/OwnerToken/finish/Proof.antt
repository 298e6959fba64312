-- `finish` writes a sole owner's end into the invariant, without a step.
use contract.BorrowLft.{◌⊑◌}
use Rattle.std.proofs.Common.{true, List, [], ◌∷◌, ◌++◌, refl}
use mathlib.Core.Option.{some as just}
use mir.Syntax.{named}
use mir.Val.{Val, vunit, vptr}
use base.Logic.{SProp, emp}
use base.Fml.{ftrue, fsep, flft}
use types.Kit.{‵, ◌⊛◌, later, ◌$◌, ◌∵◌, !, qed, by, move, keep, drop, split, fsplit, fsplit3, fjoin}
use types.Kit.{fpick, use2, await, feq_i, raw}
use types.Run.{unit_lit, of_opd, returns, enter}
use types.ByLocal.{alloc_all, pass_all, free_all, look_at, sets}
use contract.Monad.{fact_i, fact}
use contract.Running.{tables}
use denote.RattleType.{owns, RattleType}
use denote.Signature.{types_at, plain}
use denote.Ref.{mut_vals, mut_Tells}
use denote.Steps.{nothing, heard}
use denote.Triple.Walked.{Stays, stay_ref, walk_of, Goes-ref}
use Rattle.std.proofs.raw_atomic.Walks.{proved}
use Rattle.arc_owners.proofs.count.AtType.{layouts_at, code_at, Right}
use Rattle.arc_owners.proofs.count.Ends.{ends_when}
use Rattle.logbook.proofs.Fields.{ends}
use Rattle.arc_owners.specs.declared.history.entry.Entry.TheVariants.{Down}
use Rattle.arc_owners.specs.count.Invariant.{trace_owns}
use Rattle.arc_owners.proofs.count.Operations.{left}
use Rattle.arc_owners.proofs.count.Walks.{a_pass, no_pass, no_owner, pass_out, pass_in, owner_out}
use Rattle.arc_owners.proofs.count.Walks.{given_back}
use denote.Param.{param}
use Rattle.arc_owners.specs.contracts.count.word.PassState as PassState
use Rattle.arc_owners.proofs.count.Begins as begins
use Rattle.arc_owners.specs.contracts.count.word.OwnerToken.finish as f
use Rattle.arc_owners.proofs.count.word.OwnerToken.finish.Statement.{statement}
use Rattle.arc_owners.proofs.count.word.OwnerToken.finish.Code as code

pub finish_spec : {M : Type 1} → statement M
finish_spec 𝓤 𝓛 𝓜 𝓡 wired T L =
    let 𝓣 = tables 𝓤 𝓛.H 𝓜 𝓡 𝓡.env in let Own : RattleType = Right T in let En = f.ended T in
    let c = f.clauses T 𝓛 𝓜.mem 𝓡.returns in let fn = code_at T code.function in
    let hs : Stays En.signature.params En.kept = (
      stay_ref (0 ∷ []) tt (plain (λ _. Own)),
      (stay_ref (1 ∷ []) tt (plain (λ _. PassState.the_row)), tt),
    ) in
    proved 𝓛 En hs c 𝓜 𝓡 (
      Goes-ref 𝓛 3 0 tt (plain (λ _. Own)),
      (
        Goes-ref 𝓛 3 1 tt (plain (λ _. PassState.the_row)),
        tt,
      ),
    ) (f.Key.name (layouts_at T)) fn (code.unfolded 𝓤 𝓛.H 𝓜 𝓡 wired (T, tt))
    (λ κs. (mut_vals, (mut_vals, tt)))
    (λ κs. (mut_Tells (named 0) κs.0 Own, (mut_Tells (named 1) κs.1.0 PassState.the_row, tt)))
    (λ κs qs bounds a gh are.
    let own = a.0.now in let me = own.block in let seen = a.1.0.now in let b₁ = a.0.ref_ptr.0 in
    let o₁ = a.0.ref_ptr.1 in let b₂ = a.1.0.ref_ptr.0 in let o₂ = a.1.0.ref_ptr.1 in
    let y : (walk_of 𝓛 En hs c).Ghost =
    ((κs, qs, bounds, a, (vptr b₁ o₁ ∷ [], (vptr b₂ o₂ ∷ [], tt))), gh) in
    let Post : Val → SProp 𝓤 = (walk_of 𝓛 En hs c).post y in
    qed 𝓛 ((‵ (fsep (flft κs.0 qs.0)
    (fsep (flft κs.1.0 qs.1.0) (fsep (flft κs.1.1.0 qs.1.1.0) ftrue))) ⊛ ‵
    (owns (types_at En.signature.params κs) a y.0.4)) ∷ raw (fact 𝓤 (κs.1.1.0 ⊑ T.lives)) ∷ raw
    (fact 𝓤 _) ∷ []) ∵ move ! (2 ∷ []) $ heard ! _ (λ asked. keep ! (0 ∷ []) $ split ! $
    fsplit ! $ move ! (1 ∷ []) $ fsplit ! $ move ! (3 ∷ []) $ fsplit ! $ fsplit3 ! $
    move ! (3 ∷ []) $ fsplit ! $ fsplit3 ! $ keep ! (5 ∷ 6 ∷ 1 ∷ 2 ∷ 7 ∷ 9 ∷ 8 ∷ []) $
    -- [two parts of the owner; two of the pass; their tokens, last first]
    enter ! 𝓣.C 𝓣.Λ fn (vptr b₁ o₁ ∷ vptr b₂ o₂ ∷ []) Post $
    alloc_all ! (λ l. pass_all ! refl ((tt, tt), ((tt, tt), tt)) $
    move ! (0 ∷ 1 ∷ 5 ∷ []) $ owner_out (param 0 T) ! tt b₁ o₁ me own (asked.0.0, refl) $
    move ! (6 ∷ 7 ∷ 8 ∷ []) $ pass_out ! tt b₂ o₂ me seen asked.1 $
    -- [the pass; its two parts and its token; what the owner knows, its right and its stake; its
    -- two parts and its token; the last token]
    move ! (0 ∷ 5 ∷ []) $
    use2 𝓛 (later (‵
    (left me seen.number seen.lines (λ ls. trace_owns true me seen.number seen.ready ls) 1
    (λ _. just (Down own.owner)) (λ _. ftrue)))) (begins.finishes_by 𝓛 me seen.number seen.ready
    seen.lines own.owner own.lease asked.0.2) $
    await ! tt $ fpick ! (λ before. fsplit ! $ fpick ! (λ so. drop ! $ fsplit ! $ move ! (1 ∷ []) $
    drop ! $
    let after : PassState.the_row.Denot = a_pass me seen.number seen.ready
    (before ++ (seen.number, Down own.owner) ∷ []) in
    move ! (0 ∷ 1 ∷ 2 ∷ 3 ∷ []) $ pass_in ! tt b₂ o₂ (no_pass seen) after $
    move ! (5 ∷ 6 ∷ 7 ∷ 0 ∷ 1 ∷ 2 ∷ 8 ∷ []) $
    sets ! (of_opd ! (unit_lit !)) refl (tt, tt) $ feq_i ! (List Val) (vunit ∷ []) (vunit ∷ []) refl
    $
    -- [the result; two parts of the owner; its token; two parts of the pass; its token]
    move ! (7 ∷ []) $ move ! (7 ∷ 0 ∷ []) $ fjoin ! $ move ! (4 ∷ 0 ∷ []) $ fjoin ! $
    nothing ! $ move ! (5 ∷ 6 ∷ 0 ∷ []) $ given_back ! b₂ o₂ $ move ! (3 ∷ 4 ∷ 0 ∷ []) $
    given_back ! b₁ o₁ $
    returns ! (look_at ! 0 refl) $ free_all ! refl $ keep ! (1 ∷ 0 ∷ 2 ∷ []) $
    by ! (ends 𝓛 En hs c y vunit tt (no_owner (param 0 T) own, (after, tt)) (tt, (tt, tt))
    (fact_i 𝓤 _ (emp 𝓤) (
      (refl, refl, refl, refl),
      ends_when me seen.number seen.lines own.owner
          1 before true refl so,
      refl,
    ))))))))
