-- `only` opens the invariant and reads its history, in which a sole owner lives alone.
use contract.BorrowLft.{◌⊑◌}
use denote.Param.{param}
use Rattle.std.proofs.Common.{◌≡◌, true, List, [], ◌∷◌, refl}
use mir.Syntax.{named}
use mir.Val.{Val, vunit, vptr}
use base.Logic.{SProp, emp, wand, apply∗}
use base.Fml.{Fml, Share, ftrue, fsep, flft}
use types.Logic.{sem}
use types.Kit.{‵, raw, ◌⊛◌, some, given, later, ◌$◌, ◌∵◌, !, qed, by, move, keep, split}
use types.Kit.{fsplit, fsplit3, fjoin, pick, learn, use2, await, feq_i}
use types.Run.{unit_lit, of_opd, returns, enter}
use types.ByLocal.{alloc_all, pass_all, free_all, look_at, sets}
use contract.Monad.{fact_i, fact}
use contract.Running.{tables}
use denote.Exit.{yes}
use denote.RattleType.{owns}
use denote.Signature.{types_at, plain}
use denote.Builtin.{RefOf}
use denote.Ref.{mut_vals, mut_Tells, shr_vals, shr_Tells}
use denote.Steps.{nothing, heard}
use denote.Triple.Walked.{Stays, stay_dropped, stay_ref, walk_of, Goes-dropped, Goes-ref}
use Rattle.std.proofs.raw_atomic.Walks.{proved}
use Rattle.logbook.proofs.Fields.{ends}
use Rattle.arc_owners.specs.count.Invariant.{Line, entries_of, made_by, right}
use Rattle.arc_owners.specs.count.Invariant.{trace_owns}
use Rattle.arc_owners.specs.history.Histories.{LivesAlone}
use Rattle.arc_owners.specs.contracts.count.word.PassState as PassState
use mathlib.Core.List.{IsPrefix}
use Rattle.arc_owners.proofs.count.AtType.{layouts_at, code_at, Right}
use Rattle.arc_owners.proofs.count.Begins as begins
use Rattle.arc_owners.proofs.count.Shared.{right_read}
use Rattle.arc_owners.proofs.count.Walks.{a_pass, no_pass, pass_out, pass_in, owner_shown}
use Rattle.arc_owners.proofs.count.Walks.{given_back}
use Rattle.arc_owners.specs.contracts.count.word.OwnerToken.only as f
use Rattle.arc_owners.proofs.count.word.OwnerToken.only.Statement.{statement}
use Rattle.arc_owners.proofs.count.word.OwnerToken.only.Code as code

pub only_spec : {M : Type 1} → statement M
only_spec 𝓤 𝓛 𝓜 𝓡 wired T L =
    let 𝓣 = tables 𝓤 𝓛.H 𝓜 𝓡 𝓡.env in let fn = code_at T code.function in
    let En = f.ended T in let c = f.clauses T 𝓛 𝓜.mem 𝓡.returns in
    let hs : Stays En.signature.params En.kept = (
      stay_dropped (RefOf (0 ∷ []) tt (plain (λ _. Right T)) (λ _. tt)) yes,
      (stay_ref (1 ∷ []) tt (plain (λ _. PassState.the_row)), tt),
    ) in
    proved 𝓛 En hs c 𝓜 𝓡 (
      Goes-dropped 𝓛 3 (RefOf (0 ∷ []) tt (plain (λ _. Right T)) (λ _. tt)) yes
          (λ κs x w. refl),
      (Goes-ref 𝓛 3 1 tt (plain (λ _. PassState.the_row)), tt),
    )
    (f.Key.name (layouts_at T)) fn (code.unfolded 𝓤 𝓛.H 𝓜 𝓡 wired (T, tt))
    (λ κs. (shr_vals, (mut_vals, tt)))
    (λ κs. (
      shr_Tells (named 0) κs.0 (Right T),
      (mut_Tells (named 1) κs.1.0 PassState.the_row, tt),
    ))
    (λ κs qs bounds a gh are.
    let own = a.0.now in let me = own.block in let seen = a.1.0.now in let b₁ = a.0.ref_ptr.0 in
    let o₁ = a.0.ref_ptr.1 in let b = a.1.0.ref_ptr.0 in let o = a.1.0.ref_ptr.1 in
    let y : (walk_of 𝓛 En hs c).Ghost =
    ((κs, qs, bounds, a, (vptr b₁ o₁ ∷ [], (vptr b o ∷ [], tt))), gh) in
    let Post : Val → SProp 𝓤 = (walk_of 𝓛 En hs c).post y in
    let toks : Fml = fsep (flft κs.0 qs.0)
    (fsep (flft κs.1.0 qs.1.0) (fsep (flft κs.1.1.0 qs.1.1.0) ftrue)) in
    qed 𝓛 ((‵ toks ⊛ ‵ (owns (types_at En.signature.params κs) a y.0.4)) ∷ raw
    (fact 𝓤 (κs.1.1.0 ⊑ T.lives)) ∷ raw (fact 𝓤 _) ∷ []) ∵ move ! (2 ∷ []) $
    heard ! _ (λ asked. keep ! (0 ∷ []) $ split ! $
    fsplit ! $ move ! (1 ∷ []) $ fsplit ! $ move ! (3 ∷ []) $ fsplit ! $ fsplit ! $
    move ! (2 ∷ []) $ fsplit ! $ fsplit3 ! $ keep ! (1 ∷ 2 ∷ 5 ∷ 6 ∷ 8 ∷ 7 ∷ []) $
    -- [two parts of the pass; the owner; the tokens, last first]
    enter ! 𝓣.C 𝓣.Λ fn (vptr b₁ o₁ ∷ vptr b o ∷ []) Post $
    alloc_all ! (λ l. pass_all ! refl ((tt, tt), ((tt, tt), tt)) $
    move ! (2 ∷ []) $ owner_shown (param 0 T) ! b₁ o₁ own.block own (asked.0.0, refl) $
    move ! (0 ∷ 4 ∷ []) $
    use2 𝓛 (later (some (λ (r : Share). ‵ (right me own.owner own.lease r) ⊛ raw
    (wand 𝓤 (sem 𝓛 (right me own.owner own.lease r)) (𝓛.H.⇛ (𝓛.A.lft κs.0 qs.0))))))
    (right_read 𝓛 me own.owner own.lease own.born κs.0 qs.0) $ await ! tt $
    pick ! (λ r. split ! $
    -- [the right; its way back; two parts of the pass; its token]
    move ! (2 ∷ 3 ∷ 4 ∷ []) $ pass_out ! tt b o me seen asked.1 $
    -- [the pass; its two parts and its token; the right; its way back]
    move ! (0 ∷ 4 ∷ []) $
    use2 𝓛 (later (some (λ (ls : List Line). given (IsPrefix seen.lines ls
    × (made_by seen.number ls ≡ made_by seen.number seen.lines)
    × (me.whole ≡ true → ls ≡ seen.lines) × LivesAlone own.owner (entries_of ls))
    (‵ (trace_owns true me seen.number seen.ready ls) ⊛ ‵ (right me own.owner own.lease r)))))
    (begins.onlies 𝓛 me seen.number seen.ready seen.lines own.owner own.lease r asked.0.2) $
    await ! tt $ pick ! (λ ls. learn ! (λ so. split ! $
    -- [the pass; the right; two parts of the pass; its token; the right's way back]
    let after : PassState.the_row.Denot = a_pass me seen.number seen.ready ls in
    move ! (1 ∷ 5 ∷ []) $ use2 𝓛 (later (‵ (flft κs.0 qs.0)))
    (apply∗ 𝓤 (sem 𝓛 (right me own.owner own.lease r)) (𝓛.H.⇛ (𝓛.A.lft κs.0 qs.0))) $ await ! tt $
    move ! (1 ∷ 2 ∷ 3 ∷ 4 ∷ []) $ pass_in ! tt b o (no_pass seen) after $
    -- [two parts of the pass; the tokens, last first]
    sets ! (of_opd ! (unit_lit !)) refl (tt, tt) $ feq_i ! (List Val) (vunit ∷ []) (vunit ∷ []) refl
    $
    move ! (5 ∷ []) $ move ! (4 ∷ 0 ∷ []) $ fjoin ! $ move ! (4 ∷ 0 ∷ []) $ fjoin ! $
    nothing ! $ move ! (3 ∷ 4 ∷ 0 ∷ []) $ given_back ! b o $ nothing ! $ fjoin ! $
    returns ! (look_at ! 0 refl) $ free_all ! refl $ keep ! (1 ∷ 0 ∷ 2 ∷ []) $
    by ! (ends 𝓛 En hs c y vunit tt (tt, (after, tt)) (tt, (tt, tt))
    (fact_i 𝓤 _ (emp 𝓤) ((refl, refl, refl, refl), so.0, so.1, so.2, so.3)))))))))
