-- `promote` is one exchange from null, with the invariant, a share of an owner's right, the pass,
-- the right of the new owner, and the count that is to be put in place.
use contract.BorrowLft.{◌⊑◌}
use denote.Param.{param}
use Rattle.std.proofs.Common.{◌≡◌, ℕ, Bool, true, List, [], ◌∷◌, refl, sym, ◌∙◌, subst}
use mir.Syntax.{named, Callee}
use mir.Val.{Val, vptr, vnull}
use base.Logic.{SProp, ent, emp, id⊢}
use base.Fml.{Fml, ftrue, fsep, flft}
use types.Kit.{‵, raw, ◌⊛◌, later, at_ret, ◌$◌, ◌∵◌, !, qed, by, move, keep, drop, split}
use types.Kit.{group, fsplit, fsplit3, fjoin, fpick, use1, await, suffices, rewrite, feq_i}
use types.Run.{stop, addr, lit, of_opd, no_more, and_then, first, blocks, exec, Calls-last, returns}
use types.Run.{enter}
use types.ByLocal.{alloc_all, pass_all, free_all, look_at, get, through, sets, lands_last, env}
use types.Part.{agg}
use contract.Monad.{fact_i, fact}
use contract.Running.{tables}
use prog.Wp.{WpFn}
use denote.Exit.{yes}
use denote.RattleType.{owns, RattleType}
use denote.Signature.{types_at, plain}
use denote.Builtin.{RefOf, u64}
use denote.Ref.{mut_vals, mut_Tells, shr_vals, shr_Tells}
use denote.RawPtr.{Ptr, RawPtr, block_ptr, null_ptr, ptr_val, rawptr_vals, rawptr_Tells, block_of}
use denote.RawPtr.{count_of, at_block}
use denote.Opens.{unhide}
use denote.Steps.{nothing, heard}
use denote.Triple.Walked.{Stays, stay_dropped, stay_ref, walk_of, Goes-dropped, Goes-ref}
use Rattle.core.specs.declared.result.Result.TheVariants.{Ok, Err}
use Rattle.core.proofs.atomic.Steps.{tail}
use Rattle.core.proofs.result.Made.{Ok-of, Err-of}
use Rattle.std.proofs.raw_atomic.Walks.{proved}
use Rattle.std.proofs.raw_atomic.Calls.{fm, seq_cst}
use Rattle.core.proofs.raw_atomic.ptr.compare_exchange.Symbol as exchange_is
use Rattle.std.proofs.raw_atomic.PtrCalls.{picked}
use Rattle.std.proofs.raw_atomic.PtrCalls.{Answer, answer_val, answer_good, exchanges, seq_cst_good}
use Rattle.logbook.proofs.Fields.{ends}
use Rattle.arc_owners.specs.count.Invariant.{Line, next_owner}
use Rattle.arc_owners.specs.count.Leads.{pending}
use Rattle.arc_owners.specs.contracts.count.cell.Cell as Cell
use Rattle.arc_owners.specs.contracts.lone.loose.PendingCount as PendingCount
use Rattle.arc_owners.specs.contracts.count.word.PassState as PassState
use Rattle.arc_owners.proofs.count.AtType.{layouts_at, code_at, Right}
use Rattle.arc_owners.proofs.count.Operations.{with_entry}
use Rattle.arc_owners.proofs.count.LoneMoves.{promotion}
use Rattle.arc_owners.proofs.count.LoneCalls.{promoted_at}
use Rattle.arc_owners.proofs.count.CellReadings.{word_laws}
use Rattle.arc_owners.proofs.count.LooseCounts.{in_block}
use Rattle.arc_owners.proofs.count.CellWalks.{said, Answers}
use Rattle.arc_owners.proofs.count.CellPromotions.{W, outcome, promotes_by, hears, hands_back}
use Rattle.arc_owners.proofs.count.Walks.{a_pass, no_pass, an_owner, no_count, pass_out, pass_in}
use Rattle.arc_owners.proofs.count.Walks.{owner_shown, owner_in, count_out, count_in}
use Rattle.arc_owners.specs.contracts.count.cell.Cell.promote as f
use Rattle.arc_owners.proofs.count.cell.Cell.promote.Statement.{statement}
use Rattle.arc_owners.proofs.count.cell.Cell.promote.Code as code

pub promote_spec : {M : Type 1} → statement M
promote_spec 𝓤 𝓛 𝓜 𝓡 wired T L =
    let 𝓣 = tables 𝓤 𝓛.H 𝓜 𝓡 𝓡.env in let R : RattleType = param 0 T in
    let Own : RattleType = Right T in let Pass : RattleType = PassState.the_row in
    let Count : RattleType = PendingCount.the_row in
    let En = f.ended T in let c = f.clauses T 𝓛 𝓜.mem 𝓡.returns in
    let fn = code_at T code.function in
    let hs : Stays En.signature.params En.kept = (
      stay_dropped (RefOf (0 ∷ []) tt (plain (λ _. Cell.the_row)) (λ _. tt)) yes,
      (
        stay_dropped (RefOf (1 ∷ []) tt (plain (λ _. Own)) (λ _. tt)) yes,
        (
          stay_ref (2 ∷ []) tt (plain (λ _. Pass)),
          (
            stay_ref (3 ∷ []) tt (plain (λ _. Own)),
            (
              stay_ref (4 ∷ []) tt (plain (λ _. Count)),
              (stay_dropped (plain (λ _. RawPtr)) yes, tt),
            ),
          ),
        ),
      ),
    ) in
    proved 𝓛 En hs c 𝓜 𝓡 (
      Goes-dropped 𝓛 6 (RefOf (0 ∷ []) tt (plain (λ _. Cell.the_row)) (λ _. tt))
          yes (λ κs x w. refl),
      (
        Goes-dropped 𝓛 6 (RefOf (1 ∷ []) tt (plain (λ _. Own)) (λ _. tt)) yes
            (λ κs x w. refl),
        (
          Goes-ref 𝓛 6 2 tt (plain (λ _. Pass)),
          (
            Goes-ref 𝓛 6 3 tt (plain (λ _. Own)),
            (
              Goes-ref 𝓛 6 4 tt (plain (λ _. Count)),
              (Goes-dropped 𝓛 6 (plain (λ _. RawPtr)) yes (λ κs x w. refl), tt),
            ),
          ),
        ),
      ),
    )
    (f.Key.name (layouts_at T)) fn (code.unfolded 𝓤 𝓛.H 𝓜 𝓡 wired (T, tt))
    (λ κs. (shr_vals, (shr_vals, (mut_vals, (mut_vals, (mut_vals, (rawptr_vals, tt)))))))
    (λ κs. (
      shr_Tells (named 0) κs.0 Cell.the_row,
      (
        shr_Tells (named 1) κs.1.0 Own,
        (
          mut_Tells (named 2) κs.1.1.0 Pass,
          (
            mut_Tells (named 3) κs.1.1.1.0 Own,
            (mut_Tells (named 4) κs.1.1.1.1.0 Count, (rawptr_Tells, tt)),
          ),
        ),
      ),
    ))
    (λ κs qs bounds a gh are.
    let t = a.0.now in let own = a.1.0.now in let p = a.1.1.0.now in
    let was = a.1.1.1.0.now in let n = a.1.1.1.1.0.now in let at : Ptr = a.1.1.1.1.1.0 in
    let b = a.0.ref_ptr.0 in let o = a.0.ref_ptr.1 in let b₁ = a.1.0.ref_ptr.0 in
    let o₁ = a.1.0.ref_ptr.1 in let b₂ = a.1.1.0.ref_ptr.0 in let o₂ = a.1.1.0.ref_ptr.1 in
    let b₃ = a.1.1.1.0.ref_ptr.0 in let o₃ = a.1.1.1.0.ref_ptr.1 in
    let b₄ = a.1.1.1.1.0.ref_ptr.0 in let o₄ = a.1.1.1.1.0.ref_ptr.1 in
    let pb : ℕ = block_of at in let po : ℕ = count_of at in
    let y : (walk_of 𝓛 En hs c).Ghost = (
      (
        κs,
        qs,
        bounds,
        a,
        (
          vptr b o ∷ [],
          (
            vptr b₁ o₁ ∷ [],
            (
              vptr b₂ o₂ ∷ [],
              (vptr b₃ o₃ ∷ [], (vptr b₄ o₄ ∷ [], (rawptr_vals at, tt))),
            ),
          ),
        ),
      ),
      gh,
    )
    in
    let Post : Val → SProp 𝓤 = (walk_of 𝓛 En hs c).post y in
    let us : Ptr → List Val = λ r. vptr b o ∷ vptr b₁ o₁ ∷ vptr b₂ o₂ ∷ vptr b₃ o₃ ∷ vptr b₄ o₄
    ∷ ptr_val r ∷ [] in
    let Run : List Val → SProp 𝓤 = λ ws. WpFn 𝓤 𝓛.H 𝓣.C 𝓣.Λ fn ws Post in
    let toks : Fml = fsep (flft κs.0 qs.0) (fsep (flft κs.1.0 qs.1.0)
    (fsep (flft κs.1.1.0 qs.1.1.0) (fsep (flft κs.1.1.1.0 qs.1.1.1.0)
    (fsep (flft κs.1.1.1.1.0 qs.1.1.1.1.0) (fsep (flft κs.1.1.1.1.1.0 qs.1.1.1.1.1.0) ftrue))))) in
    qed 𝓛 ((‵ toks ⊛ ‵ (owns (types_at En.signature.params κs) a y.0.4))
    ∷ raw (fact 𝓤 (κs.1.1.1.1.1.0 ⊑ T.lives)) ∷ raw (fact 𝓤 _) ∷ []) ∵ move ! (2 ∷ []) $
    heard ! _ (λ asked. keep ! (0 ∷ []) $ split ! $
    fsplit ! $ move ! (1 ∷ []) $ fsplit ! $ move ! (1 ∷ []) $ fsplit ! $ move ! (1 ∷ []) $
    fsplit ! $ move ! (1 ∷ []) $ fsplit ! $ move ! (6 ∷ []) $ fsplit ! $ fsplit ! $
    move ! (2 ∷ []) $ fsplit ! $ fsplit ! $ move ! (2 ∷ []) $ fsplit ! $ fsplit3 ! $
    move ! (3 ∷ []) $ fsplit ! $ fsplit3 ! $ move ! (3 ∷ []) $ fsplit ! $ fsplit3 ! $
    keep ! (8 ∷ 9 ∷ 5 ∷ 6 ∷ 1 ∷ 2 ∷ 11 ∷ 13 ∷ 14 ∷ 16 ∷ 17 ∷ 18 ∷ 19 ∷ 15 ∷ []) $
    -- [two parts of the pass, of the new right and of the count; the owner; the cell; the tokens,
    -- last first]
    let here : at ≡ block_ptr pb po = at_block at (in_block at asked.6) in
    suffices ! (Run (us (block_ptr pb po))) (subst (λ (r : Ptr). ent 𝓤 (Run (us (block_ptr pb po)))
    (Run (us r))) (sym here) (id⊢ 𝓤 (Run (us (block_ptr pb po))))) $
    enter ! 𝓣.C 𝓣.Λ fn (us (block_ptr pb po)) Post $
    alloc_all ! (λ l. pass_all ! refl
    ((tt, tt), ((tt, tt), ((tt, tt), ((tt, tt), ((tt, tt), ((tt, tt), tt)))))) $
    let Ev = env fn.locals l in
    move ! (6 ∷ []) $ owner_shown R ! b₁ o₁ t own (asked.0.0, asked.0.1) $
    move ! (1 ∷ 2 ∷ 10 ∷ []) $ pass_out ! tt b₂ o₂ t p asked.1 $
    move ! (7 ∷ 8 ∷ 10 ∷ []) $ count_out ! tt b₄ o₄ n $
    rewrite ! 0 (λ (k : Bool × ℕ × Ptr × ℕ). ‵ (pending k.0 k.1 k.2 k.3))
    (λ i. (asked.3 i, asked.4 i, (asked.5 ∙ here) i, asked.7 i)) refl $
    move ! (11 ∷ []) $ unhide ! $
    -- [the cell; the count; its two parts and token; the pass; its two parts and token; the owner;
    -- two of the new right; the tokens]
    let k : Callee = exchange_is.name (picked u64) in
    let vs : List Val = vptr b o ∷ vnull ∷ vptr pb po ∷ seq_cst ∷ seq_cst ∷ [] in
    first ! $ blocks ! $ sets ! (addr ! (through ! refl (stop !))) refl (tt, tt) $
    sets ! (of_opd ! (get ! refl)) refl (tt, tt) $
    sets ! (agg ! (and_then ! (lit ! tt) (no_more !))) refl seq_cst_good $
    sets ! (agg ! (and_then ! (lit ! tt) (no_more !))) refl seq_cst_good $
    move ! (0 ∷ 14 ∷ 5 ∷ 9 ∷ 13 ∷ 1 ∷ []) $ group ! 6 $
    let out : W → Fml = λ w. fsep (flft κs.0 qs.0) (fsep (flft κs.1.0 qs.1.0)
    (outcome 𝓛 𝓜 𝓡 k vs t p.number p.ready p.lines own.owner own.lease κs.0 qs.0 b o (pb, po)
    asked.0.2 asked.2 w)) in
    use1 𝓛 (later (raw (Answers 𝓛 𝓜 𝓡 W answer_val k vs out)))
    (promotes_by 𝓛 𝓜 𝓡 k vs t p.number p.ready p.lines own.owner own.lease κs.0 qs.0 b o (pb, po)
    asked.0.2 asked.2 (λ won lost. exchanges 𝓛 𝓜 𝓡
    (code.calls-core::raw_atomic::ptr::compare_exchange 𝓡.env wired) u64 word_laws
    (block_ptr b o) null_ptr (block_ptr pb po) won lost) κs.1.0 qs.1.0 own.born) $
    await ! tt $
    Calls-last ! (fm 𝓛 𝓜 𝓡) (said 𝓛 W answer_val out) (and_then ! (get ! refl)
    (and_then ! (lit ! tt) (and_then ! (get ! refl) (and_then ! (get ! refl)
    (and_then ! (get ! refl) (no_more !))))))
    (λ u. hears ! out
    (λ r. lands_last ! refl (answer_good (Ok r)) $
    exec ! 𝓣.C 𝓣.Λ Ev (tail fn.body) (at_ret Ev Post) $
    sets ! (of_opd ! (get ! refl)) refl (answer_good (Ok r)) $
    fsplit3 ! $ move ! (2 ∷ []) $ fpick ! (λ before. fsplit ! $ fpick ! (λ so. drop ! $ fsplit ! $
    -- [the pass; the new right; two tokens; two parts and the token of the count, of the pass, and
    -- of the new right; the last token]
    let ls : List Line = with_entry p.number before
    (promotion 𝓛 t p.number p.ready p.lines own.owner own.lease before) in
    let after : Pass.Denot = a_pass t p.number p.ready ls in
    let new : Own.Denot = an_owner R true t (next_owner before) own.lease ls in
    move ! (0 ∷ 7 ∷ 8 ∷ 9 ∷ []) $ pass_in ! tt b₂ o₂ (no_pass p) after $
    move ! (3 ∷ 9 ∷ 10 ∷ 11 ∷ []) $ owner_in R ! tt b₃ o₃ was new $
    feq_i ! (List Val) (ptr_val r ∷ []) (ptr_val r ∷ []) refl $
    use1 𝓛 (‵ (Answer.own_val (Ok r) (answer_val (Ok r) ∷ [])))
    (Ok-of 𝓛 RawPtr RawPtr r (ptr_val r)) $
    hands_back R ! b₂ o₂ b₃ o₃ b₄ o₄ after new (no_count n) $ nothing ! $ fjoin ! $ nothing ! $
    fjoin ! $ returns ! (look_at ! 0 refl) $ free_all ! refl $ keep ! (1 ∷ 0 ∷ 2 ∷ []) $
    by ! (ends 𝓛 En hs c y (answer_val (Ok r)) (Ok r)
    (tt, (tt, (after, (new, (no_count n, (tt, tt)))))) (tt, (tt, (tt, (tt, (tt, (tt, tt))))))
    (fact_i 𝓤 _ (emp 𝓤) (
      (refl, refl, refl, refl),
      (promoted_at t own p ((asked.0.0, asked.0.1), asked.1) before so.0, refl),
      tt,
    ))))))
    (λ r. lands_last ! refl (answer_good (Err r)) $
    exec ! 𝓣.C 𝓣.Λ Ev (tail fn.body) (at_ret Ev Post) $
    sets ! (of_opd ! (get ! refl)) refl (answer_good (Err r)) $
    fsplit3 ! $ move ! (2 ∷ []) $ fsplit ! $
    rewrite ! 0 (λ (k : Bool × ℕ × Ptr × ℕ). ‵ (pending k.0 k.1 k.2 k.3))
    (λ i. (sym asked.3 i, sym asked.4 i, sym (asked.5 ∙ here) i, sym asked.7 i)) refl $
    move ! (0 ∷ 4 ∷ 5 ∷ 6 ∷ []) $ count_in ! tt b₄ o₄ (no_count n) n $
    move ! (3 ∷ []) $ fpick ! (λ m. fpick ! (λ before. fsplit ! $ fpick ! (λ so. drop ! $ fsplit ! $
    let ls : List Line = with_entry p.number before (mathlib.Core.Option.some
    (Rattle.arc_owners.specs.declared.history.entry.Entry.TheVariants.Joined own.owner)) in
    let after : Pass.Denot = a_pass t p.number p.ready ls in
    move ! (0 ∷ 7 ∷ 8 ∷ 9 ∷ []) $ pass_in ! tt b₂ o₂ (no_pass p) after $
    move ! (9 ∷ 10 ∷ 11 ∷ 0 ∷ 1 ∷ 2 ∷ 7 ∷ 8 ∷ 4 ∷ 5 ∷ 6 ∷ 12 ∷ []) $
    feq_i ! (List Val) (ptr_val r ∷ []) (ptr_val r ∷ []) refl $
    use1 𝓛 (‵ (Answer.own_val (Err r) (answer_val (Err r) ∷ [])))
    (Err-of 𝓛 RawPtr RawPtr r (ptr_val r)) $
    hands_back R ! b₂ o₂ b₃ o₃ b₄ o₄ after was n $ nothing ! $ fjoin ! $ nothing ! $
    fjoin ! $ returns ! (look_at ! 0 refl) $ free_all ! refl $ keep ! (1 ∷ 0 ∷ 2 ∷ []) $
    by ! (ends 𝓛 En hs c y (answer_val (Err r)) (Err r)
    (tt, (tt, (after, (was, (n, (tt, tt)))))) (tt, (tt, (tt, (tt, (tt, (tt, tt))))))
    (fact_i 𝓤 _ (emp 𝓤) (
      (refl, refl, refl, refl),
      tt,
      ((before, (so.0, refl)), refl, refl),
    )))))))))))
