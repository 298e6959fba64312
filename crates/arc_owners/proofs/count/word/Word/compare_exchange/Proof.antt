-- `compare_exchange` is one exchange, with the invariant, a share of an owner's right, the pass,
-- and the right of the new owner.
use contract.BorrowLft.{◌⊑◌}
use denote.Param.{param}
use Rattle.std.proofs.Common.{ℕ, true, eqb, List, [], ◌∷◌, refl, w64}
use mir.Syntax.{named}
use mir.Val.{Val, vint, vptr}
use base.Logic.{SProp, emp}
use base.Share.{quarter}
use base.Fml.{Fml, ftrue, fsep, flft}
use types.Kit.{‵, raw, ◌⊛◌, later, mean, at_ret, ◌$◌, ◌∵◌, !, qed, by, move, keep, drop, split}
use types.Kit.{group, fsplit, fsplit3, fjoin, fpick, use1, await}
use types.Run.{stop, addr, of_opd, no_more, and_then, first, blocks, exec, Calls-last, returns}
use types.Run.{enter}
use types.ByLocal.{alloc_all, pass_all, free_all, look_at, get, through, sets, lands_last, env}
use contract.Monad.{fact_i, fact}
use contract.Running.{tables}
use denote.Exit.{yes}
use denote.RattleType.{owns, RattleType}
use denote.Signature.{types_at, plain}
use denote.Builtin.{RefOf, u64}
use denote.Ref.{mut_vals, mut_Tells, shr_vals, shr_Tells}
use denote.Plain.{uint_vals, uint_Tells}
use denote.RawPtr.{block_ptr}
use denote.Opens.{unhide}
use denote.Steps.{nothing, heard}
use denote.Triple.Walked.{Stays, stay_dropped, stay_ref, walk_of, Goes-dropped, Goes-ref}
use Rattle.core.proofs.atomic.Steps.{tail}
use Rattle.std.proofs.raw_atomic.Walks.{proved}
use Rattle.atomic_table.proofs.Calls.{fm, found, finds, exchanges}
use Rattle.logbook.proofs.Fields.{ends}
use Rattle.arc_owners.specs.count.Invariant.{Line, right_owns, trace_owns, next_owner}
use Rattle.arc_owners.specs.contracts.count.word.Word as Word
use Rattle.arc_owners.specs.contracts.count.word.PassState as PassState
use Rattle.arc_owners.proofs.count.AtType.{layouts_at, code_at, Right}
use Rattle.arc_owners.proofs.count.Operations.{Operation, compare_exchange, with_entry, left}
use Rattle.arc_owners.proofs.count.Operations.{made_one}
use Rattle.arc_owners.proofs.count.Moves as moves
use Rattle.arc_owners.proofs.count.Places as places
use Rattle.arc_owners.proofs.count.Walks.{a_pass, no_pass, an_owner, pass_out, pass_in, owner_shown}
use Rattle.arc_owners.proofs.count.Walks.{owner_in, borrowed, answered, given_back}
use Rattle.arc_owners.specs.contracts.count.word.Word.compare_exchange as f
use Rattle.arc_owners.proofs.count.word.Word.compare_exchange.Statement.{statement}
use Rattle.arc_owners.proofs.count.word.Word.compare_exchange.Code as code

pub compare_exchange_spec : {M : Type 1} → statement M
compare_exchange_spec 𝓤 𝓛 𝓜 𝓡 wired T L =
    let 𝓣 = tables 𝓤 𝓛.H 𝓜 𝓡 𝓡.env in let R : RattleType = param 0 T in
    let Own : RattleType = Right T in let En = f.ended T in let c = f.clauses T 𝓛 𝓜.mem 𝓡.returns in
    let fn = code_at T code.function in
    let hs : Stays En.signature.params En.kept = (
      stay_dropped (RefOf (0 ∷ []) tt (plain (λ _. Word.the_row)) (λ _. tt)) yes,
      (
        stay_dropped (RefOf (1 ∷ []) tt (plain (λ _. Own)) (λ _. tt)) yes,
        (
          stay_ref (2 ∷ []) tt (plain (λ _. PassState.the_row)),
          (
            stay_ref (3 ∷ []) tt (plain (λ _. Own)),
            (stay_dropped (plain (λ _. u64)) yes, (stay_dropped (plain (λ _. u64)) yes, tt)),
          ),
        ),
      ),
    ) in
    proved 𝓛 En hs c 𝓜 𝓡 (
      Goes-dropped 𝓛 5 (RefOf (0 ∷ []) tt (plain (λ _. Word.the_row)) (λ _. tt))
          yes (λ κs x w. refl),
      (
        Goes-dropped 𝓛 5 (RefOf (1 ∷ []) tt (plain (λ _. Own)) (λ _. tt)) yes
            (λ κs x w. refl),
        (
          Goes-ref 𝓛 5 2 tt (plain (λ _. PassState.the_row)),
          (
            Goes-ref 𝓛 5 3 tt (plain (λ _. Own)),
            (
              Goes-dropped 𝓛 5 (plain (λ _. u64)) yes
                  (λ κs x w. refl),
              (Goes-dropped 𝓛 5 (plain (λ _. u64)) yes (λ κs x w. refl), tt),
            ),
          ),
        ),
      ),
    )
    (f.Key.name (layouts_at T)) fn (code.unfolded 𝓤 𝓛.H 𝓜 𝓡 wired (T, tt))
    (λ κs. (shr_vals, (shr_vals, (mut_vals, (mut_vals, (uint_vals w64, (uint_vals w64, tt)))))))
    (λ κs. (
      shr_Tells (named 0) κs.0 Word.the_row,
      (
        shr_Tells (named 1) κs.1.0 Own,
        (
          mut_Tells (named 2) κs.1.1.0 PassState.the_row,
          (mut_Tells (named 3) κs.1.1.1.0 Own, (uint_Tells w64, (uint_Tells w64, tt))),
        ),
      ),
    ))
    (λ κs qs bounds a gh are.
    let me = a.0.now in let own = a.1.0.now in let seen = a.1.1.0.now in let b = a.0.ref_ptr.0 in
    let o = a.0.ref_ptr.1 in let b₁ = a.1.0.ref_ptr.0 in let o₁ = a.1.0.ref_ptr.1 in
    let b₂ = a.1.1.0.ref_ptr.0 in let o₂ = a.1.1.0.ref_ptr.1 in let b₃ = a.1.1.1.0.ref_ptr.0 in
    let o₃ = a.1.1.1.0.ref_ptr.1 in let old = a.1.1.1.1.0 in let next = a.1.1.1.1.1.0 in
    let y : (walk_of 𝓛 En hs c).Ghost = (
      (
        κs,
        qs,
        bounds,
        a,
        (
          vptr b o ∷ [],
          (
            vptr b₁ o₁ ∷ [],
            (vptr b₂ o₂ ∷ [], (vptr b₃ o₃ ∷ [], (vint w64 old ∷ [], (vint w64 next ∷ [], tt)))),
          ),
        ),
      ),
      gh,
    )
    in
    let Post : Val → SProp 𝓤 = (walk_of 𝓛 En hs c).post y in
    let toks : Fml = fsep (flft κs.0 qs.0) (fsep (flft κs.1.0 qs.1.0)
    (fsep (flft κs.1.1.0 qs.1.1.0) (fsep (flft κs.1.1.1.0 qs.1.1.1.0)
    (fsep (flft κs.1.1.1.1.0 qs.1.1.1.1.0) ftrue)))) in
    qed 𝓛 ((‵ toks ⊛ ‵ (owns (types_at En.signature.params κs) a y.0.4))
    ∷ raw (fact 𝓤 (κs.1.1.1.1.0 ⊑ T.lives)) ∷ raw (fact 𝓤 _) ∷ []) ∵ move ! (2 ∷ []) $
    heard ! _ (λ asked. keep ! (0 ∷ []) $ split ! $
    fsplit ! $ move ! (1 ∷ []) $ fsplit ! $ move ! (1 ∷ []) $ fsplit ! $ move ! (1 ∷ []) $
    fsplit ! $ move ! (5 ∷ []) $ fsplit ! $ fsplit ! $ move ! (2 ∷ []) $ fsplit ! $ fsplit ! $
    move ! (2 ∷ []) $ fsplit ! $ fsplit3 ! $ move ! (3 ∷ []) $ fsplit ! $ fsplit3 ! $
    keep ! (5 ∷ 6 ∷ 1 ∷ 2 ∷ 8 ∷ 10 ∷ 11 ∷ 13 ∷ 14 ∷ 15 ∷ 12 ∷ []) $
    -- [two parts of the pass; two of the new right; the owner; the word; the tokens, last first]
    enter ! 𝓣.C 𝓣.Λ fn (vptr b o ∷ vptr b₁ o₁ ∷ vptr b₂ o₂ ∷ vptr b₃ o₃ ∷ vint w64 old
    ∷ vint w64 next ∷ []) Post $ alloc_all ! (λ l. pass_all ! refl (
      (tt, tt),
      (
        (tt, tt),
        (
          (tt, tt),
          (
            (tt, tt),
            (
              (tt, record { fits = are.1.1.1.1.0.1 }),
              ((tt, record { fits = are.1.1.1.1.1.0.1 }), tt),
            ),
          ),
        ),
      ),
    ) $
    let Ev = env fn.locals l in
    move ! (4 ∷ []) $ owner_shown R ! b₁ o₁ me own (asked.0.0, asked.0.1) $
    move ! (1 ∷ 2 ∷ 7 ∷ []) $ pass_out ! tt b₂ o₂ me seen asked.1 $ move ! (7 ∷ []) $ unhide ! $
    -- [the word; the pass; its two parts; its token; the owner; two of the new right; the tokens]
    let op : Operation = compare_exchange me own.owner own.lease quarter old next in
    let T : List Line → Fml = λ ls. trace_owns true me seen.number seen.ready ls in
    let made : ℕ → List Line → Fml = λ n before. right_owns (eqb n old) me
    (next_owner before) own.lease (with_entry seen.number before (op.entry n before)) in
    let out : ℕ → Fml = λ n. fsep (flft κs.0 qs.0)
    (fsep (flft κs.1.0 qs.1.0) (left me seen.number seen.lines T n (op.entry n) (made n))) in
    first ! $ blocks ! $ sets ! (addr ! (through ! refl (stop !))) refl (tt, tt) $
    sets ! (of_opd ! (get ! refl)) refl (tt, tt) $
    move ! (0 ∷ 10 ∷ 1 ∷ 5 ∷ 9 ∷ []) $ group ! 5 $
    use1 𝓛 (later (raw (𝓣.C _ (vptr b o ∷ vint w64 old ∷ vint w64 next ∷ [])
    (λ u. mean 𝓛 (found out u)))))
    (borrowed 𝓛 𝓜 𝓡 _ (vptr b o ∷ vint w64 old ∷ vint w64 next ∷ [])
    me seen.number seen.ready seen.lines own.owner own.lease κs.0 qs.0 b o op.next op.entry
    (λ r. (compare_exchange me own.owner own.lease r old next).gain)
    (λ r. moves.exchanges 𝓛 me seen.number seen.ready seen.lines own.owner own.lease asked.0.2 r old
    next asked.2 asked.3)
    made (λ r n before. places.new_owner 𝓛 me seen.number seen.ready seen.lines own.owner own.lease
    r
    (eqb n old) (with_entry seen.number before (op.entry n before)) (next_owner before))
    (exchanges 𝓛 𝓜 𝓡 (code.calls-atomic_table::exchange 𝓡.env wired)
    (block_ptr b o) old next are.1.1.1.1.0.1 are.1.1.1.1.1.0.1) κs.1.0 qs.1.0 own.born) $
    await ! tt $
    Calls-last ! (fm 𝓛 𝓜 𝓡) (found out) (and_then ! (get ! refl)
    (and_then ! (get ! refl) (and_then ! (get ! refl) (no_more !))))
    (λ u. finds ! out (λ n fits. lands_last ! refl (tt, record { fits = fits }) $
    exec ! 𝓣.C 𝓣.Λ Ev (tail fn.body) (at_ret Ev Post) $
    sets ! (of_opd ! (get ! refl)) refl (tt, record { fits = fits }) $
    fsplit3 ! $ move ! (2 ∷ []) $ fpick ! (λ before. fsplit ! $ fpick ! (λ so. drop ! $ fsplit ! $
    -- [the pass; the new right; two tokens; two parts of the pass; its token; two of the new right;
    -- its token; the last token]
    let ls : List Line = with_entry seen.number before (op.entry n before) in
    let after : PassState.the_row.Denot = a_pass me seen.number seen.ready ls in
    let new : Own.Denot = an_owner R (eqb n old) me (next_owner before) own.lease ls in
    move ! (0 ∷ 4 ∷ 5 ∷ 6 ∷ []) $ pass_in ! tt b₂ o₂ (no_pass seen) after $
    move ! (3 ∷ 6 ∷ 7 ∷ 8 ∷ []) $ owner_in R ! tt b₃ o₃ a.1.1.1.0.now new $
    -- [two parts of the new right; its token; two parts of the pass; its token; two tokens; the
    -- last]
    answered ! n fits $ move ! (9 ∷ []) $ move ! (4 ∷ 0 ∷ []) $ fjoin ! $ move ! (6 ∷ 0 ∷ []) $
    fjoin ! $ move ! (7 ∷ 0 ∷ []) $ fjoin ! $ move ! (6 ∷ 0 ∷ []) $ fjoin ! $
    nothing ! $ nothing ! $ fjoin ! $ nothing ! $ fjoin ! $ move ! (3 ∷ 4 ∷ 0 ∷ []) $
    given_back ! b₃ o₃ $
    move ! (3 ∷ 4 ∷ 0 ∷ []) $ given_back ! b₂ o₂ $ nothing ! $ fjoin ! $ nothing ! $ fjoin ! $
    returns ! (look_at ! 0 refl) $ free_all ! refl $ keep ! (1 ∷ 0 ∷ 2 ∷ []) $
    by ! (ends 𝓛 En hs c y (vint w64 n) n (tt, (tt, (after, (new, (tt, (tt, tt))))))
    (tt, (tt, (tt, (tt, (tt, (tt, tt)))))) (fact_i 𝓤 _ (emp 𝓤) (
      (refl, refl, refl, refl),
      (
        made_one me seen.number seen.lines own.owner n before (eqb n old)
            so,
        refl,
        refl,
        refl,
      ),
    ))))))))))
