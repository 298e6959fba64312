-- `take_by` ends the lifetime of the lease, for which what was kept comes back, and that is what
-- the `BoxParts` owns. That it has ended is said besides.
use Rattle.std.proofs.Common.{◌≡◌, ℕ, Bool, true, false, List, [], ◌∷◌, ◌++◌, refl, sym, subst}
use lib.Dec.{T as Yes}
use mir.Syntax.{a_type, dcons, dnil}
use mir.Raw.{raw as bare}
use mir.Val.{Val, vptr, vstruct, vcons, vnil, of_list, has_ty, WT}
use mir.MapTy.{inst_fn}
use base.Logic.{SProp, ent, emp, never, id⊢, fst∗}
use base.Fml.{Fml, ftrue, fsep, feq, fdead, flft, fhide, finv}
use prog.Wp.{WpFn}
use types.Logic.{sem}
use types.Kit.{‵, raw, ◌⊛◌, later, ◌$◌, ◌∵◌, !, qed, by, move, keep, drop, split, fsplit, fsplit3}
use types.Kit.{fjoin, fjoin3, suffices, use1, use2, await, rewrite, feq_i, feq_l, fpack}
use types.Run.{of_opd, no_more, and_then, returns, enter}
use types.ByLocal.{alloc_all, pass_all, free_all, look_at, get, sets}
use types.Part.{agg}
use contract.Monad.{fact, fact_i}
use contract.BorrowLft.{◌⊑◌}
use contract.Running.{tables}
use denote.Exit.{yes, no}
use denote.RattleType.{RattleType, Valss, owns}
use denote.Signature.{types_at, plain}
use denote.Builtin.{RefOf, unit}
use denote.Memory.{hidden_shr}
use denote.Opens.{unhide}
use denote.RawPtr.{Ptr, RawPtr, null_ptr, ptr_val, in_a_block}
use denote.Steps.{nothing, heard, opens, closes}
use denote.Param.{layout, bounded}
use denote.Struct.Struct.{as_fields}
use denote.Struct.Lending.{lent_out}
use denote.Struct.Tuple.{Tuple}
use denote.Triple.Walked.{Stays, stay_dropped, stay_ref, walk_of, Goes-dropped, Goes-ref}
use Rattle.core.specs.contracts.marker.PhantomData as marker
use Rattle.core.proofs.alloc.Calls.{token, handle_tells}
use Rattle.core.proofs.atomic.Steps.{Ptr-Good}
use Rattle.std.proofs.raw_atomic.Walks.{proved_at}
use Rattle.std_alloc.specs.Box.Ownership.{box_owns}
use Rattle.std_alloc.proofs.BoxSteps.Form.{Bx, R, P, τ, B, box_ty, box_typed}
use Rattle.std_alloc.proofs.BoxSteps.Steps.{box_in}
use Rattle.logbook.proofs.Fields.{token as no_bytes, Token, ends}
use Rattle.arc_owners.proofs.memory.Allocators.{allocating}
use Rattle.arc_owners.specs.count.Invariant.{Lease, kept_for, end_tokens}
use Rattle.arc_owners.proofs.memory.Boxes.{Row, as_bare}
use Rattle.arc_owners.proofs.count.Markers.{marked}
use Rattle.arc_owners.proofs.count.Returns.{returns as comes_back}
use Rattle.arc_owners.specs.contracts.lifetime.EndedLifetime as EndedLifetime
use Rattle.arc_owners.specs.contracts.count.word.EndTokens as EndTokens
use Rattle.arc_owners.specs.contracts.memory.inheritance.Inheritance as Inheritance
use Rattle.arc_owners.specs.contracts.memory.inheritance.Inheritance.take_by as f
use Rattle.arc_owners.proofs.memory.inheritance.Inheritance.take_by.Statement.{statement}
use Rattle.arc_owners.proofs.memory.inheritance.Inheritance.take_by.Code as code

pub take_by_spec : {M : Type 1} → statement M
take_by_spec 𝓤 𝓛 𝓜 𝓡 wired T A L LA g d da allocator glued =
    let H = 𝓛.H in let 𝓣 = tables 𝓤 H 𝓜 𝓡 𝓡.env in
    let E : Bx = record { row = T; laws = L; al = allocating A LA g d da } in
    let En = f.ended T A g d da in let c = f.clauses T A g d da 𝓛 𝓜.mem 𝓡.returns in
    let inst = bounded (a_type ∷ a_type ∷ []) (T, (A, tt)) (dcons d (dcons da dnil)) in
    let fn = inst_fn inst code.function in
    let Ended : RattleType = EndedLifetime.the_row in
    let Both : RattleType = Tuple (R E ∷ P E ∷ []) in
    let K : RattleType = Inheritance.the_row (R E) (P E) g in
    let hs : Stays En.signature.params En.kept = (
      stay_dropped (RefOf (0 ∷ []) tt (plain (λ _. K)) (λ _. tt)) yes,
      (
        stay_dropped (plain (λ _. RawPtr)) yes,
        (
          stay_dropped (plain (λ _. P E)) no,
          (
            stay_ref (1 ∷ []) tt (plain (λ _. EndTokens.the_row)),
            tt,
          ),
        ),
      ),
    ) in
    proved_at 𝓛 En hs c 𝓜 𝓡 (
      Goes-dropped 𝓛 4 (RefOf (0 ∷ []) tt (plain (λ _. K)) (λ _. tt)) yes (λ κs x w. refl),
      (
        Goes-dropped 𝓛 4 (plain (λ _. RawPtr)) yes (λ κs x w. refl),
        (
          Goes-dropped 𝓛 4 (plain (λ _. P E)) no (λ κs x w. refl),
          (Goes-ref 𝓛 4 1 tt (plain (λ _. EndTokens.the_row)), tt),
        ),
      ),
    )
    (f.Key.name inst) fn (code.unfolded 𝓤 H 𝓜 𝓡 wired (T, (A, tt)) d da) (λ y are.
    let κs = y.0.0 in let qs = y.0.1 in let a = y.0.3 in let vss = y.0.4 in let me = a.0.now in
    let b = a.0.ref_ptr.0 in let o = a.0.ref_ptr.1 in let place : Ptr = a.1.0 in
    let al : A.Denot = a.1.1.0 in
    let last = a.1.1.1.0.now in let b₁ = a.1.1.1.0.ref_ptr.0 in let o₁ = a.1.1.1.0.ref_ptr.1 in
    let Post : Val → SProp 𝓤 = (walk_of 𝓛 En hs c).post y in
    let Run : List Val → SProp 𝓤 = λ ws. WpFn 𝓤 H 𝓣.C 𝓣.Λ fn ws Post in
    let n : ℕ = me.lease.lifetime in let Was : Fml = box_owns (token E.al me.alloc) (R E) me.at
    me.value in
    let Asked : Type 0 = (place ≡ me.at) × (al ≡ me.alloc) × (last.last ≡ true)
    × (last.lease ≡ me.lease) in
    qed 𝓛 ((‵ (fsep (flft κs.0 qs.0)
    (fsep (flft κs.1.0 qs.1.0)
    (fsep (flft κs.1.1.0 qs.1.1.0) (fsep (flft κs.1.1.1.0 qs.1.1.1.0) ftrue)))) ⊛ ‵
    (owns (types_at En.signature.params κs) a vss))
    ∷ raw (fact 𝓤 (κs.1.1.0 ⊑ T.lives)) ∷ raw (fact 𝓤 (κs.1.1.1.0 ⊑ A.lives)) ∷ raw
    (fact 𝓤 Asked) ∷ []) ∵
    move ! (3 ∷ []) $ heard ! Asked (λ asked. keep ! (0 ∷ []) $ split ! $ fsplit ! $
    move ! (1 ∷ []) $ fsplit ! $ move ! (3 ∷ []) $ fsplit ! $ fsplit ! $ feq_l ! (λ e₀.
    -- [what is lent of it; the other parameters; the token of the spoils; the last two; its token]
    use1 𝓛 (‵ (hidden_shr (Token Both) κs.0 (me.marker, tt) b o) ⊛ ‵
    (fhide (finv (kept_for Was me.lease))))
    (lent_out 𝓛 (Inheritance.struct (R E) (P E) g) (Inheritance.the_codes T.Denot A.Denot T.coded
    A.coded (marker.the_row Both).coded) (Inheritance.the_heap (R E) (P E) g)
    (Inheritance.the_lent (R E) (P E) g) κs.0 me b o) $ split ! $ drop ! $ unhide ! $
    move ! (1 ∷ []) $ fsplit ! $
    feq_l ! (λ e₁. fsplit ! $ handle_tells E.al ! al vss.1.1.0 (λ h e₂ fits. move ! (1 ∷ []) $
    fsplit ! $ fsplit3 ! $ feq_l ! (λ e₃.
    -- [two parts of the spoils; no more parameters; the allocator; what is kept; the token of the
    -- spoils; the last two; its token]
    let ws : List Val = vptr b o ∷ ptr_val place ∷ h ∷ vptr b₁ o₁ ∷ [] in
    suffices ! (Run ws) (subst (λ (us : List Val). ent 𝓤 (Run ws) (Run us))
    (sym (λ i. e₀ i ++ (e₁ i ++ (e₂ i ++ (e₃ i ++ []))))) (id⊢ 𝓤 (Run ws))) $
    enter ! 𝓣.C 𝓣.Λ fn ws Post $
    alloc_all ! (λ l. pass_all ! refl ((tt, tt), (Ptr-Good place, (fits, ((tt, tt), tt)))) $
    move ! (0 ∷ 1 ∷ 5 ∷ []) $ opens ! tt EndTokens.the_row b₁ o₁ (λ us. move ! (1 ∷ []) $ fsplit ! $
    move ! (1 ∷ []) $
    rewrite ! 0 (λ (k : Bool × Lease). ‵ (end_tokens k.1 k.0)) (λ i. (asked.2 i, asked.3 i)) refl $
    -- [the spoils; their marker, cell and open borrow; no more parameters; the allocator; what is
    -- kept; the last two tokens; its token]
    move ! (8 ∷ 0 ∷ []) $ use2 𝓛 (later (‵ Was ⊛ ‵ (fdead (n ∷ [])))) (comes_back 𝓛 Was me.lease) $
    await ! tt $ split ! $
    rewrite ! 0 (λ (k : Ptr × A.Denot). ‵ (box_owns (token E.al k.1) (R E) k.0 me.value))
    (sym (λ i. (asked.0 i, asked.1 i))) refl $
    in_a_block ! place (λ p. box_owns (token E.al al) (R E) p me.value)
    (fst∗ 𝓤 (never 𝓤) (sem 𝓛 (token E.al al (bare (τ E)) null_ptr))) (λ b₂ o₂ at_b. fsplit ! $
    let v : Ptr → Val = λ p. vstruct (vcons (ptr_val p) (vcons h vnil)) in
    let typed : Yes (has_ty (box_ty E) (v place))
    × WT (v place) = subst (λ (p : Ptr). Yes (has_ty (box_ty E) (v p)) × WT (v p)) (sym at_b)
    (box_typed E h b₂ o₂ fits) in
    let now : (Row E).Denot = record { at = place; alloc = al; value = me.value } in
    let left : EndTokens.the_row.Denot =
    record { marker = record {}; last = false; lease = last.lease } in
    let ended : Ended.Denot = record { marker = record {}; lifetime = n } in
    let w : Val = vstruct (vcons (v place) (vcons no_bytes vnil)) in
    let Rs : List RattleType = Row E ∷ Ended ∷ [] in
    move ! (0 ∷ 1 ∷ 9 ∷ []) $ box_in E ! (record { ptr = place; alloc = al; value = me.value }) b₂
    o₂ me.value at_b refl $
    rewrite ! 0 (λ (p : Ptr).
    ‵ ((B E).own_val (record { ptr = place; alloc = al; value = me.value }) (v p ∷ [])))
    (sym at_b) refl $ use1 𝓛 (‵ ((Row E).own_val now (v place ∷ [])))
    (as_bare E 𝓛 now (v place ∷ [])) $
    nothing ! $ move ! (3 ∷ 0 ∷ []) $ fjoin ! $ move ! (3 ∷ 0 ∷ 4 ∷ 5 ∷ 6 ∷ []) $
    closes ! tt EndTokens.the_row left us b₁ o₁ $
    sets ! (of_opd ! (get ! refl)) refl fits $
    sets ! (agg ! (and_then ! (get ! refl) (and_then ! (get ! refl) (no_more !)))) refl typed $
    sets ! (agg ! (no_more !)) refl (tt, tt) $ sets ! (agg ! (and_then ! (get ! refl) (no_more !)))
    refl (tt, (tt, tt)) $
    sets ! (agg ! (and_then ! (get ! refl) (and_then ! (get ! refl) (no_more !)))) refl
    (as_fields (layout (Row E) ∷ layout Ended ∷ []) (v place ∷ no_bytes ∷ [])
    (typed, ((tt, (tt, tt)), tt))) $
    -- [two parts of the spoils; their token; the `BoxParts`; that the lifetime has ended; no more
    -- parameters; the last two tokens; its token]
    move ! (4 ∷ 3 ∷ []) $ marked unit ! $ nothing ! $ move ! (1 ∷ 0 ∷ []) $ fjoin ! $
    move ! (1 ∷ 0 ∷ []) $ fjoin ! $ feq_i ! (List Val) (w ∷ []) (w ∷ []) refl $ fjoin ! $
    fpack ! (Valss Rs)
    (λ uss. fsep (feq (List Val) (w ∷ []) (vstruct (of_list (uss.0 ++ (uss.1.0 ++ []))) ∷ []))
    (owns Rs (now, (ended, tt)) uss)) (v place ∷ [], (no_bytes ∷ [], tt)) $
    move ! (1 ∷ 2 ∷ 3 ∷ []) $
    nothing ! $ feq_i ! (List Val) vss.1.1.1.0 (vptr b₁ o₁ ∷ []) e₃ $ move ! (0 ∷ 2 ∷ 3 ∷ []) $
    fjoin3 ! $ fjoin ! $ nothing ! $ fjoin ! $ nothing ! $ fjoin ! $ nothing ! $ fjoin ! $
    move ! (1 ∷ 4 ∷ []) $ fjoin ! $ move ! (4 ∷ 0 ∷ []) $ fjoin ! $
    returns ! (look_at ! 0 refl) $ free_all ! refl $ keep ! (0 ∷ 1 ∷ 2 ∷ []) $
    by ! (ends 𝓛 En hs c y w (now, ended) (tt, (tt, (tt, (left, tt)))) (tt, (tt, (tt, (tt, tt))))
    (fact_i 𝓤 _ (emp 𝓤) (refl, refl, refl, refl))))))))))))
