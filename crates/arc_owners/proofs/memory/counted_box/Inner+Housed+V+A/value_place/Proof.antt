-- `value_place` follows the memory to the value in it, and keeps what is lent of that.
use Rattle.std.proofs.Common.{◌≡◌, ℕ, List, [], ◌∷◌, ◌++◌, refl, sym, ap, ◌∙◌, subst}
use mir.Syntax.{a_type, named, dcons, dnil}
use mir.Val.{Val, vptr, vstruct, vcons, vnil, of_list}
use mir.MapTy.{inst_fn}
use base.Logic.{SProp, ent, emp, id⊢}
use base.Fml.{Fml, Lft, ftrue, fsep, feq, flft, fhide}
use prog.Wp.{WpFn}
use types.Kit.{‵, raw, ◌⊛◌, at_ret, ◌$◌, ◌∵◌, !, qed, by, move, keep, drop, split, fsplit, fjoin}
use types.Kit.{fpack, suffices, use0, use1, feq_i}
use types.Run.{stop, fld, addr, of_opd, first, blocks, exec, returns, enter, no_more, and_then}
use types.ByLocal.{alloc_all, pass_all, free_all, look_at, get, through, sets, sets_last, env}
use types.Part.{agg}
use contract.Monad.{fact, fact_i}
use contract.BorrowLft.{◌⊑◌}
use contract.Running.{tables}
use denote.Exit.{yes}
use denote.RattleType.{RattleType, Valss, owns}
use denote.Signature.{Slot, types_at, plain}
use denote.Builtin.{RefOf}
use denote.Ref.{shr_vals, shr_Tells}
use denote.Memory.{hidden_shr, shared_of}
use denote.Opens.{unhide}
use denote.RawPtr.{Ptr, RawPtr, block_ptr, ptr_val, block_of, count_of, at_block, InBlock}
use denote.RawPtr.{rawptr_vals, rawptr_Tells}
use denote.Steps.{nothing, heard}
use denote.Param.{param, copied, bounded}
use denote.Struct.Lending.{lent_at, lent_out, in_block_says}
use denote.Triple.Walked.{Stays, stay_dropped, walk_of, Goes-dropped}
use Rattle.core.specs.contracts.marker.PhantomData as marker
use Rattle.core.proofs.alloc.Shapes.{after}
use Rattle.std.proofs.raw_atomic.Walks.{proved}
use Rattle.logbook.proofs.Fields.{Token, token, token_made, ends}
use Rattle.arc_owners.proofs.memory.ValuePlaces.{All, value_from, value_shown}
use Rattle.arc_owners.specs.contracts.memory.shared_borrow.SharedBorrow as SharedBorrow
use Rattle.arc_owners.specs.contracts.memory.counted_box.Inner+Housed+V+A.value_place as f
use Rattle.arc_owners.proofs.memory.counted_box.Inner+Housed+V+A.value_place.Statement.{statement}
use Rattle.arc_owners.proofs.memory.counted_box.Inner+Housed+V+A.value_place.Code as code

pub value_place_spec : {M : Type 1} → statement M
value_place_spec 𝓤 𝓛 𝓜 𝓡 wired V A LV LA copy g d cg cd dv allocator clones glued =
    let H = 𝓛.H in let 𝓣 = tables 𝓤 H 𝓜 𝓡 𝓡.env in let S : RattleType = param 0 V in
    let Z : RattleType = copied 1 A in let X : RattleType = All S Z in
    let Row : RattleType = SharedBorrow.the_row X in
    let Out : RattleType = SharedBorrow.the_row S in
    let En = f.ended V A g d cg cd dv in let c = f.clauses V A g d cg cd dv 𝓛 𝓜.mem 𝓡.returns in
    let inst = bounded (a_type ∷ a_type ∷ []) (V, (A, tt)) (dcons d (dcons cd (dcons dv dnil))) in
    let fn = inst_fn inst code.function in
    let s₀ : Slot 3 = plain (λ _. RawPtr) in
    let s₁ : Slot 3 = RefOf (0 ∷ []) tt (plain (λ _. Row)) (λ _. tt) in
    let hs : Stays En.signature.params En.kept =
    (stay_dropped s₀ yes, (stay_dropped s₁ yes, tt)) in
    proved 𝓛 En hs c 𝓜 𝓡 (
      Goes-dropped 𝓛 3 s₀ yes (λ κs x w. refl),
      (Goes-dropped 𝓛 3 s₁ yes (λ κs x w. refl), tt),
    ) (f.Key.name inst) fn
    (code.unfolded 𝓤 H 𝓜 𝓡 wired (V, (A, tt)) d cd dv)
    (λ κs. (rawptr_vals, (shr_vals, tt))) (λ κs. (rawptr_Tells, (shr_Tells (named 0) κs.0 Row, tt)))
    (λ κs qs bounds a gh are.
    let at : Ptr = a.0 in let me = a.1.0.now in let b = a.1.0.ref_ptr.0 in
    let o = a.1.0.ref_ptr.1 in let κ : Lft = κs.0 in let α : Lft = me.lifetime ∷ [] in
    let Had : Fml = lent_at X me.at me.value α in
    let pb = block_of me.at in let po = count_of me.at in let vo : ℕ = value_from S Z po in
    let us : Valss (types_at En.signature.params κs) =
    (rawptr_vals at, (vptr b o ∷ [], tt)) in
    let y : (walk_of 𝓛 En hs c).Ghost = ((κs, qs, bounds, a, us), gh) in
    let Post : Val → SProp 𝓤 = (walk_of 𝓛 En hs c).post y in
    let Run : List Val → SProp 𝓤 = λ ws. WpFn 𝓤 H 𝓣.C 𝓣.Λ fn ws Post in
    let Asked : Type 0 = me.at ≡ at in
    qed 𝓛 ((‵ (fsep (flft κ qs.0) (fsep (flft κs.1.0 qs.1.0) (fsep (flft κs.1.1.0 qs.1.1.0)
    ftrue))) ⊛ ‵ (owns (types_at En.signature.params κs) a y.0.4)) ∷ raw (fact 𝓤 (κs.1.0 ⊑ V.lives))
    ∷ raw (fact 𝓤 (κs.1.1.0 ⊑ A.lives)) ∷ raw (fact 𝓤 Asked) ∷ []) ∵
    move ! (3 ∷ []) $ heard ! Asked (λ asked. keep ! (0 ∷ []) $ split ! $ move ! (1 ∷ []) $
    fsplit ! $ drop ! $ fsplit ! $ fsplit ! $ keep ! (1 ∷ 3 ∷ []) $
    use1 𝓛 (‵ (hidden_shr (Token X) κ (me.marker, tt) b o) ⊛ ‵ (fhide Had))
    (lent_out 𝓛 (SharedBorrow.struct X) (SharedBorrow.the_codes X.Denot X.coded
    (marker.the_row X).coded) (SharedBorrow.the_heap X) (SharedBorrow.the_lent X) κ me b o) $
    split ! $ drop ! $ unhide ! $ fsplit ! $
    use1 𝓛 (raw (fact 𝓤 (InBlock me.at))) (in_block_says 𝓛 me.at) $ heard ! (InBlock me.at) (λ inb.
    use1 𝓛 (‵ (shared_of S me.value.value.value pb vo α)) (value_shown S Z 𝓛 me.value pb po α) $
    -- [what is lent of the value; the tokens]
    let here : at ≡ block_ptr pb po = sym asked ∙ at_block me.at inb in
    let ws : Ptr → List Val = λ p. ptr_val p ∷ vptr b o ∷ [] in
    suffices ! (Run (ws (block_ptr pb po)))
    (subst (λ (us : List Val). ent 𝓤 (Run (ws (block_ptr pb po))) (Run us)) (sym (ap ws here))
    (id⊢ 𝓤 (Run (ws (block_ptr pb po))))) $
    enter ! 𝓣.C 𝓣.Λ fn (ws (block_ptr pb po)) Post $
    alloc_all ! (λ l. pass_all ! refl ((tt, tt), ((tt, tt), tt)) $ let Ev = env fn.locals l in
    first ! $ blocks ! $ sets_last ! (addr ! (through ! refl (fld ! refl (fld ! refl (stop !)))))
    refl (tt, tt) $ exec ! 𝓣.C 𝓣.Λ Ev (after 1 fn.body) (at_ret Ev Post) $
    sets ! (of_opd ! (get ! refl)) refl (tt, tt) $
    sets ! (agg ! (no_more !)) refl (tt, tt) $ sets ! (agg ! (and_then ! (get ! refl) (no_more !)))
    refl (tt, (tt, tt)) $
    sets ! (agg ! (and_then ! (get ! refl) (and_then ! (get ! refl) (no_more !)))) refl
    (tt, (tt, ((tt, tt), tt))) $
    let x = me.value.value.value in let p : Ptr = block_ptr pb vo in
    let made : Out.Denot =
    record { marker = record {}; value = x; at = p; lifetime = me.lifetime } in
    let u : Val = vstruct (vcons (vptr pb vo) (vcons token vnil)) in
    let Rs : List RattleType = RawPtr ∷ Out ∷ [] in
    nothing ! $ fjoin ! $ use0 𝓛 (‵ ((Token S).own_val (record {}, tt) (token ∷ [])))
    (token_made S 𝓛) $ fjoin ! $
    nothing ! $ move ! (1 ∷ 0 ∷ []) $ fjoin ! $
    feq_i ! (List Val) (vptr pb vo ∷ []) (vptr pb vo ∷ []) refl $ fjoin ! $
    feq_i ! (List Val) (u ∷ []) (u ∷ []) refl $ fjoin ! $
    fpack ! (Valss Rs) (λ uss. fsep (feq (List Val) (u ∷ [])
    (vstruct (of_list (uss.0 ++ (uss.1.0 ++ []))) ∷ [])) (owns Rs (block_ptr pb vo, (made, tt))
    uss)) (vptr pb vo ∷ [], (token ∷ [], tt)) $
    nothing ! $ nothing ! $ fjoin ! $ nothing ! $ fjoin ! $
    returns ! (look_at ! 0 refl) $ free_all ! refl $ keep ! (2 ∷ 0 ∷ 1 ∷ []) $
    by ! (ends 𝓛 En hs c y u (block_ptr pb vo, made) (tt, (tt, tt)) (tt, (tt, tt))
    (fact_i 𝓤 _ (emp 𝓤) (refl, refl, refl)))))))
