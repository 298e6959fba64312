-- `show` asks the value at the lease's own lifetime, of which it has a token while it asks, and
-- keeps what the slice that comes back says of its items.
use Rattle.std.proofs.Common.{◌≡◌, true, ℕ, ◌*◌, ◌^◌, List, [], ◌∷◌, ◌++◌, length, refl, sym}
use Rattle.std.proofs.Common.{ap, ◌∙◌}
use mir.Syntax.{a_type, named, dcons, dnil}
use mir.Val.{Val, vptr}
use mir.MapTy.{inst_fn}
use base.Logic.{SProp, emp, wand, id⊢, apply∗}
use base.Fml.{Fml, Lft, Incl-trans, Share as Fraction, ftrue, fsep, flft, fhide, fshr_bor}
use base.Share
use types.Kit.{‵, raw, ◌⊛◌, some, later, at_ret, ◌$◌, ◌∵◌, !, qed, by, move, keep, drop, split}
use types.Kit.{split3, join, group, pick, fsplit, fjoin, await, use0, use1, use2}
use types.Kit.{feq_i, feq_l, flt_i, flt_l}
use types.Logic.{lfts}
use types.Run.{stop, fld, hop, from, addr, of_opd, first, blocks, exec, returns, no_more}
use types.Run.{and_then}
use types.ByLocal.{alloc_all, pass_all, free_all, look_at, look_in_at, get, through, sets}
use types.ByLocal.{sets_last, lands_as, env}
use types.Part.{agg, sub, whole}
use contract.Monad.{fact, fact_i}
use contract.BorrowLft.{◌⊑◌, ⊑_refl, meet_⊑_left, meet_⊑_right}
use contract.Lifetimes.{Lfts, Shares, AllOutlive}
use contract.Running.{tables}
use denote.Exit.{yes}
use denote.RattleType.{RattleType, Valss, owns}
use denote.Signature.{Slot, types_at, plain}
use denote.Builtin.{RefOf}
use denote.Ref.{Bor, shr_vals, shr_Tells}
use denote.Memory.{mem, hidden_shr}
use denote.Opens.{unhide, hide}
use denote.RawPtr.{Ptr, RawPtr, block_ptr, ptr_val, block_of, count_of, at_block, InBlock}
use denote.RawPtr.{rawptr_vals, rawptr_Tells}
use denote.SharingLaws.{shortens}
use denote.Slice.{ShrSlice}
use denote.Steps.{nothing, only, heard}
use denote.Param.{param, bounded}
use denote.Param.Laws.{param_laws}
use denote.Struct.Lending.{lent_at, lent_at_shr_laws, lent_out, in_block_says}
use denote.Triple.Call.{calls_at}
use denote.Triple.Clauses.{Lasts, lasts}
use denote.Triple.Spec.{triple_of}
use denote.Triple.Walked.{Stays, stay_dropped, Goes-dropped}
use Rattle.core.specs.contracts.marker.PhantomData as marker
use Rattle.core.proofs.alloc.Shapes.{after}
use Rattle.core.proofs.atomic.Steps.{fm}
use Rattle.std.proofs.raw_atomic.Walks.{proved}
use Rattle.logbook.proofs.Fields.{Token, token}
use Rattle.arc_owners.specs.memory.LentSlices.{shown_for}
use Rattle.arc_owners.proofs.memory.ShownSlices.{given, one_shown, shown_made}
use Rattle.arc_owners.proofs.memory.Endings.{Walk, enters, both_spent}
use Rattle.arc_owners.proofs.memory.OwnerShares.{shares_seen}
use Rattle.arc_owners.specs.contracts.count.word.OwnerToken as OwnerToken
use Rattle.arc_owners.specs.contracts.memory.shown.Shown as Shown
use Rattle.arc_owners.specs.contracts.memory.shown.ask as callee
use Rattle.arc_owners.proofs.memory.shown.ask.Met.{met}
use Rattle.arc_owners.specs.contracts.memory.shared_borrow.SharedBorrow as SharedBorrow
use Rattle.arc_owners.specs.contracts.memory.shared_borrow.SharedBorrow.show as f
use Rattle.arc_owners.proofs.memory.shared_borrow.SharedBorrow.show.Statement.{statement}
use Rattle.arc_owners.proofs.memory.shared_borrow.SharedBorrow.show.Code as code

pub show_spec : {M : Type 1} → statement M
show_spec 𝓤 𝓛 𝓜 𝓡 wired V T K LV LT LK g d shows =
    let H = 𝓛.H in let 𝓣 = tables 𝓤 H 𝓜 𝓡 𝓡.env in let S : RattleType = param 0 V in
    let LS = param_laws 0 V LV in let R : RattleType = param 1 T in
    let Q : RattleType = param 2 K in
    let Own : RattleType = OwnerToken.the_row Q in let Row : RattleType = SharedBorrow.the_row S in
    let Sh : RattleType = Shown.the_row R S in let En = f.ended V T K g d in
    let c = f.clauses V T K g d 𝓛 𝓜.mem 𝓡.returns in
    let inst = bounded (a_type ∷ a_type ∷ a_type ∷ []) (V, (T, (K, tt))) (dcons d dnil) in
    let fn = inst_fn inst code.function in
    let s₀ : Slot 5 = RefOf (0 ∷ []) tt (plain (λ _. Row)) (λ _. tt) in
    let s₁ : Slot 5 = plain (λ _. RawPtr) in
    let s₂ : Slot 5 = RefOf (1 ∷ []) tt (plain (λ _. Own)) (λ _. tt) in
    let hs : Stays En.signature.params En.kept =
    (stay_dropped s₀ yes, (stay_dropped s₁ yes, (stay_dropped s₂ yes, tt))) in
    proved 𝓛 En hs c 𝓜 𝓡 (
      Goes-dropped 𝓛 5 s₀ yes (λ κs x w. refl),
      (
        Goes-dropped 𝓛 5 s₁ yes (λ κs x w. refl),
        (Goes-dropped 𝓛 5 s₂ yes (λ κs x w. refl), tt),
      ),
    ) (f.Key.name inst) fn
    (code.unfolded 𝓤 H 𝓜 𝓡 wired (V, (T, (K, tt))) d)
    (λ κs. (shr_vals, (rawptr_vals, (shr_vals, tt))))
    (λ κs. (shr_Tells (named 0) κs.0 Row, (rawptr_Tells, (shr_Tells (named 1) κs.1.0 Own, tt))))
    (λ κs qs bounds a gh are.
    let me = a.0.now in let b = a.0.ref_ptr.0 in let o = a.0.ref_ptr.1 in let place : Ptr = a.1.0 in
    let own = a.1.1.0.now in let b₂ = a.1.1.0.ref_ptr.0 in let o₂ = a.1.1.0.ref_ptr.1 in
    let κ : Lft = κs.1.0 in let τ : Lft = κs.1.1.0 in let σ : Lft = κs.1.1.1.0 in
    let n : ℕ = me.lifetime in let α : Lft = n ∷ [] in let l : Lft = shown_for R S n in
    let ts = given R S n 𝓛 κ τ σ qs.1.0 qs.1.1.0 qs.1.1.1.0 in
    let Had : Fml = lent_at S me.at me.value α in let pb = block_of me.at in
    let po = count_of me.at in
    let asked_for : Bor S.Denot = record { ref_ptr = (pb, po); now = me.value } in
    let us : Valss (types_at En.signature.params κs) =
    (vptr b o ∷ [], (rawptr_vals place, (vptr b₂ o₂ ∷ [], tt))) in
    let y : (Walk 𝓛 En c).Ghost = ((κs, qs, bounds, a, us), gh) in
    let Post : Val → SProp 𝓤 = (Walk 𝓛 En c).post y in
    let Asked : Type 0 = (me.at ≡ place) × (own.held ≡ true) × (own.lease.is_lent ≡ true) ×
    (own.lease.lifetime ≡ n) in
    qed 𝓛 ((‵ (fsep (flft κs.0 qs.0) (fsep (flft κ qs.1.0) (fsep (flft τ qs.1.1.0)
    (fsep (flft σ qs.1.1.1.0) (fsep (flft κs.1.1.1.1.0 qs.1.1.1.1.0) ftrue))))) ⊛ ‵
    (owns (types_at En.signature.params κs) a y.0.4))
    ∷ raw (fact 𝓤 (τ ⊑ V.lives)) ∷ raw (fact 𝓤 (σ ⊑ T.lives))
    ∷ raw (fact 𝓤 (κs.1.1.1.1.0 ⊑ K.lives)) ∷ raw (fact 𝓤 Asked) ∷ []) ∵
    move ! (4 ∷ 1 ∷ 2 ∷ []) $ heard ! Asked (λ asked. heard ! (τ ⊑ V.lives) (λ incV.
    heard ! (σ ⊑ T.lives) (λ incT. keep ! (0 ∷ []) $ split ! $
    fsplit ! $ move ! (1 ∷ []) $ fsplit ! $ move ! (1 ∷ []) $ fsplit ! $ move ! (1 ∷ []) $
    fsplit ! $ move ! (5 ∷ []) $
    fsplit ! $ fsplit ! $ move ! (2 ∷ []) $ fsplit ! $ drop ! $ fsplit ! $ fsplit ! $
    keep ! (4 ∷ 1 ∷ 5 ∷ 6 ∷ 7 ∷ 8 ∷ 9 ∷ []) $
    -- [what is lent of the loan, and of the owner; the tokens of T, of H, of V, of the owner, of
    -- the loan]
    use1 𝓛 (‵ (hidden_shr (Token S) κs.0 (me.marker, tt) b o) ⊛ ‵ (fhide Had))
    (lent_out 𝓛 (SharedBorrow.struct S) (SharedBorrow.the_codes S.Denot S.coded
    (marker.the_row S).coded) (SharedBorrow.the_heap S) (SharedBorrow.the_lent S) κs.0 me b o) $
    split ! $ drop ! $ unhide ! $ move ! (1 ∷ []) $
    use1 𝓛 (‵ (fshr_bor κ (λ q. flft (n ∷ []) q)))
    (shares_seen Q 𝓛 κ own b₂ o₂ n asked.1 asked.2 asked.3) $ move ! (1 ∷ []) $
    use1 𝓛 (‵ (lent_at S me.at me.value l)) (shortens 𝓛 (lent_at S me.at me.value)
    (lent_at_shr_laws S LS.shr_laws me.at me.value) α l (meet_⊑_left α (S.lives ++ R.lives))) $
    fsplit ! $
    use1 𝓛 (raw (fact 𝓤 (InBlock me.at))) (in_block_says 𝓛 me.at) $
    heard ! (InBlock me.at) (λ inb. hide ! $
    feq_i ! (List Val) (vptr pb po ∷ []) (vptr pb po ∷ []) refl $ fjoin ! $ nothing ! $
    move ! (1 ∷ 0 ∷ []) $ fjoin ! $
    -- [a `&` to the value, at the lease's lifetime; what is lent of the owner; the tokens]
    let here : place ≡ block_ptr pb po = sym asked.0 ∙ at_block me.at inb in
    enters ! _ _ _ _ (vptr b o ∷ vptr pb po ∷ vptr b₂ o₂ ∷ [])
    (ap (λ (r : Ptr). vptr b o ∷ ptr_val r ∷ vptr b₂ o₂ ∷ []) here) $
    alloc_all ! (λ ls. pass_all ! refl ((tt, tt), ((tt, tt), ((tt, tt), tt))) $
    let Ev = env fn.locals ls in
    first ! $ blocks ! $ sets_last ! (addr ! (through ! refl (stop !))) refl (tt, tt) $
    exec ! 𝓣.C 𝓣.Λ Ev (after 1 fn.body) (at_ret Ev Post) $
    sets ! (of_opd ! (get ! refl)) refl (tt, tt) $
    move ! (1 ∷ 5 ∷ 4 ∷ 2 ∷ []) $ group ! 4 $
    use1 𝓛 (later (some (λ (r : Fraction). ‵ (flft l r) ⊛ raw (wand 𝓤 (𝓛.A.lft l r)
    (H.⇛ (lfts 𝓛 ts)))))) (one_shown R S n 𝓛 κ τ σ qs.1.0 qs.1.1.0 qs.1.1.1.0 incV incT) $
    await ! tt $ pick ! (λ r. split ! $
    -- [the token of the lease's lifetime; how it goes back; the `&`; the tokens of H and of the
    -- loan]
    let r₀ : Fraction = Share.left r in let r₁ : Fraction = Share.left (Share.right r) in
    let r₂ : Fraction = Share.right (Share.right r) in
    use1 𝓛 (‵ (flft l r₀) ⊛ ‵ (flft l (Share.right r))) (𝓛.lfts.lft_split l r) $ split ! $
    move ! (1 ∷ []) $ use1 𝓛 (‵ (flft l r₁) ⊛ ‵ (flft l r₂)) (𝓛.lfts.lft_split l (Share.right r)) $
    split ! $
    let G = triple_of 𝓛 (callee.signature V T) (callee.spec V T g d 𝓛 𝓜.mem 𝓡.returns) in
    let every : Lfts 3 = (l, (l, (l, tt))) in let parts : Shares 3 = (r₀, (r₁, (r₂, tt))) in
    let last : AllOutlive 3 (callee.signature V T).outlives every = (⊑_refl l, (⊑_refl l, tt)) in
    let z : G.Ghost = ((every, parts, last, (asked_for, tt), (vptr pb po ∷ [], tt)), tt) in
    nothing ! $ move ! (2 ∷ 0 ∷ []) $ join ! $ move ! (1 ∷ 0 ∷ []) $ join ! $ move ! (1 ∷ 0 ∷ []) $
    join ! $ move ! (0 ∷ 2 ∷ []) $ join ! $
    let liveV : l ⊑ V.lives = Incl-trans (meet_⊑_right α (S.lives ++ R.lives)) (meet_⊑_left S.lives
    R.lives) in let liveT : l ⊑ T.lives = Incl-trans (meet_⊑_right α (S.lives ++ R.lives))
    (meet_⊑_right S.lives R.lives) in
    nothing ! $ use0 𝓛 (raw (fact 𝓤 (l ⊑ T.lives))) (fact_i 𝓤 (l ⊑ T.lives) (emp 𝓤) liveT) $
    join ! $ use0 𝓛 (raw (fact 𝓤 (l ⊑ V.lives))) (fact_i 𝓤 (l ⊑ V.lives) (emp 𝓤) liveV) $ join ! $
    move ! (1 ∷ 0 ∷ []) $
    use2 𝓛 (raw (G.pre z)) (id⊢ 𝓤 _) $
    calls_at ! (fm 𝓛 𝓜 𝓡) G (met 𝓤 𝓛 𝓜 𝓡 (code.calls-arc_owners::memory::shown::ask 𝓡.env wired) V T
    LV LT g d shows) z (and_then ! (get ! refl) (no_more !)) (λ v.
    use1 𝓛 (later (some (λ (x : Bor (List R.Denot)).
    ((‵ (flft l r₀) ⊛ ‵ (flft l r₁) ⊛ ‵ (flft l r₂) ⊛ ‵ ftrue) ⊛ ‵ ((ShrSlice (named 0) l R).own_val
    x (v ∷ [])))
    ⊛ some (λ (ws : Lasts (callee.ended V T g d) z.0.0 z.0.3). ‵ (lasts (callee.ended V T g d) z.0.0
    z.0.3 ws) ⊛ raw (fact 𝓤 (x.now ≡ g.shown me.value)))))) (id⊢ 𝓤 (G.post z v)) $
    await ! tt $ pick ! (λ x. split ! $ move ! (1 ∷ []) $ pick ! (λ ws. split ! $ drop ! $
    heard ! (x.now ≡ g.shown me.value) (λ same. split ! $ move ! (1 ∷ []) $ fsplit ! $ fsplit ! $
    feq_l ! (λ is. fsplit ! $ flt_l ! (λ count. flt_l ! (λ bytes. unhide ! $
    -- [the items, shown for the lease's lifetime; its tokens; how they go back; the tokens of H and
    -- of the loan]
    let at : Ptr = block_ptr x.ref_ptr.0 x.ref_ptr.1 in
    let made : Sh.Denot = record { marker = record {}; items = x.now; at = at; lifetime = n } in
    flt_i ! (length x.now * (mem R).size) (2 ^ 63) bytes $ flt_i ! (length x.now) (2 ^ 64) count $
    fjoin ! $ nothing ! $ fjoin ! $ fjoin ! $
    use1 𝓛 (‵ (Sh.own_val made (token ∷ []))) (shown_made R S 𝓛 made) $
    lands_as ! (ap only is) refl (tt, (tt, (record { fits = count }, tt))) $
    sets ! (addr ! (from ! (fld ! refl (hop ! (look_in_at ! 4 (sub ! 0 refl (whole !))) (stop !)))))
    refl (tt, tt) $
    sets ! (agg ! (no_more !)) refl (tt, tt) $ sets ! (agg ! (and_then ! (get ! refl) (no_more !)))
    refl (tt, (tt, tt)) $
    sets ! (agg ! (and_then ! (get ! refl) (and_then ! (get ! refl) (no_more !)))) refl
    (tt, (tt, ((tt, tt), tt))) $
    move ! (1 ∷ []) $ split ! $ move ! (1 ∷ []) $ split ! $ move ! (1 ∷ []) $ split ! $
    move ! (2 ∷ 0 ∷ []) $ use2 𝓛 (‵ (flft l (Share.right r))) (𝓛.lfts.lft_join l (Share.right r)) $
    move ! (2 ∷ 0 ∷ []) $ use2 𝓛 (‵ (flft l r)) (𝓛.lfts.lft_join l r) $
    move ! (0 ∷ 3 ∷ []) $
    use2 𝓛 (later (‵ (flft κ qs.1.0) ⊛ ‵ (flft τ qs.1.1.0) ⊛ ‵ (flft σ qs.1.1.1.0)))
    (apply∗ 𝓤 (𝓛.A.lft l r) (H.⇛ (lfts 𝓛 ts))) $ await ! tt $ split3 ! $
    -- [the tokens of the owner, of V and of T; nothing; what is shown; the tokens of H and of the
    -- loan]
    move ! (2 ∷ 5 ∷ []) $ fjoin ! $ move ! (2 ∷ 0 ∷ []) $ fjoin ! $ move ! (1 ∷ 0 ∷ []) $ fjoin ! $
    move ! (3 ∷ 0 ∷ []) $ fjoin ! $ move ! (2 ∷ []) $
    feq_i ! (List Val) (vptr x.ref_ptr.0 x.ref_ptr.1 ∷ []) (vptr x.ref_ptr.0 x.ref_ptr.1 ∷ []) refl
    $
    returns ! (look_at ! 0 refl) $ free_all ! refl $ keep ! (0 ∷ 1 ∷ 2 ∷ []) $
    by ! (both_spent 𝓛 En c y RawPtr Sh at made (vptr x.ref_ptr.0 x.ref_ptr.1) token (at, made)
    (tt, (tt, (tt, tt))) refl (fact_i 𝓤 _ (emp 𝓤) (same, refl, refl)))))))))))))))))
