-- `get` shows what is lent, for as long as an owner is borrowed.
use Rattle.std.proofs.Common.{◌≡◌, true, List, [], ◌∷◌, refl, sym, ap, ◌∙◌}
use mir.Syntax.{a_type, named}
use mir.Val.{Val, vptr}
use mir.MapTy.{inst_fn}
use base.Logic.{SProp, emp}
use base.Fml.{Fml, Lft, ftrue, fsep, flft, fhide, fshr_bor}
use types.Kit.{‵, raw, ◌⊛◌, at_ret, ◌$◌, ◌∵◌, !, qed, by, move, keep, drop, split, fsplit, fjoin}
use types.Kit.{use1, use2, feq_i}
use types.Run.{stop, addr, of_opd, first, blocks, exec, returns}
use types.ByLocal.{alloc_all, pass_all, free_all, look_at, get, through, sets, sets_last, env}
use contract.Monad.{fact, fact_i}
use contract.BorrowLft.{◌⊑◌}
use contract.Running.{tables}
use denote.Exit.{yes}
use denote.RattleType.{RattleType, owns}
use denote.Signature.{types_at, plain}
use denote.Builtin.{RefOf}
use denote.Ref.{shr_vals, shr_Tells}
use denote.Memory.{hidden_shr}
use denote.Opens.{unhide, hide}
use denote.RawPtr.{Ptr, RawPtr, block_ptr, ptr_val, block_of, count_of, at_block, InBlock}
use denote.RawPtr.{rawptr_vals, rawptr_Tells}
use denote.Steps.{heard}
use denote.Param.{param, layouts}
use denote.Param.Laws.{param_laws}
use denote.Struct.Lending.{lent_at, lent_out, in_block_says}
use denote.Triple.Walked.{Stays, stay_dropped, Goes-dropped}
use Rattle.core.specs.contracts.marker.PhantomData as marker
use Rattle.core.proofs.alloc.Shapes.{after}
use Rattle.std.proofs.raw_atomic.Walks.{proved}
use Rattle.logbook.proofs.Fields.{Token}
use Rattle.arc_owners.proofs.memory.Borrows.{loan_seen}
use Rattle.arc_owners.proofs.memory.Endings.{Walk, enters, spent}
use Rattle.arc_owners.proofs.memory.OwnerShares.{shares_seen}
use Rattle.arc_owners.specs.contracts.count.word.OwnerToken as OwnerToken
use Rattle.arc_owners.specs.contracts.memory.shared_borrow.SharedBorrow as SharedBorrow
use Rattle.arc_owners.specs.contracts.memory.shared_borrow.SharedBorrow.get as f
use Rattle.arc_owners.proofs.memory.shared_borrow.SharedBorrow.get.Statement.{statement}
use Rattle.arc_owners.proofs.memory.shared_borrow.SharedBorrow.get.Code as code

pub get_spec : {M : Type 1} → statement M
get_spec 𝓤 𝓛 𝓜 𝓡 wired T K L LK =
    let H = 𝓛.H in let 𝓣 = tables 𝓤 H 𝓜 𝓡 𝓡.env in let R : RattleType = param 0 T in
    let LR = param_laws 0 T L in let Q : RattleType = param 1 K in
    let Own : RattleType = OwnerToken.the_row Q in let En = f.ended T K in
    let c = f.clauses T K 𝓛 𝓜.mem 𝓡.returns in
    let inst = layouts (a_type ∷ a_type ∷ []) (T, (K, tt)) in let fn = inst_fn inst code.function in
    let Row : RattleType = SharedBorrow.the_row R in
    let hs : Stays En.signature.params En.kept = (
      stay_dropped (RefOf (0 ∷ []) tt (plain (λ _. Row)) (λ _. tt)) yes,
      (
        stay_dropped (plain (λ _. RawPtr)) yes,
        (stay_dropped (RefOf (0 ∷ []) tt (plain (λ _. Own)) (λ _. tt)) yes, tt),
      ),
    ) in
    proved 𝓛 En hs c 𝓜 𝓡 (
      Goes-dropped 𝓛 3 (RefOf (0 ∷ []) tt (plain (λ _. Row)) (λ _. tt)) yes
          (λ κs x w. refl),
      (
        Goes-dropped 𝓛 3 (plain (λ _. RawPtr)) yes (λ κs x w. refl),
        (
          Goes-dropped 𝓛 3 (RefOf (0 ∷ []) tt (plain (λ _. Own)) (λ _. tt)) yes (λ κs x w. refl),
          tt,
        ),
      ),
    ) (f.Key.name inst) fn (code.unfolded 𝓤 H 𝓜 𝓡 wired (T, (K, tt)))
    (λ κs. (shr_vals, (rawptr_vals, (shr_vals, tt))))
    (λ κs. (shr_Tells (named 0) κs.0 Row, (rawptr_Tells, (shr_Tells (named 0) κs.0 Own, tt))))
    (λ κs qs bounds a gh are.
    let me = a.0.now in let b = a.0.ref_ptr.0 in let o = a.0.ref_ptr.1 in let place : Ptr = a.1.0 in
    let own = a.1.1.0.now in let b₂ = a.1.1.0.ref_ptr.0 in let o₂ = a.1.1.0.ref_ptr.1 in
    let κ : Lft = κs.0 in
    let Had : Fml = lent_at R me.at me.value (me.lifetime ∷ []) in let pb = block_of me.at in
    let po = count_of me.at in
    let y : (Walk 𝓛 En c).Ghost =
    ((κs, qs, bounds, a, (vptr b o ∷ [], (rawptr_vals place, (vptr b₂ o₂ ∷ [], tt)))), gh) in
    let Post : Val → SProp 𝓤 = (Walk 𝓛 En c).post y in
    let Asked : Type 0 = (me.at ≡ place) × (own.held ≡ true) × (own.lease.is_lent ≡ true)
    × (own.lease.lifetime ≡ me.lifetime) in
    qed 𝓛 ((‵ (fsep (flft κs.0 qs.0)
    (fsep (flft κs.1.0 qs.1.0) (fsep (flft κs.1.1.0 qs.1.1.0) ftrue))) ⊛ ‵
    (owns (types_at En.signature.params κs) a y.0.4)) ∷ raw (fact 𝓤 (κs.1.0 ⊑ T.lives)) ∷ raw
    (fact 𝓤 (κs.1.1.0 ⊑ K.lives)) ∷ raw (fact 𝓤 Asked) ∷ []) ∵
    move ! (3 ∷ []) $ heard ! Asked (λ asked. keep ! (0 ∷ []) $ split ! $ move ! (1 ∷ []) $
    fsplit ! $ fsplit ! $ move ! (2 ∷ []) $ fsplit ! $ drop ! $ fsplit ! $ fsplit ! $
    keep ! (4 ∷ 1 ∷ 5 ∷ []) $
    -- [what is lent of the loan, and of the owner; the tokens]
    use1 𝓛 (‵ (hidden_shr (Token R) κ (me.marker, tt) b o) ⊛ ‵ (fhide Had))
    (lent_out 𝓛 (SharedBorrow.struct R)
    (SharedBorrow.the_codes R.Denot R.coded (marker.the_row R).coded) (SharedBorrow.the_heap R)
    (SharedBorrow.the_lent R) κ me b o) $ split ! $ drop ! $ unhide ! $ move ! (1 ∷ []) $
    use1 𝓛 (‵ (fshr_bor κ (λ q. flft (me.lifetime ∷ []) q)))
    (shares_seen Q 𝓛 κ own b₂ o₂ me.lifetime asked.1 asked.2 asked.3) $
    move ! (1 ∷ 0 ∷ []) $
    use2 𝓛 (‵ (lent_at R me.at me.value κ)) (loan_seen R LR me.at me.value me.lifetime 𝓛 κ) $
    fsplit ! $
    use1 𝓛 (raw (fact 𝓤 (InBlock me.at))) (in_block_says 𝓛 me.at) $
    heard ! (InBlock me.at) (λ inb. hide ! $
    let here : place ≡ block_ptr pb po = sym asked.0 ∙ at_block me.at inb in
    enters ! _ _ _ _ (vptr b o ∷ vptr pb po ∷ vptr b₂ o₂ ∷ [])
    (ap (λ (r : Ptr). vptr b o ∷ ptr_val r ∷ vptr b₂ o₂ ∷ []) here) $
    alloc_all ! (λ l. pass_all ! refl ((tt, tt), ((tt, tt), ((tt, tt), tt))) $
    let Ev = env fn.locals l in
    first ! $ blocks ! $ sets_last ! (addr ! (through ! refl (stop !))) refl (tt, tt) $
    exec ! 𝓣.C 𝓣.Λ Ev (after 1 fn.body) (at_ret Ev Post) $ sets ! (of_opd ! (get ! refl)) refl
    (tt, tt) $
    feq_i ! (List Val) (vptr pb po ∷ []) (vptr pb po ∷ []) refl $ fjoin ! $
    returns ! (look_at ! 0 refl) $ free_all ! refl $ keep ! (1 ∷ 0 ∷ []) $
    by ! (spent 𝓛 En c y (vptr pb po) (record { ref_ptr = (pb, po); now = me.value })
    (tt, (tt, (tt, tt))) (fact_i 𝓤 _ (emp 𝓤) refl))))))
