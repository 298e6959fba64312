-- The items before an end are shown for as long as an owner is borrowed.
use Rattle.std.proofs.Common.{◌≡◌, true, ◌≤◌, ℕ, List, [], ◌∷◌, ◌++◌, length, take, refl}
use Rattle.std.proofs.Common.{ap, ◌∙◌}
use mir.Syntax.{a_type, named, w64}
use mir.Val.{Val, vptr, vint}
use mir.MapTy.{inst_fn}
use base.Logic.{SProp, emp}
use base.Fml.{Fml, Lft, Incl-trans, ftrue, fsep, flft, fhide, fshr_bor}
use types.Kit.{‵, raw, ◌⊛◌, at_ret, ◌$◌, ◌∵◌, !, qed, by, move, keep, drop, split, fsplit}
use types.Kit.{use1, use2}
use types.Part.{agg}
use types.Run.{of_opd, first, blocks, exec, returns, no_more, and_then}
use types.ByLocal.{alloc_all, pass_all, free_all, look_at, get, sets, sets_last, env}
use contract.Monad.{fact, fact_i}
use contract.BorrowLft.{◌⊑◌, ⊑_meet}
use contract.Running.{tables}
use denote.Exit.{yes}
use denote.RattleType.{RattleType, Valss, owns}
use denote.Signature.{Slot, types_at, plain}
use denote.Builtin.{RefOf, usize}
use denote.Ref.{shr_vals, shr_Tells}
use denote.Memory.{hidden_shr}
use denote.Opens.{unhide}
use denote.Plain.{uint_vals, uint_Tells}
use denote.RawPtr.{Ptr, RawPtr, InBlock, block_ptr, ptr_val, block_of, count_of, at_block}
use denote.RawPtr.{rawptr_vals, rawptr_Tells}
use denote.Slice.{ShrSlice, slice_val}
use denote.Steps.{heard}
use denote.Param.{param, layouts}
use denote.Param.Laws.{param_laws}
use denote.Struct.Lending.{lent_out}
use denote.Triple.Walked.{Stays, stay_dropped, Goes-dropped}
use Rattle.core.specs.contracts.marker.PhantomData as marker
use Rattle.std.proofs.VecSteps.Shapes.{after}
use Rattle.std.proofs.raw_atomic.Walks.{proved}
use Rattle.logbook.proofs.Fields.{Token}
use Rattle.arc_owners.specs.memory.LentSlices.{slice_lent, shown_lent}
use Rattle.arc_owners.proofs.memory.LentSlices.{start_of, prefix_seen}
use Rattle.arc_owners.proofs.memory.ShownSlices.{Marks, shown_seen}
use Rattle.arc_owners.proofs.memory.Endings.{Walk, enters, spent}
use Rattle.arc_owners.proofs.memory.OwnerShares.{shares_seen}
use Rattle.arc_owners.specs.contracts.count.word.OwnerToken as OwnerToken
use Rattle.arc_owners.specs.contracts.memory.shown.Shown as Shown
use Rattle.arc_owners.specs.contracts.memory.shown.Shown.prefix as f
use Rattle.arc_owners.proofs.memory.shown.Shown.prefix.Statement.{statement}
use Rattle.arc_owners.proofs.memory.shown.Shown.prefix.Code as code

pub prefix_spec : {M : Type 1} → statement M
prefix_spec 𝓤 𝓛 𝓜 𝓡 wired T V K LT LV LK =
    let H = 𝓛.H in let 𝓣 = tables 𝓤 H 𝓜 𝓡 𝓡.env in let R : RattleType = param 0 T in
    let LR = param_laws 0 T LT in let S : RattleType = param 1 V in
    let Q : RattleType = param 2 K in
    let Own : RattleType = OwnerToken.the_row Q in let Sh : RattleType = Shown.the_row R S in
    let En = f.ended T V K in let c = f.clauses T V K 𝓛 𝓜.mem 𝓡.returns in
    let inst = layouts (a_type ∷ a_type ∷ a_type ∷ []) (T, (V, (K, tt))) in
    let fn = inst_fn inst code.function in
    let s₀ : Slot 4 = RefOf (0 ∷ []) tt (plain (λ _. Sh)) (λ _. tt) in
    let s₁ : Slot 4 = plain (λ _. RawPtr) in
    let s₂ : Slot 4 = RefOf (0 ∷ []) tt (plain (λ _. Own)) (λ _. tt) in
    let s₃ : Slot 4 = plain (λ _. usize) in
    let hs : Stays En.signature.params En.kept = (
      stay_dropped s₀ yes,
      (
        stay_dropped s₁ yes,
        (
          stay_dropped s₂ yes,
          (stay_dropped s₃ yes, tt),
        ),
      ),
    ) in
    proved 𝓛 En hs c 𝓜 𝓡 (
      Goes-dropped 𝓛 4 s₀ yes (λ κs x w. refl),
      (
        Goes-dropped 𝓛 4 s₁ yes (λ κs x w. refl),
        (
          Goes-dropped 𝓛 4 s₂ yes (λ κs x w. refl),
          (Goes-dropped 𝓛 4 s₃ yes (λ κs x w. refl), tt),
        ),
      ),
    ) (f.Key.name inst) fn
    (code.unfolded 𝓤 H 𝓜 𝓡 wired (T, (V, (K, tt))))
    (λ κs. (shr_vals, (rawptr_vals, (shr_vals, (uint_vals w64, tt)))))
    (λ κs. (
      shr_Tells (named 0) κs.0 Sh,
      (
        rawptr_Tells,
        (
          shr_Tells (named 0) κs.0 Own,
          (uint_Tells w64, tt),
        ),
      ),
    ))
    (λ κs qs bounds a gh are.
    let me = a.0.now in let b = a.0.ref_ptr.0 in let o = a.0.ref_ptr.1 in let base : Ptr = a.1.0 in
    let own = a.1.1.0.now in let b₂ = a.1.1.0.ref_ptr.0 in let o₂ = a.1.1.0.ref_ptr.1 in
    let n : ℕ = a.1.1.1.0 in
    let κ : Lft = κs.0 in let τ : Lft = κs.1.0 in let σ : Lft = κs.1.1.0 in
    let pb = block_of me.at in let po = count_of me.at in let seen = take n me.items in
    let fits = are.1.1.1.0.1 in
    let us : Valss (types_at En.signature.params κs) =
    (vptr b o ∷ [], (rawptr_vals base, (vptr b₂ o₂ ∷ [], (uint_vals w64 n, tt)))) in
    let y : (Walk 𝓛 En c).Ghost = ((κs, qs, bounds, a, us), gh) in
    let Post : Val → SProp 𝓤 = (Walk 𝓛 En c).post y in
    let Asked : Type 0 = (base ≡ me.at) × (own.held ≡ true) × (own.lease.is_lent ≡ true) ×
    (own.lease.lifetime ≡ me.lifetime) × (n ≤ length me.items) in
    let Had : Fml = shown_lent R S me.at me.items me.lifetime in
    let Seen : Fml = (ShrSlice (named 0) κ R).own_val
    (record { ref_ptr = start_of me.at; now = seen }) (slice_val (start_of me.at) n ∷ []) in
    qed 𝓛 ((‵ (fsep (flft κ qs.0) (fsep (flft τ qs.1.0) (fsep (flft σ qs.1.1.0)
    (fsep (flft κs.1.1.1.0 qs.1.1.1.0) ftrue)))) ⊛ ‵ (owns (types_at En.signature.params κs) a
    y.0.4)) ∷ raw (fact 𝓤 (τ ⊑ T.lives)) ∷ raw (fact 𝓤 (σ ⊑ V.lives))
    ∷ raw (fact 𝓤 (κs.1.1.1.0 ⊑ K.lives)) ∷ raw (fact 𝓤 Asked) ∷ []) ∵
    move ! (4 ∷ 1 ∷ 2 ∷ []) $ heard ! Asked (λ asked. heard ! (τ ⊑ T.lives) (λ incT.
    heard ! (σ ⊑ V.lives) (λ incV. keep ! (0 ∷ []) $ split ! $
    move ! (1 ∷ []) $ fsplit ! $ fsplit ! $ move ! (2 ∷ []) $ fsplit ! $ drop ! $ fsplit ! $
    fsplit ! $ keep ! (4 ∷ 1 ∷ 5 ∷ []) $
    -- [what is lent of it, and of the owner; the tokens]
    use1 𝓛 (‵ (hidden_shr (Token Marks) κ (me.marker, tt) b o) ⊛ ‵ (fhide Had))
    (lent_out 𝓛 (Shown.struct R S) (Shown.the_codes R.Denot S.Denot R.coded S.coded
    (marker.the_row Marks).coded) (Shown.the_heap R S) (Shown.the_lent R S) κ me b o) $ split ! $
    drop ! $ unhide ! $ move ! (1 ∷ []) $
    use1 𝓛 (‵ (fshr_bor κ (λ q. flft (me.lifetime ∷ []) q)))
    (shares_seen Q 𝓛 κ own b₂ o₂ me.lifetime asked.1 asked.2 asked.3) $
    move ! (1 ∷ 0 ∷ []) $
    let inc : κ ⊑ (S.lives ++ R.lives) = ⊑_meet κ S.lives R.lives (Incl-trans bounds.1.0 incV)
    (Incl-trans bounds.0 incT) in
    use2 𝓛 (‵ (slice_lent R me.at me.items κ)) (shown_seen R LR.shr_laws me.at me.items S
    me.lifetime 𝓛 κ inc) $
    use1 𝓛 (raw (fact 𝓤 (InBlock me.at)) ⊛ ‵ Seen) (prefix_seen R 𝓛 κ (named 0) me.at me.items n
    asked.4) $ split ! $ heard ! (InBlock me.at) (λ inb.
    let here : base ≡ block_ptr pb po = asked.0 ∙ at_block me.at inb in
    let ws : Ptr → List Val = λ p. vptr b o ∷ ptr_val p ∷ vptr b₂ o₂ ∷ vint w64 n ∷ [] in
    enters ! _ _ _ _ (ws (block_ptr pb po))
    (ap ws here) $
    alloc_all ! (λ l. pass_all ! refl
    ((tt, tt), ((tt, tt), ((tt, tt), ((tt, record { fits = fits }), tt)))) $
    let Ev = env fn.locals l in
    first ! $ blocks ! $
    sets_last ! (agg ! (and_then ! (get ! refl) (and_then ! (get ! refl) (no_more !)))) refl
    (tt, (tt, (record { fits = fits }, tt))) $ exec ! 𝓣.C 𝓣.Λ Ev (after 1 fn.body) (at_ret Ev Post)
    $
    sets ! (of_opd ! (get ! refl)) refl (tt, (tt, (record { fits = fits }, tt))) $
    returns ! (look_at ! 0 refl) $ free_all ! refl $ keep ! (1 ∷ 0 ∷ []) $
    by ! (spent 𝓛 En c y (slice_val (start_of me.at) n)
    (record { ref_ptr = start_of me.at; now = seen }) (tt, (tt, (tt, (tt, tt))))
    (fact_i 𝓤 _ (emp 𝓤) refl))))))))
