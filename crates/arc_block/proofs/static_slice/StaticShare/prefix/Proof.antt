-- The items before an end are shown for as long as what is lent for good is borrowed.
use Rattle.std.proofs.Common.{◌≡◌, ◌≤◌, List, [], ◌∷◌, length, take, refl, sym, ap, ◌∙◌, subst}
use mir.Syntax.{a_type, named, w64}
use mir.Val.{Val, vptr, vint}
use mir.MapTy.{inst_fn}
use base.Logic.{SProp, ent, emp, id⊢}
use base.Fml.{Fml, Lft, ftrue, fsep, flft, fhide}
use prog.Wp.{WpFn}
use types.Kit.{‵, raw, ◌⊛◌, at_ret, ◌$◌, ◌∵◌, !, qed, by, move, keep, drop, split, fsplit, fjoin}
use types.Kit.{suffices, use0, use1}
use types.Part.{agg}
use types.Run.{of_opd, first, blocks, exec, returns, enter, no_more, and_then}
use types.ByLocal.{alloc_all, pass_all, free_all, look_at, get, sets, sets_last, env}
use contract.Monad.{fact, fact_i}
use contract.BorrowLft.{◌⊑◌}
use contract.Running.{tables}
use denote.Exit.{yes}
use denote.RattleType.{RattleType, owns}
use denote.Signature.{types_at, plain}
use denote.Builtin.{RefOf, usize}
use denote.Ref.{shr_vals, shr_Tells}
use denote.Memory.{hidden_shr}
use denote.Opens.{unhide}
use denote.Plain.{uint_vals, uint_Tells}
use denote.RawPtr.{Ptr, RawPtr, InBlock, block_ptr, ptr_val, block_of, count_of, at_block}
use denote.RawPtr.{rawptr_vals, rawptr_Tells}
use denote.Slice.{ShrSlice, slice_val}
use denote.Steps.{nothing, heard}
use denote.Param.{param, layouts}
use denote.Param.Laws.{param_laws}
use denote.Struct.Lending.{lent_out}
use denote.Struct.Owning.{shape, to}
use denote.Struct.Struct.{Struct}
use denote.Triple.Walked.{Stays, stay_dropped, walk_of, Goes-dropped}
use Rattle.std.specs.contracts.marker.PhantomData as marker
use Rattle.std.proofs.VecSteps.Shapes.{after}
use Rattle.std.proofs.raw_atomic.Walks.{proved, leaves}
use Rattle.arc_owners.specs.memory.LentSlices.{slice_lent}
use Rattle.arc_owners.proofs.LentSlices.{start_of, prefix_seen}
use Rattle.arc_owners.proofs.Endings.{Walk, enters, spent}
use Rattle.arc_block.proofs.StaticSlices.{share_out, kept_for}
use Rattle.arc_block.specs.contracts.static_slice.StaticShare as StaticShare
use Rattle.arc_block.specs.contracts.static_slice.StaticShare.prefix as f
use Rattle.arc_block.proofs.static_slice.StaticShare.prefix.Statement.{statement}
use Rattle.arc_block.proofs.static_slice.StaticShare.prefix.Code as code

pub prefix_spec : {M : Type 1} → statement M
prefix_spec 𝓤 𝓛 𝓜 𝓡 wired T L =
    let H = 𝓛.H in let 𝓣 = tables 𝓤 H 𝓜 𝓡 𝓡.env in let R : RattleType = param 0 T in
    let LR = param_laws 0 T L in let En = f.ended T in let c = f.clauses T 𝓛 𝓜.mem 𝓡.returns in
    let inst = layouts (a_type ∷ []) (T, tt) in let fn = inst_fn inst code.function in
    let Row : RattleType = StaticShare.the_row R in
    let hs : Stays En.signature.params En.kept = (
      stay_dropped (RefOf (0 ∷ []) tt (plain (λ _. Row)) (λ _. tt)) yes,
      (stay_dropped (plain (λ _. RawPtr)) yes, (stay_dropped (plain (λ _. usize)) yes, tt)),
    ) in
    proved 𝓛 En hs c 𝓜 𝓡 (
      Goes-dropped 𝓛 2 (RefOf (0 ∷ []) tt (plain (λ _. Row)) (λ _. tt)) yes
          (λ κs x w. refl),
      (
        Goes-dropped 𝓛 2 (plain (λ _. RawPtr)) yes (λ κs x w. refl),
        (Goes-dropped 𝓛 2 (plain (λ _. usize)) yes (λ κs x w. refl), tt),
      ),
    ) (f.Key.name inst) fn
    (code.unfolded 𝓤 H 𝓜 𝓡 wired (T, tt))
    (λ κs. (shr_vals, (rawptr_vals, (uint_vals w64, tt))))
    (λ κs. (shr_Tells (named 0) κs.0 Row, (rawptr_Tells, (uint_Tells w64, tt))))
    (λ κs qs bounds a gh are.
    let me = a.0.now in let b = a.0.ref_ptr.0 in let o = a.0.ref_ptr.1 in let base : Ptr = a.1.0 in
    let n = a.1.1.0 in let κ : Lft = κs.0 in
    let pb = block_of me.ptr in let po = count_of me.ptr in let seen = take n me.items in
    let fits = are.1.1.0.1 in
    let y : (Walk 𝓛 En c).Ghost =
    ((κs, qs, bounds, a, (vptr b o ∷ [], (rawptr_vals base, (uint_vals w64 n, tt)))), gh) in
    let Post : Val → SProp 𝓤 = (Walk 𝓛 En c).post y in
    let Asked : Type 0 = (base ≡ me.ptr) × (n ≤ length me.items) in
    let Shown : Fml = (ShrSlice (named 0) κ R).own_val
    (record { ref_ptr = start_of me.ptr; now = seen }) (slice_val (start_of me.ptr) n ∷ []) in
    qed 𝓛 ((‵ (fsep (flft κs.0 qs.0) (fsep (flft κs.1.0 qs.1.0) ftrue)) ⊛ ‵
    (owns (types_at En.signature.params κs) a y.0.4)) ∷ raw (fact 𝓤 (κs.1.0 ⊑ T.lives)) ∷ raw
    (fact 𝓤 Asked) ∷ []) ∵
    move ! (2 ∷ []) $ heard ! Asked (λ asked. keep ! (0 ∷ []) $ split ! $ move ! (1 ∷ []) $
    fsplit ! $ fsplit ! $ keep ! (1 ∷ 3 ∷ []) $
    -- [what is lent of it; the tokens]
    use1 𝓛 (‵ (fhide (slice_lent R me.ptr me.items []))) (share_out R 𝓛 κ me b o) $ unhide ! $
    use1 𝓛 (‵ (slice_lent R me.ptr me.items κ)) (kept_for R LR.shr_laws me.ptr me.items 𝓛 κ) $
    use1 𝓛 (raw (fact 𝓤 (InBlock me.ptr)) ⊛ ‵ Shown) (prefix_seen R 𝓛 κ (named 0) me.ptr me.items n
    asked.1) $ split ! $ heard ! (InBlock me.ptr) (λ inb.
    let here : base ≡ block_ptr pb po = asked.0 ∙ at_block me.ptr inb in
    enters ! _ _ _ _ (vptr b o ∷ vptr pb po ∷ vint w64 n ∷ [])
    (ap (λ (r : Ptr). vptr b o ∷ ptr_val r ∷ vint w64 n ∷ []) here) $
    alloc_all ! (λ l. pass_all ! refl
    ((tt, tt), ((tt, tt), ((tt, record { fits = fits }), tt))) $ let Ev = env fn.locals l in
    first ! $ blocks ! $
    sets_last ! (agg ! (and_then ! (get ! refl) (and_then ! (get ! refl) (no_more !)))) refl
    (tt, (tt, (record { fits = fits }, tt))) $ exec ! 𝓣.C 𝓣.Λ Ev (after 1 fn.body)
    (at_ret Ev Post) $
    sets ! (of_opd ! (get ! refl)) refl (tt, (tt, (record { fits = fits }, tt))) $
    returns ! (look_at ! 0 refl) $ free_all ! refl $ keep ! (1 ∷ 0 ∷ []) $
    by ! (spent 𝓛 En c y (slice_val (start_of me.ptr) n)
    (record { ref_ptr = start_of me.ptr; now = seen }) (tt, (tt, (tt, tt)))
    (fact_i 𝓤 _ (emp 𝓤) refl))))))
