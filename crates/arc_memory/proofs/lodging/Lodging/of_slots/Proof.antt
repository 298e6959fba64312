-- `of_slots` has back what lies in the places from the slots that were there, as many items as are
-- asked for.
use Rattle.std.proofs.Common.{◌≡◌, ℕ, ◌*◌, ◌^◌, ◌≤◌, Bool, List, [], ◌∷◌, ◌++◌, length, refl, sym}
use Rattle.std.proofs.Common.{◌∙◌, arith, w64, take, length-take-le}
use mir.Syntax.{a_type}
use mir.Val.{Val, WT, vint}
use mir.MapTy.{inst_fn}
use base.Logic.{SProp, emp}
use base.Fml.{ftrue, flft}
use types.Kit.{‵, raw, ◌⊛◌, given, later, at_ret, ◌$◌, ◌∵◌, !, qed, by, move, keep, drop, split}
use types.Kit.{split3, join, learn, fsplit, fjoin, feq_l, flt_l, flt_i, await, use0, use1}
use types.Kit.{use2, rewrite}
use types.Run.{stop, fld, of_opd, no_more, and_then, first, blocks, exec, returns}
use types.ByLocal.{alloc_all, pass_all, free_all, look_at, get, get_in, sets, lands_last, is, env}
use types.Part.{agg, sub, whole}
use contract.Monad.{fact, fact_i}
use contract.BorrowLft.{◌⊑◌}
use contract.Running.{tables}
use denote.RattleType.{RattleType, owns}
use denote.RawPtr.{Ptr, block_ptr}
use denote.Signature.{types_at}
use denote.Steps.{nothing, heard}
use denote.Param.{layouts}
use denote.Triple.Call.{calls_at_last}
use Rattle.core.proofs.alloc.Shapes.{after}
use Rattle.core.proofs.atomic.Steps.{fm}
use Rattle.core.proofs.slots.Opens.{row_val}
use Rattle.core.proofs.slots.Slots.into_raw_parts.Met.{met}
use Rattle.core.specs.Mem.{type_size}
use Rattle.core.specs.Mem.Slots.{slots_ptr, slots_len, slots_items, slots_filled, slots_counts}
use Rattle.core.specs.Mem.Slots.Ownership.{Filled}
use Rattle.std_alloc.proofs.OfLodged.{lodging}
use Rattle.std_alloc.proofs.VecSteps.El.{El, R, el_x, sz}
use Rattle.std_alloc.proofs.vec.Blocks.{all}
use Rattle.std_alloc.proofs.vec.Spares.{Row as Slots, parts_typed, Row-seen, Into, at_into}
use Rattle.std_alloc.proofs.vec.Spares.{Into-goes, Into-gives}
use Rattle.logbook.proofs.Fields.{token, Token, token_told, token_made}
use Rattle.arc_owners.proofs.Endings.{Walk, spends, enters, spent}
use Rattle.arc_owners.proofs.Markers.{told}
use Rattle.arc_memory.specs.Memory.{place_at, side_by_side}
use Rattle.arc_memory.specs.contracts.lodging.Lodging as Lodging
use Rattle.arc_memory.proofs.Cuts.{Side}
use Rattle.arc_memory.proofs.Held.{places_at, Row}
use Rattle.arc_memory.proofs.PlaceSlots.{side_of}
use Rattle.arc_memory.specs.contracts.lodging.Lodging.of_slots as f
use Rattle.arc_memory.proofs.lodging.Lodging.of_slots.Statement.{statement}
use Rattle.arc_memory.proofs.lodging.Lodging.of_slots.Code as code

pub of_slots_spec : {M : Type 1} → statement M
of_slots_spec 𝓤 𝓛 𝓜 𝓡 wired T L =
    let H = 𝓛.H in let 𝓣 = tables 𝓤 H 𝓜 𝓡 𝓡.env in let E : El = lodging T L in
    let X : RattleType = R E in let s = sz E in let Ss : RattleType = Slots E in
    let Ld : RattleType = Lodging.the_row X in let Pl : RattleType = Row E in
    let En = f.ended T in let c = f.clauses T 𝓛 𝓜.mem 𝓡.returns in
    let inst = layouts (a_type ∷ []) (T, tt) in let fn = inst_fn inst code.function in
    spends 𝓛 En c 𝓜 𝓡 (λ κs x w. tt, (λ κs x w. tt, (λ κs x w. tt, tt))) _ _
    (code.unfolded 𝓤 𝓛.H 𝓜 𝓡 wired (T, tt)) (λ y are.
    let κs = y.0.0 in let qs = y.0.1 in let me : Ld.Denot = y.0.3.0 in
    let r : Ss.Denot = y.0.3.1.0 in let n : ℕ = y.0.3.1.1.0 in let vss = y.0.4 in
    let k : ℕ = slots_len r in let zs : List (el_x E) = slots_items r in
    let xs : List (el_x E) = take n zs in let fs : List Bool = slots_filled r in
    let Post : Val → SProp 𝓤 = (Walk 𝓛 En c).post y in
    let alive = ‵ (flft κs.0 qs.0) ⊛ ‵ ftrue in
    let Lies : Type 0 = (slots_ptr r ≡ me.place) × (k ≡ me.count) in let Full : Type 0 = (n ≤ k)
    × Filled fs 0 n in
    qed 𝓛 ((alive ⊛ ‵ (owns (types_at En.signature.params κs) y.0.3 vss)) ∷ (raw
    (fact 𝓤 (κs.0 ⊑ T.lives)) ⊛ raw (fact 𝓤 Lies) ⊛ raw (fact 𝓤 Full)) ∷ []) ∵
    move ! (1 ∷ []) $ split3 ! $
    heard ! (κs.0 ⊑ T.lives)
    (λ le. heard ! Lies (λ lies. heard ! Full (λ full. split ! $ split ! $ move ! (2 ∷ []) $
    fsplit ! $ fsplit ! $ drop ! $ fsplit ! $ flt_l ! (λ small. feq_l ! (λ there. fsplit ! $
    Row-seen E ! r vss.1.0 (λ b o at e fk. move ! (1 ∷ []) $ fsplit ! $ fsplit ! $
    feq_l ! (λ e₂. flt_l ! (λ fn'. move ! (1 ∷ 2 ∷ []) $
    -- [the slots; T's token; no more parameters; no more tokens]
    let e₀ : vss.0 ≡ token ∷ [] = token_told X vss.0 are.0.0 in
    let ws : List Val = token ∷ row_val b o k ∷ vint w64 n ∷ [] in
    let words : WT (row_val b o k) = (tt, (record { fits = fk }, tt)) in
    let lx : k ≡ length zs = (slots_counts r).0 in let lf : k ≡ length fs = (slots_counts r).1 in
    enters ! _ _ _ _ ws (λ j. e₀ j ++ (e j ++ (e₂ j ++ []))) $
    alloc_all ! (λ l. pass_all ! refl
    ((tt, (tt, tt)), ((tt, words), ((tt, record { fits = fn' }), tt))) $
    let Ev = env fn.locals l in let z = at_into E 𝓛 𝓜.mem 𝓡.returns κs.0 qs.0 r b o in
    sets ! (of_opd ! (get_in ! (fld ! refl (stop !)) (sub ! 0 refl (whole !)))) refl (tt, tt) $
    first ! $ blocks ! $ sets ! (of_opd ! (get ! refl)) refl (tt, words) $
    use2 𝓛 (raw ((Into E 𝓛 𝓜.mem 𝓡.returns).pre z)) (Into-goes E 𝓛 𝓜.mem 𝓡.returns κs.0 qs.0 r b o
    le) $
    calls_at_last ! (fm 𝓛 𝓜 𝓡) (Into E 𝓛 𝓜.mem 𝓡.returns)
    (met 𝓤 𝓛 𝓜 𝓡 (code.calls-core::slots::Slots::into_raw_parts 𝓡.env wired) T L) z
    (and_then ! (get ! refl) (no_more !)) (λ v.
    use1 𝓛 (later (given (v ≡ row_val b o k) (‵ (all E b o zs fs) ⊛ ‵ (flft κs.0 qs.0))))
    (Into-gives E 𝓛 𝓜.mem 𝓡.returns κs.0 qs.0 r b o v at) $ await ! tt $
    learn ! (λ ev. split ! $
    lands_last ! refl (parts_typed v b o k ev fk) $ exec ! 𝓣.C 𝓣.Λ Ev (after 2 fn.body)
    (at_ret Ev Post) $
    sets ! (is ! (of_opd ! (get ! refl)) ev) refl (tt, words) $
    sets ! (agg ! (and_then ! (get ! refl) (no_more !))) refl (tt, (tt, tt)) $
    use1 𝓛 (‵ (Side E 𝓛 b o k xs)) (side_of T L 𝓛 b o k zs fs n (sym lx) (sym lf) full.0 full.1) $
    let back : block_ptr b o ≡ place_at X me.base me.start = sym at ∙ lies.0 ∙ there in
    rewrite ! 0 (λ (q : Ptr × ℕ). ‵ (side_by_side X q.0 q.1 xs)) (λ j. (back j, lies.1 j)) refl $
    flt_i ! (me.whole * type_size X) (2 ^ 63) small $ fjoin ! $
    use0 𝓛 (‵ ((Token X).own_val (record {}, tt) (token ∷ []))) (token_made X 𝓛) $ fjoin ! $
    -- [the places; T's token; ..]
    let now : Pl.Denot = places_at E me.base me.whole me.start me.count xs (
      me.inside.0,
      omega (
        arith,
        length-take-le n zs (omega (arith, lx, full.0)),
        full.0,
        lies.1,
      ),
      me.inside.1,
    ) in
    move ! (1 ∷ 0 ∷ []) $ nothing ! $ move ! (1 ∷ 0 ∷ []) $ join ! $
    returns ! (look_at ! 0 refl) $ free_all ! refl $ keep ! (0 ∷ 1 ∷ []) $
    by ! (spent 𝓛 En c y token now (tt, (tt, (tt, tt)))
    (told 𝓤 refl (fact_i 𝓤 _ (emp 𝓤) (refl, refl, refl, refl)) 𝓛))))))))))))))
