-- `into_box` makes the box again: what the `BoxParts` owns is its value and the right to free its
-- block, as `Box::from_raw` asks, and its allocator.
use Rattle.std.proofs.Common.{◌≡◌, List, [], ◌∷◌, ◌++◌, refl, sym, ap, subst}
use mir.Syntax.{a_type, dcons, dnil}
use mir.Val.{Val, vptr}
use mir.MapTy.{inst_fn}
use base.Logic.{SProp, id⊢, emp}
use base.Fml.{ftrue, flft}
use types.Kit.{‵, raw, ◌⊛◌, some, later, at_ret, ◌$◌, ◌∵◌, !, qed, by, move, keep, split, split3}
use types.Kit.{join, fsplit, fjoin, pick, use1, await, rewrite, feq_i}
use types.Run.{stop, fld, of_opd, no_more, and_then, first, blocks, exec, returns}
use types.ByLocal.{alloc_all, pass_all, free_all, look_at, get, get_in, sets, lands_last, env}
use types.Part.{sub, whole}
use contract.Monad.{fact, fact_i}
use contract.BorrowLft.{◌⊑◌}
use contract.Running.{tables}
use denote.RattleType.{owns}
use denote.Signature.{types_at}
use denote.RawPtr.{block_ptr}
use denote.Steps.{only, heard}
use denote.Param.{layout, bounded}
use denote.Triple.Clauses.{Lasts, lasts}
use denote.Triple.Spec.{triple_of}
use denote.Triple.Call.{calls_at_last}
use Rattle.core.proofs.alloc.Shapes.{after}
use Rattle.core.proofs.atomic.Steps.{fm}
use Rattle.core.proofs.cell.Inside.{Good}
use Rattle.std_alloc.proofs.BoxSteps.Form.{Bx, D, B, word, box_typed}
use Rattle.std_alloc.proofs.BoxSteps.Steps.{box_out, box_in}
use Rattle.std_alloc.specs.contracts.boxed.Box.from_raw as callee
use Rattle.std_alloc.proofs.boxed.Box.from_raw.Met.{met}
use Rattle.arc_owners.proofs.memory.Allocators.{allocating}
use Rattle.arc_owners.proofs.memory.Endings.{Walk, spends, enters, spent}
use Rattle.arc_owners.proofs.memory.Boxes.{Row, boxed, as_box}
use Rattle.arc_owners.specs.contracts.memory.box_parts.BoxParts.into_box as f
use Rattle.arc_owners.proofs.memory.box_parts.BoxParts.into_box.Statement.{statement}
use Rattle.arc_owners.proofs.memory.box_parts.BoxParts.into_box.Code as code

pub into_box_spec : {M : Type 1} → statement M
into_box_spec 𝓤 𝓛 𝓜 𝓡 wired T A L LA g d dt da allocator glue glued =
    let H = 𝓛.H in let 𝓣 = tables 𝓤 H 𝓜 𝓡 𝓡.env in
    let E : Bx = record { row = T; laws = L; al = allocating A LA g d da } in
    let En = f.ended T A g d dt da in let c = f.clauses T A g d dt da 𝓛 𝓜.mem 𝓡.returns in
    let inst = bounded (a_type ∷ a_type ∷ []) (T, (A, tt)) (dcons d (dcons dt (dcons da dnil))) in
    let fn = inst_fn inst code.function in
    spends 𝓛 En c 𝓜 𝓡 (λ κs x w. tt, tt) _ _
    (code.unfolded 𝓤 𝓛.H 𝓜 𝓡 wired (T, (A, tt)) d dt da) (λ y are.
    let κs = y.0.0 in let qs = y.0.1 in let was : (Row E).Denot = y.0.3.0 in
    let Post : Val → SProp 𝓤 = (Walk 𝓛 En c).post y in
    let alive = ‵ (flft κs.0 qs.0) ⊛ ‵ (flft κs.1.0 qs.1.0) ⊛ ‵ ftrue in
    qed 𝓛 ((alive ⊛ ‵ (owns (types_at En.signature.params κs) y.0.3 y.0.4)) ∷ raw
    ((c κs y.0.3).requires y.1) ∷ []) ∵ split ! $ move ! (1 ∷ []) $ fsplit ! $
    use1 𝓛 (‵ ((B E).own_val (boxed E was) y.0.4.0)) (as_box E 𝓛 was y.0.4.0) $
    box_out E ! (boxed E was) y.0.4.0 (λ b o h at_b is fits. fjoin ! $ move ! (4 ∷ []) $
    use1 𝓛 (raw (fact 𝓤 (κs.0 ⊑ T.lives)) ⊛ raw (fact 𝓤 (κs.1.0 ⊑ A.lives)) ⊛ ‵ ftrue) (id⊢ 𝓤 _) $
    split3 ! $
    -- [two bounds; nothing; the value with the right to free it; the allocator; nothing; the
    -- tokens]
    let v : Val = word E h b o in let typed = box_typed E h b o fits in
    let G = triple_of 𝓛 (callee.signature T A g d da) (callee.spec T A g d da 𝓛 𝓜.mem 𝓡.returns) in
    let z : G.Ghost =
    ((κs, qs, tt, (was.alloc, (block_ptr b o, tt)), (h ∷ [], (vptr b o ∷ [], tt))), was.value)
    in
    move ! (1 ∷ 3 ∷ []) $ join ! $ move ! (1 ∷ 0 ∷ []) $ join ! $ move ! (1 ∷ []) $
    feq_i ! (List Val) (vptr b o ∷ []) (vptr b o ∷ []) refl $ fjoin ! $ move ! (2 ∷ 0 ∷ []) $
    fjoin ! $ move ! (3 ∷ 0 ∷ 1 ∷ []) $ join ! $ join ! $
    use1 𝓛 (raw (G.pre z)) (id⊢ 𝓤 _) $
    enters ! _ _ _ _ (v ∷ []) (λ j. is j ++ []) $ alloc_all ! (λ l. pass_all ! refl (typed, tt) $
    let Ev = env fn.locals l in
    sets ! (of_opd ! (get_in ! (fld ! refl (stop !)) (sub ! 0 refl (whole !)))) refl (tt, tt) $
    sets ! (of_opd ! (get_in ! (fld ! refl (stop !)) (sub ! 1 refl (whole !)))) refl fits $
    first ! $ blocks ! $ sets ! (of_opd ! (get ! refl)) refl fits $
    calls_at_last ! (fm 𝓛 𝓜 𝓡) G
    (met 𝓤 𝓛 𝓜 𝓡 (code.calls-std_alloc::boxed::Box::from_raw 𝓡.env wired) T A L LA g d da
    allocator glued) z (and_then ! (get ! refl) (and_then ! (get ! refl) (no_more !))) (λ u.
    use1 𝓛 (later (some (λ (r : D E). (alive ⊛ ‵ ((B E).own_val r (u ∷ []))) ⊛ some
    (λ (ws : Lasts (callee.ended T A g d da) κs z.0.3).
    ‵ (lasts (callee.ended T A g d da) κs z.0.3 ws) ⊛ (raw (fact 𝓤 (r.value ≡ was.value)) ⊛ raw
    (fact 𝓤 (r.alloc ≡ was.alloc))))))) (id⊢ 𝓤 (G.post z u)) $
    await ! tt $ pick ! (λ r. split ! $ move ! (1 ∷ []) $
    pick ! (λ ws. split3 ! $ move ! (3 ∷ 1 ∷ []) $ split ! $ move ! (2 ∷ []) $
    heard ! (r.value ≡ was.value) (λ same_value. move ! (3 ∷ []) $
    heard ! (r.alloc ≡ was.alloc) (λ same_alloc.
    move ! (1 ∷ 0 ∷ []) $
    -- [the box; the tokens]
    box_out E ! r (u ∷ []) (λ b₂ o₂ h₂ at_b₂ is₂ fits₂. box_in E ! r b₂ o₂ r.value at_b₂ refl $
    rewrite ! 0 (λ (us : List Val). ‵ ((B E).own_val r us)) (sym is₂) refl $
    let typed₂ : Good (layout (B E)) u = subst (Good (layout (B E))) (sym (ap only is₂))
    (box_typed E h₂ b₂ o₂ fits₂) in
    lands_last ! refl typed₂ $ exec ! 𝓣.C 𝓣.Λ Ev (after 3 fn.body) (at_ret Ev Post) $
    sets ! (of_opd ! (get ! refl)) refl typed₂ $
    returns ! (look_at ! 0 refl) $ free_all ! refl $ keep ! (1 ∷ 0 ∷ []) $
    by ! (spent 𝓛 En c y u r ((tt, (tt, tt)), tt) (fact_i 𝓤 _ (emp 𝓤) (
      same_value,
      same_alloc,
    ))))))))))))
