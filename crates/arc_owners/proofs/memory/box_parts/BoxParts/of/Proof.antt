-- `of` takes the box apart: what the pair of its pointer and its allocator owns with the value is
-- what the `BoxParts` owns.
use Rattle.std.proofs.Common.{◌≡◌, [], ◌∷◌, ◌++◌, refl, sym, ap}
use mir.Val.{Val}
use base.Logic.{emp, id⊢}
use base.Fml.{ftrue, flft}
use types.Kit.{‵, raw, ◌⊛◌, some, later, ◌$◌, ◌∵◌, !, qed, by, move, keep, drop, split, split3}
use types.Kit.{join, fsplit, fjoin, pick, use1, use2, await, rewrite}
use types.Run.{stop, fld, of_opd, no_more, and_then, returns}
use types.ByLocal.{alloc_all, pass_all, free_all, look_at, get, get_in, sets, lands_as}
use types.Part.{agg, sub, whole}
use contract.Monad.{fact, fact_i}
use denote.RattleType.{owns}
use denote.Signature.{types_at}
use denote.Steps.{only, heard}
use denote.Triple.Clauses.{Lasts, lasts}
use denote.Triple.Spec.{triple_of}
use denote.Triple.Call.{calls_at}
use Rattle.core.proofs.alloc.Calls.{token}
use Rattle.core.proofs.atomic.Steps.{fm}
use Rattle.std_alloc.specs.Box.Ownership.{box_owns}
use Rattle.std_alloc.proofs.BoxSteps.Form.{Bx, D, R, B, word, box_typed}
use Rattle.std_alloc.proofs.BoxSteps.Steps.{box_out, box_in}
use Rattle.std_alloc.specs.contracts.boxed.Box.into_raw_with_allocator as callee
use Rattle.std_alloc.proofs.boxed.Box.into_raw_with_allocator.Met.{met}
use Rattle.arc_owners.proofs.memory.Allocators.{allocating}
use Rattle.arc_owners.proofs.memory.Endings.{spends, enters, spent}
use Rattle.arc_owners.proofs.memory.Boxes.{Row, Pair, as_bare, pair_as_box}
use Rattle.arc_owners.specs.contracts.memory.box_parts.BoxParts.of as f
use Rattle.arc_owners.proofs.memory.box_parts.BoxParts.of.Statement.{statement}
use Rattle.arc_owners.proofs.memory.box_parts.BoxParts.of.Code as code

pub of_spec : {M : Type 1} → statement M
of_spec 𝓤 𝓛 𝓜 𝓡 wired T A L LA g d dt da allocator glue glued =
    let E : Bx = record { row = T; laws = L; al = allocating A LA g d da } in
    let En = f.ended T A g d dt da in let c = f.clauses T A g d dt da 𝓛 𝓜.mem 𝓡.returns in
    spends 𝓛 En c 𝓜 𝓡 (λ κs x w. tt, tt) _ _
    (code.unfolded 𝓤 𝓛.H 𝓜 𝓡 wired (T, (A, tt)) d dt da) (λ y are.
    let κs = y.0.0 in let qs = y.0.1 in let was : D E = y.0.3.0 in
    let alive = ‵ (flft κs.0 qs.0) ⊛ ‵ (flft κs.1.0 qs.1.0) ⊛ ‵ ftrue in
    qed 𝓛 ((alive ⊛ ‵ (owns (types_at En.signature.params κs) y.0.3 y.0.4)) ∷ raw
    ((c κs y.0.3).requires y.1) ∷ []) ∵ split ! $ move ! (1 ∷ []) $ fsplit ! $
    box_out E ! was y.0.4.0 (λ b o h at_b is fits. box_in E ! was b o was.value at_b refl $
    -- [the box; no more parameters; the tokens; the `requires`]
    let v : Val = word E h b o in let typed = box_typed E h b o fits in
    let G = triple_of 𝓛 (callee.signature T A g d da dt)
    (callee.spec T A g d da dt 𝓛 𝓜.mem 𝓡.returns) in
    let z : G.Ghost = ((κs, qs, tt, (was, tt), (v ∷ [], tt)), tt) in
    fjoin ! $ move ! (1 ∷ 0 ∷ []) $ join ! $ join ! $ use1 𝓛 (raw (G.pre z)) (id⊢ 𝓤 _) $
    enters ! _ _ _ _ (v ∷ []) (λ j. is j ++ []) $ alloc_all ! (λ l. pass_all ! refl (typed, tt) $
    sets ! (of_opd ! (get ! refl)) refl typed $
    calls_at ! (fm 𝓛 𝓜 𝓡) G
    (met 𝓤 𝓛 𝓜 𝓡 (code.calls-std_alloc::boxed::Box::into_raw_with_allocator 𝓡.env wired) T A L
    LA g d da dt allocator glued glue) z (and_then ! (get ! refl) (no_more !)) (λ u.
    use1 𝓛 (later (some (λ (r : (Pair E).Denot). (alive ⊛ ‵ ((Pair E).own_val r (u ∷ []))) ⊛ some
    (λ (ws : Lasts (callee.ended T A g d da dt) κs z.0.3).
    ‵ (lasts (callee.ended T A g d da dt) κs z.0.3 ws) ⊛
    (raw (fact 𝓤 (r.1 ≡ was.alloc)) ⊛ ‵ (box_owns (token E.al was.alloc) (R E) r.0
    was.value)))))) (id⊢ 𝓤 _) $
    await ! tt $ pick ! (λ r. split ! $ move ! (1 ∷ []) $
    pick ! (λ ws. split3 ! $ drop ! $ heard ! (r.1 ≡ was.alloc) (λ same.
    rewrite ! 0 (λ (k : A.Denot). ‵ (box_owns (token E.al k) (R E) r.0 was.value)) (sym same) refl $
    move ! (1 ∷ []) $ split ! $ move ! (1 ∷ 2 ∷ []) $
    use2 𝓛 (‵ ((B E).own_val (record { ptr = r.0; alloc = r.1; value = was.value }) (u ∷ [])))
    (pair_as_box E 𝓛 r was.value (u ∷ [])) $
    -- [the box that they make; the tokens]
    box_out E ! (record { ptr = r.0; alloc = r.1; value = was.value }) (u ∷ [])
    (λ b₂ o₂ h₂ at_b₂ is₂ fits₂. box_in
    E ! (record { ptr = r.0; alloc = r.1; value = was.value }) b₂ o₂ was.value at_b₂ refl $
    let w : Val = word E h₂ b₂ o₂ in let typed₂ = box_typed E h₂ b₂ o₂ fits₂ in
    let now : (Row E).Denot = record { at = r.0; alloc = r.1; value = was.value } in
    use1 𝓛 (‵ ((Row E).own_val now (w ∷ []))) (as_bare E 𝓛 now (w ∷ [])) $
    lands_as ! (ap only is₂) refl typed₂ $
    sets ! (of_opd ! (get_in ! (fld ! refl (stop !)) (sub ! 0 refl (whole !)))) refl (tt, tt) $
    sets ! (of_opd ! (get_in ! (fld ! refl (stop !)) (sub ! 1 refl (whole !)))) refl fits₂ $
    sets ! (of_opd ! (get ! refl)) refl fits₂ $
    sets ! (agg ! (and_then ! (get ! refl) (and_then ! (get ! refl) (no_more !)))) refl typed₂ $
    returns ! (look_at ! 0 refl) $ free_all ! refl $ keep ! (1 ∷ 0 ∷ []) $
    by ! (spent 𝓛 En c y w now ((tt, (tt, tt)), tt) (fact_i 𝓤 _ (emp 𝓤) (refl, same)))))))))))
