-- `vacate` has back what lies in the places from the vector that lodged there.
use Rattle.std.proofs.Common.{◌≡◌, ℕ, ◌*◌, ◌^◌, List, [], ◌∷◌, ◌++◌, refl, sym, ap, ◌∙◌}
use Rattle.std.proofs.Common.{arith}
use mir.Val.{Val}
use base.Logic.{emp, id⊢, never}
use base.Fml.{ftrue, flft}
use types.Kit.{‵, raw, ◌⊛◌, some, later, ◌$◌, ◌∵◌, !, qed, by, move, keep, drop, split, split3}
use types.Kit.{join, pick, fsplit, fjoin, feq_l, flt_l, flt_i, await, use0, use1, rewrite}
use types.Run.{stop, fld, of_opd, no_more, and_then, returns}
use types.ByLocal.{alloc_all, pass_all, free_all, look_at, get, get_in, sets, lands_as}
use types.Part.{agg, sub, whole}
use contract.Monad.{fact, fact_i}
use contract.BorrowLft.{◌⊑◌}
use denote.Builtin.{usize}
use denote.RattleType.{RattleType, owns}
use denote.RawPtr.{Ptr, block_ptr, in_block, in_a_block}
use denote.Signature.{types_at}
use denote.Steps.{nothing, heard, only}
use denote.Triple.Clauses.{Lasts, lasts}
use denote.Triple.Spec.{triple_of}
use denote.Triple.Call.{calls_at}
use Rattle.core.proofs.atomic.Steps.{fm}
use Rattle.core.specs.Allocator.{block_with_items}
use Rattle.core.specs.Mem.{type_size}
use Rattle.std_alloc.specs.Vec.Ownership.{owns_if, has_block, lodged}
use Rattle.std_alloc.specs.contracts.vec.Vec as V
use Rattle.std_alloc.specs.contracts.vec.lodged.Lodged as Lodged
use Rattle.std_alloc.specs.contracts.vec.lodged.LodgedAllocator.TheImpl.{ghosts}
use Rattle.std_alloc.specs.contracts.vec.lodged.Vec+T+Lodged.dislodge as callee
use Rattle.std_alloc.proofs.vec.lodged.Vec+T+Lodged.dislodge.Met.{met}
use Rattle.std_alloc.proofs.OfLodged.{lodging}
use Rattle.std_alloc.proofs.VecSteps.El.{El, R, el_d, el_x, vec_val, vec_typed}
use Rattle.std_alloc.proofs.VecSteps.Opens.{vec_had, vec_made}
use Rattle.logbook.proofs.Fields.{token, Token, token_told, token_made}
use Rattle.arc_owners.proofs.Endings.{spends, enters, spent}
use Rattle.arc_owners.proofs.Markers.{told}
use Rattle.arc_memory.specs.Memory.{place_at, side_by_side}
use Rattle.arc_memory.specs.contracts.lodging.Lodging as Lodging
use Rattle.arc_memory.proofs.Held.{places_at, Row}
use Rattle.arc_memory.proofs.Runs.{block_apart}
use Rattle.arc_memory.specs.contracts.lodging.Lodging.vacate as f
use Rattle.arc_memory.proofs.lodging.Lodging.vacate.Statement.{statement}
use Rattle.arc_memory.proofs.lodging.Lodging.vacate.Code as code

pub vacate_spec : {M : Type 1} → statement M
vacate_spec 𝓤 𝓛 𝓜 𝓡 wired T L =
    let E : El = lodging T L in
    let X : RattleType = R E in let Vl : RattleType = V.the_row X Lodged.the_row ghosts in
    let Ld : RattleType = Lodging.the_row X in let Pl : RattleType = Row E in
    let En = f.ended T in let c = f.clauses T 𝓛 𝓜.mem 𝓡.returns in
    spends 𝓛 En c 𝓜 𝓡 (λ κs x w. tt, (λ κs x w. tt, tt)) _ _
    (code.unfolded 𝓤 𝓛.H 𝓜 𝓡 wired (T, tt)) (λ y are.
    let κs = y.0.0 in let qs = y.0.1 in let me : Ld.Denot = y.0.3.0 in let v : el_d E = y.0.3.1.0 in
    let vss = y.0.4 in let xs : List (el_x E) = v.items in
    let alive = ‵ (flft κs.0 qs.0) ⊛ ‵ ftrue in
    let Lies : Type 0 = (v.ptr ≡ me.place) × (v.cap ≡ me.count) in
    qed 𝓛 ((alive ⊛ ‵ (owns (types_at En.signature.params κs) y.0.3 vss)) ∷ (raw
    (fact 𝓤 (κs.0 ⊑ T.lives)) ⊛ raw (fact 𝓤 Lies)) ∷ []) ∵
    move ! (1 ∷ []) $ split ! $ move ! (1 ∷ []) $ heard ! Lies (λ lies. move ! (1 ∷ []) $ split ! $
    move ! (1 ∷ []) $ fsplit ! $ fsplit ! $ drop ! $ fsplit ! $
    flt_l ! (λ small. feq_l ! (λ there. fsplit ! $
    vec_had E ! v vss.1.0 (λ b o hv at_b is fl fc fit fa. vec_made E ! v b o v.len v.cap v.items
    (at_b, refl, refl, refl) fl fc fit $
    -- [the vector; no more parameters; the tokens; that they last]
    let u : Val = vec_val E hv b o v.len v.cap in
    let typed = vec_typed E hv b o v.len v.cap fa fl fc in
    let G = triple_of 𝓛 (callee.signature T) (callee.spec T 𝓛 𝓜.mem 𝓡.returns) in
    let z : G.Ghost = ((κs, qs, tt, (v, tt), (u ∷ [], tt)), tt) in
    fjoin ! $ move ! (2 ∷ []) $ nothing ! $ move ! (1 ∷ 0 ∷ []) $ join ! $ move ! (2 ∷ 1 ∷ 0 ∷ []) $
    join ! $ join ! $ use1 𝓛 (raw (G.pre z)) (id⊢ 𝓤 _) $
    let e₀ : vss.0 ≡ token ∷ [] = token_told X vss.0 are.0.0 in
    let ws : List Val = token ∷ u ∷ [] in
    enters ! _ _ _ _ ws (λ j. e₀ j ++ (is j ++ [])) $ alloc_all ! (λ l. pass_all ! refl (
      (
        tt,
        (
          tt,
          tt,
        ),
      ),
      (typed, tt),
    ) $
    sets ! (of_opd ! (get_in ! (fld ! refl (stop !)) (sub ! 0 refl (whole !)))) refl (tt, tt) $
    sets ! (of_opd ! (get ! refl)) refl typed $
    calls_at ! (fm 𝓛 𝓜 𝓡) G
    (met 𝓤 𝓛 𝓜 𝓡 (code.calls-std_alloc::vec::lodged::Vec+T+Lodged::dislodge 𝓡.env wired) T L) z
    (and_then ! (get ! refl) (no_more !)) (λ w.
    use1 𝓛 (later (some (λ (r : ℕ). (alive ⊛ ‵ (usize.own_val r (w ∷ []))) ⊛ some
    (λ (zs : Lasts (callee.ended T) κs z.0.3). ‵ (lasts (callee.ended T) κs z.0.3 zs) ⊛
    (raw (fact 𝓤 (r ≡ v.len)) ⊛ ‵ (lodged X v.ptr v.len v.cap xs)))))) (id⊢ 𝓤 (G.post z w)) $
    await ! tt $ pick ! (λ r. split ! $ move ! (1 ∷ []) $ pick ! (λ zs. split3 ! $ drop ! $ drop ! $
    move ! (1 ∷ []) $ split ! $ move ! (1 ∷ []) $ fsplit ! $
    feq_l ! (λ e. flt_l ! (λ f. move ! (1 ∷ []) $ fsplit ! $ drop ! $
    lands_as ! (ap only e) refl (tt, record { fits = f }) $
    sets ! (agg ! (and_then ! (get ! refl) (no_more !))) refl (tt, (tt, tt)) $
    in_a_block ! v.ptr
    (λ p. in_block p
    (owns_if (has_block v.cap) (block_with_items (λ _ _. ftrue) X p v.len v.cap xs)))
    (id⊢ 𝓤 (never 𝓤)) (λ b₂ o₂ at_b₂.
    use1 𝓛 (‵ (side_by_side X (block_ptr b₂ o₂) v.cap xs) ⊛ ‵ (owns_if (has_block v.cap) ftrue))
    (block_apart E 𝓛 (λ _ _. ftrue) b₂ o₂ v.len v.cap xs v.ok.0 v.ok.1) $ split ! $
    let back : block_ptr b₂ o₂ ≡ place_at X me.base me.start = sym at_b₂ ∙ lies.0 ∙ there in
    rewrite ! 0 (λ (k : Ptr × ℕ). ‵ (side_by_side X k.0 k.1 xs)) (λ j. (back j, lies.1 j)) refl $
    flt_i ! (me.whole * type_size X) (2 ^ 63) small $ fjoin ! $
    use0 𝓛 (‵ ((Token X).own_val (record {}, tt) (token ∷ []))) (token_made X 𝓛) $ fjoin ! $
    -- [the places; no right; the tokens]
    let now : Pl.Denot = places_at E me.base me.whole me.start me.count xs (
      me.inside.0,
      omega
          (arith, v.ok.0, v.ok.1, lies.1),
      me.inside.1,
    ) in
    returns ! (look_at ! 0 refl) $ free_all ! refl $ keep ! (2 ∷ 0 ∷ []) $
    by ! (spent 𝓛 En c y token now (tt, (tt, tt))
    (told 𝓤 refl (fact_i 𝓤 _ (emp 𝓤) (refl, refl, refl, refl)) 𝓛))))))))))))))
