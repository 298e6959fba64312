-- `house` lends what lies in the places to a vector that lodges there.
use Rattle.std.proofs.Common.{◌≡◌, ℕ, ◌+◌, ◌*◌, ◌^◌, ◌<◌, ◌≤◌, List, [], ◌∷◌, ◌++◌, length, refl}
use Rattle.std.proofs.Common.{sym, ap, ◌∙◌, subst, arith, add_comm, w64}
use mir.Syntax.{a_type}
use mir.Val.{Val, vptr, vint, vstruct, vcons, vnil, of_list}
use mir.MapTy.{inst_fn}
use base.Logic.{SProp, emp, id⊢}
use base.Fml.{ftrue, fsep, feq, flft}
use types.Kit.{‵, raw, ◌⊛◌, some, later, at_ret, ◌$◌, ◌∵◌, !, qed, by, move, keep, drop, split}
use types.Kit.{split3, join, pick, fsplit, fjoin, fpack, feq_l, feq_i, flt_l, flt_i, await}
use types.Kit.{use0, use1, use2, rewrite}
use types.Run.{stop, fld, of_opd, bin, size_word, no_more, and_then, first, blocks, exec, returns}
use types.ByLocal.{alloc_all, pass_all, free_all, look_at, get, get_in, sets, lands_last, is, env}
use types.Part.{agg, sub, whole}
use contract.Monad.{fact, fact_i}
use contract.BorrowLft.{◌⊑◌}
use contract.Running.{tables}
use denote.RattleType.{RattleType, Valss, owns}
use denote.RawPtr.{Ptr, block_ptr, ptr_val}
use denote.Signature.{types_at}
use denote.Steps.{nothing, heard, only}
use denote.Param.{layout, layouts}
use denote.Struct.Struct.{as_fields}
use denote.Triple.Clauses.{Lasts, lasts}
use denote.Triple.Spec.{triple_of}
use denote.Triple.Call.{calls_at_last}
use Rattle.core.proofs.alloc.Shapes.{after}
use Rattle.core.proofs.atomic.Steps.{fm}
use Rattle.core.proofs.cell.Inside.{Good}
use Rattle.core.proofs.ptr.Rows.{times_below}
use Rattle.core.proofs.slots.Leases.{uncapped}
use Rattle.core.specs.Allocator.{block_with_items}
use Rattle.core.specs.Mem.{type_size}
use Rattle.std_alloc.specs.Vec.Ownership.{owns_if, has_block}
use Rattle.std_alloc.specs.contracts.vec.lodge as callee
use Rattle.std_alloc.proofs.vec.lodge.Met.{met}
use Rattle.std_alloc.proofs.OfLodged.{lodging}
use Rattle.std_alloc.proofs.VecSteps.El.{El, R, Vr, el_d, el_x, sz, vec_typed}
use Rattle.std_alloc.proofs.VecSteps.Opens.{vec_had, vec_made}
use Rattle.logbook.proofs.Fields.{token, Token, token_told, token_made}
use Rattle.arc_owners.proofs.Endings.{Walk, spends, enters, spent}
use Rattle.arc_owners.proofs.Markers.{told}
use Rattle.arc_memory.specs.Memory.{place_at}
use Rattle.arc_memory.specs.contracts.lodging.Lodging as Lodging
use Rattle.arc_memory.proofs.Cuts.{Side}
use Rattle.arc_memory.proofs.Held.{Row, places_out}
use Rattle.arc_memory.proofs.Runs.{block_whole, no_right}
use Rattle.arc_memory.specs.contracts.lodging.Lodging.house as f
use Rattle.arc_memory.proofs.lodging.Lodging.house.Statement.{statement}
use Rattle.arc_memory.proofs.lodging.Lodging.house.Code as code

pub house_spec : {M : Type 1} → statement M
house_spec 𝓤 𝓛 𝓜 𝓡 wired T L =
    let H = 𝓛.H in let 𝓣 = tables 𝓤 H 𝓜 𝓡 𝓡.env in let E : El = lodging T L in
    let X : RattleType = R E in let s = sz E in let Vl : RattleType = Vr E in
    let Ld : RattleType = Lodging.the_row X in
    let En = f.ended T in let c = f.clauses T 𝓛 𝓜.mem 𝓡.returns in
    let inst = layouts (a_type ∷ []) (T, tt) in let fn = inst_fn inst code.function in
    let Pl : RattleType = Row E in
    spends 𝓛 En c 𝓜 𝓡
    (λ κs x w. tt, (λ κs x w. tt, (λ κs x w. tt, (λ κs x w. tt, (λ κs x w. tt, tt))))) _ _
    (code.unfolded 𝓤 𝓛.H 𝓜 𝓡 wired (T, tt)) (λ y are.
    let κs = y.0.0 in let qs = y.0.1 in let was : Pl.Denot = y.0.3.0 in
    let base : Ptr = y.0.3.1.0 in let start : ℕ = y.0.3.1.1.0 in let n : ℕ = y.0.3.1.1.1.0 in
    let m : ℕ = y.0.3.1.1.1.1.0 in let vss = y.0.4 in let xs : List (el_x E) = was.items in
    let Post : Val → SProp 𝓤 = (Walk 𝓛 En c).post y in
    let alive = ‵ (flft κs.0 qs.0) ⊛ ‵ ftrue in
    let Place : Type 0 = (base ≡ was.base) × (start ≡ was.start) in
    let Sizes : Type 0 = (n ≡ length xs) × (m ≡ was.count) in
    qed 𝓛 ((alive ⊛ ‵ (owns (types_at En.signature.params κs) y.0.3 vss)) ∷ (raw
    (fact 𝓤 (κs.0 ⊑ T.lives)) ⊛ raw (fact 𝓤 Place) ⊛ raw (fact 𝓤 Sizes)) ∷ []) ∵
    move ! (1 ∷ []) $ split3 ! $ move ! (1 ∷ []) $ heard ! Place (λ placed. move ! (1 ∷ []) $
    heard ! Sizes (λ sizes. move ! (1 ∷ []) $ split ! $ move ! (1 ∷ []) $ fsplit ! $
    move ! (1 ∷ []) $
    fsplit ! $ feq_l ! (λ e₁. fsplit ! $ fsplit ! $
    feq_l ! (λ e₂. flt_l ! (λ f₂. fsplit ! $ fsplit ! $
    feq_l ! (λ e₃. flt_l ! (λ f₃. fsplit ! $ fsplit ! $ feq_l ! (λ e₄. flt_l ! (λ f₄. drop ! $
    places_out E ! was vss.0 (λ b o at_b small.
    -- [what lies side by side; the tokens; that they last]
    let at : ℕ = start * s + o in let from : o + was.start * s ≡ at = ap (λ (k : ℕ). o + k * s)
    (sym placed.1) ∙ add_comm o (start * s) in let p : Ptr = block_ptr b at in
    let fits : n ≤ m = omega (arith, sizes.0, sizes.1, was.inside.1) in
    let below : m ≤ was.whole = omega (arith, was.inside.0, sizes.1) in
    let fit : m * s < 2 ^ 63 = times_below m was.whole s (2 ^ 63) below small in
    let far : start * s < 2 ^ 64 = omega (
      arith,
      times_below start was.whole s (2 ^ 63)
          (omega (arith, was.inside.0, placed.1)) small,
    ) in
    rewrite ! 0 (λ (k : ℕ × ℕ). ‵ (Side E 𝓛 b k.0 k.1 xs)) (λ j. (from j, sym sizes.1 j)) refl $
    use0 𝓛 (‵ (owns_if (has_block m) ftrue)) (no_right 𝓛 (has_block m)) $ move ! (1 ∷ 0 ∷ []) $
    use2 𝓛 (‵ (owns_if (has_block m) (block_with_items (λ _ _. ftrue) X p n m xs)))
    (block_whole E 𝓛 (λ _ _. ftrue) b at n m xs sizes.0 fits) $
    flt_i ! (m * type_size X) (2 ^ 63) fit $ fjoin ! $
    let Asked : Type 0 = (n ≡ length xs) × (n ≤ m) × (m < 2 ^ 63) in
    use0 𝓛 (raw (fact 𝓤 Asked))
    (fact_i 𝓤 Asked (emp 𝓤) (sizes.0, fits, omega (arith, below, was.inside.2))) $ join ! $
    move ! (2 ∷ 0 ∷ []) $ join ! $
    nothing ! $ flt_i ! m (2 ^ 64) f₄ $ feq_i ! (List Val) (vint w64 m ∷ []) (vint w64 m ∷ [])
    refl $ fjoin ! $ fjoin ! $ flt_i ! n (2 ^ 64) f₃ $ feq_i ! (List Val) (vint w64 n ∷ [])
    (vint w64 n ∷ []) refl $ fjoin ! $ fjoin ! $
    feq_i ! (List Val) (vptr b at ∷ []) (vptr b at ∷ []) refl $ fjoin ! $ move ! (2 ∷ 0 ∷ []) $
    join ! $ join ! $
    let G = triple_of 𝓛 (callee.signature T) (callee.spec T 𝓛 𝓜.mem 𝓡.returns) in
    let z : G.Ghost = (
      (
        κs,
        qs,
        tt,
        (p, (n, (m, tt))),
        (vptr b at ∷ [], (vint w64 n ∷ [], (vint w64 m ∷ [], tt))),
      ),
      xs,
    ) in
    use1 𝓛 (raw (G.pre z)) (id⊢ 𝓤 _) $
    let e₀ : vss.0 ≡ token ∷ [] = token_told X vss.0 are.0.0 in
    let here : vss.1.0 ≡ vptr b o ∷ [] = e₁ ∙ ap (λ (q : Ptr). ptr_val q ∷ []) (placed.0 ∙ at_b)
    in
    let ws : List Val = token ∷ vptr b o ∷ vint w64 start ∷ vint w64 n ∷ vint w64 m ∷ [] in
    enters ! _ _ _ _ ws (λ j. e₀ j ++ (here j ++ (e₂ j ++ (e₃ j ++ (e₄ j ++ []))))) $
    alloc_all ! (λ l. pass_all ! refl (
      (tt, (tt, tt)),
      (
        (tt, tt),
        (
          (tt, record { fits = f₂ }),
          ((tt, record { fits = f₃ }), ((tt, record { fits = f₄ }), tt)),
        ),
      ),
    ) $
    let Ev = env fn.locals l in
    sets ! (of_opd ! (get_in ! (fld ! refl (stop !)) (sub ! 0 refl (whole !)))) refl (tt, tt) $
    first ! $ blocks ! $
    sets ! (is ! (bin ! (get ! refl) (size_word !)
    (record { fits = subst (λ (k : ℕ). k < 2 ^ 64) (sym (uncapped start s far)) far }))
    (ap (vint w64) (uncapped start s far))) refl (tt, record { fits = far }) $
    sets ! (bin ! (get ! refl) (get ! refl) tt) refl (tt, tt) $
    calls_at_last ! (fm 𝓛 𝓜 𝓡) G (met 𝓤 𝓛 𝓜 𝓡 (code.calls-std_alloc::vec::lodge 𝓡.env wired) T L) z
    (and_then ! (get ! refl) (and_then ! (get ! refl) (and_then ! (get ! refl) (no_more !))))
    (λ u.
    use1 𝓛 (later (some (λ (r : el_d E). (alive ⊛ ‵ (Vl.own_val r (u ∷ []))) ⊛ some
    (λ (zs : Lasts (callee.ended T) κs z.0.3). ‵ (lasts (callee.ended T) κs z.0.3 zs) ⊛ raw
    (fact 𝓤 ((r.items ≡ xs) × (r.len ≡ n) × (r.cap ≡ m) × (r.ptr ≡ p))))))) (id⊢ 𝓤 (G.post z u))
    $
    await ! tt $ pick ! (λ r. split ! $ move ! (1 ∷ []) $
    pick ! (λ zs. split ! $ drop ! $ heard ! ((r.items ≡ xs) × (r.len ≡ n) × (r.cap ≡ m)
    × (r.ptr ≡ p)) (λ made. split ! $ move ! (1 ∷ []) $
    vec_had E ! r (u ∷ []) (λ b₂ o₂ hv at_b₂ is₂ fl fc fit₂ fa. vec_made E ! r b₂ o₂ r.len r.cap
    r.items (at_b₂, refl, refl, refl) fl fc fit₂ $
    rewrite ! 0 (λ (us : List Val). ‵ (Vl.own_val r us)) (sym is₂) refl $
    -- [the vector; the tokens]
    let typed : Good (layout Vl) u = subst (Good (layout Vl)) (sym (ap only is₂))
    (vec_typed E hv b₂ o₂ r.len r.cap fa fl fc) in
    lands_last ! refl typed $ exec ! 𝓣.C 𝓣.Λ Ev (after 2 fn.body) (at_ret Ev Post) $
    sets ! (of_opd ! (get ! refl)) refl typed $ sets ! (of_opd ! (get ! refl)) refl typed $
    sets ! (agg ! (and_then ! (get ! refl) (no_more !))) refl (tt, (tt, tt)) $
    sets ! (agg ! (and_then ! (get ! refl) (and_then ! (get ! refl) (no_more !)))) refl
    (as_fields (layout Vl ∷ layout Ld ∷ []) (u ∷ token ∷ []) (typed, ((tt, (tt, tt)), tt))) $
    let under : Ld.Denot = record {
      marker = record {};
      base = was.base;
      place = p;
      whole = was.whole;
      start = was.start;
      count = was.count;
      inside =
          (was.inside.0, was.inside.2);
    } in
    let there : p ≡ place_at X was.base was.start = ap (block_ptr b) (sym from)
    ∙ sym (ap (λ (q : Ptr). place_at X q was.start) at_b) in
    feq_i ! Ptr p (place_at X was.base was.start) there $ flt_i ! (was.whole * type_size X) (2 ^ 63)
    small $ fjoin ! $ use0 𝓛 (‵ ((Token X).own_val (record {}, tt) (token ∷ [])))
    (token_made X 𝓛) $ fjoin ! $
    let w : Val = vstruct (vcons u (vcons token vnil)) in let Rs : List RattleType = Vl ∷ Ld ∷ [] in
    nothing ! $ move ! (1 ∷ 0 ∷ []) $ fjoin ! $ move ! (1 ∷ 0 ∷ []) $ fjoin ! $
    feq_i ! (List Val) (w ∷ []) (w ∷ []) refl $ fjoin ! $
    fpack ! (Valss Rs)
    (λ uss. fsep (feq (List Val) (w ∷ []) (vstruct (of_list (uss.0 ++ (uss.1.0 ++ []))) ∷ []))
    (owns Rs (r, (under, tt)) uss)) (u ∷ [], (token ∷ [], tt)) $
    returns ! (look_at ! 0 refl) $ free_all ! refl $ keep ! (1 ∷ 0 ∷ []) $
    by ! (spent 𝓛 En c y w (r, under) (tt, (tt, (tt, (tt, (tt, tt)))))
    (told 𝓤 (made.0, made.1)
    (told 𝓤 (made.3, made.2 ∙ sizes.1) (fact_i 𝓤 _ (emp 𝓤) (refl, refl, refl, refl)) 𝓛)
    𝓛)))))))))))))))))))
