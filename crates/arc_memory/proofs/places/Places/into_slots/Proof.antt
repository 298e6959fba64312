-- `into_slots` opens places as slots, of which the first hold the items.
use Rattle.std.proofs.Common.{◌≡◌, ℕ, ◌+◌, ◌-◌, ◌*◌, ◌^◌, ◌<◌, ◌≤◌, Bool, List, [], ◌∷◌, ◌++◌}
use Rattle.std.proofs.Common.{length, take, refl, sym, ap, ◌∙◌, subst, arith, w64}
use mir.Syntax.{a_type}
use mir.Val.{Val, WT, vptr, vint}
use mir.MapTy.{inst_fn}
use base.Logic.{SProp, emp}
use base.Fml.{ftrue, flft}
use types.Kit.{‵, raw, ◌⊛◌, some, given, later, at_ret, ◌$◌, ◌∵◌, !, qed, by, move, keep, drop}
use types.Kit.{split, split3, join, pick, learn, fsplit, fjoin, feq_l, feq_i, flt_l, flt_i}
use types.Kit.{await, use0, use1, use2, rewrite}
use types.Run.{stop, fld, of_opd, no_more, and_then, first, blocks, exec, returns}
use types.ByLocal.{alloc_all, pass_all, free_all, look_at, get, get_in, sets, lands_last, is, env}
use types.Part.{agg, sub, whole}
use contract.Monad.{fact, fact_i}
use contract.BorrowLft.{◌⊑◌}
use contract.Running.{tables}
use denote.RattleType.{RattleType, owns}
use denote.RawPtr.{Ptr, block_ptr, ptr_val}
use denote.Signature.{types_at}
use denote.Steps.{nothing, heard}
use denote.Param.{layout, layouts}
use denote.Struct.Struct.{as_fields}
use denote.Triple.Call.{calls_at_last}
use Rattle.core.proofs.alloc.Shapes.{after}
use Rattle.core.proofs.atomic.Steps.{fm}
use Rattle.core.proofs.ptr.Rows.{times_below}
use Rattle.core.proofs.slots.Opens.{row_val}
use Rattle.core.specs.Mem.Slots.Ownership.{Filled}
use Rattle.core.proofs.slots.Slots.from_raw_parts.Met.{met}
use Rattle.core.specs.Mem.{type_size}
use Rattle.std_alloc.proofs.OfLodged.{lodging}
use Rattle.std_alloc.proofs.VecSteps.El.{El, R, el_x, sz}
use Rattle.std_alloc.proofs.vec.Blocks.{all, flags, vec_flags, vec_laid}
use Rattle.std_alloc.proofs.vec.Spares.{Row as Slots, row_Typed, From, at_from, Made, from_goes}
use Rattle.std_alloc.proofs.vec.Spares.{from_gives}
use Rattle.logbook.proofs.Fields.{token, Token, token_told, token_made}
use Rattle.arc_owners.proofs.Endings.{Walk, spends, enters, both_spent}
use Rattle.arc_owners.proofs.Markers.{told}
use Rattle.arc_memory.specs.Memory.{place_at}
use Rattle.arc_memory.specs.contracts.lodging.Lodging as Lodging
use Rattle.arc_memory.proofs.Cuts.{Side}
use Rattle.arc_memory.proofs.Held.{Row, places_out}
use Rattle.arc_memory.proofs.PlaceSlots.{slots_of}
use Rattle.arc_memory.specs.contracts.places.Places.into_slots as f
use Rattle.arc_memory.proofs.places.Places.into_slots.Statement.{statement}
use Rattle.arc_memory.proofs.places.Places.into_slots.Code as code

pub into_slots_spec : {M : Type 1} → statement M
into_slots_spec 𝓤 𝓛 𝓜 𝓡 wired T L =
    let H = 𝓛.H in let 𝓣 = tables 𝓤 H 𝓜 𝓡 𝓡.env in let E : El = lodging T L in
    let X : RattleType = R E in let s = sz E in let Ss : RattleType = Slots E in
    let Ld : RattleType = Lodging.the_row X in
    let En = f.ended T in let c = f.clauses T 𝓛 𝓜.mem 𝓡.returns in
    let inst = layouts (a_type ∷ []) (T, tt) in let fn = inst_fn inst code.function in
    let Pl : RattleType = Row E in
    spends 𝓛 En c 𝓜 𝓡 (λ κs x w. tt, (λ κs x w. tt, (λ κs x w. tt, tt))) _ _
    (code.unfolded 𝓤 𝓛.H 𝓜 𝓡 wired (T, tt)) (λ y are.
    let κs = y.0.0 in let qs = y.0.1 in let was : Pl.Denot = y.0.3.0 in let at : Ptr = y.0.3.1.0 in
    let n : ℕ = y.0.3.1.1.0 in let vss = y.0.4 in
    let Post : Val → SProp 𝓤 = (Walk 𝓛 En c).post y in
    let alive = ‵ (flft κs.0 qs.0) ⊛ ‵ ftrue in
    let Place : Type 0 = (at ≡ place_at X was.base was.start) × (n ≡ was.count) in
    let xs : List (el_x E) = was.items in let m = length xs in
    let Value : Type 0 = m < was.count → el_x E in
    qed 𝓛 ((alive ⊛ ‵ (owns (types_at En.signature.params κs) y.0.3 vss)) ∷ (raw
    (fact 𝓤 (κs.0 ⊑ T.lives)) ⊛ raw (fact 𝓤 Place) ⊛ raw (fact 𝓤 Value)) ∷ []) ∵
    move ! (1 ∷ []) $ split3 ! $
    heard ! (κs.0 ⊑ T.lives)
    (λ le. heard ! Place (λ placed. heard ! Value (λ one. split ! $ split ! $ move ! (2 ∷ []) $
    fsplit ! $ move ! (1 ∷ []) $
    fsplit ! $ feq_l ! (λ e₁. fsplit ! $ fsplit ! $ feq_l ! (λ e₂. flt_l ! (λ f₂. drop ! $
    places_out E ! was vss.0 (λ b o at_b small.
    -- [what lies side by side; T's token; no more tokens]
    let there : ℕ = o + was.start * s in let p : Ptr = block_ptr b there in
    let at_p : at ≡ p = placed.0 ∙ ap (λ (q : Ptr). place_at X q was.start) at_b in
    let held : m ≤ n = omega (arith, placed.1, was.inside.1) in
    let laid = vec_laid xs m n refl held (λ more. one (omega (arith, more, placed.1))) in
    let ys : List (el_x E) = laid.0 in let zs : List (el_x E) = xs ++ ys in
    let fs : List Bool = flags m (n - m) in let marks = vec_flags m n held in
    let below : n ≤ was.whole = omega (arith, was.inside.0, placed.1) in
    let fit : n * s < 2 ^ 63 = times_below n was.whole s (2 ^ 63) below small in
    rewrite ! 0 (λ (k : ℕ). ‵ (Side E 𝓛 b there k xs)) (sym placed.1) refl $
    use1 𝓛 (‵ (all E b there zs fs)) (slots_of T L 𝓛 b there n xs ys held laid.1) $
    move ! (0 ∷ 1 ∷ []) $
    let e₀ : vss.0 ≡ token ∷ [] = token_told X vss.0 are.0.0 in
    let here : vss.1.0 ≡ vptr b there ∷ [] = e₁ ∙ ap (λ (q : Ptr). ptr_val q ∷ []) at_p in
    let ws : List Val = token ∷ vptr b there ∷ vint w64 n ∷ [] in
    enters ! _ _ _ _ ws (λ j. e₀ j ++ (here j ++ (e₂ j ++ []))) $
    alloc_all ! (λ l. pass_all ! refl
    ((tt, (tt, tt)), ((tt, tt), ((tt, record { fits = f₂ }), tt))) $ let Ev = env fn.locals l in
    let z = at_from E 𝓛 𝓜.mem 𝓡.returns κs.0 qs.0 b there n zs fs in
    sets ! (of_opd ! (get_in ! (fld ! refl (stop !)) (sub ! 0 refl (whole !)))) refl (tt, tt) $
    first ! $ blocks ! $
    use2 𝓛 (raw ((From E 𝓛 𝓜.mem 𝓡.returns).pre z)) (from_goes E 𝓛 𝓜.mem 𝓡.returns κs.0 qs.0 b there
    n zs fs le laid.2 marks.0 f₂ fit) $
    calls_at_last ! (fm 𝓛 𝓜 𝓡) (From E 𝓛 𝓜.mem 𝓡.returns)
    (met 𝓤 𝓛 𝓜 𝓡 (code.calls-core::slots::Slots::from_raw_parts 𝓡.env wired) T L) z
    (and_then ! (get ! refl) (and_then ! (get ! refl) (no_more !))) (λ u.
    use1 𝓛 (later (some (λ (r : Ss.Denot). given ((u ≡ row_val b there n)
    × Made E 𝓛 𝓜.mem 𝓡.returns κs.0 qs.0 b there n zs fs r)
    (‵ (Ss.own_val r (row_val b there n ∷ [])) ⊛ ‵ (flft κs.0 qs.0)))))
    (from_gives E 𝓛 𝓜.mem 𝓡.returns κs.0 qs.0 b there n zs fs u) $ await ! tt $
    pick ! (λ r. learn ! (λ got. split ! $ let made = got.1 in
    -- [the slots; T's token]
    lands_last ! refl (row_Typed E u b there n got.0 f₂) $ exec ! 𝓣.C 𝓣.Λ Ev (after 2 fn.body)
    (at_ret Ev Post) $
    let words : WT (row_val b there n) = (tt, (record { fits = f₂ }, tt)) in
    sets ! (is ! (of_opd ! (get ! refl)) got.0) refl (tt, words) $
    sets ! (of_opd ! (get ! refl)) refl (tt, words) $
    sets ! (agg ! (and_then ! (get ! refl) (no_more !))) refl (tt, (tt, tt)) $
    sets ! (agg ! (and_then ! (get ! refl) (and_then ! (get ! refl) (no_more !)))) refl
    (as_fields (layout Ss ∷ layout Ld ∷ []) (row_val b there n ∷ token ∷ [])
    ((tt, words), ((tt, (tt, tt)), tt))) $
    let under : Ld.Denot = record {
      marker = record {};
      base = was.base;
      place = p;
      whole = was.whole;
      start = was.start;
      count = was.count;
      inside =
          (was.inside.0, was.inside.2);
    } in
    feq_i ! Ptr p (place_at X was.base was.start) (sym at_p ∙ placed.0) $
    flt_i ! (was.whole * type_size X) (2 ^ 63) small $ fjoin ! $
    use0 𝓛 (‵ ((Token X).own_val (record {}, tt) (token ∷ []))) (token_made X 𝓛) $ fjoin ! $
    move ! (2 ∷ []) $ nothing ! $ move ! (1 ∷ 0 ∷ []) $ join ! $
    returns ! (look_at ! 0 refl) $ free_all ! refl $ keep ! (2 ∷ 1 ∷ 0 ∷ []) $
    by ! (both_spent 𝓛 En c y Ss Ld r under (row_val b there n) token (r, under)
    (tt, (tt, (tt, tt))) refl
    (told 𝓤 (made.0, made.1 ∙ placed.1)
    (told 𝓤 (
      ap (take m) made.2 ∙ laid.3,
      subst (λ (gs : List Bool). Filled gs 0 m) (sym made.3)
          marks.1,
    ) (fact_i 𝓤 _ (emp 𝓤) (refl, refl, refl, refl)) 𝓛) 𝓛))))))))))))))
