-- `without_array` reads the items of full places as an array, and leaves their room.
use Rattle.std.proofs.Common.{◌≡◌, ℕ, ◌+◌, ◌-◌, ◌*◌, ◌^◌, ◌<◌, List, [], ◌∷◌, ◌++◌, length, refl}
use Rattle.std.proofs.Common.{sym, ap, ◌∙◌, arith}
use lib.Dec.{T as IsTrue}
use mir.Syntax.{a_type, a_number, ty_array}
use mir.Val.{Val, WT, has_ty, vptr, vstruct, vcons, vnil, of_list}
use mir.MapTy.{inst_fn}
use base.Fraction.{full_share}
use base.Logic.{SProp, emp, id⊢}
use base.Fml.{ftrue, fsep, feq, fat, flft}
use types.Kit.{‵, raw, ◌⊛◌, some, at_ret, ◌$◌, ◌∵◌, !, qed, by, move, keep, drop, split, pick}
use types.Kit.{fsplit, fjoin, fpack, feq_l, feq_i, use0, use1, use2, rewrite}
use types.Run.{stop, fld, of_opd, load, look, no_more, and_then, first, blocks, exec, returns}
use types.ByLocal.{alloc_all, pass_all, free_all, look_at, get, get_in, through, sets, sets_last}
use types.ByLocal.{env}
use types.Part.{agg, sub, whole}
use contract.Monad.{fact, fact_i}
use contract.BorrowLft.{◌⊑◌}
use contract.Running.{tables}
use denote.Array.{Array}
use denote.Laws.{Is, shows}
use denote.Memory.{part_at}
use denote.RattleType.{RattleType, Valss, owns}
use denote.RawPtr.{Ptr, block_ptr, ptr_val}
use denote.Signature.{types_at}
use denote.Steps.{nothing, peeks, heard}
use denote.Param.{ArrayAt, param, number, layout, layouts}
use denote.Param.Laws.{param_laws, number_array_laws}
use denote.Struct.Struct.{as_fields}
use borrow.Table.OneValue.{part_out}
use Rattle.core.proofs.alloc.Shapes.{after}
use Rattle.std_alloc.proofs.VecSteps.El.{El, R, el_x, elτ, sz, no_al}
use Rattle.std_alloc.proofs.VecSteps.Rows as rows
use Rattle.logbook.proofs.Fields.{token, token_told}
use Rattle.arc_owners.proofs.Endings.{Walk, spends, enters, spent}
use Rattle.arc_owners.proofs.Markers.{told}
use Rattle.arc_memory.specs.Memory.{place_at}
use Rattle.arc_memory.proofs.Cuts.{Side, items, bare, opened, shut}
use Rattle.arc_memory.proofs.Held.{places_at, Row, places_out, places_in}
use Rattle.arc_memory.proofs.Spots.{no_further}
use Rattle.arc_memory.specs.contracts.places.Places.without_array as f
use Rattle.arc_memory.proofs.places.Places.without_array.Statement.{statement}
use Rattle.arc_memory.proofs.places.Places.without_array.Code as code

pub without_array_spec : {M : Type 1} → statement M
without_array_spec 𝓤 𝓛 𝓜 𝓡 wired T N L fN =
    let H = 𝓛.H in let 𝓣 = tables 𝓤 H 𝓜 𝓡 𝓡.env in
    let E : El = record { row = T; laws = L; al = no_al } in let s = sz E in
    let n : RattleType = number N in
    let Pl : RattleType = Row E in let Arr : RattleType = ArrayAt (R E) (param 1 n) in
    let laws = number_array_laws (R E) (param_laws 0 T L) (param 1 n) refl in
    let En = f.ended T n in let c = f.clauses T n 𝓛 𝓜.mem 𝓡.returns in
    let inst = layouts (a_type ∷ a_number ∷ []) (T, (n, tt)) in
    let fn = inst_fn inst code.function in
    spends 𝓛 En c 𝓜 𝓡 (λ κs x w. tt, (λ κs x w. tt, tt)) _ _
    (code.unfolded 𝓤 𝓛.H 𝓜 𝓡 wired (T, (n, tt))) (λ y are.
    let κs = y.0.0 in let qs = y.0.1 in let was : Pl.Denot = y.0.3.0 in let at : Ptr = y.0.3.1.0 in
    let xs : List (el_x E) = was.items in let vss = y.0.4 in
    let Post : Val → SProp 𝓤 = (Walk 𝓛 En c).post y in
    let Place : Type 0 = (at ≡ place_at (R E) was.base was.start) × (was.count ≡ N) in
    let Full : Type 0 = length xs ≡ N in let Small : Type 0 = N * s < 2 ^ 63 in
    qed 𝓛 ((‵ (fsep (flft κs.0 qs.0) (fsep (flft κs.1.0 qs.1.0) ftrue)) ⊛ ‵
    (owns (types_at En.signature.params κs) y.0.3 vss))
    ∷ (raw (fact 𝓤 (κs.0 ⊑ T.lives)) ⊛ raw (fact 𝓤 (κs.1.0 ⊑ [])) ⊛ raw (fact 𝓤 Small) ⊛ raw
    (fact 𝓤 Place) ⊛ raw (fact 𝓤 Full)) ∷ []) ∵
    move ! (1 ∷ []) $ split ! $ drop ! $ split ! $ drop ! $ split ! $ drop ! $ split ! $
    heard ! Place (λ placed. heard ! Full (λ full. split ! $ move ! (1 ∷ []) $ fsplit ! $
    move ! (1 ∷ []) $ fsplit ! $ feq_l ! (λ e₁. move ! (1 ∷ []) $
    places_out E ! was vss.0 (λ b o at_b small.
    -- [what lies side by side; no more parameters; the tokens]
    let there : ℕ = o + was.start * s in let at_p : at ≡ block_ptr b there = placed.0
    ∙ ap (λ (q : Ptr). place_at (R E) q was.start) at_b in
    use1 𝓛 (‵ (items E 𝓛 b xs there) ⊛ ‵
    (bare E 𝓛 b (was.count - length xs) (there + length xs * s)))
    (opened E 𝓛 b there was.count xs) $ split ! $ move ! (1 ∷ []) $ drop ! $
    use1 𝓛 (‵ (part_at (Array (R E) N) full_share xs b there))
    (rows.whole E 𝓛 full_share N xs b there full) $
    use1 𝓛 (some (λ (v : Val). ‵ (fat full_share (ty_array (elτ E) N) b there v) ⊛ ‵
    (Arr.own_val xs (v ∷ [])))) (part_out 𝓛 (Array (R E) N) refl full_share xs b there) $
    pick ! (λ v. split ! $
    move ! (1 ∷ []) $ peeks ! Arr (Is Arr) (shows 𝓛 Arr) xs (v ∷ []) (λ is. move ! (1 ∷ []) $
    -- [the cells; the array; no more parameters; the tokens]
    let fv : IsTrue (has_ty (ty_array (elτ E) N) v)
    × WT v = ((laws.lawful 𝓛).typed xs (v ∷ []) is).0 in
    let e₀ : vss.0 ≡ token ∷ [] = token_told (R E) vss.0 are.0.0 in
    let here : vss.1.0 ≡ vptr b there ∷ [] = e₁ ∙ ap (λ (q : Ptr). ptr_val q ∷ []) at_p in
    let ws : List Val = token ∷ vptr b there ∷ [] in
    enters ! _ _ _ _ ws (λ j. e₀ j ++ (here j ++ [])) $
    alloc_all ! (λ l. pass_all ! refl ((tt, (tt, tt)), ((tt, tt), tt)) $
    let Ev = env fn.locals l in
    sets ! (of_opd ! (get_in ! (fld ! refl (stop !)) (sub ! 0 refl (whole !)))) refl (tt, tt) $
    first ! $ blocks ! $
    sets_last ! (of_opd ! (load ! (through ! refl (stop !)) (look ! 0 refl))) refl fv $
    exec ! 𝓣.C 𝓣.Λ Ev (after 2 fn.body) (at_ret Ev Post) $
    sets ! (of_opd ! (get ! refl)) refl fv $ sets ! (of_opd ! (get ! refl)) refl fv $
    use1 𝓛 (‵ (bare E 𝓛 b N there)) (𝓛.laws.at_room (ty_array (elτ E) N) b there v) $
    let all : N ≡ N - 0 = omega arith in
    rewrite ! 0 (λ (k : ℕ × ℕ). ‵ (bare E 𝓛 b k.0 k.1)) (λ i. (all i, sym (no_further there s) i))
    refl $
    use0 𝓛 (‵ (items E 𝓛 b [] there)) (id⊢ 𝓤 (emp 𝓤)) $ use2 𝓛 (‵ (Side E 𝓛 b there N []))
    (shut E 𝓛 b there N []) $ rewrite ! 0 (λ (k : ℕ). ‵ (Side E 𝓛 b there k [])) (sym placed.1)
    refl $
    let now : Pl.Denot = places_at E was.base was.whole was.start was.count [] (
      was.inside.0,
      omega
          arith,
      was.inside.2,
    ) in
    places_in E ! now b o at_b small $
    sets ! (agg ! (and_then ! (get ! refl) (no_more !))) refl (tt, (tt, tt)) $
    sets ! (agg ! (and_then ! (get ! refl) (and_then ! (get ! refl) (no_more !)))) refl
    (as_fields (layout Arr ∷ layout Pl ∷ []) (v ∷ token ∷ []) (fv, ((tt, (tt, tt)), tt))) $
    let w : Val = vstruct (vcons v (vcons token vnil)) in
    let Rs : List RattleType = Arr ∷ Pl ∷ [] in
    nothing ! $ move ! (1 ∷ 0 ∷ []) $ fjoin ! $ move ! (1 ∷ 0 ∷ []) $ fjoin ! $
    feq_i ! (List Val) (w ∷ []) (w ∷ []) refl $ fjoin ! $
    fpack ! (Valss Rs)
    (λ uss. fsep (feq (List Val) (w ∷ []) (vstruct (of_list (uss.0 ++ (uss.1.0 ++ []))) ∷ []))
    (owns Rs (xs, (now, tt)) uss)) (v ∷ [], (token ∷ [], tt)) $
    returns ! (look_at ! 0 refl) $ free_all ! refl $ keep ! (2 ∷ 0 ∷ []) $
    by ! (spent 𝓛 En c y w (xs, now) (tt, (tt, tt))
    (told 𝓤 (refl, refl) (fact_i 𝓤 _ (emp 𝓤) (refl, refl, refl, refl)) 𝓛))))))))))
