-- `with_array` writes an array over the room of places that hold nothing.
use Rattle.std.proofs.Common.{◌≡◌, ℕ, ◌+◌, ◌-◌, ◌*◌, ◌^◌, ◌<◌, List, [], ◌∷◌, ◌++◌, length, refl}
use Rattle.std.proofs.Common.{sym, ap, ◌∙◌, subst, arith}
use lib.Dec.{T as IsTrue}
use mir.Syntax.{a_type, a_number, ty_array}
use mir.Val.{Val, WT, has_ty, vptr}
use mir.MapTy.{inst_fn}
use seplogic.Ra.Ura.{Ura}
use base.Fraction.{full_share}
use base.Logic.{SProp, ent, emp, id⊢, via}
use base.Fml.{ftrue, fsep, flft}
use prog.Wp.{WpFn}
use types.Logic.{Logic, sem}
use types.Kit.{‵, raw, ◌⊛◌, given, at_ret, ◌$◌, ◌∵◌, !, qed, by, move, keep, drop, split, learn}
use types.Kit.{fsplit, fjoin, feq_l, suffices, use0, use1, use2, rewrite, done}
use types.Run.{init, stop, fld, of_opd, assigns_last, no_more, and_then, first, blocks, exec}
use types.Run.{returns, enter}
use types.ByLocal.{alloc_all, pass_all, free_all, look_at, get, get_in, through, sets, env}
use types.Part.{agg, sub, whole}
use contract.Monad.{fact, fact_i}
use contract.BorrowLft.{◌⊑◌}
use contract.Running.{tables}
use denote.Array.{Array, array_val}
use denote.Exit.{yes, no, Entries, all_last, all_rest}
use denote.Laws.{Is}
use denote.Memory.{part_at}
use denote.RattleType.{RattleType, owns}
use denote.RawPtr.{Ptr, RawPtr, block_ptr, ptr_val}
use denote.Index.{row}
use denote.Signature.{types_at, plain}
use denote.Steps.{nothing, heard}
use denote.Param.{ArrayAt, param, number, layouts}
use denote.Param.Laws.{param_laws, number_array_laws}
use denote.Triple.Walked.{Stays, stay_dropped, walk_of, Goes-dropped}
use borrow.Table.OneValue.{part_in}
use Rattle.core.proofs.alloc.Calls.{Goes-blank}
use Rattle.core.proofs.alloc.Shapes.{after}
use Rattle.std.proofs.raw_atomic.Walks.{proved_at}
use Rattle.std_alloc.proofs.VecSteps.El.{El, R, el_x, elτ, sz, no_al}
use Rattle.std_alloc.proofs.VecSteps.Rows as rows
use Rattle.logbook.proofs.Fields.{token, token_told, ends}
use Rattle.arc_owners.proofs.Markers.{told}
use Rattle.arc_memory.specs.Memory.{place_at}
use Rattle.arc_memory.proofs.Cuts.{Side, items, bare, opened, shut}
use Rattle.arc_memory.proofs.Held.{places_at, Row, places_out, places_in}
use Rattle.arc_memory.proofs.Spots.{no_further}
use Rattle.arc_memory.specs.contracts.places.Places.with_array as f
use Rattle.arc_memory.proofs.places.Places.with_array.Statement.{statement}
use Rattle.arc_memory.proofs.places.Places.with_array.Code as code

-- the array that was passed leaves nothing behind
nothing_left : {M : Type 1} {𝓤 : Ura M} (𝓛 : Logic 𝓤) {X : Type 0} (xs : List X)
    (fs : Entries (λ _. Unit {0}) xs)
    → ent 𝓤 (sem 𝓛 ftrue) (sem 𝓛 (all_last (λ _. Unit {0}) (λ _ _. ftrue) xs fs))
nothing_left 𝓛 [] fs = qed 𝓛 (‵ ftrue ∷ []) ∵ done !
nothing_left 𝓛 {X} (x ∷ xs) fs = qed 𝓛 (‵ ftrue ∷ [])
    ∵ use1 𝓛 (‵ (all_last (λ _. Unit {0}) (λ _ _. ftrue) xs fs.1)) (nothing_left 𝓛 xs fs.1) $
    nothing ! $ fjoin ! $ done !

pub with_array_spec : {M : Type 1} → statement M
with_array_spec 𝓤 𝓛 𝓜 𝓡 wired T N L fN =
    let H = 𝓛.H in let 𝓣 = tables 𝓤 H 𝓜 𝓡 𝓡.env in
    let E : El = record { row = T; laws = L; al = no_al } in let s = sz E in
    let n : RattleType = number N in
    let Pl : RattleType = Row E in let Arr : RattleType = ArrayAt (R E) (param 1 n) in
    let laws = number_array_laws (R E) (param_laws 0 T L) (param 1 n) refl in
    let En = f.ended T n in let c = f.clauses T n 𝓛 𝓜.mem 𝓡.returns in
    let inst = layouts (a_type ∷ a_number ∷ []) (T, (n, tt)) in
    let fn = inst_fn inst code.function in
    let hs : Stays En.signature.params En.kept = (
      stay_dropped (plain (λ _. Pl)) no,
      (
        stay_dropped (plain (λ _. RawPtr)) yes,
        (stay_dropped (plain (λ _. Arr)) no, tt),
      ),
    ) in
    proved_at 𝓛 En hs c 𝓜 𝓡 (
      Goes-blank 𝓛 2 (plain (λ _. Pl)) no (λ κs x w. tt),
      (
        Goes-dropped 𝓛 2 (plain (λ _. RawPtr)) yes (λ κs x w. refl),
        ((λ κs x g vs ok. via 𝓤 _ (nothing_left 𝓛 x g) (𝓛.laws.⇛_intro _)), tt),
      ),
    ) (f.Key.name inst)
    fn (code.unfolded 𝓤 H 𝓜 𝓡 wired (T, (n, tt))) (λ y are.
    let κs = y.0.0 in let qs = y.0.1 in let was : Pl.Denot = y.0.3.0 in let at : Ptr = y.0.3.1.0 in
    let ys : List (el_x E) = y.0.3.1.1.0 in let vss = y.0.4 in
    let Post : Val → SProp 𝓤 = (walk_of 𝓛 En hs c).post y in
    let Run : List Val → SProp 𝓤 = λ ws. WpFn 𝓤 H 𝓣.C 𝓣.Λ fn ws Post in
    let Place : Type 0 = (at ≡ place_at (R E) was.base was.start) × (was.count ≡ N) in
    let None : Type 0 = was.items ≡ [] in let Small : Type 0 = N * s < 2 ^ 63 in
    qed 𝓛 ((‵ (fsep (flft κs.0 qs.0) (fsep (flft κs.1.0 qs.1.0) ftrue)) ⊛ ‵
    (owns (types_at En.signature.params κs) y.0.3 vss))
    ∷ (raw (fact 𝓤 (κs.0 ⊑ T.lives)) ⊛ raw (fact 𝓤 (κs.1.0 ⊑ [])) ⊛ raw (fact 𝓤 Small) ⊛ raw
    (fact 𝓤 Place) ⊛ raw (fact 𝓤 None)) ∷ []) ∵
    move ! (1 ∷ []) $ split ! $ drop ! $ split ! $ drop ! $ split ! $ drop ! $ split ! $
    heard ! Place (λ placed. heard ! None (λ none. split ! $ move ! (1 ∷ []) $ fsplit ! $
    move ! (1 ∷ []) $ fsplit ! $ feq_l ! (λ e₁. fsplit ! $ move ! (2 ∷ []) $
    places_out E ! was vss.0 (λ b o at_b small.
    -- [what lies side by side; the array; no more parameters; the tokens]
    let there : ℕ = o + was.start * s in let at_p : at ≡ block_ptr b there = placed.0
    ∙ ap (λ (q : Ptr). place_at (R E) q was.start) at_b in
    let v : Val = array_val are.1.1.0.0 in let e₂ : vss.1.1.0 ≡ v ∷ [] = are.1.1.0.1.0.0 in
    let fv : IsTrue (has_ty (ty_array (elτ E) N) v)
    × WT v = ((laws.lawful 𝓛).typed ys (v ∷ []) (subst (Is Arr ys) e₂ are.1.1.0)).0 in
    let all : N - 0 ≡ N = omega arith in
    rewrite ! 0 (λ (k : ℕ × List (el_x E)). ‵ (Side E 𝓛 b there k.0 k.1))
    (λ i. (placed.1 i, none i)) refl $
    use1 𝓛 (‵ (items E 𝓛 b [] there) ⊛ ‵ (bare E 𝓛 b (N - 0) (there + 0 * s)))
    (opened E 𝓛 b there N []) $ split ! $ drop ! $
    rewrite ! 0 (λ (k : ℕ × ℕ). ‵ (bare E 𝓛 b k.0 k.1)) (λ i. (all i, no_further there s i)) refl $
    rewrite ! 1 (λ (us : List Val). ‵ (Arr.own_val ys us)) e₂ refl $
    let e₀ : vss.0 ≡ token ∷ [] = token_told (R E) vss.0 are.0.0 in
    let here : vss.1.0 ≡ vptr b there ∷ [] = e₁ ∙ ap (λ (q : Ptr). ptr_val q ∷ []) at_p in
    let ws : List Val = token ∷ vptr b there ∷ v ∷ [] in
    suffices ! (Run ws) (subst (λ (us : List Val). ent 𝓤 (Run ws) (Run us))
    (sym (λ j. e₀ j ++ (here j ++ (e₂ j ++ [])))) (id⊢ 𝓤 (Run ws))) $
    enter ! 𝓣.C 𝓣.Λ fn ws Post $
    alloc_all ! (λ l. pass_all ! refl ((tt, (tt, tt)), ((tt, tt), (fv, tt))) $
    let Ev = env fn.locals l in
    sets ! (of_opd ! (get_in ! (fld ! refl (stop !)) (sub ! 0 refl (whole !)))) refl (tt, tt) $
    first ! $ blocks ! $
    sets ! (of_opd ! (get ! refl)) refl fv $ assigns_last ! (of_opd ! (get ! refl))
    (through ! refl (stop !)) (init ! 0 refl fv) $ exec ! 𝓣.C 𝓣.Λ Ev (after 2 fn.body)
    (at_ret Ev Post) $
    use2 𝓛 (‵ (part_at (Array (R E) N) full_share ys b there))
    (part_in 𝓛 (Array (R E) N) refl full_share ys b there v) $
    use1 𝓛 (given (length ys ≡ N) (‵ (row (R E) full_share ys b there)))
    (rows.apart E 𝓛 full_share N ys b there) $ learn ! (λ counted.
    let spare : 0 ≡ N - length ys = omega (arith, counted) in
    use0 𝓛 (‵ (bare E 𝓛 b 0 (there + length ys * s)))
    (𝓛.laws.room_nil (elτ E) b (there + length ys * s)) $
    rewrite ! 0 (λ (k : ℕ). ‵ (bare E 𝓛 b k (there + length ys * s))) spare refl $
    move ! (1 ∷ 0 ∷ []) $
    use2 𝓛 (‵ (Side E 𝓛 b there N ys)) (shut E 𝓛 b there N ys) $
    rewrite ! 0 (λ (k : ℕ). ‵ (Side E 𝓛 b there k ys)) (sym placed.1) refl $
    let now : Pl.Denot = places_at E was.base was.whole was.start was.count ys (
      was.inside.0,
      omega
          (arith, counted, placed.1),
      was.inside.2,
    ) in
    places_in E ! now b o at_b small $
    sets ! (agg ! (and_then ! (get ! refl) (no_more !))) refl (tt, (tt, tt)) $
    nothing ! $ nothing ! $ fjoin ! $ nothing ! $ fjoin ! $ nothing ! $ fjoin ! $
    returns ! (look_at ! 0 refl) $ free_all ! refl $ keep ! (3 ∷ 0 ∷ 1 ∷ []) $
    by ! (ends 𝓛 En hs c y token now (tt, (tt, (all_rest (λ _. Unit {0}) (λ _. tt) ys, tt)))
    (tt, (tt, (tt, tt))) (told 𝓤 refl (fact_i 𝓤 _ (emp 𝓤) (refl, refl, refl, refl)) 𝓛)))))))))
