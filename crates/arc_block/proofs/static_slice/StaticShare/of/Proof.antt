-- A slice's items lie where it begins, for good.
use Rattle.std.proofs.Common.{◌≡◌, List, [], ◌∷◌, ◌++◌, length, refl}
use mir.Syntax.{a_type, static}
use mir.Val.{Val, vptr, vstruct, vcons, vnil, of_list}
use mir.MapTy.{inst_fn}
use base.Logic.{SProp, emp}
use base.Fml.{ftrue, fsep, feq, flft}
use types.Kit.{‵, raw, ◌⊛◌, ◌$◌, ◌∵◌, !, qed, by, move, keep, split, fsplit, fjoin, fpack, feq_i}
use types.Kit.{use0, use1}
use types.Part.{agg, sub, whole}
use types.Run.{addr, from, fld, hop, stop, no_more, and_then, returns, enter}
use types.ByLocal.{alloc_all, pass_all, free_all, look_at, look_in_at, get, sets}
use contract.Monad.{fact, fact_i}
use contract.Running.{tables}
use denote.Exit.{yes}
use denote.RattleType.{RattleType, Valss, owns}
use denote.Signature.{types_at, plain}
use denote.Builtin.{SliceRefOf}
use denote.Opens.{unhide}
use denote.RawPtr.{Ptr, RawPtr, block_ptr}
use denote.Slice.{slice_val, shr_slice_vals, shr_slice_Tells}
use denote.Steps.{nothing}
use denote.Param.{param, layouts}
use denote.Triple.Walked.{Stays, stay_dropped, walk_of, Goes-dropped}
use Rattle.std.proofs.raw_atomic.Walks.{proved, leaves}
use Rattle.arc_owners.proofs.Endings.{Walk, both_spent}
use Rattle.arc_block.proofs.StaticSlices.{token, share_made}
use Rattle.arc_block.specs.contracts.static_slice.StaticShare as StaticShare
use Rattle.arc_block.specs.contracts.static_slice.StaticShare.of as f
use Rattle.arc_block.proofs.static_slice.StaticShare.of.Statement.{statement}
use Rattle.arc_block.proofs.static_slice.StaticShare.of.Code as code

pub of_spec : {M : Type 1} → statement M
of_spec 𝓤 𝓛 𝓜 𝓡 wired T L =
    let H = 𝓛.H in let 𝓣 = tables 𝓤 H 𝓜 𝓡 𝓡.env in let R : RattleType = param 0 T in
    let En = f.ended T in let c = f.clauses T 𝓛 𝓜.mem 𝓡.returns in
    let inst = layouts (a_type ∷ []) (T, tt) in let fn = inst_fn inst code.function in
    let Row : RattleType = StaticShare.the_row R in
    let hs : Stays En.signature.params En.kept =
    (stay_dropped (SliceRefOf [] tt (plain (λ _. R)) (λ _. tt)) yes, tt) in
    proved 𝓛 En hs c 𝓜 𝓡 (
      Goes-dropped 𝓛 1 (SliceRefOf [] tt (plain (λ _. R)) (λ _. tt)) yes
          (λ κs x w. refl),
      tt,
    ) (f.Key.name inst) fn (code.unfolded 𝓤 H 𝓜 𝓡 wired (T, tt))
    (λ κs. (shr_slice_vals, tt)) (λ κs. (shr_slice_Tells static [] R, tt)) (λ κs qs bounds a gh are.
    let xs = a.0.now in let b = a.0.ref_ptr.0 in let o = a.0.ref_ptr.1 in
    let at : Ptr = block_ptr b o in let fits = are.0.0.1.0 in
    let y : (Walk 𝓛 En c).Ghost =
    ((κs, qs, bounds, a, (slice_val (b, o) (length xs) ∷ [], tt)), gh) in
    let Post : Val → SProp 𝓤 = (Walk 𝓛 En c).post y in
    let made : Row.Denot = record { mark = record {}; ptr = at; items = xs } in
    qed 𝓛 ((‵ (fsep (flft κs.0 qs.0) ftrue) ⊛ ‵ (owns (types_at En.signature.params κs) a
    y.0.4)) ∷ raw ((c κs a).requires gh) ∷ []) ∵ keep ! (0 ∷ []) $ split ! $
    move ! (1 ∷ []) $ fsplit ! $ fsplit ! $ fsplit ! $ keep ! (2 ∷ 1 ∷ 4 ∷ []) $ unhide ! $
    move ! (1 ∷ []) $ nothing ! $ fjoin ! $ fjoin ! $
    -- [the items, lent for good; the tokens]
    use1 𝓛 (‵ (Row.own_val made (token ∷ []))) (share_made R 𝓛 made) $
    enter ! 𝓣.C 𝓣.Λ fn (slice_val (b, o) (length xs) ∷ []) Post $
    alloc_all ! (λ l. pass_all ! refl ((tt, (tt, (record { fits = fits }, tt))), tt) $
    sets ! (addr ! (from ! (fld ! refl (hop ! (look_in_at ! 1 (sub ! 0 refl (whole !))) (stop !)))))
    refl (tt, tt) $
    sets ! (agg ! (no_more !)) refl (tt, tt) $ sets ! (agg ! (and_then ! (get ! refl) (no_more !)))
    refl (tt, (tt, tt)) $
    sets ! (agg ! (and_then ! (get ! refl) (and_then ! (get ! refl) (no_more !)))) refl
    (tt, (tt, ((tt, tt), tt))) $
    feq_i ! (List Val) (vptr b o ∷ []) (vptr b o ∷ []) refl $
    returns ! (look_at ! 0 refl) $ free_all ! refl $ keep ! (0 ∷ 1 ∷ 2 ∷ []) $
    by ! (both_spent 𝓛 En c y RawPtr Row at made (vptr b o) token (at, made) (tt, tt) refl
    (fact_i 𝓤 _ (emp 𝓤) (refl, refl)))))
