-- `of` reads the value, which leaves room.
use Rattle.std.proofs.Common.{List, [], ◌∷◌, ◌++◌, refl}
use mir.Syntax.{a_type}
use mir.Val.{Val, vstruct, vcons, vnil, of_list}
use mir.MapTy.{inst_fn}
use base.Logic.{SProp, emp}
use base.Fraction.{full_share}
use base.Fml.{ftrue, fsep, feq, flft, fat, froom}
use types.Kit.{‵, raw, ◌⊛◌, some, given, at_ret, ◌$◌, ◌∵◌, !, qed, by, move, keep, split}
use types.Kit.{fsplit, fjoin, fpack, feq_i, pick, learn, use1}
use types.Run.{look, load, stop, fld, of_opd, no_more, and_then, first, blocks, exec, returns}
use types.ByLocal.{alloc_all, pass_all, free_all, look_at, get, get_in, through, sets, sets_last}
use types.ByLocal.{env}
use types.Part.{agg, sub, whole}
use contract.Monad.{fact_i}
use contract.Running.{tables}
use denote.Param.{layout, layouts}
use denote.RattleType.{RattleType, Valss, owns}
use denote.RawPtr.{block_ptr}
use denote.Signature.{types_at}
use denote.Steps.{nothing}
use denote.Struct.Struct.{as_fields}
use Rattle.core.proofs.alloc.Shapes.{after}
use Rattle.std_alloc.specs.contracts.vec.lodged.Lodged as Lodged
use Rattle.std_alloc.specs.contracts.vec.lodged.LodgedAllocator.TheImpl.{ghosts}
use Rattle.std_alloc.proofs.OfLodged.{lodged_al}
use Rattle.std_alloc.proofs.BoxSteps.Form.{Bx, Good, R, B, τ, own, word as box_word, box_typed}
use Rattle.std_alloc.proofs.BoxSteps.Steps.{el_out, box_out}
use Rattle.arc_owners.proofs.memory.Endings.{Walk, spends, enters, spent}
use Rattle.arc_owners.proofs.memory.Boxes.{boxed, as_box}
use Rattle.arc_owners.proofs.memory.HeaderRooms.{Row, word, room_in}
use Rattle.arc_owners.specs.contracts.memory.box_parts.BoxParts as BoxParts
use Rattle.arc_owners.specs.contracts.memory.header_room.HeaderRoom.of as f
use Rattle.arc_owners.proofs.memory.header_room.HeaderRoom.of.Statement.{statement}
use Rattle.arc_owners.proofs.memory.header_room.HeaderRoom.of.Code as code

pub of_spec : {M : Type 1} → statement M
of_spec 𝓤 𝓛 𝓜 𝓡 wired T L =
    let H = 𝓛.H in let 𝓣 = tables 𝓤 H 𝓜 𝓡 𝓡.env in
    let E : Bx = record { row = T; laws = L; al = lodged_al } in
    let Had : RattleType = BoxParts.the_row (R E) Lodged.the_row ghosts in
    let En = f.ended T in let c = f.clauses T 𝓛 𝓜.mem 𝓡.returns in
    let inst = layouts (a_type ∷ []) (T, tt) in let fn = inst_fn inst code.function in
    spends 𝓛 En c 𝓜 𝓡 (λ κs x w. tt, tt) _ _
    (code.unfolded 𝓤 𝓛.H 𝓜 𝓡 wired (T, tt)) (λ y are.
    let κs = y.0.0 in let qs = y.0.1 in let was : Had.Denot = y.0.3.0 in let vss = y.0.4 in
    let Post : Val → SProp 𝓤 = (Walk 𝓛 En c).post y in
    qed 𝓛 ((‵ (fsep (flft κs.0 qs.0) ftrue) ⊛ ‵ (owns (types_at En.signature.params κs) y.0.3 vss))
    ∷ raw ((c κs y.0.3).requires y.1) ∷ []) ∵ keep ! (0 ∷ []) $ split ! $ move ! (1 ∷ []) $
    fsplit ! $ use1 𝓛 (‵ ((B E).own_val (boxed E was) vss.0)) (as_box E 𝓛 was vss.0) $
    box_out E ! (boxed E was) vss.0 (λ b o h at_b is fits. keep ! (0 ∷ 4 ∷ []) $
    use1 𝓛 (some (λ (v : Val). given (Good E v)
    (‵ (fat full_share (τ E) b o v) ⊛ ‵ (own E was.value (v ∷ [])))))
    (el_out E 𝓛 was.value b o) $ pick ! (λ v. learn ! (λ t. split ! $
    -- [the cell; the value; the tokens]
    let u : Val = box_word E h b o in
    enters ! _ _ _ _ (u ∷ []) (λ j. is j ++ []) $
    alloc_all ! (λ l. pass_all ! refl (box_typed E h b o fits, tt) $ let Ev = env fn.locals l in
    sets ! (of_opd ! (get_in ! (fld ! refl (stop !)) (sub ! 0 refl (whole !)))) refl (tt, tt) $
    first ! $ blocks ! $
    sets_last ! (of_opd ! (load ! (through ! refl (stop !)) (look ! 0 refl))) refl t $
    exec ! 𝓣.C 𝓣.Λ Ev (after 2 fn.body) (at_ret Ev Post) $
    sets ! (of_opd ! (get ! refl)) refl t $
    sets ! (agg ! (and_then ! (get ! refl) (no_more !))) refl (tt, (tt, tt)) $
    sets ! (of_opd ! (get ! refl)) refl t $
    let w : Val = word E (block_ptr b o) in
    sets ! (agg ! (and_then ! (get ! refl) (and_then ! (get ! refl) (no_more !)))) refl
    (as_fields (layout (Row E) ∷ τ E ∷ []) (w ∷ v ∷ []) ((tt, (tt, tt)), (t, tt))) $
    use1 𝓛 (‵ (froom (τ E) b o)) (𝓛.laws.at_room (τ E) b o v) $
    let room : (Row E).Denot = record { at = was.at } in room_in E ! room b o at_b $
    let p : Val = vstruct (vcons w (vcons v vnil)) in let Rs : List RattleType = Row E ∷ R E ∷ [] in
    nothing ! $ move ! (2 ∷ 0 ∷ []) $ fjoin ! $ move ! (1 ∷ 0 ∷ []) $ fjoin ! $
    feq_i ! (List Val) (p ∷ []) (p ∷ []) refl $ fjoin ! $
    fpack ! (Valss Rs) (λ uss. fsep (feq (List Val) (p ∷ [])
    (vstruct (of_list (uss.0 ++ (uss.1.0 ++ []))) ∷ []))
    (owns Rs (room, (was.value, tt)) uss)) (w ∷ [], (v ∷ [], tt)) $
    returns ! (look_at ! 0 refl) $ free_all ! refl $ keep ! (1 ∷ 0 ∷ []) $
    by ! (spent 𝓛 En c y p (room, was.value) (tt, tt)
    (fact_i 𝓤 _ (emp 𝓤) (refl, refl))))))))
