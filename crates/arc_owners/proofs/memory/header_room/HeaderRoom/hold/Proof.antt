-- `hold` writes the value into the room, which then is a box's place.
use Rattle.std.proofs.Common.{List, [], ◌∷◌, ◌++◌, refl, sym, subst}
use mir.Syntax.{a_type}
use mir.Val.{Val, vstruct, vnil}
use mir.MapTy.{inst_fn}
use base.Logic.{SProp, ent, emp, id⊢}
use base.Fraction.{full_share}
use base.Fml.{ftrue, fsep, flft}
use prog.Wp.{WpFn}
use types.Kit.{‵, raw, ◌⊛◌, at_ret, ◌$◌, ◌∵◌, !, qed, by, move, keep, split, fsplit}
use types.Kit.{suffices, use0, use1, use2}
use types.Run.{init, stop, fld, of_opd, no_more, and_then, assigns_last, first, blocks, exec}
use types.Run.{returns, enter}
use types.ByLocal.{alloc_all, pass_all, free_all, look_at, get, get_in, through, sets, env}
use types.Part.{agg, sub, whole}
use contract.Monad.{fact_i}
use contract.Running.{tables}
use denote.Memory.{part_at}
use denote.RattleType.{owns}
use denote.RawPtr.{block_ptr}
use denote.Signature.{types_at}
use denote.Steps.{nothing}
use denote.Param.{layouts}
use Rattle.core.proofs.alloc.Shapes.{after}
use Rattle.std_alloc.proofs.OfLodged.{lodged_al, handle_made}
use Rattle.std_alloc.proofs.BoxSteps.Form.{Bx, X, R, word as box_word, handle, box_typed}
use Rattle.std_alloc.proofs.BoxSteps.Steps.{el_in, el_tells, box_in}
use Rattle.arc_owners.proofs.memory.Endings.{Walk, spends, spent}
use Rattle.arc_owners.proofs.memory.Boxes.{Row as Bare, boxed, as_bare}
use Rattle.arc_owners.proofs.memory.HeaderRooms.{Row, word, room_out}
use Rattle.arc_owners.specs.contracts.memory.header_room.HeaderRoom.hold as f
use Rattle.arc_owners.proofs.memory.header_room.HeaderRoom.hold.Statement.{statement}
use Rattle.arc_owners.proofs.memory.header_room.HeaderRoom.hold.Code as code

pub hold_spec : {M : Type 1} → statement M
hold_spec 𝓤 𝓛 𝓜 𝓡 wired T L =
    let H = 𝓛.H in let 𝓣 = tables 𝓤 H 𝓜 𝓡 𝓡.env in
    let E : Bx = record { row = T; laws = L; al = lodged_al } in
    let En = f.ended T in let c = f.clauses T 𝓛 𝓜.mem 𝓡.returns in
    let inst = layouts (a_type ∷ []) (T, tt) in let fn = inst_fn inst code.function in
    spends 𝓛 En c 𝓜 𝓡 (λ κs x w. tt, (λ κs x w. tt, tt)) _ _
    (code.unfolded 𝓤 𝓛.H 𝓜 𝓡 wired (T, tt)) (λ y are.
    let κs = y.0.0 in let qs = y.0.1 in let room : (Row E).Denot = y.0.3.0 in
    let x : X E = y.0.3.1.0 in let vss = y.0.4 in
    let Post : Val → SProp 𝓤 = (Walk 𝓛 En c).post y in
    let Run : List Val → SProp 𝓤 = λ ws. WpFn 𝓤 H 𝓣.C 𝓣.Λ fn ws Post in
    qed 𝓛 ((‵ (fsep (flft κs.0 qs.0) ftrue) ⊛ ‵ (owns (types_at En.signature.params κs) y.0.3 vss))
    ∷ raw ((c κs y.0.3).requires y.1) ∷ []) ∵ keep ! (0 ∷ []) $ split ! $ move ! (1 ∷ []) $
    fsplit ! $ room_out E ! room vss.0 (λ b o at_b is. move ! (1 ∷ []) $ fsplit ! $
    el_tells E ! x vss.1.0 (λ v ev fits.
    -- [the value; no more parameters; the room; the tokens]
    let h : Val = vstruct vnil in let u : Val = box_word E h b o in
    let ws : List Val = word E (block_ptr b o) ∷ v ∷ [] in
    suffices ! (Run ws) (subst (λ (us : List Val). ent 𝓤 (Run ws) (Run us))
    (sym (λ j. is j ++ (ev j ++ []))) (id⊢ 𝓤 (Run ws))) $
    move ! (2 ∷ 0 ∷ 1 ∷ []) $
    enter ! 𝓣.C 𝓣.Λ fn ws Post $ alloc_all ! (λ l. pass_all ! refl ((tt, (tt, tt)), (fits, tt)) $
    let Ev = env fn.locals l in
    sets ! (of_opd ! (get_in ! (fld ! refl (stop !)) (sub ! 0 refl (whole !)))) refl (tt, tt) $
    first ! $ blocks ! $ sets ! (of_opd ! (get ! refl)) refl fits $
    assigns_last ! (of_opd ! (get ! refl)) (through ! refl (stop !)) (init ! 0 refl fits) $
    exec ! 𝓣.C 𝓣.Λ Ev (after 2 fn.body) (at_ret Ev Post) $
    sets ! (agg ! (no_more !)) refl (tt, tt) $
    sets ! (agg ! (and_then ! (get ! refl) (and_then ! (get ! refl) (no_more !)))) refl
    (box_typed E h b o (tt, tt)) $
    move ! (0 ∷ 1 ∷ []) $ use2 𝓛 (‵ (part_at (R E) full_share x b o)) (el_in E 𝓛 x b o v) $
    use0 𝓛 (‵ (handle E (record {}) h)) (handle_made 𝓛) $ nothing ! $ move ! (2 ∷ 0 ∷ 1 ∷ []) $
    let now : (Bare E).Denot = record { at = room.at; alloc = record {}; value = x } in
    box_in E ! (boxed E now) b o x at_b refl $
    use1 𝓛 (‵ ((Bare E).own_val now (u ∷ []))) (as_bare E 𝓛 now (u ∷ [])) $
    returns ! (look_at ! 0 refl) $ free_all ! refl $ keep ! (2 ∷ 0 ∷ []) $
    by ! (spent 𝓛 En c y u now (tt, (tt, tt))
    (fact_i 𝓤 _ (emp 𝓤) (refl, refl)))))))
