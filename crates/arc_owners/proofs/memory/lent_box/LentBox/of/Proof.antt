-- `of` borrows what a box owns, and what comes back for it is laid behind the ticket of the lease.
use Rattle.std.proofs.Common.{List, [], ◌∷◌, ◌++◌, refl, sym}
use mir.Val.{Val, vptr, vstruct, vcons, vnil, of_list}
use base.Logic.{emp}
use base.Fml.{Fml, Lft, ftrue, fsep, feq, flft, finv}
use types.Tokens.{bor_new}
use types.Kit.{‵, raw, ◌⊛◌, later, ◌$◌, ◌∵◌, !, qed, by, move, keep, drop, split, fsplit, fjoin}
use types.Kit.{fpack, use0, use1, await, feq_i, feq_l}
use types.Run.{stop, fld, of_opd, no_more, and_then, returns}
use types.ByLocal.{alloc_all, pass_all, free_all, look_at, get, get_in, sets}
use types.Part.{agg, sub, whole}
use contract.Monad.{fact_i}
use denote.RattleType.{RattleType, Valss, owns}
use denote.Signature.{types_at}
use denote.RawPtr.{Ptr, RawPtr, block_ptr}
use denote.Steps.{nothing}
use denote.Param.{param}
use denote.Struct.Tuple.{Tuple}
use Rattle.core.proofs.alloc.Calls.{token as frees}
use Rattle.std_alloc.specs.Box.Ownership.{box_owns}
use Rattle.std_alloc.proofs.BoxSteps.Form.{Bx, R, P, B, word, box_typed}
use Rattle.std_alloc.proofs.BoxSteps.Steps.{box_out}
use Rattle.logbook.proofs.Fields.{token, Token, token_made}
use Rattle.arc_owners.proofs.memory.Allocators.{allocating}
use Rattle.arc_owners.proofs.memory.Endings.{spends, enters, spent}
use Rattle.arc_owners.specs.count.Invariant.{Lease, kept_for}
use Rattle.arc_owners.proofs.memory.Boxes.{Row, boxed, as_box}
use Rattle.arc_owners.proofs.count.Returns.{keeps}
use Rattle.arc_owners.specs.contracts.count.word.OwnerToken as OwnerToken
use Rattle.arc_owners.specs.contracts.memory.inheritance.Inheritance as Inheritance
use Rattle.arc_owners.specs.contracts.memory.lent_box.LentBox as LentBox
use Rattle.arc_owners.specs.contracts.memory.lent_box.LentBox.of as f
use Rattle.arc_owners.proofs.memory.lent_box.LentBox.of.Statement.{statement}
use Rattle.arc_owners.proofs.memory.lent_box.LentBox.of.Code as code

pub of_spec : {M : Type 1} → statement M
of_spec 𝓤 𝓛 𝓜 𝓡 wired T A Q L LA LQ g d da allocator glued =
    let E : Bx = record { row = T; laws = L; al = allocating A LA g d da } in
    let Own : RattleType = OwnerToken.the_row (param 2 Q) in let En = f.ended T A Q g d da in
    let c = f.clauses T A Q g d da 𝓛 𝓜.mem 𝓡.returns in
    let K : RattleType = Inheritance.the_row (R E) (P E) g in
    let N : RattleType = LentBox.the_row (R E) (P E) g in
    let Both : RattleType = Tuple (R E ∷ P E ∷ []) in
    spends 𝓛 En c 𝓜 𝓡 (λ κs x w. tt, (λ κs x w. tt, tt)) _ _
    (code.unfolded 𝓤 𝓛.H 𝓜 𝓡 wired (T, (A, (Q, tt))) d da) (λ y are.
    let κs = y.0.0 in let qs = y.0.1 in let a = y.0.3 in let vss = y.0.4 in
    let was : (Row E).Denot = a.0 in let own = a.1.0.now in let b₁ = a.1.0.ref_ptr.0 in
    let o₁ = a.1.0.ref_ptr.1 in let l : Lease = own.lease in let α : Lft = l.lifetime ∷ [] in
    qed 𝓛 ((‵ (fsep (flft κs.0 qs.0)
    (fsep (flft κs.1.0 qs.1.0)
    (fsep (flft κs.1.1.0 qs.1.1.0) (fsep (flft κs.1.1.1.0 qs.1.1.1.0) ftrue)))) ⊛ ‵
    (owns (types_at En.signature.params κs) a vss)) ∷ raw ((c κs a).requires y.1) ∷ []) ∵
    keep ! (0 ∷ []) $ split ! $ move ! (1 ∷ []) $ fsplit ! $ move ! (1 ∷ []) $ fsplit ! $ fsplit ! $
    feq_l ! (λ e₁. drop ! $ drop ! $
    -- [the box; the tokens]
    use1 𝓛 (‵ ((B E).own_val (boxed E was) vss.0)) (as_box E 𝓛 was vss.0) $
    box_out E ! (boxed E was) vss.0 (λ b o h at_b is fits. fjoin ! $
    let p : Ptr = block_ptr b o in let Was : Fml = box_owns (frees E.al was.alloc) (R E) p was.value
    in
    let v : Val = word E h b o in let typed = box_typed E h b o fits in
    let ws : List Val = v ∷ vptr b₁ o₁ ∷ [] in
    enters ! _ _ _ _ ws (λ i. is i ++ (e₁ i ++ [])) $ alloc_all ! (λ at. pass_all ! refl (
      typed,
      ((tt, tt), tt),
    ) $
    bor_new ! tt α $ move ! (1 ∷ []) $ use1 𝓛 (later (‵ (finv (kept_for Was l)))) (keeps 𝓛 Was l) $
    await ! tt $
    -- [that it comes back; the borrow; the allocator; the tokens]
    sets ! (of_opd ! (get_in ! (fld ! refl (stop !)) (sub ! 0 refl (whole !)))) refl (tt, tt) $
    sets ! (of_opd ! (get_in ! (fld ! refl (stop !)) (sub ! 1 refl (whole !)))) refl fits $
    sets ! (agg ! (no_more !)) refl (tt, tt) $ sets ! (agg ! (and_then ! (get ! refl) (no_more !)))
    refl (tt, (tt, tt)) $ sets ! (agg ! (no_more !)) refl (tt, tt) $
    sets ! (agg ! (and_then ! (get ! refl) (no_more !))) refl (tt, (tt, tt)) $
    sets ! (of_opd ! (get ! refl)) refl fits $ sets ! (of_opd ! (get ! refl)) refl (tt, (tt, tt)) $
    sets ! (of_opd ! (get ! refl)) refl (tt, (tt, tt)) $
    sets ! (agg ! (and_then ! (get ! refl)
    (and_then ! (get ! refl) (and_then ! (get ! refl) (and_then ! (get ! refl) (no_more !))))))
    refl (typed.0, (tt, (typed.1.1.0, ((tt, tt), ((tt, tt), tt))))) $
    use0 𝓛 (‵ ((Token Both).own_val (record {}, tt) (token ∷ []))) (token_made Both 𝓛) $ fjoin ! $
    use0 𝓛 (‵ ((Token Both).own_val (record {}, tt) (token ∷ []))) (token_made Both 𝓛) $
    move ! (0 ∷ 2 ∷ []) $ fjoin ! $
    -- [what is lent; what is kept; the allocator; the tokens]
    let lent' : N.Denot = record {
      marker = record {};
      value = was.value;
      alloc = was.alloc;
      at = p;
      lifetime = l.lifetime;
    } in
    let kept' : K.Denot = record {
      marker = record {};
      value = was.value;
      alloc = was.alloc;
      at = p;
      lease = l;
    } in
    let Rs : List RattleType = RawPtr ∷ P E ∷ N ∷ K ∷ [] in
    let u : Val = vstruct (vcons (vptr b o) (vcons h (vcons token (vcons token vnil)))) in
    nothing ! $ move ! (2 ∷ 0 ∷ []) $ fjoin ! $ move ! (1 ∷ 0 ∷ []) $ fjoin ! $
    move ! (1 ∷ 0 ∷ []) $ fjoin ! $ feq_i ! (List Val) (vptr b o ∷ []) (vptr b o ∷ []) refl $
    fjoin ! $ feq_i ! (List Val) (u ∷ []) (u ∷ []) refl $ fjoin ! $
    fpack ! (Valss Rs)
    (λ uss. fsep (feq (List Val) (u ∷ [])
    (vstruct (of_list (uss.0 ++ (uss.1.0 ++ (uss.1.1.0 ++ (uss.1.1.1.0 ++ []))))) ∷ []))
    (owns Rs (p, (was.alloc, (lent', (kept', tt)))) uss))
    (vptr b o ∷ [], (h ∷ [], (token ∷ [], (token ∷ [], tt)))) $
    returns ! (look_at ! 0 refl) $ free_all ! refl $ keep ! (1 ∷ 0 ∷ []) $
    by ! (spent 𝓛 En c y u (p, was.alloc, lent', kept') ((tt, (tt, tt)), (tt, tt))
    (fact_i 𝓤 _ (emp 𝓤) (
      sym at_b,
      tt,
      refl,
      refl,
      refl,
      sym at_b,
      refl,
      refl,
      refl,
      sym
          at_b,
      refl,
    )))))))
