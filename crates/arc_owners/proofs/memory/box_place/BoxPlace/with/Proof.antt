-- `with` makes a box again of its place and its allocator.
use Rattle.std.proofs.Common.{◌≡◌, [], ◌∷◌, ◌++◌, refl, sym}
use mir.Val.{Val}
use base.Logic.{emp}
use base.Fml.{ftrue, fsep, flft}
use types.Kit.{‵, raw, ◌⊛◌, ◌$◌, ◌∵◌, !, qed, by, move, keep, split, fsplit}
use types.Kit.{use1, rewrite}
use types.Run.{stop, fld, of_opd, no_more, and_then, returns}
use types.ByLocal.{alloc_all, pass_all, free_all, look_at, get, get_in, sets}
use types.Part.{agg, sub, whole}
use contract.Monad.{fact, fact_i}
use contract.BorrowLft.{◌⊑◌}
use denote.RattleType.{owns}
use denote.Signature.{types_at}
use denote.RawPtr.{block_ptr}
use denote.Steps.{heard}
use Rattle.core.proofs.alloc.Calls.{handle_tells}
use Rattle.std_alloc.proofs.BoxSteps.Form.{Bx, word as box_word, box_typed}
use Rattle.std_alloc.proofs.BoxSteps.Steps.{box_in}
use Rattle.arc_owners.proofs.memory.Allocators.{allocating}
use Rattle.arc_owners.proofs.memory.Endings.{spends, enters, spent}
use Rattle.arc_owners.proofs.memory.Boxes.{Row as Bare, boxed, as_bare}
use Rattle.arc_owners.proofs.memory.BoxPlaces.{Row, word, frees, place_out}
use Rattle.arc_owners.specs.contracts.memory.box_place.BoxPlace.with as f
use Rattle.arc_owners.proofs.memory.box_place.BoxPlace.with.Statement.{statement}
use Rattle.arc_owners.proofs.memory.box_place.BoxPlace.with.Code as code

pub with_spec : {M : Type 1} → statement M
with_spec 𝓤 𝓛 𝓜 𝓡 wired T A L LA g d da allocator glued =
    let E : Bx = record { row = T; laws = L; al = allocating A LA g d da } in
    let En = f.ended T A g d da in let c = f.clauses T A g d da 𝓛 𝓜.mem 𝓡.returns in
    spends 𝓛 En c 𝓜 𝓡 (λ κs x w. tt, (λ κs x w. tt, tt)) _ _
    (code.unfolded 𝓤 𝓛.H 𝓜 𝓡 wired (T, (A, tt)) d da) (λ y are.
    let κs = y.0.0 in let qs = y.0.1 in let me : (Row E).Denot = y.0.3.0 in
    let al : A.Denot = y.0.3.1.0 in let vss = y.0.4 in
    qed 𝓛 ((‵ (fsep (flft κs.0 qs.0) (fsep (flft κs.1.0 qs.1.0) ftrue)) ⊛ ‵
    (owns (types_at En.signature.params κs) y.0.3 vss)) ∷ raw (fact 𝓤 (κs.0 ⊑ T.lives)) ∷ raw
    (fact 𝓤 (κs.1.0 ⊑ A.lives)) ∷ raw (fact 𝓤 (al ≡ me.alloc)) ∷ []) ∵
    move ! (3 ∷ []) $ heard ! (al ≡ me.alloc) (λ same. keep ! (0 ∷ []) $ split ! $ move ! (1 ∷ []) $
    fsplit ! $ place_out E ! me vss.0 (λ b o at_b is. move ! (2 ∷ []) $ fsplit ! $
    handle_tells E.al ! al vss.1.0 (λ h ea fits.
    -- [the allocator; no more parameters; what lies there; the right to free it; the tokens]
    let p : Val = word E (block_ptr b o) in let v : Val = box_word E h b o in
    let now : (Bare E).Denot = record { at = me.at; alloc = al; value = me.value } in
    enters ! _ _ _ _ (p ∷ h ∷ []) (λ i. is i ++ (ea i ++ [])) $
    alloc_all ! (λ l. pass_all ! refl ((tt, (tt, (tt, tt))), (fits, tt)) $
    rewrite ! 3 (λ (k : A.Denot). ‵ (frees E (record me { alloc = k }) b o)) (sym same) refl $
    move ! (2 ∷ 3 ∷ 0 ∷ []) $ box_in E ! (boxed E now) b o me.value at_b refl $
    use1 𝓛 (‵ ((Bare E).own_val now (v ∷ []))) (as_bare E 𝓛 now (v ∷ [])) $
    sets ! (of_opd ! (get_in ! (fld ! refl (stop !)) (sub ! 0 refl (whole !)))) refl (tt, tt) $
    sets ! (of_opd ! (get ! refl)) refl fits $
    sets ! (agg ! (and_then ! (get ! refl) (and_then ! (get ! refl) (no_more !)))) refl
    (box_typed E h b o fits) $
    returns ! (look_at ! 0 refl) $ free_all ! refl $ keep ! (2 ∷ 0 ∷ []) $
    by ! (spent 𝓛 En c y v now (tt, (tt, tt)) (fact_i 𝓤 _ (emp 𝓤) (refl, refl, refl))))))))
