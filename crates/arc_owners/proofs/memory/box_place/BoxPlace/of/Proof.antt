-- `of` parts a box from its allocator: what the box owned stands at the place.
use Rattle.std.proofs.Common.{[], ◌∷◌, ◌++◌, refl}
use mir.Val.{Val}
use base.Logic.{emp}
use base.Fml.{ftrue, fsep, flft}
use types.Kit.{‵, raw, ◌⊛◌, ◌$◌, ◌∵◌, !, qed, by, move, keep, split, fsplit}
use types.Kit.{use1}
use types.Run.{stop, fld, of_opd, no_more, and_then, returns}
use types.ByLocal.{alloc_all, pass_all, free_all, look_at, get, get_in, sets}
use types.Part.{agg, sub, whole}
use contract.Monad.{fact_i}
use denote.RattleType.{owns}
use denote.Signature.{types_at}
use denote.RawPtr.{block_ptr}
use Rattle.std_alloc.proofs.BoxSteps.Form.{Bx, P, B, word as box_word, box_typed}
use Rattle.std_alloc.proofs.BoxSteps.Steps.{box_out}
use Rattle.arc_owners.proofs.memory.Allocators.{allocating}
use Rattle.arc_owners.proofs.memory.Endings.{spends, enters, both_spent}
use Rattle.arc_owners.proofs.memory.Boxes.{Row as Bare, boxed, as_box}
use Rattle.arc_owners.proofs.memory.BoxPlaces.{Row, word, place_in}
use Rattle.arc_owners.specs.contracts.memory.box_place.BoxPlace.of as f
use Rattle.arc_owners.proofs.memory.box_place.BoxPlace.of.Statement.{statement}
use Rattle.arc_owners.proofs.memory.box_place.BoxPlace.of.Code as code

pub of_spec : {M : Type 1} → statement M
of_spec 𝓤 𝓛 𝓜 𝓡 wired T A L LA g d da allocator glued =
    let E : Bx = record { row = T; laws = L; al = allocating A LA g d da } in
    let En = f.ended T A g d da in let c = f.clauses T A g d da 𝓛 𝓜.mem 𝓡.returns in
    spends 𝓛 En c 𝓜 𝓡 (λ κs x w. tt, tt) _ _
    (code.unfolded 𝓤 𝓛.H 𝓜 𝓡 wired (T, (A, tt)) d da) (λ y are.
    let κs = y.0.0 in let qs = y.0.1 in let was : (Bare E).Denot = y.0.3.0 in let vss = y.0.4 in
    qed 𝓛 ((‵ (fsep (flft κs.0 qs.0) (fsep (flft κs.1.0 qs.1.0) ftrue)) ⊛ ‵
    (owns (types_at En.signature.params κs) y.0.3 vss)) ∷ raw ((c κs y.0.3).requires y.1) ∷ [])
    ∵ keep ! (0 ∷ []) $ split ! $ move ! (1 ∷ []) $ fsplit ! $
    use1 𝓛 (‵ ((B E).own_val (boxed E was) vss.0)) (as_box E 𝓛 was vss.0) $
    box_out E ! (boxed E was) vss.0 (λ b o h at_b is fits.
    -- [what lies there; the right to free it; the allocator; no more parameters; the tokens]
    let v : Val = box_word E h b o in let typed = box_typed E h b o fits in
    let now : (Row E).Denot = record {
      at = was.at;
      marker = record {};
      value = was.value;
      alloc = was.alloc;
    } in
    enters ! _ _ _ _ (v ∷ []) (λ j. is j ++ []) $ alloc_all ! (λ l. pass_all ! refl (typed, tt) $
    place_in E ! now b o was.value at_b refl $
    sets ! (of_opd ! (get_in ! (fld ! refl (stop !)) (sub ! 0 refl (whole !)))) refl (tt, tt) $
    sets ! (of_opd ! (get_in ! (fld ! refl (stop !)) (sub ! 1 refl (whole !)))) refl fits $
    sets ! (agg ! (no_more !)) refl (tt, tt) $
    sets ! (agg ! (and_then ! (get ! refl) (and_then ! (get ! refl) (no_more !)))) refl
    (tt, (tt, (tt, tt))) $
    sets ! (of_opd ! (get ! refl)) refl fits $
    sets ! (agg ! (and_then ! (get ! refl) (and_then ! (get ! refl) (no_more !)))) refl
    (typed.0, ((tt, (tt, tt)), (typed.1.1.0, tt))) $
    returns ! (look_at ! 0 refl) $ free_all ! refl $ keep ! (0 ∷ 1 ∷ 3 ∷ []) $
    by ! (both_spent 𝓛 En c y (Row E) (P E) now was.alloc (word E (block_ptr b o)) h
    (now, was.alloc) ((tt, (tt, tt)), tt) refl (fact_i 𝓤 _ (emp 𝓤) (refl, refl, refl, refl))))))
