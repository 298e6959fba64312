-- `filled` gives the vector back what it waits for.
use Rattle.std.proofs.Common.{◌≡◌, ℕ, List, [], ◌∷◌, ◌++◌, length, refl, sym, ap, ◌∙◌}
use Rattle.std.proofs.lemmas.List.{with_items_is}
use mir.Val.{Val, vstruct, of_list}
use base.Logic.{emp}
use base.Fml.{ftrue, fsep, flft}
use types.Kit.{‵, raw, ◌⊛◌, ◌$◌, ◌∵◌, !, qed, by, move, keep, drop, split, fsplit, fjoin, fpick}
use types.Kit.{feq_l, feq_i, use2, rewrite}
use types.Run.{stop, fld, of_opd, returns}
use types.ByLocal.{alloc_all, pass_all, free_all, look_at, get, get_in, sets}
use types.Part.{sub, whole}
use contract.Monad.{fact, fact_i}
use contract.BorrowLft.{◌⊑◌}
use denote.RattleType.{RattleType, owns}
use denote.Param.{layout}
use denote.RawPtr.{Ptr}
use denote.Signature.{types_at}
use denote.Steps.{heard}
use denote.Struct.Struct.{as_fields}
use Rattle.std.specs.Vec.{with_items}
use Rattle.std_alloc.proofs.VecSteps.El.{El, R, Vr, el_d, el_x, vec_val, vec_typed}
use Rattle.std_alloc.proofs.VecSteps.Opens.{vec_had, vec_made}
use Rattle.logbook.proofs.Fields.{token as marker, token_told}
use Rattle.arc_owners.proofs.Allocators.{allocating}
use Rattle.arc_owners.proofs.Endings.{spends, enters, spent}
use Rattle.arc_owners.proofs.Markers.{told}
use Rattle.arc_memory.specs.Memory.{places_own}
use Rattle.arc_memory.specs.contracts.places.Places as Places
use Rattle.arc_memory.proofs.Parted.{Row, one, refills, refilled}
use Rattle.arc_memory.specs.contracts.emptied.Emptied.filled as f
use Rattle.arc_memory.proofs.emptied.Emptied.filled.Statement.{statement}
use Rattle.arc_memory.proofs.emptied.Emptied.filled.Code as code

pub filled_spec : {M : Type 1} → statement M
filled_spec 𝓤 𝓛 𝓜 𝓡 wired T A L LA g d da allocator glued =
    let E : El = record { row = T; laws = L; al = allocating A LA g d da } in
    let En = f.ended T A g d da in let c = f.clauses T A g d da 𝓛 𝓜.mem 𝓡.returns in
    let Pl : RattleType = Places.the_row (R E) in
    spends 𝓛 En c 𝓜 𝓡 (λ κs x w. tt, (λ κs x w. tt, tt)) _ _
    (code.unfolded 𝓤 𝓛.H 𝓜 𝓡 wired (T, (A, tt)) d da) (λ y are.
    let κs = y.0.0 in let qs = y.0.1 in let e : (Row E).Denot = y.0.3.0 in
    let own : Pl.Denot = y.0.3.1.0 in let vss = y.0.4 in
    let xs : List (el_x E) = own.items in let Fits : Type 0 = (own.base ≡ e.base)
    × (own.whole ≡ e.count) × (own.start ≡ 0) × (own.count ≡ e.count) in
    qed 𝓛 ((‵ (fsep (flft κs.0 qs.0) (fsep (flft κs.1.0 qs.1.0) ftrue)) ⊛ ‵
    (owns (types_at En.signature.params κs) y.0.3 vss)) ∷ (raw (fact 𝓤 (κs.0 ⊑ T.lives)) ⊛ raw
    (fact 𝓤 (κs.1.0 ⊑ A.lives)) ⊛ raw (fact 𝓤 Fits) ⊛ raw (fact 𝓤 (length xs ≡ e.len))) ∷ []) ∵
    move ! (1 ∷ []) $ split ! $ drop ! $ split ! $ drop ! $ split ! $
    heard ! Fits (λ fits. heard ! (length xs ≡ e.len) (λ long. split ! $ move ! (1 ∷ []) $
    fsplit ! $ fsplit ! $ drop ! $
    fpick ! (λ i. let v : el_d E = i.vec in
    fsplit ! $ feq_l ! (λ same. move ! (1 ∷ []) $ fsplit ! $ fsplit ! $ drop ! $
    -- [what lies in the places; no more parameters; the vector that waits; the tokens]
    rewrite ! 0 (λ (k : Ptr × (ℕ × (ℕ × ℕ))). ‵ (places_own (R E) k.0 k.1.0 k.1.1.0 k.1.1.1 xs))
    (λ j. (fits.0 j, (fits.1 j, (fits.2 j, fits.3 j)))) refl $
    feq_i ! ℕ (length xs) e.len long $ fjoin ! $ move ! (2 ∷ 0 ∷ []) $
    use2 𝓛 (‵ (refills E v vss.0 xs)) (refilled E 𝓛 e v vss.0 xs) $
    let now : el_d E = with_items v xs in let same_len : v.len ≡ e.len = ap (λ x. x.len) same in
    let items : now.items ≡ xs = with_items_is v xs (long ∙ sym same_len) in
    fpick ! (λ uss. fsplit ! $
    feq_l ! (λ whole_is. fsplit ! $
    vec_had E ! now uss.0 (λ b o hv at_b is fl fc fit fa. vec_made E ! now b o v.len v.cap
    now.items (at_b, refl, refl, refl) fl fc fit $
    -- [the vector; no more fields; no more parameters; the tokens]
    let u : Val = vec_val E hv b o v.len v.cap in
    let typed = vec_typed E hv b o v.len v.cap fa fl fc in
    let e₀ : vss.0 ≡ one E u ∷ [] = whole_is
    ∙ ap (λ (us : List Val). vstruct (of_list (us ++ [])) ∷ []) is in
    let e₁ : vss.1.0 ≡ marker ∷ [] = token_told (R E) vss.1.0 are.1.0.0 in
    enters ! _ _ _ _ (one E u ∷ marker ∷ []) (λ j. e₀ j ++ (e₁ j ++ [])) $
    alloc_all ! (λ l. pass_all ! refl (
      as_fields (layout (Vr E) ∷ []) (u ∷ []) (typed, tt),
      ((tt, (tt, tt)), tt),
    ) $
    sets ! (of_opd ! (get_in ! (fld ! refl (stop !)) (sub ! 0 refl (whole !)))) refl typed $
    sets ! (of_opd ! (get ! refl)) refl typed $
    returns ! (look_at ! 0 refl) $ free_all ! refl $ keep ! (3 ∷ 0 ∷ []) $
    by ! (spent 𝓛 En c y u now (tt, (tt, tt))
    (told 𝓤 items (fact_i 𝓤 _ (emp 𝓤) same) 𝓛)))))))))))
