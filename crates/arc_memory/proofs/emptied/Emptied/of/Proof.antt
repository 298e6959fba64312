-- `of` parts a vector from its items: they stay where they lie, and the vector waits for them.
use Rattle.std.proofs.Common.{◌≡◌, ◌*◌, ◌^◌, [], ◌∷◌, ◌++◌, length, refl, sym, ap, ◌∙◌}
use Rattle.std.proofs.Common.{arith}
use mir.Val.{Val}
use base.Logic.{emp}
use base.Fml.{ftrue, fsep, flft}
use types.Kit.{‵, raw, ◌⊛◌, ◌$◌, ◌∵◌, !, qed, by, move, keep, split, fsplit, fjoin, fpack}
use types.Kit.{use0, use1, use2, rewrite, flt_i}
use types.Run.{of_opd, no_more, and_then, returns}
use types.ByLocal.{alloc_all, pass_all, free_all, look_at, get, sets}
use types.Part.{agg}
use contract.Monad.{fact_i}
use denote.Laws.{Typed}
use denote.RattleType.{owns}
use denote.RawPtr.{Ptr, block_ptr}
use denote.Signature.{types_at}
use denote.Steps.{nothing}
use denote.Param.{layout}
use denote.Struct.Struct.{as_fields}
use Rattle.core.proofs.alloc.Calls.{token}
use Rattle.core.specs.Mem.{type_size}
use Rattle.std_alloc.proofs.VecSteps.El.{El, R, P, Vr, el_d, vec_val, vec_typed}
use Rattle.std_alloc.proofs.VecSteps.Opens.{vec_had}
use Rattle.logbook.proofs.Fields.{token as marker, Token, token_made}
use Rattle.arc_owners.proofs.Allocators.{allocating}
use Rattle.arc_owners.proofs.Endings.{spends, enters, both_spent}
use Rattle.arc_owners.proofs.Markers.{told}
use Rattle.arc_memory.proofs.Held.{places_at}
use Rattle.arc_memory.specs.Memory.{extent_of, place_at, side_by_side}
use Rattle.arc_memory.specs.contracts.emptied.Emptied as Emptied
use Rattle.arc_memory.specs.contracts.places.Places as Places
use Rattle.arc_memory.proofs.Runs.{first_place, block_apart}
use Rattle.arc_memory.proofs.Parted.{Row, one, right, parted}
use Rattle.arc_memory.specs.contracts.emptied.Emptied.of as f
use Rattle.arc_memory.proofs.emptied.Emptied.of.Statement.{statement}
use Rattle.arc_memory.proofs.emptied.Emptied.of.Code as code

pub of_spec : {M : Type 1} → statement M
of_spec 𝓤 𝓛 𝓜 𝓡 wired T A L LA g d da allocator glued =
    let E : El = record { row = T; laws = L; al = allocating A LA g d da } in
    let En = f.ended T A g d da in let c = f.clauses T A g d da 𝓛 𝓜.mem 𝓡.returns in
    spends 𝓛 En c 𝓜 𝓡 (λ κs x w. tt, tt) _ _
    (code.unfolded 𝓤 𝓛.H 𝓜 𝓡 wired (T, (A, tt)) d da) (λ y are.
    let κs = y.0.0 in let qs = y.0.1 in let was : el_d E = y.0.3.0 in let vss = y.0.4 in
    let xs = was.items in let n = length xs in
    qed 𝓛 ((‵ (fsep (flft κs.0 qs.0) (fsep (flft κs.1.0 qs.1.0) ftrue)) ⊛ ‵
    (owns (types_at En.signature.params κs) y.0.3 vss)) ∷ raw ((c κs y.0.3).requires y.1) ∷ [])
    ∵ keep ! (0 ∷ []) $ split ! $ move ! (1 ∷ []) $ fsplit ! $
    vec_had E ! was vss.0 (λ b o hv at_b is fl fc fit fa.
    -- [its block; its allocator; no more parameters; the tokens]
    let u : Val = vec_val E hv b o was.len was.cap in
    let typed = vec_typed E hv b o was.len was.cap fa fl fc in
    let first : place_at (R E) was.ptr 0 ≡ block_ptr b o = ap (λ (p : Ptr). place_at (R E) p 0) at_b
    ∙ first_place E b o in
    enters ! _ _ _ _ (u ∷ []) (λ j. is j ++ []) $ alloc_all ! (λ l. pass_all ! refl (typed, tt) $
    use1 𝓛 (‵ (side_by_side (R E) (block_ptr b o) was.cap xs) ⊛ ‵ (right E was b o))
    (block_apart E 𝓛 (token E.al was.alloc) b o was.len was.cap xs was.ok.0 was.ok.1) $
    split ! $
    rewrite ! 0 (λ (p : Ptr). ‵ (side_by_side (R E) p was.cap xs)) (sym first) refl $
    flt_i ! (was.cap * type_size (R E)) (2 ^ 63) fit $ fjoin ! $
    use0 𝓛 (‵ ((Token (R E)).own_val (record {}, tt) (marker ∷ []))) (token_made (R E) 𝓛) $
    fjoin ! $ move ! (1 ∷ 2 ∷ []) $
    let e = extent_of was in let boxed = as_fields (layout (Vr E) ∷ []) (u ∷ []) (typed, tt) in
    use2 𝓛 (‵ (Emptied.the_own (R E) (P E) g e (one E u ∷ [])))
    (parted E 𝓛 was b o hv at_b fl fc fit) $
    nothing ! $ fpack ! (Typed (Row E).mir (one E u ∷ [])) (λ _. ftrue) (boxed, tt) $ fjoin ! $
    -- [the vector without its items; the places; no more parameters; the tokens]
    sets ! (agg ! (no_more !)) refl (tt, tt) $ sets ! (of_opd ! (get ! refl)) refl typed $
    sets ! (agg ! (and_then ! (get ! refl) (no_more !))) refl boxed $
    sets ! (agg ! (and_then ! (get ! refl) (no_more !))) refl (tt, (tt, tt)) $
    sets ! (agg ! (and_then ! (get ! refl) (and_then ! (get ! refl) (no_more !)))) refl
    (as_fields (layout (Row E) ∷ layout (Places.the_row (R E)) ∷ []) (one E u ∷ marker ∷ [])
    (boxed, ((tt, (tt, tt)), tt))) $
    let now : (Places.the_row (R E)).Denot =
    places_at E was.ptr was.cap 0 was.cap xs (
      omega arith,
      omega (arith, was.ok.0, was.ok.1),
      was.small,
    )
    in
    returns ! (look_at ! 0 refl) $ free_all ! refl $ keep ! (0 ∷ 1 ∷ 3 ∷ []) $
    by ! (both_spent 𝓛 En c y (Row E) (Places.the_row (R E)) e now (one E u) marker (e, now)
    ((tt, (tt, (tt, (tt, tt)))), tt) refl
    (told 𝓤 refl (told 𝓤 refl (fact_i 𝓤 _ (emp 𝓤) (refl, refl, refl, refl)) 𝓛) 𝓛)))))
