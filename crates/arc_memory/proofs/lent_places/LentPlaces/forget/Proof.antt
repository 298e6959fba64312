-- `forget` lets the borrows go. It touches no memory.
use Rattle.std.proofs.Common.{◌≡◌, List, [], ◌∷◌, ◌++◌, refl}
use mir.Val.{Val, vunit}
use base.Logic.{emp, id⊢}
use base.Fml.{ftrue, fsep, flft}
use types.Kit.{‵, raw, ◌⊛◌, ◌$◌, ◌∵◌, !, qed, by, keep, split, feq_i}
use types.Run.{of_opd, returns, unit_lit}
use types.ByLocal.{alloc_all, pass_all, free_all, look_at, sets}
use denote.RattleType.{RattleType, owns}
use denote.Signature.{types_at}
use Rattle.std_alloc.proofs.VecSteps.El.{El, R, no_al}
use Rattle.logbook.proofs.Fields.{token, token_told}
use Rattle.arc_owners.proofs.Endings.{spends, enters, spent}
use Rattle.arc_memory.specs.contracts.lent_places.LentPlaces as LentPlaces
use Rattle.arc_memory.specs.contracts.lent_places.LentPlaces.forget as f
use Rattle.arc_memory.proofs.lent_places.LentPlaces.forget.Statement.{statement}
use Rattle.arc_memory.proofs.lent_places.LentPlaces.forget.Code as code

pub forget_spec : {M : Type 1} → statement M
forget_spec 𝓤 𝓛 𝓜 𝓡 wired T L =
    let E : El = record { row = T; laws = L; al = no_al } in
    let En = f.ended T in let c = f.clauses T 𝓛 𝓜.mem 𝓡.returns in
    let Lt : RattleType = LentPlaces.the_row (R E) in
    spends 𝓛 En c 𝓜 𝓡 (λ κs x w. tt, tt) _ _
    (code.unfolded 𝓤 𝓛.H 𝓜 𝓡 wired (T, tt)) (λ y are.
    let κs = y.0.0 in let qs = y.0.1 in let vss = y.0.4 in
    qed 𝓛 ((‵ (fsep (flft κs.0 qs.0) ftrue)
    ⊛ ‵ (owns (types_at En.signature.params κs) y.0.3 vss))
    ∷ raw ((c κs y.0.3).requires y.1) ∷ []) ∵
    keep ! (0 ∷ []) $ split ! $ keep ! (0 ∷ []) $
    let e₀ : vss.0 ≡ token ∷ [] = token_told (R E) vss.0 are.0.0 in
    let ws : List Val = token ∷ [] in
    enters ! _ _ _ _ ws (λ j. e₀ j ++ []) $ alloc_all ! (λ l. pass_all ! refl ((tt, (tt, tt)), tt) $
    sets ! (of_opd ! (unit_lit !)) refl (tt, tt) $
    feq_i ! (List Val) (vunit ∷ []) (vunit ∷ []) refl $ returns ! (look_at ! 0 refl) $ free_all !
    refl $ keep ! (1 ∷ 0 ∷ []) $
    by ! (spent 𝓛 En c y vunit tt (tt, tt) (id⊢ 𝓤 (emp 𝓤)))))
