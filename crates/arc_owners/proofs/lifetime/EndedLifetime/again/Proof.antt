-- `again` says twice that a lifetime has ended.
use Rattle.std.proofs.Common.{ℕ, [], ◌∷◌, ◌++◌, refl}
use base.Logic.{emp}
use types.Kit.{‵, raw, ◌⊛◌, ◌$◌, ◌∵◌, !, qed, by, move, keep, drop, split, fsplit, use1}
use base.Fml.{ftrue, fdead}
use types.ByLocal.{alloc_all, pass_all, free_all, look_at}
use contract.Monad.{fact_i}
use denote.Builtin.{unit}
use denote.RattleType.{RattleType, owns}
use denote.Signature.{types_at}
use Rattle.logbook.proofs.Fields.{token, token_told}
use Rattle.arc_owners.proofs.count.Markers.{marked}
use Rattle.arc_owners.proofs.memory.Endings.{spends, enters, two_made, both_spent}
use Rattle.arc_owners.specs.contracts.lifetime.EndedLifetime as EndedLifetime
use Rattle.arc_owners.specs.contracts.lifetime.EndedLifetime.again as f
use Rattle.arc_owners.proofs.lifetime.EndedLifetime.again.Statement.{statement}
use Rattle.arc_owners.proofs.lifetime.EndedLifetime.again.Code as code

pub again_spec : {M : Type 1} → statement M
again_spec 𝓤 𝓛 𝓜 𝓡 wired =
    let En = f.ended in let c = f.clauses 𝓛 𝓜.mem 𝓡.returns in
    let Dead : RattleType = EndedLifetime.the_row in
    spends 𝓛 En c 𝓜 𝓡 (λ κs x w. tt, tt) _ _ (code.unfolded 𝓤 𝓛.H 𝓜 𝓡 wired) (λ y are.
    let n : ℕ = y.0.3.0.lifetime in
    let dead : Dead.Denot = record { marker = record {}; lifetime = n } in
    qed 𝓛 ((‵ ftrue ⊛ ‵ (owns (types_at En.signature.params y.0.0) y.0.3 y.0.4)) ∷ raw
    ((c y.0.0 y.0.3).requires y.1) ∷ []) ∵
    keep ! (0 ∷ []) $ split ! $ move ! (1 ∷ []) $ fsplit ! $ fsplit ! $ drop ! $
    -- [that it has ended; no more parameters; nothing]
    use1 𝓛 (‵ (fdead (n ∷ [])) ⊛ ‵ (fdead (n ∷ []))) (𝓛.lfts.dead_dup (n ∷ [])) $ split ! $
    marked unit ! $ move ! (1 ∷ []) $ marked unit ! $
    enters ! _ _ _ _ (token ∷ []) (λ j. token_told unit y.0.4.0 are.0.0 j ++ []) $
    alloc_all ! (λ l. pass_all ! refl ((tt, (tt, tt)), tt) $
    two_made ! (refl, (tt, tt), refl, refl, (tt, (tt, tt)))
    (refl, (tt, tt), refl, refl, (tt, (tt, tt)))
    (refl, refl, refl, (tt, ((tt, tt), ((tt, tt), tt)))) (look_at ! 0 refl) (free_all ! refl) $
    keep ! (1 ∷ 0 ∷ 3 ∷ []) $
    by ! (both_spent 𝓛 En c y Dead Dead dead dead token token (dead, dead) (tt, tt) refl
    (fact_i 𝓤 _ (emp 𝓤) (refl, refl)))))
