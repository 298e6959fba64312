-- `end` ends a lifetime by all of its token.
use Rattle.std.proofs.Common.{◌≡◌, [], ◌∷◌, ◌++◌, refl}
use base.Fraction.{full_share}
use base.Logic.{emp}
use base.Fml.{Share, ftrue, flft}
use types.Kit.{‵, raw, ◌⊛◌, ◌$◌, ◌∵◌, !, qed, by, move, keep, drop, split, fsplit}
use types.Kit.{rewrite}
use types.Run.{stop, fld}
use types.ByLocal.{alloc_all, pass_all, free_all, look_at, get_in}
use types.Part.{sub, whole}
use types.Tokens.{lft_end}
use contract.Monad.{fact, fact_i}
use denote.RattleType.{RattleType, owns}
use denote.Signature.{types_at}
use denote.Builtin.{unit}
use denote.Steps.{heard}
use Rattle.logbook.proofs.Fields.{token, token_told}
use Rattle.arc_owners.proofs.memory.Endings.{spends, enters, one_moved, spent}
use Rattle.arc_owners.proofs.count.Markers.{marked}
use Rattle.arc_owners.specs.contracts.lifetime.LifetimeToken as LifetimeToken
use Rattle.arc_owners.specs.contracts.lifetime.LifetimeToken.end as f
use Rattle.arc_owners.proofs.lifetime.LifetimeToken.end.Statement.{statement}
use Rattle.arc_owners.proofs.lifetime.LifetimeToken.end.Code as code

pub end_spec : {M : Type 1} → statement M
end_spec 𝓤 𝓛 𝓜 𝓡 wired =
    let En = f.ended in
    let c = f.clauses 𝓛 𝓜.mem 𝓡.returns in let Tok : RattleType = LifetimeToken.the_row in
    spends 𝓛 En c 𝓜 𝓡 (λ κs x w. tt, tt) _ _
    (code.unfolded 𝓤 𝓛.H 𝓜 𝓡 wired) (λ y are.
    let κs = y.0.0 in let was : Tok.Denot = y.0.3.0 in let vss = y.0.4 in
    let Asked : Type 0 = was.share ≡ full_share in
    qed 𝓛 ((‵ ftrue ⊛ ‵ (owns (types_at En.signature.params κs) y.0.3 vss)) ∷ raw
    (fact 𝓤 Asked) ∷ []) ∵
    move ! (1 ∷ []) $ heard ! Asked (λ asked. split ! $ move ! (1 ∷ []) $ fsplit ! $ fsplit ! $
    drop ! $ rewrite ! 0 (λ (q : Share). ‵ (flft (was.lifetime ∷ []) q)) asked refl $
    -- [the token; no more parameters; nothing]
    enters ! _ _ _ _ (token ∷ []) (λ j. token_told unit vss.0 are.0.0 j ++ []) $
    alloc_all ! (λ l. pass_all ! refl ((tt, (tt, tt)), tt) $
    lft_end ! tt $ marked unit ! $
    one_moved ! (get_in ! (fld ! refl (stop !)) (sub ! 0 refl (whole !)))
    (refl, (tt, tt), refl, refl, (tt, (tt, tt))) (look_at ! 0 refl) (free_all ! refl) $
    keep ! (2 ∷ 0 ∷ []) $
    by ! (spent 𝓛 En c y token (record { marker = record {}; lifetime = was.lifetime }) (tt, tt)
    (fact_i 𝓤 _ (emp 𝓤) refl)))))
