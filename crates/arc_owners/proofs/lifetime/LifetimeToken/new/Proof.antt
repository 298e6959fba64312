-- `new` makes a lifetime, and all of its token.
use Rattle.std.proofs.Common.{[], ◌∷◌, refl}
use base.Fraction.{full_share}
use base.Logic.{emp}
use base.Fml.{ftrue}
use types.Kit.{‵, raw, ◌⊛◌, ◌$◌, ◌∵◌, !, qed, by, keep, split}
use types.Run.{enter}
use types.Tokens.{lft_new}
use types.ByLocal.{alloc_all, pass_all, free_all, look_at}
use contract.Monad.{fact_i}
use denote.Builtin.{unit}
use denote.RattleType.{owns}
use denote.Signature.{types_at}
use Rattle.logbook.proofs.Fields.{token}
use Rattle.arc_owners.proofs.count.Markers.{marked}
use Rattle.arc_owners.proofs.memory.Endings.{spends, one_made, spent}
use Rattle.arc_owners.specs.contracts.lifetime.LifetimeToken.new as f
use Rattle.arc_owners.proofs.lifetime.LifetimeToken.new.Statement.{statement}
use Rattle.arc_owners.proofs.lifetime.LifetimeToken.new.Code as code

pub new_spec : {M : Type 1} → statement M
new_spec 𝓤 𝓛 𝓜 𝓡 wired =
    let En = f.ended in let c = f.clauses 𝓛 𝓜.mem 𝓡.returns in
    spends 𝓛 En c 𝓜 𝓡 tt _ _ (code.unfolded 𝓤 𝓛.H 𝓜 𝓡 wired) (λ y are.
    qed 𝓛 ((‵ ftrue ⊛ ‵ (owns (types_at En.signature.params y.0.0) y.0.3 y.0.4)) ∷ raw
    ((c y.0.0 y.0.3).requires y.1) ∷ []) ∵ keep ! (0 ∷ []) $ split ! $ keep ! (0 ∷ []) $
    enter ! _ _ _ _ _ $ alloc_all ! (λ l. pass_all ! refl tt $ lft_new ! tt (λ α. marked unit ! $
    one_made ! (refl, (tt, tt), refl, refl, (tt, (tt, tt))) (look_at ! 0 refl) (free_all ! refl) $
    keep ! (1 ∷ 0 ∷ []) $
    by ! (spent 𝓛 En c y token
    (record { marker = record {}; lifetime = α; share = full_share }) tt
    (fact_i 𝓤 _ (emp 𝓤) refl)))))
