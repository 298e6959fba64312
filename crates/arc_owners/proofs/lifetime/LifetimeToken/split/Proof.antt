-- `split` halves the token of a lifetime.
use Rattle.std.proofs.Common.{ℕ, [], ◌∷◌, ◌++◌, refl}
use base.Logic.{emp}
use types.Kit.{‵, raw, ◌⊛◌, ◌$◌, ◌∵◌, !, qed, by, move, keep, drop, split, fsplit}
use types.Kit.{use1}
use base.Share
use base.Fml.{Share, ftrue, flft}
use types.ByLocal.{alloc_all, pass_all, free_all, look_at}
use contract.Monad.{fact_i}
use denote.Builtin.{unit}
use denote.RattleType.{RattleType, owns}
use denote.Signature.{types_at}
use Rattle.logbook.proofs.Fields.{token, token_told}
use Rattle.arc_owners.proofs.count.Markers.{marked, told}
use Rattle.arc_owners.proofs.memory.Endings.{spends, enters, two_made, both_spent}
use Rattle.arc_owners.specs.contracts.lifetime.LifetimeToken as LifetimeToken
use Rattle.arc_owners.specs.contracts.lifetime.LifetimeToken.split as f
use Rattle.arc_owners.proofs.lifetime.LifetimeToken.split.Statement.{statement}
use Rattle.arc_owners.proofs.lifetime.LifetimeToken.split.Code as code

pub split_spec : {M : Type 1} → statement M
split_spec 𝓤 𝓛 𝓜 𝓡 wired =
    let En = f.ended in let c = f.clauses 𝓛 𝓜.mem 𝓡.returns in
    let Tok : RattleType = LifetimeToken.the_row in
    spends 𝓛 En c 𝓜 𝓡 (λ κs x w. tt, tt) f.Key.name code.function
    (code.unfolded 𝓤 𝓛.H 𝓜 𝓡 wired) (λ y are.
    let was : Tok.Denot = y.0.3.0 in let n : ℕ = was.lifetime in let q : Share = was.share in
    qed 𝓛 ((‵ ftrue ⊛ ‵ (owns (types_at En.signature.params y.0.0) y.0.3 y.0.4)) ∷ raw
    ((c y.0.0 y.0.3).requires y.1) ∷ []) ∵
    keep ! (0 ∷ []) $ split ! $ move ! (1 ∷ []) $ fsplit ! $ fsplit ! $ drop ! $
    -- [the token; no more parameters; nothing]
    use1 𝓛 (‵ (flft (n ∷ []) (Share.left q)) ⊛ ‵ (flft (n ∷ []) (Share.right q)))
    (𝓛.lfts.lft_split (n ∷ []) q) $ split ! $ marked unit ! $ move ! (1 ∷ []) $ marked unit ! $
    let first : Tok.Denot = record { marker = record {}; lifetime = n; share = Share.left q } in
    let second : Tok.Denot = record { marker = record {}; lifetime = n; share = Share.right q }
    in
    enters ! _ _ _ _ (token ∷ []) (λ j. token_told unit y.0.4.0 are.0.0 j ++ []) $
    alloc_all ! (λ l. pass_all ! refl ((tt, (tt, tt)), tt) $
    two_made ! (refl, (tt, tt), refl, refl, (tt, (tt, tt)))
    (refl, (tt, tt), refl, refl, (tt, (tt, tt)))
    (refl, refl, refl, (tt, ((tt, tt), ((tt, tt), tt)))) (look_at ! 0 refl) (free_all ! refl) $
    keep ! (1 ∷ 0 ∷ 3 ∷ []) $
    by ! (both_spent 𝓛 En c y Tok Tok first second token token (first, second) (tt, tt) refl
    (told 𝓤 (refl, refl) (fact_i 𝓤 _ (emp 𝓤) (refl, refl)) 𝓛))))
