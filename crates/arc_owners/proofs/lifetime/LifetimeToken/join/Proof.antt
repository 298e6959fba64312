-- `join` puts two halves of a lifetime's token together.
use Rattle.std.proofs.Common.{◌≡◌, ℕ, [], ◌∷◌, ◌++◌, refl}
use base.Logic.{emp}
use types.Kit.{‵, raw, ◌⊛◌, ◌$◌, ◌∵◌, !, qed, by, move, keep, drop, split, fsplit, use2, rewrite}
use types.Run.{stop, fld}
use types.Part.{sub, whole}
use base.Share
use base.Fml.{Share, ftrue, flft}
use types.ByLocal.{alloc_all, pass_all, free_all, look_at, get_in}
use contract.Monad.{fact, fact_i}
use denote.Builtin.{unit}
use denote.RattleType.{RattleType, owns}
use denote.Signature.{types_at}
use denote.Steps.{heard}
use Rattle.logbook.proofs.Fields.{token, token_told}
use Rattle.arc_owners.proofs.count.Markers.{marked}
use Rattle.arc_owners.proofs.memory.Endings.{spends, enters, one_moved, spent}
use Rattle.arc_owners.specs.contracts.lifetime.LifetimeToken as LifetimeToken
use Rattle.arc_owners.specs.contracts.lifetime.LifetimeToken.join as f
use Rattle.arc_owners.proofs.lifetime.LifetimeToken.join.Statement.{statement}
use Rattle.arc_owners.proofs.lifetime.LifetimeToken.join.Code as code

pub join_spec : {M : Type 1} → statement M
join_spec 𝓤 𝓛 𝓜 𝓡 wired =
    let En = f.ended in let c = f.clauses 𝓛 𝓜.mem 𝓡.returns in
    let Tok : RattleType = LifetimeToken.the_row in
    spends 𝓛 En c 𝓜 𝓡 (λ κs x w. tt, (λ κs x w. tt, tt)) _ _
    (code.unfolded 𝓤 𝓛.H 𝓜 𝓡 wired) (λ y are.
    let κs = y.0.0 in let me : Tok.Denot = y.0.3.0 in let other : Tok.Denot = y.0.3.1.0 in
    let vss = y.0.4 in let q : Share = y.1 in let n : ℕ = me.lifetime in
    let One : Type 0 = other.lifetime ≡ n in let Halves : Type 0 = (me.share ≡ Share.left q)
    × (other.share ≡ Share.right q) in
    qed 𝓛 ((‵ ftrue ⊛ ‵ (owns (types_at En.signature.params κs) y.0.3 vss)) ∷ (raw (fact 𝓤 One) ⊛
    raw (fact 𝓤 Halves)) ∷ []) ∵
    move ! (1 ∷ []) $ split ! $
    heard ! One (λ one. heard ! Halves (λ halves. split ! $ move ! (1 ∷ []) $ fsplit ! $
    fsplit ! $ drop ! $ rewrite ! 0 (λ (p : Share). ‵ (flft (n ∷ []) p)) halves.0 refl $
    move ! (1 ∷ []) $
    fsplit ! $ fsplit ! $ drop ! $ rewrite ! 0 (λ (k : ℕ × Share). ‵ (flft (k.0 ∷ []) k.1))
    (λ i. (one i, halves.1 i)) refl $ move ! (2 ∷ 0 ∷ []) $
    use2 𝓛 (‵ (flft (n ∷ []) q)) (𝓛.lfts.lft_join (n ∷ []) q) $ marked unit ! $
    -- [the token; no more parameters; nothing]
    let now : Tok.Denot = record { marker = record {}; lifetime = n; share = q } in
    enters ! _ _ _ _ (token ∷ token ∷ []) (λ j. token_told unit vss.0 are.0.0 j
    ++ (token_told unit vss.1.0 are.1.0.0 j ++ [])) $
    alloc_all ! (λ l. pass_all ! refl ((tt, (tt, tt)), ((tt, (tt, tt)), tt)) $
    one_moved ! (get_in ! (fld ! refl (stop !)) (sub ! 0 refl (whole !)))
    (refl, (tt, tt), refl, refl, (tt, (tt, tt))) (look_at ! 0 refl) (free_all ! refl) $
    keep ! (2 ∷ 0 ∷ []) $
    by ! (spent 𝓛 En c y token now (tt, (tt, tt)) (fact_i 𝓤 _ (emp 𝓤) (refl, refl)))))))
