-- `take_lifetime` parts an owner's right from its share of the lifetime.
use Rattle.std.proofs.Common.{◌≡◌, ℕ, Bool, true, [], ◌∷◌, ◌++◌, refl}
use contract.BorrowLft.{◌⊑◌}
use denote.Param.{param}
use base.Logic.{emp}
use base.Fml.{ftrue, fsep, flft}
use types.Kit.{‵, raw, ◌⊛◌, ◌$◌, ◌∵◌, !, qed, by, move, keep, drop, split, fsplit, fsplit3, fjoin}
use types.Kit.{fpick, fpack, rewrite}
use types.ByLocal.{alloc_all, pass_all, free_all, look_at}
use contract.Monad.{fact, fact_i}
use denote.Builtin.{unit}
use denote.RattleType.{RattleType, owns}
use denote.Signature.{types_at}
use denote.Steps.{nothing, heard}
use Rattle.logbook.proofs.Fields.{token, token_told}
use Rattle.arc_owners.specs.count.Invariant.{right_owns, staked, IsStake}
use Rattle.arc_owners.proofs.count.Markers.{marked, told}
use Rattle.arc_owners.proofs.memory.Endings.{spends, enters, two_made, both_spent}
use Rattle.arc_owners.specs.contracts.lifetime.LifetimeToken as LifetimeToken
use Rattle.arc_owners.specs.contracts.count.word.OwnerToken as OwnerToken
use Rattle.arc_owners.specs.contracts.count.owner_without_lifetime.OwnerWithoutLifetime as OwnerWithoutLifetime
use Rattle.arc_owners.specs.contracts.count.word.OwnerToken.take_lifetime as f
use Rattle.arc_owners.proofs.count.word.OwnerToken.take_lifetime.Statement.{statement}
use Rattle.arc_owners.proofs.count.word.OwnerToken.take_lifetime.Code as code

pub take_lifetime_spec : {M : Type 1} → statement M
take_lifetime_spec 𝓤 𝓛 𝓜 𝓡 wired T L =
    let R : RattleType = param 0 T in let Own : RattleType = OwnerToken.the_row R in
    let Rest : RattleType = OwnerWithoutLifetime.the_row R in
    let Tok : RattleType = LifetimeToken.the_row in
    let En = f.ended T in let c = f.clauses T 𝓛 𝓜.mem 𝓡.returns in
    spends 𝓛 En c 𝓜 𝓡 (λ κs x w. tt, tt) _ _ (code.unfolded 𝓤 𝓛.H 𝓜 𝓡 wired (T, tt)) (λ y are.
    let κs = y.0.0 in let qs = y.0.1 in let own : Own.Denot = y.0.3.0 in let vss = y.0.4 in
    let t = own.block in let l = own.lease in let n : ℕ = l.lifetime in
    let Asked : Type 0 = (own.held ≡ true) × (l.is_lent ≡ true) in
    qed 𝓛 ((‵ (fsep (flft κs.0 qs.0) ftrue) ⊛ ‵ (owns (types_at En.signature.params κs) y.0.3
    vss)) ∷ (raw (fact 𝓤 (κs.0 ⊑ T.lives)) ⊛ raw (fact 𝓤 Asked)) ∷ []) ∵
    move ! (1 ∷ []) $ split ! $ drop ! $ heard ! Asked (λ asked. split ! $ move ! (1 ∷ []) $
    fsplit ! $ fsplit ! $ drop ! $
    -- [the right; no more parameters; the tokens]
    rewrite ! 0 (λ (k : Bool). ‵ (right_owns k t own.owner l own.born)) asked.0 refl $ fsplit3 ! $
    move ! (2 ∷ []) $ rewrite ! 0 (λ (k : Bool). ‵ (staked k l)) asked.1 refl $
    fpick ! (λ e. fpick ! (λ counts.
    -- [the share of the lifetime; the invariant; the right; no more parameters; the tokens]
    nothing ! $ fpack ! (IsStake e) (λ _. ftrue) counts $ move ! (3 ∷ 0 ∷ []) $ fjoin ! $
    move ! (2 ∷ 0 ∷ []) $ fjoin ! $ marked R ! $ move ! (1 ∷ []) $ marked unit ! $
    let rest : Rest.Denot = record {
      marker = record {};
      block = t;
      owner = own.owner;
      lease = l;
      born = own.born;
      share = e;
    } in
    let share : Tok.Denot = record { marker = record {}; lifetime = n; share = e } in
    enters ! _ _ _ _ (token ∷ []) (λ j. token_told R vss.0 are.0.0 j ++ []) $
    alloc_all ! (λ l. pass_all ! refl ((tt, (tt, tt)), tt) $
    two_made ! (refl, (tt, tt), refl, refl, (tt, (tt, tt)))
    (refl, (tt, tt), refl, refl, (tt, (tt, tt)))
    (refl, refl, refl, (tt, ((tt, tt), ((tt, tt), tt)))) (look_at ! 0 refl) (free_all ! refl) $
    keep ! (1 ∷ 0 ∷ 3 ∷ []) $
    by ! (both_spent 𝓛 En c y Rest Tok rest share token token (rest, share) (tt, tt) refl
    (told 𝓤 (refl, refl, refl, refl) (fact_i 𝓤 _ (emp 𝓤) (refl, refl)) 𝓛)))))))
