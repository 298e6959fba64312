-- What a `&` to an owner has of its lease: shares of the lifetime. Assumes `Logic`.
use Rattle.std.proofs.Common.{◌≡◌, ℕ, Bool, true, [], ◌∷◌, refl}
use seplogic.Ra.Ura.{Ura}
use base.Logic.{ent, id⊢}
use base.Fml.{Lft, fhide, flft, fshr_bor}
use types.Logic.{Logic, sem}
use types.Kit.{‵, ◌⊛◌, ◌$◌, ◌∵◌, !, qed, done, drop, split, fsplit, rewrite, use1}
use denote.Memory.{hidden_shr}
use denote.Opens.{unhide}
use denote.RattleType.{RattleType}
use Rattle.logbook.proofs.Fields.{Token}
use Rattle.arc_owners.specs.count.Invariant.{right_shares, tokens}
use Rattle.arc_owners.specs.contracts.count.word.OwnerToken as OwnerToken

pub shares_seen : (Q : RattleType) {M : Type 1} {𝓤 : Ura M} (𝓛 : Logic 𝓤) (κ : Lft)
    (own : (OwnerToken.the_row Q).Denot) (b o n : ℕ) → own.held ≡ true → own.lease.is_lent ≡ true
    → own.lease.lifetime ≡ n
    → ent 𝓤 (sem 𝓛 (hidden_shr (OwnerToken.the_row Q) κ own b o))
    (sem 𝓛 (fshr_bor κ (λ q. flft (n ∷ []) q)))
shares_seen Q {𝓤 = 𝓤} 𝓛 κ own b o n held is_lent lifetime =
    qed 𝓛 (‵ (hidden_shr (OwnerToken.the_row Q) κ own b o) ∷ []) ∵
    use1 𝓛 (‵ (hidden_shr (Token Q) κ (own.marker, tt) b o) ⊛ ‵
    (fhide (right_shares own.held own.block own.owner own.lease own.born κ))) (id⊢ 𝓤 _) $ split ! $
    drop ! $ unhide ! $
    rewrite ! 0 (λ (k : Bool). ‵ (right_shares k own.block own.owner own.lease own.born κ)) held
    refl $ fsplit ! $ drop ! $ fsplit ! $ drop ! $
    rewrite ! 0 (λ (k : Bool). ‵ (tokens k own.lease κ)) is_lent refl $
    rewrite ! 0 (λ (k : ℕ). ‵ (fshr_bor κ (λ q. flft (k ∷ []) q))) lifetime refl $ done !
