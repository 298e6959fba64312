-- What is lent for the lifetime of a lease comes back to whoever ends it: the last owner, or a sole
-- one. Assumes `Logic`.
use Rattle.std.proofs.Common.{Bool, true, false, [], ◌∷◌}
use seplogic.Ra.Ura.{Ura}
use base.Logic.{upd, via, never_e, upd_i}
use base.Fml.{Fml, fdead, flent, finv}
use types.Logic.{Logic}
use types.Keyed.{ticket, ticket_once}
use types.Tokens.{lft_end, lent_back}
use types.Kit.{‵, ◌⊛◌, later, ◌$◌, ◌∵◌, !, qed, by, move, split, fsplit, fpick, fpack, frame}
use types.Kit.{assume, suffices, updating, await, now, done, use1, use2}
use Rattle.arc_owners.specs.count.Invariant.{Lease, kept_if, kept_for, end_tokens}
use Rattle.arc_owners.proofs.count.Signs.{signs}

module _ {M : Type 1} {𝓤 : Ura M} (𝓛 : Logic 𝓤) (P : Fml) (l : Lease) where
  open 𝓛 use {H}
  open signs 𝓛 use {Pr, ◌⊢◌, ◌∗◌, ⟦◌⟧}

  infix 26 ◌⊢◌
  infixr 35 ◌∗◌
  abbrev K : Fml
  K = kept_for P l

  abbrev LentBox : Fml
  LentBox = flent (l.lifetime ∷ []) P

  -- the right to have it back is laid behind the ticket
  pub keeps : ⟦ LentBox ⟧ ⊢ H.⇛ ⟦ finv K ⟧
  keeps = qed 𝓛 (‵ LentBox ∷ []) ∵ fpack ! Bool (kept_if P l) true $ by ! (𝓛.invs.inv_new K)

  swaps : (y : Bool) → ⟦ kept_if P l y ⟧ ∗ ⟦ ticket l.key 0 ⟧ ⊢ upd 𝓤 (⟦ K ⟧ ∗ ⟦ LentBox ⟧)
  swaps true = qed 𝓛 (‵ LentBox ∷ ‵ (ticket l.key 0) ∷ []) ∵
      suffices ! _ (upd_i 𝓤 (⟦ K ⟧ ∗ ⟦ LentBox ⟧)) $ move ! (1 ∷ []) $
      fpack ! Bool (kept_if P l) false $ done !
  swaps false = via 𝓤 (base.Logic.never 𝓤) (ticket_once 𝓛 l.key 0)
      (never_e 𝓤 (upd 𝓤 (⟦ K ⟧ ∗ ⟦ LentBox ⟧)))

  redeems : ⟦ finv K ⟧ ∗ ⟦ ticket l.key 0 ⟧ ⊢ H.⇛ ⟦ LentBox ⟧
  redeems = qed 𝓛 (‵ (finv K) ∷ ‵ (ticket l.key 0) ∷ []) ∵
      suffices ! _ (𝓛.invs.inv_acc K ⟦ LentBox ⟧) $ frame ! $ assume ! (‵ K) $
      fpick ! (λ y. by ! (swaps y))

  -- whoever ends the lifetime has it back, and that the lifetime has ended
  pub returns : ⟦ finv K ⟧ ∗ ⟦ end_tokens l true ⟧ ⊢ H.⇛ (⟦ P ⟧ ∗ ⟦ fdead (l.lifetime ∷ []) ⟧)
  returns = qed 𝓛 (‵ (finv K) ∷ ‵ (end_tokens l true) ∷ []) ∵ updating ! $ move ! (1 ∷ []) $
      fsplit ! $ lft_end ! tt $
      use1 𝓛 (‵ (fdead (l.lifetime ∷ [])) ⊛ ‵ (fdead (l.lifetime ∷ [])))
      (𝓛.lfts.dead_dup (l.lifetime ∷ [])) $ split ! $
      -- [the end, twice; the ticket; what is kept]
      move ! (3 ∷ 2 ∷ []) $ use2 𝓛 (later (‵ LentBox)) redeems $ await ! tt $ move ! (1 ∷ 0 ∷ []) $
      lent_back ! tt $ now ! $ done !
