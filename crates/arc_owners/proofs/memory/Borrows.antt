-- What a `&` has for the lifetime of a lease can be had again, and is had for any lifetime that
-- ends no later. Assumes `Logic`.
use Rattle.std.proofs.Common.{ℕ, [], ◌∷◌, ◌++◌}
use seplogic.Ra.Ura.{Ura}
use base.Logic.{ent, sep}
use base.Fraction.{full_share}
use base.Fml.{Lft, Incl, Incl-trans, Share, Fml, fsep, fbor, flft, fshr_bor}
use contract.BorrowLft.{meet_⊑_left, meet_⊑_right}
use types.Na.{before-Incl, before_lent}
use types.Kit.{‵, ◌$◌, ◌∵◌, !, qed, by, move, use0, use2}
use base.Before.{before}
use types.Logic.{Logic, sem}
use denote.RattleType.{RattleType}
use denote.RawPtr.{Ptr, lies_at}
use denote.Sharing.{ShrLaws, said}
use denote.SharingLaws.{contraction}
use denote.Param.Laws.{Laws}
use denote.Struct.Lending.{Lends, Lends-lies, Lends-first, lent_at, lent_at_shr_laws}
use Rattle.logbook.proofs.Fields.{lends_twice}
use Rattle.arc_owners.proofs.memory.Twice.{twice_shr}

module _ (T : RattleType) (L : Laws T) (p : Ptr) (x : T.Denot) (a : ℕ) where
  abbrev pub loan : Fml
  loan = lent_at T p x (a ∷ [])

  pub loan_twice : {M : Type 1} {𝓤 : Ura M} (𝓛 : Logic 𝓤)
      → ent 𝓤 (sem 𝓛 loan) (sep 𝓤 (sem 𝓛 loan) (sem 𝓛 loan))
  loan_twice 𝓛 = contraction 𝓛 (lent_at T p x) (lent_at_shr_laws T L.shr_laws p x) (a ∷ [])

  pub loan_lends : {M : Type 1} {𝓤 : Ura M} (𝓛 : Logic 𝓤) (λ' : Lft) → Lends 𝓛 loan (said loan) λ'
  loan_lends 𝓛 λ' = lends_twice 𝓛 loan (loan_twice 𝓛) λ'

  pub loan_shr : ShrLaws (said loan)
  loan_shr = twice_shr loan (λ M 𝓤 𝓛. loan_twice 𝓛)

  -- whoever has shares of the lifetime for as long as κ has it for κ
  pub loan_seen : {M : Type 1} {𝓤 : Ura M} (𝓛 : Logic 𝓤) (κ : Lft)
      → ent 𝓤 (sep 𝓤 (sem 𝓛 loan) (sem 𝓛 (fshr_bor κ (λ q. flft (a ∷ []) q))))
      (sem 𝓛 (lent_at T p x κ))
  loan_seen {M} {𝓤} 𝓛 κ = let α : Lft = a ∷ [] in
      qed 𝓛 (‵ loan ∷ ‵ (fshr_bor κ (λ q. flft α q)) ∷ [])
      ∵ use0 𝓛 (‵ (before (α ++ κ) α)) (before-Incl 𝓛 (α ++ κ) α (meet_⊑_left α κ)) $
      move ! (2 ∷ 0 ∷ []) $ use2 𝓛 (‵ (before κ α)) (before_lent 𝓛 κ α α) $
      by ! ((lent_at_shr_laws T L.shr_laws p x).mono M 𝓤 𝓛 κ α)

-- what a box owns, lent for the lifetime a, becomes what a `&` to its value has, by tokens of that
-- lifetime and of the value's type
pub box_loan : (T : RattleType) (L : Laws T) {M : Type 1} {𝓤 : Ura M} (𝓛 : Logic 𝓤) (at : Ptr)
    (x : T.Denot) (D : Fml) (a : ℕ) (s : Share) (τ : Lft) (p : Share) → Incl τ T.lives
    → ent 𝓤 (sep 𝓤 (sem 𝓛 (fbor (a ∷ []) (fsep (lies_at T full_share at x) D)))
    (sep 𝓤 (sem 𝓛 (flft (a ∷ []) s)) (sem 𝓛 (flft τ p))))
    (𝓛.H.⇛ (sep 𝓤 (sem 𝓛 (loan T L at x a))
    (sep 𝓤 (sem 𝓛 (flft (a ∷ []) s)) (sem 𝓛 (flft τ p)))))
box_loan T L 𝓛 at x D a s τ p inc = let α : Lft = a ∷ [] in
    Lends-first 𝓛 (lies_at T full_share at x) D (lent_at T at x) T.lives
    (Lends-lies 𝓛 T T.lives at x (L.shares 𝓛 x)) α ((α, s) ∷ (τ, p) ∷ [])
    (Incl-trans (meet_⊑_right α τ) inc) (meet_⊑_left α τ)
