-- A number is known of nothing. Assumes `Logic`.
use Rattle.std.proofs.Common.{ℕ, [], ◌∷◌, refl}
use base.Logic.{emp}
use contract.Monad.{fact_i}
use types.Kit.{‵, raw, ◌⊛◌, ◌$◌, ◌∵◌, !, qed, by, keep, split, feq_i}
use types.Run.{enter}
use types.ByLocal.{alloc_all, pass_all, free_all, look_at}
use denote.Param.{param}
use denote.RattleType.{RattleType, owns}
use denote.Signature.{types_at}
use denote.Triple.Entry.{alive}
use Rattle.logbook.proofs.Fields.{token}
use Rattle.arc_owners.proofs.Endings.{spends, one_made, spent}
use Rattle.arc_owners.proofs.Markers.{marked}
use Rattle.arc_memory.specs.Pieces.{head_size}
use Rattle.arc_memory.specs.contracts.head_size.HeadSize as HeadSize
use Rattle.arc_memory.specs.contracts.head_size.HeadSize.new as f
use Rattle.arc_memory.proofs.head_size.HeadSize.new.Statement.{statement}
use Rattle.arc_memory.proofs.head_size.HeadSize.new.Code as code

pub new_spec : {M : Type 1} → statement M
new_spec 𝓤 𝓛 𝓜 𝓡 wired X L =
    let En = f.ended X in
    let c = f.clauses X 𝓛 𝓜.mem 𝓡.returns in
    let X' : RattleType = param 0 X in let Row : RattleType = HeadSize.the_row X' in
    spends 𝓛 En c 𝓜 𝓡 tt _ _
    (code.unfolded 𝓤 𝓛.H 𝓜 𝓡 wired (X, tt)) (λ y are.
    qed 𝓛 ((raw (alive 𝓛 En.signature y.0.0 y.0.1) ⊛ ‵ (owns (types_at En.signature.params y.0.0)
    y.0.3 y.0.4)) ∷ raw ((c y.0.0 y.0.3).requires y.1) ∷ []) ∵ keep ! (0 ∷ []) $ split ! $
    keep ! (0 ∷ []) $
    enter ! _ _ _ _ _ $ alloc_all ! (λ l. pass_all ! refl tt $
    one_made ! (refl, (tt, tt), refl, refl, (tt, (tt, tt))) (look_at ! 0 refl) (free_all ! refl) $
    let now : Row.Denot = record { marker = record {}; size = head_size X' } in
    feq_i ! (ℕ × ℕ) (head_size X') (head_size X') refl $ marked X' ! $ keep ! (1 ∷ 0 ∷ []) $
    by ! (spent 𝓛 En c y token now tt (fact_i 𝓤 _ (emp 𝓤) refl))))
