-- The size is one word. Assumes `Logic`.
use Rattle.std.proofs.Common.{ℕ, ◌^◌, List, [], ◌∷◌, refl, w64}
use mir.Val.{Val, vint}
use base.Logic.{emp}
use prog.Memory.{size, capped}
use prog.Capped.{capped_fits}
use contract.Monad.{fact_i}
use types.Kit.{‵, raw, ◌⊛◌, ◌$◌, ◌∵◌, !, qed, by, keep, split, fjoin, feq_i, flt_i}
use types.Run.{size_word, of_opd, returns, enter}
use types.ByLocal.{alloc_all, pass_all, free_all, look_at, sets}
use denote.Param.{layout}
use denote.RattleType.{owns}
use denote.Signature.{types_at}
use denote.Triple.Entry.{alive}
use Rattle.arc_owners.proofs.memory.Endings.{spends, spent}
use Rattle.arc_owners.specs.contracts.sizes.type_bytes as f
use Rattle.arc_owners.proofs.sizes.type_bytes.Statement.{statement}
use Rattle.arc_owners.proofs.sizes.type_bytes.Code as code

pub type_bytes_spec : {M : Type 1} → statement M
type_bytes_spec 𝓤 𝓛 𝓜 𝓡 wired X L =
    let En = f.ended X in
    let c = f.clauses X 𝓛 𝓜.mem 𝓡.returns in
    let s : ℕ = capped (size (layout X)) in
    spends 𝓛 En c 𝓜 𝓡 tt _ _
    (code.unfolded 𝓤 𝓛.H 𝓜 𝓡 wired (X, tt)) (λ y are.
    qed 𝓛 ((raw (alive 𝓛 En.signature y.0.0 y.0.1) ⊛ ‵ (owns (types_at En.signature.params y.0.0)
    y.0.3 y.0.4)) ∷ raw ((c y.0.0 y.0.3).requires y.1) ∷ []) ∵ keep ! (0 ∷ []) $ split ! $
    keep ! (0 ∷ []) $
    enter ! _ _ _ _ _ $ alloc_all ! (λ l. pass_all ! refl tt $
    sets ! (of_opd ! (size_word !)) refl (tt, record { fits = capped_fits (size (layout X)) }) $
    returns ! (look_at ! 0 refl) $ free_all ! refl $
    flt_i ! s (2 ^ 64) (capped_fits (size (layout X))) $ feq_i ! (List Val) (vint w64 s ∷ [])
    (vint w64 s ∷ []) refl $ fjoin ! $ keep ! (1 ∷ 0 ∷ []) $
    by ! (spent 𝓛 En c y (vint w64 s) s tt (fact_i 𝓤 _ (emp 𝓤) refl))))
