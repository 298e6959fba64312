-- What is lent for good can be had again.
use Rattle.std.proofs.Common.{[], ◌∷◌, refl}
use base.Logic.{emp}
use base.Fml.{fhide}
use types.Kit.{‵, ◌$◌, !, by, keep, use1}
use types.ByLocal.{alloc_all, pass_all, free_all, look_at}
use contract.Monad.{fact_i}
use denote.RattleType.{RattleType}
use denote.Opens.{unhide}
use denote.Param.{param}
use Rattle.arc_owners.specs.memory.LentSlices.{slice_lent}
use Rattle.arc_owners.proofs.Endings.{one_made, spent}
use Rattle.arc_owners.proofs.References.{reads}
use Rattle.arc_block.proofs.StaticSlices.{token, share_made, share_out}
use Rattle.arc_block.specs.contracts.static_slice.StaticShare as StaticShare
use Rattle.arc_block.specs.contracts.static_slice.StaticShare.again as f
use Rattle.arc_block.proofs.static_slice.StaticShare.again.Statement.{statement}
use Rattle.arc_block.proofs.static_slice.StaticShare.again.Code as code

pub again_spec : {M : Type 1} → statement M
again_spec 𝓤 𝓛 𝓜 𝓡 wired T L =
    let R : RattleType = param 0 T in let Row : RattleType = StaticShare.the_row R in
    let En = f.ended T in let c = f.clauses T 𝓛 𝓜.mem 𝓡.returns in
    reads En.signature.outlives Row (λ _. tt) En.signature.result 𝓛 c 𝓜 𝓡 _ _
    (code.unfolded 𝓤 𝓛.H 𝓜 𝓡 wired (T, tt)) (λ y.
    let me = y.0.3.0.now in alloc_all ! (λ l. pass_all ! refl ((tt, tt), tt) $
    use1 𝓛 (‵ (fhide (slice_lent R me.ptr me.items [])))
    (share_out R 𝓛 y.0.0.0 me y.0.3.0.ref_ptr.0 y.0.3.0.ref_ptr.1) $ unhide ! $
    use1 𝓛 (‵ (Row.own_val me (token ∷ []))) (share_made R 𝓛 me) $
    one_made ! (refl, (tt, tt), refl, refl, (tt, (tt, tt))) (look_at ! 0 refl) (free_all ! refl) $
    keep ! (1 ∷ 0 ∷ []) $
    by ! (spent 𝓛 En c y token me (tt, tt) (fact_i 𝓤 _ (emp 𝓤) refl))))
