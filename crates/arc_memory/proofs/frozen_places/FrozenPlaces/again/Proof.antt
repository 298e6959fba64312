-- What a reader has of a frozen range can be had again.
use Rattle.std.proofs.Common.{[], ◌∷◌, refl}
use base.Logic.{emp, id⊢}
use base.Fml.{Fml, fhide}
use types.Kit.{‵, ◌⊛◌, ◌$◌, !, by, keep, drop, split, use1}
use types.ByLocal.{alloc_all, pass_all, free_all, look_at}
use contract.Monad.{fact_i}
use denote.RattleType.{RattleType}
use denote.Memory.{hidden_shr}
use denote.Opens.{unhide}
use denote.Param.{param}
use Rattle.logbook.proofs.Fields.{token, Token}
use Rattle.arc_owners.proofs.Endings.{one_made, spent}
use Rattle.arc_owners.proofs.Markers.{marked}
use Rattle.arc_owners.proofs.References.{reads}
use Rattle.arc_memory.specs.LentMemory.{frozen_owns}
use Rattle.arc_memory.specs.contracts.frozen_places.FrozenPlaces as FrozenPlaces
use Rattle.arc_memory.specs.contracts.frozen_places.FrozenPlaces.again as f
use Rattle.arc_memory.proofs.frozen_places.FrozenPlaces.again.Statement.{statement}
use Rattle.arc_memory.proofs.frozen_places.FrozenPlaces.again.Code as code

pub again_spec : {M : Type 1} → statement M
again_spec 𝓤 𝓛 𝓜 𝓡 wired T L =
    let R : RattleType = param 0 T in let Row : RattleType = FrozenPlaces.the_row R in
    let En = f.ended T in let c = f.clauses T 𝓛 𝓜.mem 𝓡.returns in
    reads En.signature.outlives Row (λ _. tt) En.signature.result 𝓛 c 𝓜 𝓡 _ _
    (code.unfolded 𝓤 𝓛.H 𝓜 𝓡 wired (T, tt)) (λ y.
    let me : Row.Denot = y.0.3.0.now in let b = y.0.3.0.ref_ptr.0 in let o = y.0.3.0.ref_ptr.1 in
    let Had : Fml = frozen_owns R me.memory me.start me.items in
    alloc_all ! (λ l. pass_all ! refl ((tt, tt), tt) $
    use1 𝓛 (‵ (hidden_shr (Token R) y.0.0.0 (me.marker, tt) b o) ⊛ ‵ (fhide Had))
    (id⊢ 𝓤 _) $ split ! $ drop ! $ unhide ! $
    one_made ! (refl, (tt, tt), refl, refl, (tt, (tt, tt))) (look_at ! 0 refl) (free_all ! refl) $
    marked R ! $ keep ! (1 ∷ 0 ∷ []) $
    by ! (spent 𝓛 En c y token (record {
      marker = record {};
      memory = me.memory;
      start =
          me.start;
      items = me.items;
      inside = me.inside;
    }) (tt, tt) (fact_i 𝓤 _ (emp 𝓤) (refl, refl, refl)))))
