-- A `&` to a share of a lifetime has shares of it, for as long as it lasts. Assumes `Logic`.
use Rattle.std.proofs.Common.{[], ◌∷◌}
use base.Fml.{flft, fbor}
use types.Logic.{lfts}
use types.Kit.{‵, raw, ◌$◌, ◌∵◌, !, qed, updating, now, done}
use types.Tokens.{bor_fracture}
use denote.Builtin.{unit}
use denote.SharingLaws.{one_shr_laws}
use denote.Param.Shared.{copy_shared}
use denote.Struct.Laws.{field_copy}
use denote.Struct.Lending.{of_Lends}
use Rattle.core.specs.contracts.marker.PhantomData as marker
use Rattle.arc_owners.specs.contracts.lifetime.LifetimeToken as C
use Rattle.arc_owners.proofs.lifetime.LifetimeToken.TheLaw.Statement.{statement}

pub shares : statement
shares = of_Lends C.struct (C.the_codes (marker.the_row unit).coded) C.the_heap C.the_lent
    (λ d p. one_shr_laws (λ q. flft (d.lifetime ∷ []) q))
    (copy_shared (marker.the_field unit) (field_copy (marker.the_type unit) tt), tt)
    (λ M 𝓤 𝓛 d p κ ts inc sp. qed 𝓛 (‵ (fbor κ (flft (d.lifetime ∷ []) d.share)) ∷ raw
    (lfts 𝓛 ts) ∷ []) ∵ updating ! $ bor_fracture ! tt (λ q. flft (d.lifetime ∷ []) q) d.share $
    now ! $ done !)
