-- What is lent for good is had for any lifetime, and a place without items is lent for good.
-- Assumes `Logic`.
use Rattle.std.proofs.Common.{◌≡◌, ℕ, List, [], ◌∷◌, refl, sym, subst}
use seplogic.Ra.Ura.{Ura}
use mir.Val.{Val, vstruct, vcons, vnil}
use base.Logic.{ent, id⊢, snd∗}
use base.Fml.{Lft, Fml, fhide}
use contract.BorrowLft.{⊑_static}
use types.Logic.{Logic, sem}
use types.Kit.{‵, ◌$◌, ◌∵◌, !, qed, fjoin, use0, done}
use denote.Memory.{hidden_shr}
use denote.RattleType.{RowLaws, RattleType}
use denote.RawPtr.{Ptr}
use denote.Shadow.{makes_shadow}
use denote.SharingLaws.{shortens}
use denote.Struct.Owning.{shape, to}
use denote.Struct.Struct.{Struct}
use Rattle.arc_owners.specs.memory.LentSlices.{slice_lent}
use Rattle.arc_owners.proofs.LentSlices.{slice_laws}
use Rattle.arc_block.specs.contracts.static_slice.StaticShare as StaticShare

pub kept_for : (R : RattleType) (L : RowLaws R) (p : Ptr) (xs : List R.Denot) {M : Type 1}
    {𝓤 : Ura M} (𝓛 : Logic 𝓤) (κ : Lft)
    → ent 𝓤 (sem 𝓛 (slice_lent R p xs [])) (sem 𝓛 (slice_lent R p xs κ))
kept_for R L p xs 𝓛 κ = shortens 𝓛 (slice_lent R p xs) (slice_laws R L p xs) [] κ (⊑_static κ)

-- where no items lie, none are lent for good
pub none_lent : (R : RattleType) (p : Ptr) (xs : List R.Denot) (κ : Lft) {M : Type 1} {𝓤 : Ura M}
    (𝓛 : Logic 𝓤) → xs ≡ []
    → ent 𝓤 (sem 𝓛 (slice_lent R p xs κ)) (sem 𝓛 (slice_lent R p [] []))
none_lent R p xs κ {𝓤 = 𝓤} 𝓛 is =
    subst (λ (ys : List R.Denot).
    ent 𝓤 (sem 𝓛 (slice_lent R p ys κ)) (sem 𝓛 (slice_lent R p [] []))) (sym is)
    (id⊢ 𝓤 (sem 𝓛 (slice_lent R p [] [])))

-- the one machine value of what is lent for good: it has no bytes
abbrev pub token : Val
token = vstruct (vcons (vstruct vnil) vnil)

pub share_made : (R : RattleType) {M : Type 1} {𝓤 : Ura M} (𝓛 : Logic 𝓤)
    (d : (StaticShare.the_row R).Denot)
    → ent 𝓤 (sem 𝓛 (slice_lent R d.ptr d.items [])) (sem 𝓛 ((StaticShare.the_row R).own_val d
    (token ∷ [])))
share_made R 𝓛 d = let fields : Fml = (Struct (shape (StaticShare.the_type R))).own_val
    (to (StaticShare.the_type R) d) (token ∷ []) in
    qed 𝓛 (‵ (slice_lent R d.ptr d.items []) ∷ []) ∵
    use0 𝓛 (‵ fields) (makes_shadow 𝓛 fields (λ vss. (tt, ((λ uss. (tt, tt)), tt)))
    ((vstruct vnil ∷ [], tt), (refl, ((tt, (refl, tt)), tt)))) $ fjoin ! $ done !

-- what a `&` to it holds
pub share_out : (R : RattleType) {M : Type 1} {𝓤 : Ura M} (𝓛 : Logic 𝓤) (κ : Lft)
    (d : (StaticShare.the_row R).Denot) (b o : ℕ)
    → ent 𝓤 (sem 𝓛 (hidden_shr (StaticShare.the_row R) κ d b o))
    (sem 𝓛 (fhide (slice_lent R d.ptr d.items [])))
share_out R {𝓤 = 𝓤} 𝓛 κ d b o =
    let fields : Fml = hidden_shr (Struct (shape (StaticShare.the_type R))) κ
    (to (StaticShare.the_type R) d) b o in
    snd∗ 𝓤 (sem 𝓛 fields) (sem 𝓛 (fhide (slice_lent R d.ptr d.items [])))
