-- The room for a header is its place, as a machine value and as what it owns. Assumes `Logic`.
--     room_out, room_in      it is taken apart, and made of its place
use Rattle.std.proofs.Common.{◌≡◌, ℕ, List, [], ◌∷◌, refl, sym, ap, ◌∙◌}
use seplogic.Ra.Ura.{Ura}
use mir.Raw.{raw}
use mir.Val.{Val, vstruct, vcons, vnil}
use base.Logic.{ent, emp, id⊢}
use base.Fml.{froom}
use types.Logic.{Logic, sem}
use types.Kit.{Goal, Step, step, Seq, Item, ‵, ◌$◌, drop, use0, rewrite, fsplit, fjoin}
use denote.RattleType.{RattleType}
use denote.Laws.{Is, shows}
use denote.RawPtr.{Ptr, block_ptr, ptr_val, room_for, in_a_block}
use denote.Shadow.{makes_shadow}
use denote.Steps.{peeks}
use denote.Param.Laws.{param_laws}
use denote.Struct.Struct.{Struct}
use denote.Struct.Owning.{shape, to}
use Rattle.std_alloc.proofs.RawLayout.{as_raw, as_written}
use Rattle.std_alloc.proofs.BoxSteps.Form.{Bx, R, τ}
use Rattle.arc_owners.specs.contracts.memory.header_room.HeaderRoom as HeaderRoom
use Rattle.arc_owners.proofs.memory.header_room.HeaderRoom.TheLaws.{lowers}

module _ (E : Bx) where
  abbrev pub Row : RattleType
  Row = HeaderRoom.the_row (R E)

  abbrev Fields : RattleType
  Fields = Struct (shape (HeaderRoom.the_type (R E)))

  abbrev parts : Row.Denot → Fields.Denot
  parts = to (HeaderRoom.the_type (R E))

  abbrev pub word : Ptr → Val
  word p = vstruct (vcons (ptr_val p) vnil)

  word_is : (d : Row.Denot) (vs : List Val) → Is Row d vs → vs ≡ word d.at ∷ []
  word_is d vs is = (lowers (R E) (param_laws 0 E.row E.laws)).val_is d vs is

  fields_made : {M : Type 1} {𝓤 : Ura M} (𝓛 : Logic 𝓤) (d : Row.Denot)
      → ent 𝓤 (emp 𝓤) (sem 𝓛 (Fields.own_val (parts d) (word d.at ∷ [])))
  fields_made 𝓛 d = makes_shadow 𝓛 (Fields.own_val (parts d) (word d.at ∷ []))
      (λ vss. (tt, (tt, tt))) ((ptr_val d.at ∷ [], tt), (refl, (refl, tt)))

module _ (E : Bx) {M : Type 1} {𝓤 : Ura M} {𝓛 : Logic 𝓤} {K : Type 0} {Γ : List (Item 𝓤)}
    {G : Goal 𝓤 𝓛.H} where
  pub room_out : K → (d : (Row E).Denot) (vs : List Val)
      → ((b o : ℕ) → d.at ≡ block_ptr b o → vs ≡ word E (block_ptr b o) ∷ []
      → Seq K 𝓛 (‵ (froom (τ E) b o) ∷ Γ) G) → Seq K 𝓛 (‵ ((Row E).own_val d vs) ∷ Γ) G
  room_out t d vs k = peeks t (Row E) _ (shows 𝓛 (Row E)) d vs (λ is. fsplit t $ drop t $
      in_a_block t d.at (λ p. room_for (raw (τ E)) p) (id⊢ 𝓤 _) (λ b o e.
      as_written t (τ E) b o $ k b o e
      (word_is E d vs is ∙ ap (λ (p : Ptr). word E p ∷ []) e)))

  pub room_in : K → (d : (Row E).Denot) (b o : ℕ) → d.at ≡ block_ptr b o
      → Step K 𝓛 (‵ ((Row E).own_val d (word E (block_ptr b o) ∷ [])) ∷ Γ) G
      (‵ (froom (τ E) b o) ∷ Γ) G
  room_in t d b o e = step (λ s. as_raw t (τ E) b o $
      rewrite t 0 (λ (p : Ptr). ‵ (room_for (raw (τ E)) p)) (sym e) refl $
      use0 𝓛 (‵ ((Fields E).own_val (parts E d) (word E d.at ∷ []))) (fields_made E 𝓛 d) $
      rewrite t 0 (λ (p : Ptr). ‵ ((Fields E).own_val (parts E d) (word E p ∷ []))) e refl $
      fjoin t $ s)
