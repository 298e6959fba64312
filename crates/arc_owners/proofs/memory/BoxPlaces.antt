-- What the place of a box owns is what lies there, with the right to free it. Assumes `Logic`.
--     place_out, place_in      it is taken apart, and made of these
use Rattle.std.proofs.Common.{◌≡◌, ℕ, ◌+◌, List, [], ◌∷◌, refl, sym, ap, ◌∙◌}
use seplogic.Ra.Ura.{Ura}
use mir.Raw.{raw as bare}
use mir.Val.{Val, vstruct, vcons, vnil}
use base.Fraction.{full_share}
use base.Logic.{ent, sep, emp, never, fst∗}
use base.Fml.{Lft, Fml}
use types.Logic.{Logic, sem}
use types.Kit.{Goal, Step, step, Seq, Item, ‵, ◌$◌, ◌∵◌, !, qed, keep, drop, done, use0, rewrite}
use types.Kit.{fsplit, fjoin}
use denote.RattleType.{RattleType, RowLaws}
use denote.Laws.{shows}
use denote.Memory.{part_at, hidden_shr}
use denote.Opens.{shr_dup, unhide, hide}
use denote.Shadow.{makes_shadow}
use denote.RawPtr.{Ptr, RawPtr, block_ptr, null_ptr, ptr_val, in_a_block, ptr_row_laws}
use denote.Steps.{peeks}
use denote.Param.Laws.{param_laws}
use denote.Struct.Struct.{Struct, Struct-row_laws}
use denote.Struct.Owning.{shape, to}
use denote.Struct.Laws.{field_copy}
use Rattle.core.specs.contracts.marker.PhantomData as marker
use Rattle.core.proofs.alloc.Calls.{token}
use Rattle.std_alloc.specs.Box.Ownership.{box_owns}
use Rattle.std_alloc.proofs.BoxSteps.Form.{Bx, X, R, P, τ}
use Rattle.arc_owners.specs.contracts.memory.box_place.BoxPlace as BoxPlace
use Rattle.arc_owners.proofs.memory.box_place.BoxPlace.TheLaws.{lowers}

module _ (E : Bx) where
  abbrev pub Row : RattleType
  Row = BoxPlace.the_row (R E) (P E) E.al.g

  abbrev pub Fields : RattleType
  Fields = Struct (shape (BoxPlace.the_type (R E) (P E) E.al.g))

  abbrev pub parts : Row.Denot → Fields.Denot
  parts = to (BoxPlace.the_type (R E) (P E) E.al.g)

  abbrev pub word : Ptr → Val
  word p = vstruct (vcons (ptr_val p) (vcons (vstruct vnil) vnil))

  -- the right to free what lies there
  abbrev pub frees : Row.Denot → ℕ → ℕ → Fml
  frees d b o = token E.al d.alloc (bare (τ E)) (block_ptr b o)

  abbrev pub owned : Row.Denot → Ptr → X E → Fml
  owned d p x = box_owns (token E.al d.alloc) (R E) p x

  pub word_is : (d : Row.Denot) (vs : List Val) → denote.Laws.Is Row d vs → vs ≡ word d.at ∷ []
  word_is d vs is =
      (lowers (R E) (P E) E.al.g (param_laws 0 E.row E.laws)
      (param_laws 1 E.al.row E.al.laws)).val_is d vs is

  pub fields_made : {M : Type 1} {𝓤 : Ura M} (𝓛 : Logic 𝓤) (d : Row.Denot)
      → ent 𝓤 (emp 𝓤) (sem 𝓛 (Fields.own_val (parts d) (word d.at ∷ [])))
  fields_made 𝓛 d = makes_shadow 𝓛 (Fields.own_val (parts d) (word d.at ∷ []))
      (λ vss. (tt, (tt, ((λ uss. (tt, tt)), tt)))) (
        (ptr_val d.at ∷ [], (vstruct vnil ∷ [], tt)),
        (refl, (refl, ((tt, (refl, tt)), tt))),
      )

-- a `&` to the place shows its pointer
module _ (E : Bx) {M : Type 1} {𝓤 : Ura M} (𝓛 : Logic 𝓤) (κ : Lft) (b o : ℕ) (d : (Row E).Denot)
  where
    abbrev pub seen : Fml
    seen = hidden_shr (Fields E) κ (parts E d) b o

    laws : RowLaws (Fields E)
    laws = Struct-row_laws (shape (BoxPlace.the_type (R E) (P E) E.al.g))
        (ptr_row_laws, ((field_copy (marker.the_type (P E)) tt).shr_laws, tt))

    pub shows_at : ent 𝓤 (sem 𝓛 seen) (sep 𝓤 (sem 𝓛 (hidden_shr RawPtr κ d.at b (o + 0)))
        (sem 𝓛 seen))
    shows_at = qed 𝓛 (‵ seen ∷ []) ∵ shr_dup ! (Fields E) laws (parts E d) b o κ $ unhide ! $
        fsplit ! $ fsplit ! $ hide ! $ keep ! (0 ∷ 3 ∷ []) $ done !

module _ (E : Bx) {M : Type 1} {𝓤 : Ura M} {𝓛 : Logic 𝓤} {K : Type 0} {Γ : List (Item 𝓤)}
    {G : Goal 𝓤 𝓛.H} where
  pub place_out : K → (d : (Row E).Denot) (vs : List Val)
      → ((b o : ℕ) → d.at ≡ block_ptr b o → vs ≡ word E (block_ptr b o) ∷ []
      → Seq K 𝓛 (‵ (part_at (R E) full_share d.value b o) ∷ ‵ (frees E d b o) ∷ Γ) G)
      → Seq K 𝓛 (‵ ((Row E).own_val d vs) ∷ Γ) G
  place_out t d vs k = peeks t (Row E) _ (shows 𝓛 (Row E)) d vs (λ is. fsplit t $ drop t $
      in_a_block t d.at (λ p. owned E d p d.value)
      (fst∗ 𝓤 (never 𝓤) (sem 𝓛 (token E.al d.alloc (bare (τ E)) null_ptr))) (λ b o e. fsplit t $
      k b o e (word_is E d vs is ∙ ap (λ (p : Ptr). word E p ∷ []) e)))

  pub place_in : K → (d : (Row E).Denot) (b o : ℕ) (x : X E) → d.at ≡ block_ptr b o → d.value ≡ x
      → Step K 𝓛 (‵ ((Row E).own_val d (word E (block_ptr b o) ∷ [])) ∷ Γ) G
      (‵ (part_at (R E) full_share x b o) ∷ ‵ (frees E d b o) ∷ Γ) G
  place_in t d b o x e f =
      step (λ s. fjoin t $ rewrite t 0 (λ (y : X E). ‵ (owned E d (block_ptr b o) y)) (sym f) refl $
      rewrite t 0 (λ (p : Ptr). ‵ (owned E d p d.value)) (sym e) refl $
      use0 𝓛 (‵ ((Fields E).own_val (parts E d) (word E d.at ∷ []))) (fields_made E 𝓛 d) $ fjoin t $
      rewrite t 0 (λ (p : Ptr). ‵ ((Row E).own_val d (word E p ∷ []))) e refl $ s)
