-- A count that no cell leads to: what a cell that is gone leaves of it, and the place of its box.
-- Assumes `Logic`.
use Rattle.std.proofs.Common.{◌≡◌, ℕ, ◌^◌, ◌<◌, true, false, List, [], ◌∷◌, ◌++◌, refl, sym, ◌∙◌, lit<}
use Rattle.std.proofs.lemmas.Bool.{false≢true}
use mathlib.Core.Option.{Option, none, some}
use seplogic.Ra.Ura.{Ura}
use mir.Val.{Val, vstruct, vcons, vnil, of_list}
use base.Logic.{ent}
use base.Fml.{Fml, ftrue}
use types.Logic.{Logic, sem}
use types.Kit.{Item, Goal, Seq, ‵, some as any, given, mean, ◌$◌, ◌∵◌, !, qed, move, keep, drop, fsplit}
use types.Kit.{fsplit3, fjoin, fpick, fpack, check, show, done, use0}
use denote.Builtin.{u64}
use denote.Laws.{Is}
use denote.Param.{param}
use denote.RattleType.{RattleType}
use denote.RawPtr.{Ptr, RawPtr, InBlock, null_ptr, block_ptr, ptr_val, Testable}
use denote.Shadow.{makes_shadow}
use denote.Steps.{nothing}
use denote.Struct.Struct.{Struct}
use Rattle.std.specs.Prelude.{not}
use Rattle.core.specs.declared.alloc.Allocator.{Ghosts}
use Rattle.core.specs.contracts.marker.PhantomData as marker
use Rattle.std_alloc.specs.Box.Ownership.{box_owns}
use Rattle.arc_owners.specs.contracts.memory.box_place.BoxPlace as BoxPlace
use Rattle.arc_owners.specs.count.Invariant.{BlockId, is_there, pointer, cell_holds}
use Rattle.arc_owners.specs.count.Leads.{is_null, pending}

pub there-null : (x : Option (ℕ × ℕ)) → is_there x ≡ not (is_null (pointer x))
there-null none = refl
there-null (some x) = refl

-- a pointer that isn't null leads to a place
pub in_block : (r : Ptr) → is_null r ≡ false → InBlock r
in_block null_ptr wrong = absurd (false≢true (sym wrong))
in_block (block_ptr b o) _ = tt

-- what is left of the count
pub closes : {M : Type 1} {𝓤 : Ura M} (𝓛 : Logic 𝓤) (t : BlockId) (x : Option (ℕ × ℕ))
    → ent 𝓤 (sem 𝓛 (cell_holds t x)) (mean 𝓛 (given (Testable (pointer x))
    (any (λ (n : ℕ). ‵ (pending (is_there x) t.receipts (pointer x) n)))))
closes 𝓛 t none = qed 𝓛 (‵ (cell_holds t none) ∷ []) ∵ drop ! $ nothing ! $ check ! (lit< tt) $
    show ! (λ (n : ℕ). sem 𝓛 (pending false t.receipts null_ptr n)) 0 $ done !
closes 𝓛 t (some x) = qed 𝓛 (‵ (cell_holds t (some x)) ∷ []) ∵ fsplit3 ! $
    keep ! (1 ∷ 2 ∷ []) $ fpick ! (λ low. drop ! $ fsplit ! $ move ! (1 ∷ []) $
    fpick ! (λ n. fsplit ! $
    -- [the word; what is behind it; the receipt]
    keep ! (2 ∷ 0 ∷ []) $ nothing ! $ fpack ! (x.1 < 2 ^ 63) (λ _. ftrue) low $ fjoin ! $
    move ! (1 ∷ 0 ∷ []) $ fjoin ! $ check ! low $
    show ! (λ (n : ℕ). sem 𝓛 (pending true t.receipts (block_ptr x.0 x.1) n)) n $ done !))

module _ {M : Type 1} {𝓤 : Ura M} {𝓛 : Logic 𝓤} {K : Type 0} {Γ : List (Item 𝓤)}
    {G : Goal 𝓤 𝓛.H} where
  -- a pointer is null or leads to a place
  pub null_or_not : K → (r : Ptr) (F : Ptr → Fml) → (r ≡ null_ptr → Seq K 𝓛 (‵ (F null_ptr) ∷ Γ) G)
      → ((b o : ℕ) → r ≡ block_ptr b o → Seq K 𝓛 (‵ (F (block_ptr b o)) ∷ Γ) G)
      → Seq K 𝓛 (‵ (F r) ∷ Γ) G
  null_or_not t null_ptr F at_null at_place = at_null refl
  null_or_not t (block_ptr b o) F at_null at_place = at_place b o refl

abbrev pub place_val : Val → Val
place_val v = vstruct (vcons v (vcons (vstruct vnil) vnil))

module _ (A : RattleType) (g : Ghosts A.Denot) where
  abbrev pub Row : RattleType
  Row = BoxPlace.the_row u64 (param 0 A) g

  abbrev Data : RattleType
  Data = Struct record {
    name = [];
    args = [];
    types = [];
    fields = RawPtr ∷ marker.the_row (param 0 A) ∷ [];
  }

  pub place_told : (d : Row.Denot) (vs : List Val) → Is Data (d.at, (d.marker, tt)) vs
      → vs ≡ place_val (ptr_val d.at) ∷ []
  place_told d vs is =
      is.1.0 ∙ (λ i. vstruct (of_list (is.1.1.0 i ++ (is.1.1.1.0.1.0 i ++ []))) ∷ [])

  pub place_made : {M : Type 1} {𝓤 : Ura M} (𝓛 : Logic 𝓤) (at : Ptr) (n : ℕ) (alloc : A.Denot)
      → ent 𝓤 (sem 𝓛 (box_owns (g.dealloc_token alloc) u64 at n))
      (sem 𝓛 (Row.own_val (record { at = at; marker = record {}; value = n; alloc = alloc })
      (place_val (ptr_val at) ∷ [])))
  place_made 𝓛 at n alloc = let vs : List Val = place_val (ptr_val at) ∷ [] in
      qed 𝓛 (‵ (box_owns (g.dealloc_token alloc) u64 at n) ∷ []) ∵
      use0 𝓛 (‵ (Data.own_val (at, (record {}, tt)) vs))
      (makes_shadow 𝓛 (Data.own_val (at, (record {}, tt)) vs)
      (λ vss. (tt, (tt, ((λ uss. (tt, tt)), tt))))
      ((ptr_val at ∷ [], (vstruct vnil ∷ [], tt)), (refl, (refl, ((tt, (refl, tt)), tt))))) $
      fjoin ! $ done !
