-- Places are what lies side by side at their first place. Assumes `Logic`.
--     places_out, places_in      they are taken apart, and made of it
--     places_at      places by their numbers
use Rattle.std.proofs.Common.{◌≡◌, ℕ, ◌+◌, ◌-◌, ◌*◌, ◌^◌, ◌<◌, ◌≤◌, List, [], ◌∷◌, length, refl}
use Rattle.std.proofs.Common.{sym}
use seplogic.Ra.Ura.{Ura}
use mir.Val.{Val}
use base.Logic.{fst∗, never}
use base.Fml.{Fml}
use types.Logic.{Logic, sem}
use types.Kit.{Goal, Step, step, Seq, Item, ‵, ◌$◌, drop, use0, rewrite, fsplit, fjoin, flt_l}
use types.Kit.{flt_i}
use denote.RattleType.{RattleType}
use denote.RawPtr.{Ptr, block_ptr, null_ptr, in_a_block, room_for}
use Rattle.core.specs.Allocator.{array_of}
use Rattle.core.specs.Mem.{type_size}
use Rattle.std_alloc.proofs.VecSteps.El.{El, R, el_x, sz}
use Rattle.logbook.proofs.Fields.{token, Token, token_made}
use Rattle.arc_memory.specs.Memory.{place_at, side_by_side}
use Rattle.arc_memory.proofs.Cuts.{Side}
use Rattle.arc_memory.specs.contracts.places.Places as Places

module _ (E : El) where
  abbrev pub Row : RattleType
  Row = Places.the_row (R E)

  -- places from one number on, of which the first hold the items
  abbrev pub places_at : (base : Ptr) (whole start count : ℕ) (items : List (el_x E))
      → (start + count ≤ whole) × (length items ≤ count) × (whole < 2 ^ 63) → Row.Denot
  places_at base whole start count items inside = record {
    marker = record {};
    base = base;
    whole = whole;
    start = start;
    count = count;
    items = items;
    inside = inside;
  }

  abbrev lying : Ptr → Row.Denot → Fml
  lying p d = side_by_side (R E) (place_at (R E) p d.start) d.count d.items

module _ (E : El) {M : Type 1} {𝓤 : Ura M} {𝓛 : Logic 𝓤} {K : Type 0} {Γ : List (Item 𝓤)}
    {G : Goal 𝓤 𝓛.H} where
  pub places_out : K → (d : (Row E).Denot) (vs : List Val)
      → ((b o : ℕ) → d.base ≡ block_ptr b o → d.whole * sz E < 2 ^ 63
      → Seq K 𝓛 (‵ (Side E 𝓛 b (o + d.start * sz E) d.count d.items) ∷ Γ) G)
      → Seq K 𝓛 (‵ ((Row E).own_val d vs) ∷ Γ) G
  places_out t d vs k = fsplit t $ drop t $ fsplit t $ flt_l t (λ small.
      in_a_block t d.base (λ p. lying E p d)
      (fst∗ 𝓤 (never 𝓤) (sem 𝓛 (room_for (array_of (R E) (d.count - length d.items)) null_ptr)))
      (λ b o at_b. k b o at_b small))

  pub places_in : K → (d : (Row E).Denot) (b o : ℕ) → d.base ≡ block_ptr b o
      → d.whole * sz E < 2 ^ 63
      → Step K 𝓛 (‵ ((Row E).own_val d (token ∷ [])) ∷ Γ) G
      (‵ (Side E 𝓛 b (o + d.start * sz E) d.count d.items) ∷ Γ) G
  places_in t d b o at_b small =
      step (λ s. rewrite t 0 (λ (p : Ptr). ‵ (lying E p d)) (sym at_b) refl $
      flt_i t (d.whole * type_size (R E)) (2 ^ 63) small $ fjoin t $
      use0 𝓛 (‵ ((Token (R E)).own_val (record {}, tt) (token ∷ []))) (token_made (R E) 𝓛) $
      fjoin t $ s)
