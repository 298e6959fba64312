-- What lent places own, at the place where they begin. Assumes `Logic`.
--     there_out, there_in      it is taken out, and put back
--     lent_at     lent places by their numbers
--     padded      names for all places before a number, which name nothing
use Rattle.std.proofs.Common.{◌≡◌, ℕ, zero, suc, ◌+◌, ◌*◌, ◌^◌, ◌<◌, ◌≤◌, List, ◌∷◌, length, drop}
use Rattle.std.proofs.Common.{refl}
use Rattle.std.proofs.Common.{sym, arith}
use seplogic.Ra.Ura.{Ura}
use base.Logic.{never, id⊢}
use base.Fml.{GName, Fml}
use types.Logic.{Logic}
use types.Kit.{Goal, Step, step, Seq, Item, ‵, ◌$◌, rewrite, fsplit, fjoin, flt_l, flt_i}
use denote.RawPtr.{Ptr, block_ptr, in_a_block}
use Rattle.core.specs.Mem.{type_size}
use Rattle.std_alloc.proofs.VecSteps.El.{El, R, el_x, sz}
use Rattle.arc_memory.specs.Memory.{place_at}
use Rattle.arc_memory.specs.contracts.lent_places.LentPlaces as LentPlaces
use Rattle.arc_memory.specs.LentMemory.{LentMemory, in_memory, there}

module _ (E : El) where
  -- lent places from one number on, of which the first hold the items
  abbrev pub lent_at : (m : LentMemory) (start count : ℕ) (items : List (el_x E))
      → (start + count ≤ length m.names) × (length m.names ≤ m.whole) × (length items ≤ count)
      × (m.whole < 2 ^ 63) → (LentPlaces.the_row (R E)).Denot
  lent_at m start count items inside = record {
    marker = record {};
    memory = m;
    start = start;
    count = count;
    items = items;
    inside = inside;
  }

abbrev pub padded : ℕ → List GName → List GName
padded zero gs = gs
padded (suc n) gs = 0 ∷ padded n gs

pub padded_long : (n : ℕ) (gs : List GName) → length (padded n gs) ≡ n + length gs
padded_long zero gs = omega arith
padded_long (suc n) gs = let rest = padded_long n gs in omega (arith, rest)

pub padded_off : (n : ℕ) (gs : List GName) → drop n (padded n gs) ≡ gs
padded_off zero gs = refl
padded_off (suc n) gs = padded_off n gs

module _ (E : El) {M : Type 1} {𝓤 : Ura M} {𝓛 : Logic 𝓤} {K : Type 0} {Γ : List (Item 𝓤)}
    {G : Goal 𝓤 𝓛.H} where
  pub there_out : K → (m : LentMemory) (start : ℕ) (F : ℕ → ℕ → Fml)
      → ((b o : ℕ) → m.base ≡ block_ptr b o → m.whole * sz E < 2 ^ 63
      → Seq K 𝓛 (‵ (F b (o + start * sz E)) ∷ Γ) G)
      → Seq K 𝓛 (‵ (there (R E) m start F) ∷ Γ) G
  there_out t m start F k = fsplit t $
      flt_l t (λ small. in_a_block t m.base (λ p. in_memory (place_at (R E) p start) F)
      (id⊢ 𝓤 (never 𝓤)) (λ b o at_b. k b o at_b small))

  pub there_in : K → (m : LentMemory) (start : ℕ) (F : ℕ → ℕ → Fml) (b o : ℕ)
      → m.base ≡ block_ptr b o → m.whole * sz E < 2 ^ 63
      → Step K 𝓛 (‵ (there (R E) m start F) ∷ Γ) G (‵ (F b (o + start * sz E)) ∷ Γ) G
  there_in t m start F b o at_b small =
      step (λ s. rewrite t 0 (λ (p : Ptr). ‵ (in_memory (place_at (R E) p start) F)) (sym at_b)
      refl $ flt_i t (m.whole * type_size (R E)) (2 ^ 63) small $ fjoin t $ s)
