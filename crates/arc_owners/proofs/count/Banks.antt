-- What is known of a bank can be had again, is all that a `&` to it has, and holds in any thread.
-- Assumes `Logic`.
use Rattle.std.proofs.Common.{ℕ, Bool, true, false, List, [], ◌∷◌}
use seplogic.Ra.Ura.{Ura}
use base.Logic.{ent, sep}
use base.Fml.{Lft, Fml}
use base.Shift.{Keyless}
use mir.Syntax.{Ty}
use mir.Raw.{raw}
use types.Logic.{Logic, sem}
use denote.Builtin.{u64}
use denote.RattleType.{RattleType}
use denote.RawPtr.{Ptr, block_ptr}
use denote.Memory.{lone}
use denote.Param.Send.{Frees}
use denote.Sharing.{ShrLaws, said}
use denote.Struct.Lending.{Lends}
use Rattle.logbook.proofs.Fields.{lends_twice}
use Rattle.core.specs.declared.alloc.Allocator.{Ghosts}
use Rattle.arc_owners.proofs.memory.Twice.{twice_shr}
use Rattle.arc_owners.specs.count.Invariant.{place_coded, laid, banked}
use Rattle.arc_owners.specs.count.Leads.{frees_count, bank_of}
use Rattle.arc_owners.proofs.count.Cells.{row_keyless}

module _ (holds : Ty → Ptr → Fml) (n δ : ℕ) where
  abbrev Known : Fml
  Known = bank_of holds n δ

  pub bank_twice : {M : Type 1} {𝓤 : Ura M} (𝓛 : Logic 𝓤)
      → ent 𝓤 (sem 𝓛 Known) (sep 𝓤 (sem 𝓛 Known) (sem 𝓛 Known))
  bank_twice 𝓛 = 𝓛.invs.named_dup n (banked (frees_count holds) δ)

  pub bank_lends : {M : Type 1} {𝓤 : Ura M} (𝓛 : Logic 𝓤) (λ' : Lft)
      → Lends 𝓛 Known (said Known) λ'
  bank_lends 𝓛 λ' = lends_twice 𝓛 Known (bank_twice 𝓛) λ'

  pub bank_shr : ShrLaws (said Known)
  bank_shr = twice_shr Known (λ M 𝓤 𝓛. bank_twice 𝓛)

module _ (A : RattleType) (g : Ghosts A.Denot) (f : Frees g g.dealloc_token) (alloc : A.Denot) where
  laid_keyless : (xs : List (Bool × (ℕ × ℕ)))
      → Keyless (laid (frees_count (g.dealloc_token alloc)) xs)
  laid_keyless [] = tt
  laid_keyless ((true, x) ∷ xs) =
      (f.frees alloc (raw (lone u64.mir)) (block_ptr x.0 x.1), laid_keyless xs)
  laid_keyless ((false, x) ∷ xs) = laid_keyless xs

  -- a bank is known in any thread, where its memory may be freed there
  pub bank_keyless : (n δ : ℕ) → Keyless (bank_of (g.dealloc_token alloc) n δ)
  bank_keyless n δ = λ xs. (row_keyless place_coded (0, 0) δ 0 xs, laid_keyless xs)
