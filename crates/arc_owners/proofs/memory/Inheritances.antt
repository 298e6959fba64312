-- What is kept for the end of a lease can be had again, and is all that a `&` to it has. Assumes
-- `Logic`.
use Rattle.std.proofs.Common.{Bool, true, false}
use seplogic.Ra.Ura.{Ura}
use base.Logic.{ent, sep}
use base.Fml.{Lft, Fml, finv}
use base.Shift.{Keyless}
use mir.Raw.{raw}
use denote.RattleType.{RattleType}
use denote.RawPtr.{Ptr}
use denote.Memory.{lone}
use denote.Param.Send.{IsSend, Frees}
use types.Keyed.{entry_keyless, token}
use types.Logic.{Logic, sem}
use denote.Sharing.{ShrLaws, said}
use denote.Struct.Lending.{Lends}
use Rattle.logbook.proofs.Fields.{lends_twice}
use Rattle.core.specs.declared.alloc.Allocator.{Ghosts}
use Rattle.std_alloc.specs.Box.Ownership.{box_owns}
use Rattle.std_alloc.proofs.SendSync.{lies}
use Rattle.arc_owners.proofs.memory.Twice.{twice_shr}
use Rattle.arc_owners.specs.count.Invariant.{Lease, kept_if, kept_for}

module _ (P : Fml) (l : Lease) where
  abbrev pub keep : Fml
  keep = finv (kept_for P l)

  pub keep_twice : {M : Type 1} {𝓤 : Ura M} (𝓛 : Logic 𝓤)
      → ent 𝓤 (sem 𝓛 keep) (sep 𝓤 (sem 𝓛 keep) (sem 𝓛 keep))
  keep_twice 𝓛 = 𝓛.invs.inv_dup (kept_for P l)

  pub keep_lends : {M : Type 1} {𝓤 : Ura M} (𝓛 : Logic 𝓤) (λ' : Lft) → Lends 𝓛 keep (said keep) λ'
  keep_lends 𝓛 λ' = lends_twice 𝓛 keep (keep_twice 𝓛) λ'

  pub keep_shr : ShrLaws (said keep)
  keep_shr = twice_shr keep (λ M 𝓤 𝓛. keep_twice 𝓛)

either_keyless : (P : Fml) (l : Lease) → Keyless P → (y : Bool) → Keyless (kept_if P l y)
either_keyless P l k true = k
either_keyless P l k false = entry_keyless token l.key 0 tt

-- what a box owns may come back in any thread, where its value may go there and its memory may be
-- freed there
pub keep_keyless : (T A : RattleType) (g : Ghosts A.Denot) → IsSend T → Frees g g.dealloc_token
    → (alloc : A.Denot) (at : Ptr) (value : T.Denot) (l : Lease)
    → Keyless (finv (kept_for (box_owns (g.dealloc_token alloc) T at value) l))
keep_keyless T A g s f alloc at value l =
    either_keyless (box_owns (g.dealloc_token alloc) T at value) l
    (lies T s at value, f.frees alloc (raw (lone T.mir)) at)
