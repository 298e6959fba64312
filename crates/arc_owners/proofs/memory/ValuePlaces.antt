-- A block's memory that is lent shows the value in it, at its place there. Assumes `Logic`.
use Rattle.std.proofs.Common.{ℕ, zero, ◌+◌, [], ◌∷◌}
use seplogic.Ra.Ura.{Ura}
use base.Logic.{ent}
use base.Fml.{Lft}
use prog.Memory.{size, align, up}
use types.Logic.{Logic, sem}
use types.Kit.{‵, ◌$◌, ◌∵◌, !, qed, keep, drop, fsplit, done}
use denote.RattleType.{RattleType}
use denote.Memory.{lone, shared_of}
use Rattle.arc_owners.specs.contracts.count.word.Word as Word
use Rattle.arc_owners.specs.contracts.memory.inner.Inner as Inner
use Rattle.arc_owners.specs.contracts.memory.counted_box.Housed as Housed

module _ (V A : RattleType) where
  -- what lies beside the word, and all of the memory
  abbrev pub Home : RattleType
  Home = Housed.the_row V A

  abbrev pub All : RattleType
  All = Inner.the_row Home

  -- where the value lies, from the memory's beginning on
  abbrev pub value_from : ℕ → ℕ
  value_from o = (o + up (align (lone Home.mir)) (up (align (lone Word.the_row.mir)) zero + size
      (lone Word.the_row.mir))) + up (align (lone V.mir)) zero

  pub value_shown : {M : Type 1} {𝓤 : Ura M} (𝓛 : Logic 𝓤) (x : All.Denot) (b o : ℕ) (κ : Lft)
      → ent 𝓤 (sem 𝓛 (shared_of All x b o κ)) (sem 𝓛 (shared_of V x.value.value b (value_from o) κ))
  value_shown 𝓛 x b o κ = qed 𝓛 (‵ (shared_of All x b o κ) ∷ []) ∵
      fsplit ! $ fsplit ! $ drop ! $ fsplit ! $ keep ! (0 ∷ []) $ fsplit ! $ fsplit ! $
      keep ! (0 ∷ []) $ done !
