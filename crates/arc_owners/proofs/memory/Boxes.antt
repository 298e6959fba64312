-- A `BoxParts` owns what the box does that it was, at the same machine value; and so does a pointer
-- with an allocator, next to what is at the pointer. Assumes `Logic`.
use Rattle.std.proofs.Common.{List, [], ◌∷◌}
use seplogic.Ra.Ura.{Ura}
use mir.Val.{Val}
use base.Logic.{ent, sep, id⊢}
use types.Logic.{Logic, sem}
use denote.RattleType.{RattleType}
use denote.RawPtr.{RawPtr}
use denote.Struct.Tuple.{Tuple}
use Rattle.core.proofs.alloc.Calls.{token}
use Rattle.std_alloc.specs.Box.Ownership.{box_owns}
use Rattle.std_alloc.proofs.BoxSteps.Form.{Bx, X, D, R, P, B}
use Rattle.arc_owners.specs.contracts.memory.box_parts.BoxParts as BoxParts

module _ (E : Bx) where
  abbrev pub Row : RattleType
  Row = BoxParts.the_row (R E) (P E) E.al.g

  abbrev pub boxed : Row.Denot → D E
  boxed d = record { ptr = d.at; alloc = d.alloc; value = d.value }

  -- a pointer with its allocator
  abbrev pub Pair : RattleType
  Pair = Tuple (RawPtr ∷ P E ∷ [])

  module _ {M : Type 1} {𝓤 : Ura M} (𝓛 : Logic 𝓤) where
    pub as_box : (d : Row.Denot) (vs : List Val) → ent 𝓤 (sem 𝓛 (Row.own_val d vs))
        (sem 𝓛 ((B E).own_val (boxed d) vs))
    as_box d vs = id⊢ 𝓤 (sem 𝓛 (Row.own_val d vs))

    pub as_bare : (d : Row.Denot) (vs : List Val) → ent 𝓤 (sem 𝓛 ((B E).own_val (boxed d) vs))
        (sem 𝓛 (Row.own_val d vs))
    as_bare d vs = id⊢ 𝓤 (sem 𝓛 (Row.own_val d vs))

    pub pair_as_box : (r : Pair.Denot) (x : X E) (vs : List Val)
        → ent 𝓤 (sep 𝓤 (sem 𝓛 (Pair.own_val r vs)) (sem 𝓛 (box_owns (token E.al r.1) (R E) r.0 x)))
        (sem 𝓛 ((B E).own_val (record { ptr = r.0; alloc = r.1; value = x }) vs))
    pair_as_box r x vs =
        id⊢ 𝓤 (sem 𝓛 ((B E).own_val (record { ptr = r.0; alloc = r.1; value = x }) vs))
