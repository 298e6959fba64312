-- The machine value of a word of a count, and of a cell. Assumes `Logic`.
use Rattle.std.proofs.Common.{ℕ, ◌^◌, ◌<◌, List, [], ◌∷◌, refl, w64, lit<}
use mathlib.Core.Option.{Option, none}
use seplogic.Ra.Ura.{Ura}
use mir.Val.{Val, vint, vstruct, vcons, vnil}
use base.Logic.{ent, emp}
use base.Fml.{ftrue, fsep, fex}
use contract.Monad.{fact_i}
use types.Logic.{Logic, sem}
use types.Kit.{‵, ◌$◌, ◌∵◌, !, qed, fjoin, fpack, use0, done}
use denote.RattleType.{RattleType}
use denote.Laws.{Typed}
use denote.Shadow.{makes_shadow}
use denote.RawPtr.{Ptr, null_ptr, ptr_val}
use Rattle.arc_owners.specs.count.Invariant.{BlockId, behind, pointer, cell_holds}
use Rattle.arc_owners.specs.contracts.count.word.Word as Word
use Rattle.arc_owners.specs.contracts.count.word.Word.TheInside as Inside
use Rattle.arc_owners.specs.contracts.count.cell.Cell as Cell
use Rattle.arc_owners.specs.contracts.count.cell.Cell.TheInside as InCell

abbrev pub word_val : ℕ → Val
word_val n = vstruct (vcons (vint w64 n) vnil)

pub word_made : {M : Type 1} {𝓤 : Ura M} (𝓛 : Logic 𝓤) (t : BlockId) (n : ℕ) → n < 2 ^ 64
    → ent 𝓤 (sem 𝓛 (behind t n)) (sem 𝓛 (Word.the_row.own_val t (word_val n ∷ [])))
word_made {𝓤 = 𝓤} 𝓛 t n f = let S : RattleType = Inside.the_row in
    let vs : List Val = word_val n ∷ [] in let at : ℕ → S.Denot = λ m. record { bits = m } in
    let fits : Type 0 = Typed Word.the_row.mir vs in qed 𝓛 (‵ (behind t n) ∷ []) ∵
    use0 𝓛 (‵ (S.own_val (at n) vs))
    (makes_shadow 𝓛 (S.own_val (at n) vs) (λ vss. (tt, ((tt, tt), tt)))
    ((vint w64 n ∷ [], tt), (refl, ((refl, f), tt)))) $
    fjoin ! $ fpack ! ℕ (λ m. fsep (S.own_val (at m) vs) (behind t m)) n $
    use0 𝓛 (‵ (fex fits (λ _. ftrue)))
    (fact_i 𝓤 fits (emp 𝓤) ((tt, (record { fits = f }, tt)), tt)) $ done !

abbrev pub cell_val : Ptr → Val
cell_val p = vstruct (vcons (ptr_val p) vnil)

-- a cell that is null
pub cell_made : {M : Type 1} {𝓤 : Ura M} (𝓛 : Logic 𝓤) (t : BlockId)
    → ent 𝓤 (sem 𝓛 (cell_holds t none)) (sem 𝓛 (Cell.the_row.own_val t (cell_val null_ptr ∷ [])))
cell_made {𝓤 = 𝓤} 𝓛 t = let S : RattleType = InCell.the_row in
    let vs : List Val = cell_val null_ptr ∷ [] in
    let at : Option (ℕ × ℕ) → S.Denot = λ x. record { at = pointer x } in
    let fits : Type 0 = Typed Cell.the_row.mir vs in qed 𝓛 (‵ (cell_holds t none) ∷ []) ∵
    use0 𝓛 (‵ (S.own_val (at none) vs))
    (makes_shadow 𝓛 (S.own_val (at none) vs) (λ vss. (tt, (tt, tt)))
    ((ptr_val null_ptr ∷ [], tt), (refl, (refl, tt)))) $
    fjoin ! $ fpack ! (Option (ℕ × ℕ)) (λ x. fsep (S.own_val (at x) vs) (cell_holds t x)) none $
    use0 𝓛 (‵ (fex fits (λ _. ftrue)))
    (fact_i 𝓤 fits (emp 𝓤) ((tt, (record { fits = lit< tt }, tt)), tt)) $ done !
