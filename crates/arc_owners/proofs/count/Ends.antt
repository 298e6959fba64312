-- An owner's end was the last one where the word counted one owner.
use Rattle.std.proofs.Common.{◌≡◌, ℕ, Bool, eqb, List, [], ◌∷◌, ◌++◌, length, refl, sym, ap, ◌∙◌}
use Rattle.std.proofs.Common.{subst}
use Rattle.std.proofs.Common.{◌↔◌}
use Rattle.std.specs.Prelude.{IsTrue}
use Rattle.std.proofs.lemmas.Bool.{eqb-true, eq-eqb}
use mathlib.Core.Option.{some}
use Rattle.arc_owners.specs.declared.history.entry.Entry.TheVariants.{Down}
use Rattle.arc_owners.specs.history.Histories.{live_owners, LivesAlone}
use Rattle.arc_owners.specs.count.Invariant.{BlockId, Line, entries_of, AddedTo}
use Rattle.arc_owners.proofs.count.Operations.{Follows}
use Rattle.arc_owners.proofs.history.Steps.{one_is}

pub ends_when : (t : BlockId) (p : ℕ) (seen : List Line) (o n : ℕ) (before : List Line) (b : Bool)
    → eqb n 1 ≡ b
    → Follows t p seen n before (some (Down o))
    → (h : List Line) × AddedTo t p seen (λ _. Down o) h (before ++ (p, Down o) ∷ [])
    × (IsTrue b ↔ LivesAlone o (entries_of h))
ends_when t p seen o n before b is (adds, number) =
    let h = entries_of before in (
      before,
      (adds, refl),
      subst (λ (c : Bool). IsTrue c ↔ LivesAlone o h) is (
        (λ (one : IsTrue (eqb n 1)). one_is (live_owners h) o adds.may
            (sym number ∙ eqb-true n 1 one)),
        (λ (alone : LivesAlone o h). eq-eqb n 1 (number ∙ ap length alone)),
      ),
    )
