-- What a command did to a table, as its methods have to show it: the fact of the type, the step of
-- the rows, and what was added to the histories, all at once.
use Rattle.std.proofs.Common.{◌≡◌, Bool, List, [], Option, Some, sym, subst}
use Rattle.std.proofs.lemmas.Option.{none-some}
use Rattle.arc_owners.specs.declared.mark.Whole.{Whole}
use Rattle.arc_owners.specs.declared.count.tokens.Pass.{Pass}
use Rattle.arc_block.specs.declared.block.TheConstants.{MAX_OWNERS}
use Rattle.arc_block.specs.Owned.{IsKept}
use Rattle.arc_commands.specs.Additions.{Adds}
use Rattle.arc_commands.specs.Apart.{IsLawful}
use Rattle.arc_commands.specs.State.{Agrees, CarriesOut, State}
use Rattle.arc_commands.specs.Changes.{Setting}
use Rattle.arc_commands.specs.Step.{Step}
use Rattle.arc_commands.specs.Commands.{ListCmd, ListReply}
use Rattle.arc_commands.proofs.Apart.{empty_lawful, step_lawful}
use Rattle.arc_slots.specs.Slots.{SlotView, state_of, stands_of}

-- the fact of the type
abbrev pub Fact : {T M : Type 0} → (drops : Bool) → List (Option (SlotView T M))
    → List (Pass Whole) → Type 0
Fact drops slots passes = IsKept MAX_OWNERS (stands_of slots) passes
    × IsLawful drops (state_of slots passes).table

pub record Done {T M : Type 0} (setting : Setting T) (old : State T M) (c : ListCmd T M)
    (r : ListReply T M) (slots : List (Option (SlotView T M))) (passes : List (Pass Whole))
    : Type 0 where
  pub kept : Fact setting.drops slots passes
  pub rows : Step setting old.table c r (state_of slots passes).table
  pub passes_are : Adds setting old.table old.standing c r (state_of slots passes).standing

-- it stays where the lists are the same
pub same-fact : {T M : Type 0} (drops : Bool) {slots slots' : List (Option (SlotView T M))}
    {passes passes' : List (Pass Whole)} → Fact drops slots passes → slots' ≡ slots
    → passes' ≡ passes → Fact drops slots' passes'
same-fact drops {slots = slots} {slots' = slots'} {passes = passes} fact same_slots same_passes =
    subst (λ ps. Fact drops slots' ps) (sym same_passes)
    (subst (λ ss. Fact drops ss passes) (sym same_slots) fact)

-- and holds where there are no windows and no blocks
pub empty-fact : {T M : Type 0} (drops : Bool) {slots : List (Option (SlotView T M))}
    {passes : List (Pass Whole)} → slots ≡ [] → passes ≡ [] → Fact drops slots passes
empty-fact {T} {M} drops none_there none_made =
    let none : Fact {T = T} {M = M} drops [] [] = (
      record {
        known = λ i n o is. absurd (none-some (Some (n, o)) is);
        passes_fit = λ n p is. absurd (none-some p is);
        live = λ n p is. absurd (none-some p is);
      },
      empty_lawful drops,
    ) in
    same-fact drops none none_there none_made

-- the fact of the type follows of the owners, and of the step
pub done : {T M : Type 0} {setting : Setting T} {old : State T M} {c : ListCmd T M}
    {r : ListReply T M} {slots : List (Option (SlotView T M))} {passes : List (Pass Whole)}
    → IsLawful setting.drops old.table → IsKept MAX_OWNERS (stands_of slots) passes
    → Step setting old.table c r (state_of slots passes).table
    → Adds setting old.table old.standing c r (state_of slots passes).standing
    → Done setting old c r slots passes
done {setting = setting} {old = old} {c = c} {r = r} {slots = slots} {passes = passes} lawful kept
    rows adds = record {
      kept = (kept, step_lawful setting old.table c r (state_of slots passes).table rows lawful);
      rows = rows;
      passes_are = adds;
    }

-- what was done where nothing changes is a step of what the table is seen as
module _ {T M : Type 0} {setting : Setting T} {c : ListCmd T M} {r : ListReply T M}
    {slots : List (Option (SlotView T M))} {passes : List (Pass Whole)} {s : State T M}
    (did : Done setting (state_of slots passes) c r slots passes)
    (seen : state_of slots passes ≡ s) where
  pub still-rows : Step setting s.table c r s.table
  still-rows = subst (λ (o : State T M). Step setting o.table c r o.table) seen did.rows

  pub still-passes : Adds setting s.table s.standing c r s.standing
  still-passes =
      subst (λ (o : State T M). Adds setting o.table o.standing c r o.standing) seen
      did.passes_are

  pub still-carried : Agrees s → CarriesOut setting s c r s
  still-carried agree = record { rows = still-rows; passes = still-passes; agree = agree }
