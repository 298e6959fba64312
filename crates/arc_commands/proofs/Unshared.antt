-- Where several may not write one block, no row becomes one of several writers', and the commands
-- for these are answered `Kind`.
use Rattle.std.proofs.Common.{inl, inr, ◌≡◌, ◌⊎◌, ◌≤◌, ℕ, Bool, true, false}
use Rattle.std.proofs.Common.{List, Option, Some, None, slice_set}
use Rattle.std.proofs.Common.{refl, sym, ◌∙◌, subst}
use Rattle.std.proofs.lemmas.Bool.{cases_Bool, false≢true}
use Rattle.std.proofs.lemmas.Option.{none-some}
use Rattle.arc_block.specs.Place.{Place, nowhere, static_data, on_block}
use Rattle.arc_block.specs.Table.{Role, Row, Table, row_at}
use Rattle.arc_parts.specs.Writers.{as_sole, sole_at}
use Rattle.arc_commands.specs.Blocks.{NoneOfSeveral, is_several}
use Rattle.arc_commands.specs.Changes.{Setting, Shortage}
use Rattle.arc_commands.specs.Commands.{ListCmd, ListReply}
use Rattle.arc_commands.specs.Step.{Step, answer, count_brought}
use Rattle.arc_commands.specs.Step.{is_for, is_for_several}
use Rattle.arc_commands.specs.declared.command.Cmd.TheVariants as command
use Rattle.arc_commands.specs.declared.command.Reply.TheVariants as reply
use Rattle.arc_commands.proofs.Answers.{answer_each}
use Rattle.arc_commands.proofs.Had.{IsKind, off, pair-kind, row-kind}
use Rattle.arc_commands.proofs.EachRow.{each-push, each-set, this}
use Rattle.arc_commands.proofs.Outcomes.{TurnsAsMay}
use Rattle.arc_commands.proofs.Parts.{IsPart, KeepsPart}
use Rattle.arc_commands.proofs.Roles.{reads-several, several-sole, several-writes, writes-several}

-- a role that turns only as it may
still-none : (shares : Bool) (old new : Role) → shares ≡ false → is_several old ≡ false
    → TurnsAsMay shares old new → is_several new ≡ false
still-none shares old new none one may = elim (cases_Bool (is_several new)) [
  | inl several ↦
      elim (may several) [
        | inl was ↦ absurd (false≢true (sym one ∙ was))
        | inr shared ↦ absurd (false≢true (sym none ∙ shared))
      ]
  | inr other ↦ other
]

module _ {T M : Type 0} where
  abbrev One : Row T M → Type 0
  One row = is_several row.role ≡ false

  -- a part of a row that is none of several writers'
  part-one : (drops : Bool) (row part : Row T M) → IsPart row part → KeepsPart drops row part
      → One row → One part
  part-one drops row part is keeps one = elim (cases_Bool (is_several part.role)) [
    | inl several ↦
        absurd (false≢true (sym one
        ∙ writes-several row.role (keeps.writes (several-writes part.role several))
        (sym is.1 ∙ several-sole part.role several)))
    | inr other ↦ other
  ]

  -- a sole writer is none of several
  sole-one : (drops : Bool) (items : List T) (place : Place (Option ℕ) M)
      → One (sole_at drops items place)
  sole-one drops items nowhere = refl
  sole-one drops items static_data = refl
  sole-one drops items (on_block block offset info) = refl

  module _ (setting : Setting T) (none : setting.calls.shares ≡ false) where
    answer-unshared : (short : Shortage) (places : ℕ) (t : Table T M) (c : ListCmd T M)
        → count_brought c ≤ places → NoneOfSeveral t
        → NoneOfSeveral (answer setting short places t c).1
    answer-unshared short places t c enough old =
        let d = setting.drops in
        answer_each setting short places t c enough (λ reply new. NoneOfSeveral new) (record {
          same = λ reply tells. old;
          founds = λ items role nothing info one fits.
              each-push One t.rows _ old (this One _ one);
          apart = λ row reads off fits.
              each-push One t.rows _ old (this One row (reads-several row.role reads));
          splits = λ i row kept made at parts.
              let one = old i row at in
              each-push One (slice_set t.rows i (Some kept)) (Some made)
              (each-set One t.rows i (Some kept) old
              (this One kept (part-one d row kept parts.first parts.keeps one)))
              (this One made (part-one d row made parts.second parts.also one));
          becomes = λ i row part at is keeps.
              each-set One t.rows i _ old (this One part (part-one d row part is keeps
              (old i row at)));
          writes = λ i row at may.
              each-set One t.rows i _ old
              (this One (as_sole d row) (sole-one d row.items row.place));
          refits = λ i row new r tells at lone may put fits.
              each-set One t.rows i _ old (this One new (still-none setting.calls.shares row.role
              new.role none (old i row at) may));
          begins = λ i row items role nothing info at may fits.
              each-set One t.rows i _ old (this One _ (still-none setting.calls.shares row.role role
              none (old i row at) may));
          moves = λ i row items role info kept made at may fits parts.
              let whole : Row T M =
              record { items = items; place = on_block (Some t.blocks) 0 info; role = role } in
              let one = still-none setting.calls.shares row.role role none (old i row at) may in
              let rows = slice_set t.rows i (Some whole) in
              each-push One (slice_set rows i (Some kept)) (Some made)
              (each-set One rows i (Some kept)
              (each-set One t.rows i (Some whole) old (this One whole one))
              (this One kept (part-one d whole kept parts.first parts.keeps one)))
              (this One made (part-one d whole made parts.second parts.also one));
          joins = λ i j row other differ at second one two same can.
              absurd (false≢true (sym (old i row at) ∙ one));
          goes = λ r tells i.
              each-set One t.rows i None old (λ row is. absurd (none-some row is));
        }) c refl

    pub step-unshared : (t : Table T M) (c : ListCmd T M) (r : ListReply T M) (new : Table T M)
        → Step setting t c r new → NoneOfSeveral t → NoneOfSeveral new
    step-unshared t c r new step old =
        subst (λ (o : ListReply T M × Table T M). NoneOfSeveral o.1) step.answered
        (answer-unshared step.short step.places t c step.enough old)

    -- ---- commands for several writers

    answer-kind : (short : Shortage) (places : ℕ) (t : Table T M) (c : ListCmd T M)
        → is_for_several c ≡ true → IsKind t (answer setting short places t c)
    answer-kind short places t (command.Share i) is =
        row-kind setting short places t (command.Share i) i
        (λ role. off setting.calls.shares (is_for {T = T} {M = M} (command.Share i) role) none)
        (row_at t i) refl
    answer-kind short places t (command.Unique i) is =
        row-kind setting short places t (command.Unique i) i
        (λ role. off setting.calls.shares (is_for {T = T} {M = M} (command.Unique i) role) none)
        (row_at t i) refl
    answer-kind short places t (command.Join i j) is =
        pair-kind setting t i j none (row_at t i) (row_at t j)
    answer-kind short places t other is = absurd (false≢true is)

    pub step-kind : (t : Table T M) (c : ListCmd T M) (r : ListReply T M) (new : Table T M)
        → is_for_several c ≡ true → Step setting t c r new
        → ((r ≡ reply.Kind) ⊎ (r ≡ reply.NoWindow)) × (new ≡ t)
    step-kind t c r new is step =
        subst (IsKind t) step.answered (answer-kind step.short step.places t c is)
