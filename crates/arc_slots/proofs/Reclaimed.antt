-- Room without memory, as what a sole writer is answered.
use Rattle.std.proofs.Common.{◌≡◌, ◌&&◌, ℕ, Bool, true, false, if◌then◌else◌, List, Some, None}
use Rattle.std.proofs.Common.{refl, sym, ap, ◌∙◌, subst}
use Rattle.std.proofs.lemmas.Bool.{false≢true}
use Rattle.arc_owners.specs.declared.mark.Whole.{Whole}
use Rattle.arc_owners.specs.declared.count.tokens.Pass.{Pass}
use Rattle.arc_block.specs.Owned.{Stand}
use Rattle.arc_block.specs.Table.{Row}
use Rattle.arc_parts.specs.Shared.{asks_alone}
use Rattle.arc_parts.specs.Writers.{Reclaims}
use Rattle.arc_parts.specs.declared.room.Room.{Room}
use Rattle.arc_parts.specs.declared.room.Room.TheVariants as from
use Rattle.arc_commands.specs.Additions.{AsksFirst, asks_first}
use Rattle.arc_commands.specs.Blocks.{is_sole}
use Rattle.arc_commands.specs.Changes.{Setting, is_now, no_shortage, reclaimed, room_of}
use Rattle.arc_commands.specs.Several.{reclaimed_shared}
use Rattle.arc_commands.specs.Step.{answer_any}
use Rattle.arc_commands.specs.declared.command.Cmd.TheVariants as command
use Rattle.arc_commands.specs.declared.command.Reply.TheVariants as reply
use Rattle.arc_commands.proofs.Roles.{sole-several}
use Rattle.arc_slots.specs.Slots.{SlotView, row_of, stand_of}
use Rattle.arc_slots.proofs.Answered.{changes, for-role, same, writes-for}
use Rattle.arc_slots.proofs.Before.{before_of}

-- what room without memory comes to, as it was found
module _ {T M : Type 0} (row new : Row T M) where
  pub yes-as : (room : Room) → Reclaims room row new true
      → reclaimed row room ≡ is_now reply.Yes new
  yes-as from.Spare did = ap (is_now reply.Yes) (sym did.1)
  yes-as from.Behind did = ap (is_now reply.Yes) (sym did.1)
  yes-as from.Front did = ap (is_now reply.Yes) (sym did.1)
  yes-as (from.Fresh places) did = absurd (false≢true (sym did.0))
  yes-as (from.Growth places) did = absurd (false≢true (sym did.0))
  yes-as (from.Own additional) did = absurd (false≢true (sym did.0))
  yes-as (from.Refused e) did = absurd (false≢true (sym did.0))

  pub no-as : (room : Room) → Reclaims room row new false
      → reclaimed row room ≡ is_now reply.No row
  no-as from.Spare did = absurd (false≢true did.0)
  no-as from.Behind did = absurd (false≢true did.0)
  no-as from.Front did = absurd (false≢true did.0)
  no-as (from.Fresh places) did = refl
  no-as (from.Growth places) did = refl
  no-as (from.Own additional) did = refl
  no-as (from.Refused e) did = refl

module _ {T M : Type 0} (setting : Setting T) (windows : ℕ) (s : SlotView T M)
    (passes : List (Pass Whole)) (writes : is_sole s.role ≡ true) (i k : ℕ) where
  open before_of setting windows s passes use {here, row, around, Said}

  abbrev needed : Room
  needed = room_of setting row k

  rec-is : answer_any setting no_shortage around (command.Rec i k) row ≡ reclaimed row needed
  rec-is =
      for-role setting windows s passes no_shortage (command.Rec i k)
      (writes-for setting windows s passes writes (command.Rec i k) true (λ n. refl))
      ∙ ap (λ b. if b then reclaimed_shared setting around k row else reclaimed row needed)
      (sole-several s.role writes)

  -- it asks nobody first
  unasked : (alone : Bool) (there : Stand) → there ≡ here
      → AsksFirst (asks_first row k) alone here there None passes passes
  unasked alone there stays =
      subst (λ b. AsksFirst b alone here there None passes passes)
      (sym (ap (λ b. b && asks_alone row k) (sole-several s.role writes))) (stays, refl, refl)

  pub has-room : (new : SlotView T M) (found : Bool) → found ≡ true
      → Reclaims needed row (row_of new) found → stand_of (Some new) ≡ here
      → Said (command.Rec i k) reply.Yes (Some new) None passes
  has-room new found is did stays =
      changes setting windows s passes (command.Rec i k) reply.Yes new
      (rec-is ∙ yes-as row (row_of new) needed (subst (Reclaims needed row (row_of new)) is did))
      (unasked true (stand_of (Some new)) stays)

  pub no-room : (new : SlotView T M) (found : Bool) → found ≡ false
      → Reclaims needed row (row_of new) found
      → Said (command.Rec i k) reply.No (Some s) None passes
  no-room new found is did =
      same setting windows s passes (command.Rec i k) reply.No
      (rec-is ∙ no-as row (row_of new) needed (subst (Reclaims needed row (row_of new)) is did))
      (true, unasked true here refl)
