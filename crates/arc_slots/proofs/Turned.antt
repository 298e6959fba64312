-- What a slot's writer is answered that reads from now on.
use Rattle.std.proofs.Common.{◌≡◌, ℕ, Bool, true, false, if◌then◌else◌, List}
use Rattle.std.proofs.Common.{length, Option, Some, None, refl, sym, ap}
use Rattle.std.proofs.Common.{◌∙◌, subst}
use Rattle.std.proofs.lemmas.Bool.{false≢true}
use Rattle.arc_owners.specs.declared.mark.Whole.{Whole}
use Rattle.arc_owners.specs.declared.count.tokens.Pass.{Pass}
use Rattle.arc_owners.specs.count.Calls.{Owner}
use Rattle.arc_block.specs.Layouts.{LayoutFacts}
use Rattle.arc_block.specs.Moves.{IsRefused, layout_move}
use Rattle.arc_block.specs.declared.layout.Move.{Move}
use Rattle.arc_block.specs.declared.layout.Move.TheVariants as to
use Rattle.arc_block.specs.Place.{Place, nowhere, static_data, on_block}
use Rattle.arc_commands.specs.Changes.{Setting, Shortage, no_shortage, of_blocks}
use Rattle.arc_commands.specs.Step.{answer_any, is_allowed}
use Rattle.arc_commands.specs.Changes.{is_now, made_row}
use Rattle.arc_commands.specs.Changes.{after_move}
use Rattle.arc_commands.specs.Blocks.{is_sole, is_writer}
use Rattle.arc_commands.specs.Several.{can_share}
use Rattle.arc_commands.proofs.Roles.{sole_each}
use Rattle.arc_parts.specs.Shared.{as_shared}
use Rattle.arc_commands.specs.Commands.{ListCmd}
use Rattle.arc_commands.specs.declared.command.Cmd.TheVariants as command
use Rattle.arc_commands.specs.declared.command.Reply.TheVariants as reply
use Rattle.arc_slots.specs.Slots.{SlotView, row_of, stand_of}
use Rattle.arc_slots.specs.Stands.{numbered, stand_at}
use Rattle.arc_slots.specs.Writing.{FreezesBy, is_new}
use Rattle.arc_slots.proofs.Freezing.{new-moved}
use Rattle.arc_slots.proofs.Answered.{begins-as, changes, for-role, same, stays-there}
use Rattle.arc_slots.proofs.Roles.{writer_each}
use Rattle.arc_slots.proofs.Before.{before_of}

module _ {T M : Type 0} (setting : Setting T) (windows : ℕ) (s : SlotView T M)
    (passes : List (Pass Whole)) where
  open before_of setting windows s passes use {here, row, around, Said}

  module _ (writes : is_writer s.role ≡ true) (i : ℕ) where
    abbrev freeze : ListCmd T M
    freeze = command.Freeze i

    abbrev goes_to : Move
    goes_to = layout_move setting.layout row.place

    frozen-is : (short : Shortage) (move : Move) → goes_to ≡ move
        → answer_any setting short around freeze row ≡ after_move setting short around row move
    frozen-is short move is =
        for-role setting windows s passes short freeze
        (writer_each (λ role. is_allowed setting.calls freeze role ≡ true) (λ n. refl) (λ n. refl)
        s.role writes)
        ∙ ap (after_move setting short around row) is

    -- a first block is made where no owner stands
    new-none : (layout : LayoutFacts) (b : Option ℕ) (place : Place (Option Owner) M)
        → is_new (layout_move layout (numbered b place)) ≡ true → stand_at b place ≡ None
    new-none layout b nowhere new = refl
    new-none layout b static_data new = refl
    new-none layout b (on_block None offset info) new = refl
    new-none layout None (on_block (Some o) offset info) new = refl
    new-none layout (Some n) (on_block (Some o) offset info) new =
        absurd (false≢true (sym (new-moved layout info.sort) ∙ new))

    -- it was frozen
    pub froze : (new : SlotView T M) (passes' : List (Pass Whole))
        → FreezesBy (layout_move setting.layout row.place) setting.drops s new
        passes passes'
        → Said freeze reply.Ok (Some new) None passes'
    froze new passes' did = by goes_to refl did
      where
        by : (move : Move) → goes_to ≡ move → FreezesBy move setting.drops s new passes passes'
            → Said freeze reply.Ok (Some new) None passes'
        by to.Stays is did =
            subst (λ ps. Said freeze reply.Ok (Some new) None ps) (sym did.2)
            (changes setting windows s passes freeze reply.Ok new
            (frozen-is no_shortage to.Stays is ∙ ap (is_now reply.Ok) (sym did.0))
            (stays-there setting windows s passes here (stand_of (Some new)) did.1, refl))
        by to.HandedBack is did = absurd did
        by to.NewCount is did = absurd did
        by to.LeavesCount is did = absurd did
        by to.NewEmpty is did =
            begins-as setting windows s passes freeze new
            (made_row false setting.drops (length passes) row.items) passes'
            (frozen-is no_shortage to.NewEmpty is) (λ there adds. adds)
            (new-none setting.layout s.block s.window.place (ap is_new is))
            did.1 did.0

    -- it was refused
    pub unfrozen : IsRefused (layout_move setting.layout row.place)
        → Said freeze reply.Refused (Some s) None passes
    unfrozen refused = by goes_to refl refused
      where
        kept : (move : Move) → goes_to ≡ move
            → after_move setting of_blocks around row move ≡ is_now reply.Refused row
            → Said freeze reply.Refused (Some s) None passes
        kept move is refuses =
            same setting windows s passes freeze reply.Refused
            (frozen-is of_blocks move is ∙ refuses) (refl, refl, refl)

        by : (move : Move) → goes_to ≡ move → IsRefused move
            → Said freeze reply.Refused (Some s) None passes
        by to.Stays is none = absurd none
        by to.HandedBack is none = kept to.HandedBack is refl
        by to.NewCount is none = kept to.NewCount is refl
        by to.LeavesCount is none = kept to.LeavesCount is refl
        by to.NewEmpty is none = kept to.NewEmpty is refl

  -- ---- who is one of several from now on

  module _ (i : ℕ) (sole : is_sole s.role ≡ true) (shares : setting.calls.shares ≡ true) where
    abbrev share : ListCmd T M
    share = command.Share i

    share-is : (may : Bool) → can_share setting.drops row.place ≡ may
        → answer_any setting no_shortage around share row
        ≡ (if may then is_now reply.Ok (as_shared row) else is_now reply.Refused row)
    share-is may is =
        for-role setting windows s passes no_shortage share
        (sole_each (λ role. is_allowed setting.calls share role ≡ true) (λ places. shares) s.role
        sole)
        ∙ ap (λ b. if b then is_now reply.Ok (as_shared row) else is_now reply.Refused row) is

    pub shared : can_share setting.drops row.place ≡ true → (new : SlotView T M)
        → stand_of (Some new) ≡ here → row_of new ≡ as_shared row
        → Said share reply.Ok (Some new) None passes
    shared may new stays is =
        changes setting windows s passes share reply.Ok new
        (share-is true may ∙ ap (is_now reply.Ok) (sym is)) (stays, refl, refl)

    pub unshared : can_share setting.drops row.place ≡ false
        → Said share reply.Refused (Some s) None passes
    unshared not =
        same setting windows s passes share reply.Refused (share-is false not) (refl, refl, refl)

-- where a first block is wanted, memory for it may be refused
pub refused-new : (move : Move) → is_new move ≡ true → IsRefused move
refused-new to.Stays new = absurd (false≢true new)
refused-new to.HandedBack new = absurd (false≢true new)
refused-new to.NewCount new = absurd (false≢true new)
refused-new to.LeavesCount new = absurd (false≢true new)
refused-new to.NewEmpty new = tt
