-- What the commands that write into a window add: as each of their forms says.
use Rattle.std.proofs.Common.{◌≡◌, ◌&&◌, ℕ, Bool, false, List, None, refl, sym, ap}
use Rattle.std.proofs.Common.{subst, length}
use Rattle.arc_owners.specs.declared.mark.Whole.{Whole}
use Rattle.arc_owners.specs.declared.count.tokens.Pass.{Pass}
use Rattle.arc_owners.specs.declared.error.TryReserveError.{TryReserveError}
use Rattle.arc_block.specs.Owned.{Stand}
use Rattle.arc_block.specs.Table.{Row}
use Rattle.arc_parts.specs.Shared.{asks_alone}
use Rattle.arc_commands.specs.Additions.{RowAdds, Stays, asks_first}
use Rattle.arc_commands.specs.Additions.{HasMade, HasRefused}
use Rattle.arc_commands.specs.Blocks.{is_several}
use Rattle.arc_owners.specs.declared.error.TryReserveError.TheVariants as reserve
use Rattle.arc_commands.specs.Changes.{Setting}
use Rattle.arc_commands.specs.declared.command.Reply.TheVariants as reply
use Rattle.arc_slots.specs.Writing.{write_command}
use Rattle.arc_slots.specs.declared.slot.Writing.{Writing}
use Rattle.arc_slots.specs.declared.slot.Writing.TheVariants as writing

-- Of a row that isn't one of several writers'.
module _ {T M : Type 0} (setting : Setting T) (i : ℕ) (here : Stand) (passes : List (Pass Whole))
    (row : Row T M) (one : is_several row.role ≡ false) where
  -- it asks nobody first
  asks-none : (k : ℕ) → asks_first row k ≡ false
  asks-none k = ap (λ b. b && asks_alone row k) one

  -- items that are written
  made-as : (k : ℕ) (there : Stand) (passes' : List (Pass Whole))
      → Stays here there None passes passes'
      → HasMade (asks_first row k) here there None passes passes'
  made-as k there passes' stays =
      subst (λ b. HasMade b here there None passes passes') (sym (asks-none k)) stays

  pub write-adds : (what : Writing (List T) T) (there : Stand) (passes' : List (Pass Whole))
      → Stays here there None passes passes'
      → RowAdds setting row (write_command i what) reply.Ok here there None passes passes'
  write-adds (writing.Nothing additional) there passes' stays =
      made-as additional there passes' stays
  write-adds (writing.Item item) there passes' stays = made-as 1 there passes' stays
  write-adds (writing.Items items) there passes' stays =
      made-as (length items) there passes' stays

  -- they were refused
  refused-as : (asks : Bool) (e : TryReserveError) → asks ≡ false
      → HasRefused asks e here here None passes passes
  refused-as asks e none =
      subst (λ b. HasRefused b e here here None passes passes) (sym none) (unasked e)
    where
      unasked : (f : TryReserveError) → HasRefused false f here here None passes passes
      unasked reserve.AllocError = (refl, refl, refl)
      unasked reserve.NotUnique = (refl, refl, refl)
      unasked reserve.Unsupported = (refl, refl, refl)
      unasked reserve.CapacityOverflow = (refl, refl, refl)

  pub write-none : (what : Writing (List T) T) (e : TryReserveError)
      → RowAdds setting row (write_command i what) (reply.Reserve e) here here None passes passes
  write-none (writing.Nothing additional) e =
      refused-as (asks_first row additional) e (asks-none additional)
  write-none (writing.Item item) e = refused-as (asks_first row 1) e (asks-none 1)
  write-none (writing.Items items) e =
      refused-as (asks_first row (length items)) e (asks-none (length items))
