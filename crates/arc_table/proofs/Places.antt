-- Where a row lies and where its window stands agree.
use Rattle.std.proofs.Common.{◌≡◌, ℕ, ◌==◌, if◌then◌else◌, Bool, true, false, List, [], ◌∷◌, length}
use Rattle.std.proofs.Common.{map, Option, Some, None, is_some, refl, sym, ap, ◌∙◌}
use Rattle.std.proofs.lemmas.List.{length-map}
use Rattle.std.specs.Option.{option_and_then, option_map, option_map_or}
use Rattle.arc_owners.specs.declared.count.tokens.Pass.{Pass}
use Rattle.arc_owners.specs.declared.mark.Whole.{Whole}
use Rattle.arc_owners.specs.count.Calls.{Owner}
use Rattle.arc_block.specs.Owned.{number_on, owners_on}
use Rattle.arc_block.specs.Place.{Place, nowhere, static_data, on_block}
use Rattle.arc_block.specs.Table.{Row, block_of, stands_on, owners}
use Rattle.arc_block.proofs.Alone.{same_owners}
use Rattle.arc_slots.specs.Slots.{SlotView, row_of, stand_of, stands_of}
use Rattle.arc_slots.specs.Stands.{numbered, stand_at}
use Rattle.arc_slots.proofs.Told.{place_agrees, stand_block}
use Rattle.arc_commands.specs.State.{Agrees, State}
use Rattle.arc_slots.specs.Index.{windows_of}
use Rattle.arc_slots.specs.Slots.{state_of}
use Rattle.arc_slots.proofs.Index.{many-windows}

abbrev At : Type 0 → Type 0
At M = Place (Option Owner) M

-- the number of the block on which a row lies
abbrev row_block : {T M : Type 0} → Option (Row T M) → Option ℕ
row_block row = option_and_then (λ r. block_of r.place) row

number-if : (b : Bool) (n : ℕ) → b ≡ is_some (if b then Some n else None)
number-if true n = refl
number-if false n = refl

-- a row stands on a block where the window is one of its owners
place-counted : {M : Type 0} (b : Option ℕ) (place : At M) (n : ℕ)
    → option_map_or (λ m. m == n) (block_of (numbered b place)) false
    ≡ is_some (number_on n (stand_at b place))
place-counted b nowhere n = refl
place-counted b (on_block None offset facts) n = refl
place-counted b static_data n = refl
place-counted None (on_block (Some owner) offset facts) n = refl
place-counted (Some m) (on_block (Some owner) offset facts) n = number-if (m == n) owner.number

module _ {T M : Type 0} where
  slot-agrees : (x : Option (SlotView T M))
      → row_block (option_map row_of x) ≡ stand_block (stand_of x)
  slot-agrees None = refl
  slot-agrees (Some s) = place_agrees s.block s.window.place

  slots-agree : (slots : List (Option (SlotView T M)))
      → map row_block (map (option_map row_of) slots) ≡ map stand_block (stands_of slots)
  slots-agree [] = refl
  slots-agree (x ∷ xs) =
      ap (λ b. b ∷ map row_block (map (option_map row_of) xs)) (slot-agrees x)
      ∙ ap (λ bs. stand_block (stand_of x) ∷ bs) (slots-agree xs)

  -- there is a row for each number
  pub rows-many : (index numbers : List ℕ) (places : List (Option (SlotView T M)))
      (passes : List (Pass Whole)) {s : State T M}
      → state_of (windows_of index numbers places) passes ≡ s
      → length s.table.rows ≡ length index
  rows-many index numbers places passes seen =
      sym (ap (λ (o : State T M). length o.table.rows) seen)
      ∙ length-map (windows_of index numbers places) (option_map row_of)
      ∙ many-windows index numbers places

  -- each window stands on the block of its row
  pub state-agrees : (slots : List (Option (SlotView T M))) (passes : List (Pass Whole))
      → Agrees (state_of slots passes)
  state-agrees slots passes = slots-agree slots

  slot-counted : (x : Option (SlotView T M)) (n : ℕ)
      → stands_on n (option_map row_of x) ≡ is_some (number_on n (stand_of x))
  slot-counted None n = refl
  slot-counted (Some s) n = place-counted s.block s.window.place n

  -- so many rows stand on a block as the block has owners
  pub rows-counted : (slots : List (Option (SlotView T M))) (passes : List (Pass Whole)) (n : ℕ)
      → owners (state_of slots passes).table n ≡ length (owners_on n (stands_of slots))
  rows-counted slots passes n = same_owners (option_map row_of) stand_of slot-counted slots n
