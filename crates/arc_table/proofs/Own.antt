-- Which places the row has that a command made of what it brings, and what those have that a
-- command takes out of a window.
use Rattle.std.proofs.Common.{◌≡◌, ℕ, Bool, true, false, List, [], ◌∷◌, ◌++◌, Option, Some, None}
use Rattle.std.proofs.Common.{length, map, slice_get, sym, ap, ◌∙◌, subst, arith}
use Rattle.std.proofs.lemmas.Bool.{false≢true}
use Rattle.std.specs.Prelude.{IfSome}
use Rattle.std.specs.Option.{option_flatten, option_map}
use Rattle.std.proofs.lemmas.List.{map-append}
use Rattle.std.proofs.lemmas.Option.{none-some, same_Some, slice_get-map, slice_get_past}
use Rattle.arc_block.specs.Place.{size_at}
use Rattle.arc_block.specs.Table.{Row}
use Rattle.arc_block.proofs.Lists.{get-push}
use Rattle.arc_commands.specs.Changes.{Setting}
use Rattle.arc_commands.specs.Step.{other_of, window_of}
use Rattle.arc_commands.specs.declared.command.Cmd.{Cmd}
use Rattle.arc_commands.specs.declared.command.Cmd.TheVariants as command
use Rattle.arc_commands.specs.declared.command.Reply.{Reply}
use Rattle.arc_makers.specs.Makers.{HasOwnPlaces}
use Rattle.arc_slots.specs.Places.{HandsOutPlaces, TakesPlaces}
use Rattle.arc_slots.specs.Slots.{SlotView, row_of, with_slot}

-- the row under the next number is that of the slot that was made
pub own_row : {T M : Type 0} (slots : List (Option (SlotView T M))) (made : Option (SlotView T M))
    → option_flatten (slice_get (map (option_map row_of) (with_slot slots made))
    (length (map (option_map row_of) slots))) ≡ option_map row_of made
own_row slots None =
    ap option_flatten (slice_get_past (map (option_map row_of) slots)
    (length (map (option_map row_of) slots)) (omega arith))
own_row slots (Some s) =
    let rows = map (option_map row_of) slots in
    ap (λ rs. option_flatten (slice_get rs (length rows)))
    (map-append (option_map row_of) slots (Some s ∷ []))
    ∙ ap option_flatten (get-push rows (Some (row_of s)))

-- of a command on a window nothing is said
pub own_on : {C X F B M T : Type 0} (has : X → ℕ → Type 0) (list : X → List T)
    (items : B → List T) (places : B → ℕ) (setting : Setting T) (block : ℕ)
    (c : Cmd C X F B M T) (made : Option (Row T M)) (i : ℕ) → window_of c ≡ Some i
    → HasOwnPlaces has list items places setting block c made
own_on has list items places setting block (command.Vec given) made i on =
    absurd (none-some i on)
own_on has list items places setting block (command.Buf given metadata) made i on =
    absurd (none-some i on)
own_on has list items places setting block (command.MBuf given metadata) made i on =
    absurd (none-some i on)
own_on has list items places setting block other made i on = tt

-- the row under a number is that of the slot there
pub slot_row : {T M : Type 0} (slots : List (Option (SlotView T M))) (i : ℕ)
    (place : Option (SlotView T M)) → slice_get slots i ≡ Some place
    → option_map row_of place ≡ option_flatten (slice_get (map (option_map row_of) slots) i)
slot_row slots i place there =
    sym (ap option_flatten
    (slice_get-map (option_map row_of) slots i ∙ ap (option_map (option_map row_of)) there))

-- whether a command takes a vector or a caller's buffer out of a window
abbrev pub takes_out : {C X F B M T : Type 0} → Cmd C X F B M T → Bool
takes_out (command.Take i) = true
takes_out (command.TakeBuf i) = true
takes_out other = false

module _ {C G X D R F H M T V B : Type 0} (has : V → ℕ → Type 0) (places : B → ℕ)
    (row : ℕ → Option (Row T M)) where
  -- a reply that hands out nothing takes nothing out
  pub takes_none : (c : Cmd C V F B M T) (r : Reply G X V D B R H M)
      → ((n : ℕ) → HandsOutPlaces has places n r) → TakesPlaces has places row c r
  takes_none (command.Take i) r none = at (row i)
    where
      at : (place : Option (Row T M)) → IfSome place (λ s. HandsOutPlaces has places
          (size_at s.place) r)
      at None = tt
      at (Some s) = none (size_at s.place)
  takes_none (command.TakeBuf i) r none = at (row i)
    where
      at : (place : Option (Row T M)) → IfSome place (λ s. HandsOutPlaces has places
          (size_at s.place) r)
      at None = tt
      at (Some s) = none (size_at s.place)
  takes_none other r none = tt

  -- nor does any other command
  pub takes_other : (c : Cmd C V F B M T) (r : Reply G X V D B R H M) → takes_out c ≡ false
      → TakesPlaces has places row c r
  takes_other (command.Take i) r other = absurd (false≢true (sym other))
  takes_other (command.TakeBuf i) r other = absurd (false≢true (sym other))
  takes_other c r other = tt

  -- one on no window, or on two
  pub takes_nowhere : (c : Cmd C V F B M T) (r : Reply G X V D B R H M) → window_of c ≡ None
      → TakesPlaces has places row c r
  takes_nowhere (command.Take i) r on = absurd (none-some i (sym on))
  takes_nowhere (command.TakeBuf i) r on = absurd (none-some i (sym on))
  takes_nowhere other r on = tt

  pub takes_two : (c : Cmd C V F B M T) (r : Reply G X V D B R H M) (j : ℕ) → other_of c ≡ Some j
      → TakesPlaces has places row c r
  takes_two (command.Take i) r j is = absurd (none-some j is)
  takes_two (command.TakeBuf i) r j is = absurd (none-some j is)
  takes_two other r j is = tt

  -- what is taken out of the row under the command's number
  pub takes_at : (old : ℕ → Option (Row T M)) (c : Cmd C V F B M T) (r : Reply G X V D B R H M)
      (i : ℕ) → window_of c ≡ Some i → old i ≡ row i → TakesPlaces has places old c r
      → TakesPlaces has places row c r
  takes_at old (command.Take k) r i on same =
      subst (λ place. IfSome place (λ s. HandsOutPlaces has places (size_at s.place) r))
      (ap old (same_Some _ _ on) ∙ same ∙ ap row (sym (same_Some _ _ on)))
  takes_at old (command.TakeBuf k) r i on same =
      subst (λ place. IfSome place (λ s. HandsOutPlaces has places (size_at s.place) r))
      (ap old (same_Some _ _ on) ∙ same ∙ ap row (sym (same_Some _ _ on)))
  takes_at old other r i on same = λ taken. tt
