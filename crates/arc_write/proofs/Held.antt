-- What a write window stands on is held by its layout, whatever is done to its items.
use Rattle.std.proofs.Common.{◌≡◌, ℕ, zero, suc, Bool, true, false, List, [], ◌∷◌, if◌then◌else◌}
use Rattle.std.proofs.Common.{Option, Some, None, refl, sym, ap, ◌∙◌, subst, length, take, arith}
use Rattle.std.specs.Prelude.{nat_lt, Result, Ok, Err, OnOk, IfErr}
use Rattle.arc_owners.specs.history.Histories.{Beginning, Counted}
use Rattle.arc_owners.specs.count.Calls.{Owner}
use Rattle.arc_owners.specs.declared.count.tokens.Pass.{Pass}
use Rattle.arc_owners.specs.declared.error.TryReserveError.{TryReserveError}
use Rattle.arc_block.specs.Block.{Sort, native, vector, buffer, raw, buffer_info}
use Rattle.arc_parts.specs.declared.room.Room.{Room}
use Rattle.arc_parts.specs.declared.room.Room.TheVariants.{Spare, Fresh, Behind, Front}
use Rattle.arc_parts.specs.declared.room.Room.TheVariants.{Growth, Own, Refused}
use Rattle.arc_block.specs.Given.{Given}
use Rattle.arc_block.specs.Layouts.{LayoutFacts, holds_block}
use Rattle.arc_block.specs.Moves.{IsRefused, counted_move, layout_move}
use Rattle.arc_block.specs.declared.layout.Move.TheVariants.{Stays, HandedBack}
use Rattle.arc_block.specs.Place.{Place, nowhere, static_data, on_block, moved, bare_place}
use Rattle.arc_block.specs.Table.{bare}
use Rattle.arc_parts.specs.Window.{PartsView, IsBlockHeld}
use Rattle.arc_block.specs.Place.{at_front}
use Rattle.arc_parts.specs.Writers.{with_size, with_full, with_room, with_more, written_place}
use Rattle.arc_parts.specs.Writers.{with_capacity, after_advance, after_truncate}
use Rattle.arc_parts.specs.Writers.{room_for, MakesRoom, Reclaims}
use Rattle.arc_parts.specs.Writers.{MakesWriterOver, MakesBufferWriter}
use Rattle.arc_block.specs.Layouts.{MayWrite}
use Rattle.arc_parts.specs.Writers.{RefusesSoleAt}
use Rattle.arc_parts.specs.Shared.{MakesRoomBeside, MakesRoomIf, MakesSharedRoom}
use Rattle.arc_parts.specs.Shared.{ReclaimsIf, ReclaimsShared, as_unique, asks_alone}
use Rattle.arc_writer_parts.specs.Roles.{AsksRoom, PushesItems, ReclaimsRoom}

-- another place of the block, and one of the block with other places, are held too
module _ {M : Type 0} (layout : LayoutFacts) where
  abbrev Holds : Place (Option Owner) M → Type 0
  Holds place = IsBlockHeld layout place

  front-held : (place : Place (Option Owner) M) → Holds place → Holds (at_front place)
  front-held nowhere held = tt
  front-held static_data held = tt
  front-held (on_block owner offset info) held = held

  size-held : (places : ℕ) (place : Place (Option Owner) M) → Holds place
      → Holds (with_size places place)
  size-held places nowhere held = tt
  size-held places static_data held = tt
  size-held places (on_block owner offset info) held = held

  full-held : (len more : ℕ) (place : Place (Option Owner) M) → Holds place
      → Holds (with_full len more place)
  full-held len more nowhere held = tt
  full-held len more static_data held = tt
  full-held len more (on_block owner offset info) held = held

  moved-held : (n : ℕ) (place : Place (Option Owner) M) → Holds place → Holds (moved n place)
  moved-held n nowhere held = tt
  moved-held n static_data held = tt
  moved-held n (on_block owner offset info) held = held

module _ {T M : Type 0} (layout : LayoutFacts) where
  -- the layout holds the block on which a writer stands
  abbrev HoldsRow : PartsView T M → Type 0
  HoldsRow w = IsBlockHeld layout w.place

  same : {old new : PartsView T M} → new ≡ old → HoldsRow old → HoldsRow new
  same is held = subst HoldsRow (sym is) held

  -- with room, on the same block
  with-room-held : (room : Room) (w : PartsView T M) → HoldsRow w → HoldsRow (with_room room w)
  with-room-held Spare w held = held
  with-room-held (Fresh places) w held = held
  with-room-held Behind w held = held
  with-room-held Front w held = front-held layout w.place held
  with-room-held (Growth places) w held = size-held layout places w.place held
  with-room-held (Own additional) w held = held
  with-room-held (Refused e) w held = held

  -- whether a sole writer was made room, or refused: a first block is a native one
  sole-room-held : {H : Type 0} (drops one_pass : Bool) (room : Room) (old new : PartsView T M)
      (before after : Pass H) (reply : Result (Unit {0}) TryReserveError)
      → MakesRoom drops one_pass room old new before after reply
      → IsBlockHeld layout old.place → IsBlockHeld layout new.place
  sole-room-held drops one_pass Spare old new before after reply made held = same made.1 held
  sole-room-held drops one_pass Behind old new before after reply made held = same made.1 held
  sole-room-held drops one_pass Front old new before after reply made held =
      same made.1 (with-room-held Front old held)
  sole-room-held drops one_pass (Fresh places) old new before after (Ok done) made held =
      same made.made refl
  sole-room-held drops one_pass (Fresh places) old new before after (Err e) made held =
      same made.1 held
  sole-room-held drops one_pass (Growth places) old new before after (Ok done) made held =
      same made.1 (with-room-held (Growth places) old held)
  sole-room-held drops one_pass (Growth places) old new before after (Err e) made held =
      same made.1 held
  sole-room-held drops one_pass (Own additional) old new before after (Ok done) made held =
      same made.2 (with-room-held (Growth made.0) old held)
  sole-room-held drops one_pass (Own additional) old new before after (Err e) made held =
      same made.1 held
  sole-room-held drops one_pass (Refused refusal) old new before after reply made held =
      same made.1 held

  sole-reclaimed-held : (room : Room) (old new : PartsView T M) (found : Bool)
      → Reclaims room old new found → IsBlockHeld layout old.place → IsBlockHeld layout new.place
  sole-reclaimed-held Spare old new found r held = same r.1 held
  sole-reclaimed-held Behind old new found r held = same r.1 held
  sole-reclaimed-held Front old new found r held = same r.1 (with-room-held Front old held)
  sole-reclaimed-held (Fresh places) old new found r held = same r.1 held
  sole-reclaimed-held (Growth places) old new found r held = same r.1 held
  sole-reclaimed-held (Own additional) old new found r held = same r.1 held
  sole-reclaimed-held (Refused e) old new found r held = same r.1 held

  -- one of several, who was alone
  beside-held : {H : Type 0} (one_pass : Bool) (room : Room) (old new : PartsView T M)
      (before after : Pass H) (reply : Result (Unit {0}) TryReserveError)
      → MakesRoomBeside one_pass room old new before after reply → HoldsRow old → HoldsRow new
  beside-held one_pass room old new before after reply made held =
      same made.shared
      (sole-room-held false one_pass room old made.sole before after reply made.makes held)

  if-held : {H : Type 0} (found one_pass : Bool) (room : Room) (old new : PartsView T M)
      (before after : Pass H) (reply : Result (Unit {0}) TryReserveError)
      → MakesRoomIf found one_pass room old new before after reply → HoldsRow old → HoldsRow new
  if-held true one_pass room old new before after reply made held =
      beside-held one_pass room (as_unique old) new before after reply made held
  if-held false one_pass room old new before after reply made held = same made.1 held

  -- one of several
  shared-room-held : {H : Type 0} (asks one_pass : Bool) (room : Room) (old new : PartsView T M)
      (before after : Pass H) (reply : Result (Unit {0}) TryReserveError)
      → MakesSharedRoom asks one_pass room old new before after reply
      → IsBlockHeld layout old.place → IsBlockHeld layout new.place
  shared-room-held true one_pass room old new before after reply made held =
      if-held made.0 one_pass room old new made.1 after reply made.3 held
  shared-room-held false one_pass room old new before after reply made held =
      beside-held one_pass room (as_unique old) new before after reply made held

  reclaims-if-held : (found : Bool) (room : Room) (old new : PartsView T M) (answer : Bool)
      → ReclaimsIf found room old new answer → HoldsRow old → HoldsRow new
  reclaims-if-held true room old new answer r held =
      sole-reclaimed-held room old new answer r held
  reclaims-if-held false room old new answer r held = same r.1 held

  shared-reclaimed-held : {H : Type 0} (asks : Bool) (room : Room) (old new : PartsView T M)
      (before after : Pass H) (answer : Bool)
      → ReclaimsShared asks room old new before after answer
      → IsBlockHeld layout old.place → IsBlockHeld layout new.place
  shared-reclaimed-held true room old new before after answer r held =
      reclaims-if-held r.0 room old new answer r.2 held
  shared-reclaimed-held false room old new before after answer r held =
      sole-reclaimed-held room old new answer r.1 held

  -- items more
  more-held : (xs : List T) (old new : PartsView T M) → new ≡ with_more xs old
      → IsBlockHeld layout old.place → IsBlockHeld layout new.place
  more-held xs old new is held =
      same is (full-held layout (length old.items) (length xs) old.place held)

  -- fewer items, and further in
  pub advanced_held : (n : ℕ) (old new : PartsView T M) → new ≡ after_advance n old
      → IsBlockHeld layout old.place → IsBlockHeld layout new.place
  advanced_held n old new is held = same is (moved-held layout n old.place held)

  cut-held : (drops : Bool) (n : ℕ) (w : PartsView T M) (shorter : Bool) → HoldsRow w
      → HoldsRow (if shorter then record w {
        items = take n w.items;
        role = if drops then with_capacity w.role n else w.role;
      } else w)
  cut-held drops n w true held = held
  cut-held drops n w false held = held

  pub truncated_held : (drops : Bool) (n : ℕ) (old new : PartsView T M)
      → new ≡ after_truncate drops n old
      → IsBlockHeld layout old.place → IsBlockHeld layout new.place
  truncated_held drops n old new is held =
      same is (cut-held drops n old (nat_lt n (length old.items)) held)

  -- a new window, on nothing or on a block of a sort that the layout holds
  over-held : {H : Type 0} (beginning : Beginning) (sort : Sort) (drops one_pass : Bool)
      (items : List T) (places : ℕ)
      (w : PartsView T M) (before after : Pass H)
      → ((o : Owner) → holds_block layout (Some o) sort ≡ true)
      → MakesWriterOver beginning sort drops one_pass items places w before after → HoldsRow w
  over-held beginning sort drops one_pass items zero w before after holds made =
      same (made.idle refl).0 tt
  over-held beginning sort drops one_pass items (suc n) w before after holds made =
      let new = made.new (omega arith) in same new.made (holds new.owner)

  pub native_held : {H : Type 0} (drops one_pass : Bool) (items : List T) (places : ℕ)
      (w : PartsView T M) (before after : Pass H)
      → MakesWriterOver Counted native drops one_pass items places w before after
      → IsBlockHeld layout w.place
  native_held drops one_pass items places w before after made =
      over-held Counted native drops one_pass items places w before after (λ o. refl) made

  pub vector_held : {H : Type 0} (drops one_pass : Bool) (items : List T) (places : ℕ)
      (w : PartsView T M) (before after : Pass H) → layout.has_any ≡ true
      → MakesWriterOver Counted vector drops one_pass items places w before after
      → IsBlockHeld layout w.place
  vector_held drops one_pass items places w before after any made =
      over-held Counted vector drops one_pass items places w before after (λ o. any) made

  pub buffer_held : {H : Type 0} (one_pass : Bool) (places full : ℕ) (given : Option M)
      (items : List T) (w : PartsView T M) (p : Pass H) → layout.has_any ≡ true
      → MakesBufferWriter one_pass (buffer_info true places full given) items w p
      → IsBlockHeld layout w.place
  buffer_held one_pass places full given items w p any made = same made.made any

-- The same of rows with what a caller gave, of which room is said without it.
module _ {B M : Type 0} (layout : LayoutFacts) where
  bare-held : (place : Place (Option Owner) (Given B M)) → IsBlockHeld layout place
      → IsBlockHeld layout (bare_place place)
  bare-held nowhere held = held
  bare-held static_data held = held
  bare-held (on_block owner offset info) held = held

  held-back : (place : Place (Option Owner) (Given B M)) → IsBlockHeld layout (bare_place place)
      → IsBlockHeld layout place
  held-back nowhere held = held
  held-back static_data held = held
  held-back (on_block owner offset info) held = held

module _ {T B M : Type 0} (layout : LayoutFacts) where
  -- other items in their places
  pub written_held : (with_part : B → ℕ → List T → B)
      (place : Place (Option Owner) (Given B M)) (items : List T) → IsBlockHeld layout place
      → IsBlockHeld layout (written_place with_part place items)
  written_held with_part nowhere items held = held
  written_held with_part static_data items held = held
  written_held with_part (on_block owner offset info) items held = held

  pub sole_reclaimed_held : (room : Room) (old new : PartsView T (Given B M)) (found : Bool)
      → Reclaims room (bare old) (bare new) found
      → IsBlockHeld layout old.place → IsBlockHeld layout new.place
  sole_reclaimed_held room old new found r held =
      held-back layout new.place (sole-reclaimed-held layout room (bare old) (bare new) found r
      (bare-held layout old.place held))

  -- a writer of either role, whether room was made or refused
  pub room_held : {H : Type 0} (several drops one_pass : Bool) (item_size additional : ℕ)
      (old new : PartsView T (Given B M)) (before after : Pass H)
      (reply : Result (Unit {0}) TryReserveError)
      → AsksRoom several drops one_pass item_size additional old new before after reply
      → IsBlockHeld layout old.place → IsBlockHeld layout new.place
  room_held false drops one_pass item_size additional old new before after reply made held =
      held-back layout new.place (sole-room-held layout drops one_pass
      (room_for drops item_size (bare old) additional) (bare old) (bare new) before after reply
      made (bare-held layout old.place held))
  room_held true drops one_pass item_size additional old new before after reply made held =
      held-back layout new.place (shared-room-held layout (asks_alone (bare old) additional) one_pass
      (room_for false item_size (bare old) additional) (bare old) (bare new) before after reply
      made (bare-held layout old.place held))

  -- and whether there was room without memory
  pub reclaimed_held : {H : Type 0} (several drops : Bool) (item_size additional : ℕ)
      (old new : PartsView T (Given B M)) (before after : Pass H) (found : Bool)
      → ReclaimsRoom several drops item_size additional old new before after found
      → IsBlockHeld layout old.place → IsBlockHeld layout new.place
  reclaimed_held false drops item_size additional old new before after found r held =
      sole_reclaimed_held (room_for drops item_size (bare old) additional) old new found r.0 held
  reclaimed_held true drops item_size additional old new before after found r held =
      held-back layout new.place (shared-reclaimed-held layout (asks_alone (bare old) additional)
      (room_for false item_size (bare old) additional) (bare old) (bare new) before after found r
      (bare-held layout old.place held))

  -- items more
  pub more_held : (xs : List T) (old new : PartsView T (Given B M))
      → bare new ≡ with_more xs (bare old)
      → IsBlockHeld layout old.place → IsBlockHeld layout new.place
  more_held xs old new is held =
      held-back layout new.place (more-held layout xs (bare old) (bare new) is
      (bare-held layout old.place held))

  -- whether a list was pushed or refused
  pub extend_held : {E H : Type 0} (several drops one_pass : Bool) (item_size additional : ℕ)
      (xs : List T) (old new : PartsView T (Given B M)) (before after : Pass H)
      (why : E → TryReserveError) (reply : Result (Unit {0}) E)
      → OnOk reply (PushesItems several drops one_pass item_size additional xs
      old new before after)
      → IfErr reply (λ e. AsksRoom several drops one_pass item_size additional
      old new before after (Err (why e)))
      → IsBlockHeld layout old.place → IsBlockHeld layout new.place
  extend_held false drops one_pass item_size n xs old new before after why (Ok done) pushed
      refused held =
      held-back layout new.place (more-held layout xs pushed.0 (bare new) pushed.2
      (sole-room-held layout drops one_pass (room_for drops item_size (bare old) n) (bare old)
      pushed.0 before after (Ok tt) pushed.1 (bare-held layout old.place held)))
  extend_held true drops one_pass item_size n xs old new before after why (Ok done) pushed
      refused held =
      held-back layout new.place (same layout pushed.pushed (shared-room-held layout
      (asks_alone (bare old) n) one_pass (room_for false item_size (bare old) n) (bare old)
      pushed.between before after (Ok tt) pushed.makes (bare-held layout old.place held)))
  extend_held several drops one_pass item_size n xs old new before after why (Err e) pushed
      refused held =
      room_held several drops one_pass item_size n old new before after (Err (why e)) refused held

  -- and whether an item was, or handed back
  pub push_held : {H : Type 0} (several drops one_pass : Bool) (item_size additional : ℕ) (x : T)
      (old new : PartsView T (Given B M)) (before after : Pass H)
      (reply : Result (Unit {0}) (TryReserveError × T))
      → OnOk reply (PushesItems several drops one_pass item_size additional (x ∷ [])
      old new before after)
      → IfErr reply (λ r. (r.1 ≡ x) × AsksRoom several drops one_pass item_size additional
      old new before after (Err r.0))
      → IsBlockHeld layout old.place → IsBlockHeld layout new.place
  push_held several drops one_pass item_size n x old new before after (Ok done) pushed refused
      held =
      extend_held several drops one_pass item_size n (x ∷ []) old new before after
      (λ (r : TryReserveError × T). r.0) (Ok done) pushed tt held
  push_held several drops one_pass item_size n x old new before after (Err r) pushed refused held =
      extend_held several drops one_pass item_size n (x ∷ []) old new before after
      (λ (r : TryReserveError × T). r.0) (Err r) tt refused.1 held

-- a block that may be written under a layout stays there
pub may-stays : (layout : LayoutFacts) (sort : Sort) → MayWrite layout.has_any sort
    → counted_move layout sort ≡ Stays
may-stays layout native may = refl
may-stays layout vector may = ap (λ b. if b then Stays else HandedBack) may.1
may-stays layout (buffer writable) may = ap (λ b. if b then Stays else HandedBack) may.1
may-stays layout raw may = absurd may.0

-- of what the layout hands back nothing was asked
pub unasked_back : {M H : Type 0} (layout : LayoutFacts) (place : Place (Option Owner) M) (len : ℕ)
    (before after : Pass H) → RefusesSoleAt layout.has_any place len before after
    → layout_move layout place ≡ HandedBack → after ≡ before
unasked_back layout nowhere len before after refused back = refused.1
unasked_back layout static_data len before after refused back = refused.1
unasked_back layout (on_block None offset info) len before after refused back = refused
unasked_back layout (on_block (Some o) offset info) len before after refused back =
    refused.1 (λ may. subst IsRefused (sym back ∙ may-stays layout info.sort may) tt)
