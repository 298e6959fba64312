-- The window under the number is answered, and what it made, if it made one, is put behind the
-- others.
use Rattle.arc_block.specs.LayoutFacts.{layout_facts}
use Rattle.std.specs.Mem.{type_size}
use Rattle.arc_commands.specs.State.{State}
use Rattle.arc_commands.specs.Changes.{Setting, setting_of}
use Rattle.arc_slots.specs.Index.{IsIndexed, windows_of}
use Rattle.arc_slots.specs.Slots.{SlotView, state_of}
use Rattle.arc_table.proofs.Done.{Done}
use Rattle.std.proofs.Common.{◌≡◌, List, Option, None, Some, length, slice_get, slice_set, refl}
use Rattle.std.proofs.Common.{Result, Ok, Err}
use Rattle.std.proofs.Common.{sym, ap, ◌∙◌, subst}
use Rattle.std.proofs.Common.{arith}
use Rattle.std.specs.Option.{option_flatten}
use Rattle.std.proofs.lemmas.List.{length-set}
use Rattle.std.specs.Prelude.{IfSome}
use Rattle.arc_owners.specs.declared.mark.Whole.{Whole}
use Rattle.arc_owners.specs.declared.count.tokens.Pass.{Pass}
use Rattle.arc_commands.specs.Commands.{ListCmd, ListReply}
use Rattle.arc_commands.specs.Seen.{map_command, seen_reply}
use Rattle.arc_commands.specs.declared.command.Reply.TheVariants as reply
use Rattle.arc_slots.specs.Answers.{Answers}
use Rattle.arc_slots.specs.Slots.{stand_of, with_slot}
use Rattle.arc_slots.specs.Stands.{HasPassFor}
use Rattle.arc_slots.proofs.Index.{many-windows, same-indexed, same-parts, set-indexed, set-window}
use Rattle.arc_slots.proofs.Index.{window-there}
use Rattle.arc_slots.proofs.Taken.{has_life}
use Rattle.arc_block.specs.Table.{row_at}
use Rattle.arc_commands.proofs.Windows.{window-seen}
use Rattle.arc_slots.specs.Places.{TakesPlaces, WrapsPlaces}
use Rattle.arc_slots.specs.Slots.{row_of}
use Rattle.std.specs.Option.{option_map}
use Rattle.arc_table.proofs.Own.{slot_row, takes_at, takes_none}
use Rattle.arc_table.proofs.Stepped.{at-next, at-place, carried, known, unanswered}
use Rattle.arc_table.proofs.table.Table.on_window.Given.{Over}
use Rattle.arc_table.proofs.table.Table.on_window.Goals.{After-index_mut-slot, After-push_made}
use Rattle.arc_table.proofs.table.Table.on_window.Goals.{After-settle, In_default}
use Rattle.arc_table.proofs.table.Table.on_window.Goals as goal

abbrev setting : (g : Over) → Setting g.row.S-Item.Denot
setting g =
    setting_of (layout_facts g.L.Layout) g.L.Writable.Layout.ANY g.L.Layout.clone_wants
    g.S.Slice.DROPS g.S.Subsliceable.boundary
    (type_size g.row.S-Item) g.S.Zero.ZeroOf.zero g.S.Calls.CallsOf.calls

-- what was answered isn't refused, and a refusal is told as it was
ok-err : {T E : Type 0} {x : T} {e : E} → (◌≡◌ {A = Result T E} (Ok x) (Err e)) → ⊥
ok-err is = absurd cc

same-err : {T E : Type 0} {e f : E} → (◌≡◌ {A = Result T E} (Err e) (Err f)) → e ≡ f
same-err is = cc

pub place_of-requires : goal.place_of-requires
place_of-requires g c =
    let s = c.self.inside.slots in
    let mid = c.room_if-has_room.new.self in
    let kept = c.room_if-has_room.ensures in
    same-indexed mid.index.items s.index.items mid.numbers.items s.numbers.items mid.places.items
    s.places.items kept.index kept.numbers kept.places c.self.invariant.1

-- the window under the number stands at its place, among those that were there
module _ (g : Over) (c : After-index_mut-slot g) where
  abbrev windows : List (Option (SlotView g.row.S-Item.Denot g.row.M.Denot))
  windows =
      windows_of c.self.inside.slots.index.items c.self.inside.slots.numbers.items
      c.self.inside.slots.places.items

  stands : slice_get c.room_if-has_room.new.self.places.items c.in-Some.place
      ≡ Some c.index_mut-slot.result.now
  stands =
      at-place c.room_if-has_room.new.self.places.items c.in-Some.place
      c.index_mut-slot.result.now c.in-Some.ensures.within c.index_mut-slot.ensures.value

  as-before : windows_of c.room_if-has_room.new.self.index.items
      c.room_if-has_room.new.self.numbers.items c.room_if-has_room.new.self.places.items ≡ windows
  as-before =
      let s = c.self.inside.slots in
      let mid = c.room_if-has_room.new.self in
      let kept = c.room_if-has_room.ensures in
      same-parts mid.index.items s.index.items mid.numbers.items s.numbers.items mid.places.items
      s.places.items kept.index kept.numbers kept.places

  stood : slice_get windows c.args.i ≡ Some c.index_mut-slot.result.now
  stood =
      let mid = c.room_if-has_room.new.self in
      ap (λ ws. slice_get ws c.args.i) (sym as-before)
      ∙ window-there mid.index.items mid.numbers.items mid.places.items c.args.i c.in-Some.place
      c.in-Some.ensures.told c.in-Some.ensures.whose c.index_mut-slot.result.now stands

  -- what is put at that place stands under the number
  put : (new : Option (SlotView g.row.S-Item.Denot g.row.M.Denot))
      → windows_of c.room_if-has_room.new.self.index.items
      c.room_if-has_room.new.self.numbers.items
      (slice_set c.room_if-has_room.new.self.places.items c.in-Some.place new)
      ≡ slice_set windows c.args.i new
  put new =
      let mid = c.room_if-has_room.new.self in
      set-window mid.index.items mid.numbers.items mid.places.items c.args.i c.in-Some.place
      c.in-Some.ensures.told c.in-Some.ensures.whose c.index_mut-slot.result.now stands new
      ∙ ap (λ ws. slice_set ws c.args.i new) as-before

  put-indexed : (new : Option (SlotView g.row.S-Item.Denot g.row.M.Denot))
      → IsIndexed c.room_if-has_room.new.self.index.items
      c.room_if-has_room.new.self.numbers.items
      (slice_set c.room_if-has_room.new.self.places.items c.in-Some.place new)
  put-indexed new =
      let s = c.self.inside.slots in
      let mid = c.room_if-has_room.new.self in
      let kept = c.room_if-has_room.ensures in
      set-indexed mid.index.items mid.numbers.items mid.places.items c.args.i c.in-Some.place
      c.in-Some.ensures.told c.in-Some.ensures.whose c.index_mut-slot.result.now stands new
      (same-indexed mid.index.items s.index.items mid.numbers.items s.numbers.items
      mid.places.items s.places.items kept.index kept.numbers kept.places c.self.invariant.1)

  abbrev asked : ListCmd g.row.S-Item.Denot g.row.M.Denot
  asked = map_command g.S.Commands.items_in g.S.Commands.static_in g.B.Buffer.list c.args.command

  -- what it was answered the table did, which ends with these windows
  did : (r : ListReply g.row.S-Item.Denot g.row.M.Denot)
      (new made : Option (SlotView g.row.S-Item.Denot g.row.M.Denot))
      (ends : List (Option (SlotView g.row.S-Item.Denot g.row.M.Denot)))
      (after : List (Pass Whole)) → ends ≡ with_slot (slice_set windows c.args.i new) made
      → IfSome c.index_mut-slot.result.now (λ s. Answers (setting g) (length windows) asked s
      c.self.inside.passes.of_blocks.items r new made after)
      → (c.index_mut-slot.result.now ≡ None → (r ≡ reply.NoWindow) × (made ≡ None)
      × (new ≡ None) × (after ≡ c.self.inside.passes.of_blocks.items))
      → Done (setting g) c.args.self.now asked r ends after
  did r new made ends after is some none =
      let passes = c.self.inside.passes.of_blocks.items in
      subst (λ (o : State g.row.S-Item.Denot g.row.M.Denot). Done (setting g) o asked r ends
      after) c.self.view_is
      (subst (λ ss. Done (setting g) (state_of windows passes) asked r ss after) (sym is)
      (carried (setting g) windows passes c.self.invariant.0 c.args.i c.index_mut-slot.result.now
      stood asked c.requires.on c.requires.one r new made after some none))

-- it made one
made : (g : Over) (c : After-push_made g)
    → Done (setting g) c.args.self.now
    (map_command g.S.Commands.items_in g.S.Commands.static_in g.B.Buffer.list c.args.command)
    (reply.New c.len-next.result) (windows_of c.push_made.new.self.index.items
    c.push_made.new.self.numbers.items c.push_made.new.self.places.items)
    c.answer.new.passes.of_blocks.items
made g c =
    let found = (goal.at.invariant_of-self-in-Ok g c).After-index_mut-slot in
    let s = c.self.inside.slots in
    let end = c.push_made.new.self in
    let ends = windows_of end.index.items end.numbers.items end.places.items in
    let after = c.answer.new.passes.of_blocks.items in
    let many = length (windows g found) in
    let next =
    c.len-next.ensures ∙ c.room_if-has_room.new.self.index.ok.0
    ∙ ap length c.room_if-has_room.ensures.index
    ∙ sym (many-windows s.index.items s.numbers.items s.places.items) in
    subst (λ n. Done (setting g) c.args.self.now (asked g found) (reply.New n) ends after)
    (sym next)
    (did g found (reply.New many) c.answer.new.place (Some c.in-Ok.window) ends after
    (c.push_made.ensures.windows
    ∙ ap (λ ws. with_slot ws (Some c.in-Ok.window)) (put g found c.answer.new.place))
    (at-next _ c.index_mut-slot.result.now many c.in-Ok.ensures.made)
    (λ none. absurd (ok-err (sym c.in-Ok.is ∙ (c.answer.ensures.none none).0))))

-- it made none
told : (g : Over) (c : After-settle g)
    → Done (setting g) c.args.self.now
    (map_command g.S.Commands.items_in g.S.Commands.static_in g.B.Buffer.list c.args.command)
    (seen_reply g.S.Commands.items_in g.S.Commands.items_in_box
    g.B.Buffer.list c.in-Err.reply) (windows_of c.settle.new.self.index.items
    c.settle.new.self.numbers.items c.settle.new.self.places.items)
    c.answer.new.passes.of_blocks.items
told g c =
    let found = (goal.at.invariant_of-self-in-Err g c).After-index_mut-slot in
    let mid = c.room_if-has_room.new.self in
    let end = c.settle.new.self in
    let new = c.answer.new.place in
    did g found
    (seen_reply g.S.Commands.items_in g.S.Commands.items_in_box g.B.Buffer.list c.in-Err.reply)
    new None
    (windows_of end.index.items end.numbers.items end.places.items)
    c.answer.new.passes.of_blocks.items
    (same-parts end.index.items mid.index.items end.numbers.items mid.numbers.items
    end.places.items (slice_set mid.places.items c.in-Some.place new) c.settle.ensures.index
    c.settle.ensures.numbers c.settle.ensures.places
    ∙ put g found new)
    (at-next _ c.index_mut-slot.result.now (length (windows g found)) c.in-Err.ensures.told)
    (λ none. let so = c.answer.ensures.none none in (
      ap (seen_reply g.S.Commands.items_in g.S.Commands.items_in_box g.B.Buffer.list)
          {y = reply.NoWindow} (same-err (sym c.in-Err.is ∙ so.0)),
      refl,
      so.1,
      so.2,
    ))

-- the table has the pass of the block on which the window stands, in which its owner lives
has-pass : (g : Over) (c : After-index_mut-slot g)
    → HasPassFor c.self.inside.passes.of_blocks.items (stand_of c.index_mut-slot.result.now)
has-pass g c =
    let s = c.self.inside.slots in
    known (setting g) (windows_of s.index.items s.numbers.items s.places.items)
    c.self.inside.passes.of_blocks.items c.self.invariant.0 c.args.i c.index_mut-slot.result.now
    (stood g c)

pub answer-requires-clause-pass : goal.answer-requires-clause-pass
answer-requires-clause-pass g c =
    has-pass g (goal.at.answer-requires-clause-pass g c).After-index_mut-slot

pub answer-requires-clause-lives : goal.answer-requires-clause-lives
answer-requires-clause-lives g c =
    has_life c.self.inside.passes.of_blocks.items (stand_of c.index_mut-slot.result.now)
    (has-pass g (goal.at.answer-requires-clause-lives g c).After-index_mut-slot)

pub push_made-requires-clause-indexed : goal.push_made-requires-clause-indexed
push_made-requires-clause-indexed g c =
    put-indexed g (goal.at.push_made-requires-clause-indexed g c).After-index_mut-slot
    c.answer.new.place

pub push_made-requires-clause-room : goal.push_made-requires-clause-room
push_made-requires-clause-room g c some =
    c.room_if-has_room.ensures.room (c.in-Ok.ensures.room refl)

pub push_made-requires-clause-more : goal.push_made-requires-clause-more
push_made-requires-clause-more g c some =
    c.room_if-has_room.ensures.more (c.in-Ok.ensures.room refl)

pub push_made-requires-clause-further : goal.push_made-requires-clause-further
push_made-requires-clause-further g c some =
    let room = c.room_if-has_room.ensures.further (c.in-Ok.ensures.room refl) in
    omega (
      arith,
      room,
      length-set c.room_if-has_room.new.self.places.items c.in-Some.place c.answer.new.place,
    )

pub invariant_of-self-in-Ok : goal.invariant_of-self-in-Ok
invariant_of-self-in-Ok g c = (
  (made g (goal.at.invariant_of-self-in-Ok g c).After-push_made).kept,
  c.push_made.ensures.indexed,
)

pub invariant_of-self-in-Err : goal.invariant_of-self-in-Err
invariant_of-self-in-Err g c =
    let at = goal.at.invariant_of-self-in-Err g c in
    let mid = c.room_if-has_room.new.self in
    let end = c.settle.new.self in (
      (told g at.After-settle).kept,
      same-indexed end.index.items mid.index.items end.numbers.items mid.numbers.items
          end.places.items (slice_set mid.places.items c.in-Some.place c.answer.new.place)
          c.settle.ensures.index c.settle.ensures.numbers c.settle.ensures.places
          (put-indexed g at.After-index_mut-slot c.answer.new.place),
    )

pub returns-in-Ok-clause-rows : goal.returns-in-Ok-clause-rows
returns-in-Ok-clause-rows g c =
    (made g (goal.at.returns-in-Ok-clause-rows g c).After-push_made).rows

pub returns-in-Ok-clause-passes : goal.returns-in-Ok-clause-passes
returns-in-Ok-clause-passes g c =
    (made g (goal.at.returns-in-Ok-clause-passes g c).After-push_made).passes_are

pub returns-in-Err-clause-rows : goal.returns-in-Err-clause-rows
returns-in-Err-clause-rows g c =
    (told g (goal.at.returns-in-Err-clause-rows g c).After-settle).rows

pub returns-in-Err-clause-passes : goal.returns-in-Err-clause-passes
returns-in-Err-clause-passes g c =
    (told g (goal.at.returns-in-Err-clause-passes g c).After-settle).passes_are

-- no window has the number
none : (g : Over) (c : In_default g)
    → Done (setting g) c.args.self.now
    (map_command g.S.Commands.items_in g.S.Commands.static_in g.B.Buffer.list c.args.command)
    reply.NoWindow
    (windows_of c.room_if-has_room.new.self.index.items
    c.room_if-has_room.new.self.numbers.items c.room_if-has_room.new.self.places.items)
    c.self.inside.passes.of_blocks.items
none g c =
    let s = c.self.inside.slots in
    let mid = c.room_if-has_room.new.self in
    let kept = c.room_if-has_room.ensures in
    let slots = windows_of s.index.items s.numbers.items s.places.items in
    let passes = c.self.inside.passes.of_blocks.items in
    let same =
    same-parts mid.index.items s.index.items mid.numbers.items s.numbers.items mid.places.items
    s.places.items kept.index kept.numbers kept.places in
    let command = map_command g.S.Commands.items_in g.S.Commands.static_in g.B.Buffer.list
    c.args.command in
    subst (λ (o : State g.row.S-Item.Denot g.row.M.Denot). Done (setting g) o command reply.NoWindow
    (windows_of mid.index.items mid.numbers.items mid.places.items) passes) c.self.view_is
    (subst (λ ss. Done (setting g) (state_of slots passes) command reply.NoWindow ss passes)
    (sym same)
    (unanswered (setting g) slots passes c.self.invariant.0 c.args.i
    (ap (λ ws. option_flatten (slice_get ws c.args.i)) (sym same)
    ∙ c.place_of.ensures.none c.in_default.is) command c.requires.on c.requires.one))

pub returns-in_default-clause-rows : goal.returns-in_default-clause-rows
returns-in_default-clause-rows g c =
    (none g (goal.at.returns-in_default-clause-rows g c).In_default).rows

pub returns-in_default-clause-passes : goal.returns-in_default-clause-passes
returns-in_default-clause-passes g c =
    (none g (goal.at.returns-in_default-clause-passes g c).In_default).passes_are

pub invariant_of-self : goal.invariant_of-self
invariant_of-self g c =
    let s = c.self.inside.slots in
    let mid = c.room_if-has_room.new.self in
    let kept = c.room_if-has_room.ensures in (
      (none g (goal.at.invariant_of-self g c).In_default).kept,
      same-indexed mid.index.items s.index.items mid.numbers.items s.numbers.items
          mid.places.items s.places.items kept.index kept.numbers kept.places c.self.invariant.1,
    )

-- what is taken out of the window has the places of its row's block
pub returns-in-Err-clause-taken_places : goal.returns-in-Err-clause-taken_places
returns-in-Err-clause-taken_places g c =
    let found = (goal.at.returns-in-Err-clause-taken_places g c).After-index_mut-slot in
    let has = WrapsPlaces g.S.Items.Wraps.wraps in
    let places = g.B.Buffer.places in
    let passes = c.self.inside.passes.of_blocks.items in
    let here = c.index_mut-slot.result.now in
    subst (λ (o : State g.row.S-Item.Denot g.row.M.Denot). TakesPlaces has places (row_at o.table)
    c.args.command c.in-Err.reply) c.self.view_is
    (takes_at has places (row_at (state_of (windows g found) passes).table)
    (λ _. option_map row_of here) c.args.command c.in-Err.reply c.args.i
    (sym (window-seen g.S.Commands.items_in g.S.Commands.static_in g.B.Buffer.list c.args.command)
    ∙ c.requires.on) (slot_row (windows g found) c.args.i here (stood g found))
    c.in-Err.ensures.places)

pub returns-in-Ok-clause-taken_places : goal.returns-in-Ok-clause-taken_places
returns-in-Ok-clause-taken_places g c =
    takes_none (WrapsPlaces g.S.Items.Wraps.wraps) g.B.Buffer.places (row_at c.args.self.now.table)
    c.args.command _ (λ n. tt)

pub returns-in_default-clause-taken_places : goal.returns-in_default-clause-taken_places
returns-in_default-clause-taken_places g c =
    takes_none (WrapsPlaces g.S.Items.Wraps.wraps) g.B.Buffer.places (row_at c.args.self.now.table)
    c.args.command _ (λ n. tt)
