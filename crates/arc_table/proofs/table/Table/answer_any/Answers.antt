-- The command is on the window that it names, or what it made is put behind the others.
use Rattle.arc_block.specs.LayoutFacts.{layout_facts}
use Rattle.std.specs.Mem.{type_size}
use Rattle.arc_commands.specs.State.{State}
use Rattle.arc_commands.specs.Changes.{Setting, setting_of}
use Rattle.arc_commands.specs.Step.{window_of}
use Rattle.arc_commands.proofs.Windows.{other-seen, window-seen}
use Rattle.arc_slots.specs.Slots.{state_of}
use Rattle.arc_table.proofs.Done.{Done}
use Rattle.std.proofs.Common.{◌≡◌, None, length, sym, ap, ◌∙◌, subst}
use Rattle.arc_commands.specs.Seen.{map_command, seen_reply}
use Rattle.arc_block.specs.Table.{row_at}
use Rattle.arc_makers.specs.Makers.{HasOwnPlaces, Makes}
use Rattle.arc_slots.specs.Places.{WrapsPlaces}
use Rattle.arc_slots.proofs.Index.{many-windows, same-indexed, same-parts}
use Rattle.arc_slots.specs.Index.{windows_of}
use Rattle.arc_slots.specs.Slots.{row_of, with_slot}
use Rattle.std.specs.Prelude.{map}
use Rattle.std.specs.Option.{option_map}
use Rattle.arc_table.proofs.Own.{own_on, own_row, takes_nowhere, takes_two}
use Rattle.arc_table.proofs.Stepped.{made-window}
use Rattle.arc_table.proofs.table.Table.answer_any.Given.{Over}
use Rattle.arc_table.proofs.table.Table.answer_any.Goals.{After-push_made}
use Rattle.arc_table.proofs.table.Table.answer_any.Goals as goal

abbrev setting : (g : Over) → Setting g.row.S-Item.Denot
setting g =
    setting_of (layout_facts g.L.Layout) g.L.Writable.Layout.ANY g.L.Layout.clone_wants
    g.S.Slice.DROPS g.S.Subsliceable.boundary
    (type_size g.row.S-Item) g.S.Zero.ZeroOf.zero g.S.Calls.CallsOf.calls

on_none : (g : Over) (c : After-push_made g)
    → window_of (map_command g.S.Commands.items_in g.S.Commands.static_in g.B.Buffer.list
    c.args.command) ≡ None
on_none g c =
    window-seen g.S.Commands.items_in g.S.Commands.static_in g.B.Buffer.list c.args.command
    ∙ sym c.window.ensures ∙ c.in_default.is

did : (g : Over) (c : After-push_made g)
    → Done (setting g) c.args.self.now
    (map_command g.S.Commands.items_in g.S.Commands.static_in g.B.Buffer.list c.args.command)
    (seen_reply g.S.Commands.items_in g.S.Commands.items_in_box
    g.B.Buffer.list c.make-reply.result.0) (windows_of c.push_made.new.self.index.items
    c.push_made.new.self.numbers.items c.push_made.new.self.places.items)
    c.make-reply.new.passes.of_blocks.items
did g c =
    let s = c.self.inside.slots in
    let slots = windows_of s.index.items s.numbers.items s.places.items in
    let passes = c.self.inside.passes.of_blocks.items in
    let mid = c.room_if-has_room.new.self in
    let kept = c.room_if-has_room.ensures in
    let same =
    same-parts mid.index.items s.index.items mid.numbers.items s.numbers.items mid.places.items
    s.places.items kept.index kept.numbers kept.places in
    let after = c.make-reply.new.passes.of_blocks.items in
    let command = map_command g.S.Commands.items_in g.S.Commands.static_in g.B.Buffer.list
    c.args.command in
    let reply = seen_reply g.S.Commands.items_in g.S.Commands.items_in_box g.B.Buffer.list
    c.make-reply.result.0 in
    let next =
    c.len-next.ensures ∙ mid.index.ok.0 ∙ ap length kept.index
    ∙ sym (many-windows s.index.items s.numbers.items s.places.items) in
    subst (λ (o : State g.row.S-Item.Denot g.row.M.Denot). Done (setting g) o command reply
    (windows_of c.push_made.new.self.index.items c.push_made.new.self.numbers.items
    c.push_made.new.self.places.items) after) c.self.view_is
    (subst (λ ss. Done (setting g) (state_of slots passes) command reply ss after)
    (ap (λ ss. with_slot ss c.make-reply.result.1) (sym same)
    ∙ sym c.push_made.ensures.windows)
    (made-window (setting g) slots passes c.self.invariant.0 command (on_none g c) reply
    c.make-reply.result.1 after
    (subst (λ n. Makes (setting g) n command passes reply c.make-reply.result.1 after) next
    c.make-reply.ensures.made)))

pub push_made-requires-clause-indexed : goal.push_made-requires-clause-indexed
push_made-requires-clause-indexed g c =
    let s = c.self.inside.slots in
    let mid = c.room_if-has_room.new.self in
    let kept = c.room_if-has_room.ensures in
    same-indexed mid.index.items s.index.items mid.numbers.items s.numbers.items mid.places.items
    s.places.items kept.index kept.numbers kept.places c.self.invariant.1

pub push_made-requires-clause-room : goal.push_made-requires-clause-room
push_made-requires-clause-room g c some =
    c.room_if-has_room.ensures.room (c.make-reply.ensures.room some)

pub push_made-requires-clause-more : goal.push_made-requires-clause-more
push_made-requires-clause-more g c some =
    c.room_if-has_room.ensures.more (c.make-reply.ensures.room some)

pub push_made-requires-clause-further : goal.push_made-requires-clause-further
push_made-requires-clause-further g c some =
    c.room_if-has_room.ensures.further (c.make-reply.ensures.room some)

pub invariant_of-self : goal.invariant_of-self
invariant_of-self g c = (
  (did g (goal.at.invariant_of-self g c).After-push_made).kept,
  c.push_made.ensures.indexed,
)

pub returns-clause-rows : goal.returns-clause-rows
returns-clause-rows g c = (did g (goal.at.returns-clause-rows g c).After-push_made).rows

pub returns-clause-passes : goal.returns-clause-passes
returns-clause-passes g c = (did g (goal.at.returns-clause-passes g c).After-push_made).passes_are

pub on_window-requires-clause-on : goal.on_window-requires-clause-on
on_window-requires-clause-on g c =
    window-seen g.S.Commands.items_in g.S.Commands.static_in g.B.Buffer.list c.args.command
    ∙ sym c.window.ensures ∙ c.in-Some.is

pub on_window-requires-clause-one : goal.on_window-requires-clause-one
on_window-requires-clause-one g c =
    other-seen g.S.Commands.items_in g.S.Commands.static_in g.B.Buffer.list c.args.command
    ∙ sym c.other.ensures ∙ c.in_default-other.is

-- the row that was made of what came in, under the next number
pub returns-clause-places : goal.returns-clause-places
returns-clause-places g c =
    let s = c.self.inside.slots in
    let slots = windows_of s.index.items s.numbers.items s.places.items in
    let passes = c.self.inside.passes.of_blocks.items in
    let mid = c.room_if-has_room.new.self in
    let kept = c.room_if-has_room.ensures in
    let same =
    same-parts mid.index.items s.index.items mid.numbers.items s.numbers.items mid.places.items
    s.places.items kept.index kept.numbers kept.places in
    let after = c.make-reply.new.passes.of_blocks.items in
    let made = c.make-reply.result.1 in
    let now = windows_of c.push_made.new.self.index.items c.push_made.new.self.numbers.items
    c.push_made.new.self.places.items in
    subst (λ (o : State g.row.S-Item.Denot g.row.M.Denot).
    HasOwnPlaces (WrapsPlaces g.S.Items.Wraps.wraps) g.S.Commands.items_in g.B.Buffer.list
    g.B.Buffer.places (setting g) o.table.blocks c.args.command
    (row_at (state_of now after).table (length o.table.rows))) c.self.view_is
    (subst (λ ss.
    HasOwnPlaces (WrapsPlaces g.S.Items.Wraps.wraps) g.S.Commands.items_in g.B.Buffer.list
    g.B.Buffer.places (setting g) (length passes) c.args.command
    (row_at (state_of ss after).table (length (map (option_map row_of) slots))))
    (ap (λ ss. with_slot ss made) (sym same) ∙ sym c.push_made.ensures.windows)
    (subst (λ row.
    HasOwnPlaces (WrapsPlaces g.S.Items.Wraps.wraps) g.S.Commands.items_in g.B.Buffer.list
    g.B.Buffer.places (setting g) (length passes) c.args.command row)
    (sym (own_row slots made)) c.make-reply.ensures.places))

pub returns-in-Some-clause-places : goal.returns-in-Some-clause-places
returns-in-Some-clause-places g c =
    own_on (WrapsPlaces g.S.Items.Wraps.wraps) g.S.Commands.items_in g.B.Buffer.list
    g.B.Buffer.places (setting g) _ c.args.command _ _
    (sym c.window.ensures ∙ c.in-Some.is)

pub returns-in-Some-other-clause-places : goal.returns-in-Some-other-clause-places
returns-in-Some-other-clause-places g c =
    own_on (WrapsPlaces g.S.Items.Wraps.wraps) g.S.Commands.items_in g.B.Buffer.list
    g.B.Buffer.places (setting g) _ c.args.command _ _
    (sym c.window.ensures ∙ c.in-Some.is)

-- a command that makes a window takes nothing out, and nor does a join
pub returns-clause-taken_places : goal.returns-clause-taken_places
returns-clause-taken_places g c =
    takes_nowhere (WrapsPlaces g.S.Items.Wraps.wraps) g.B.Buffer.places
    (row_at c.args.self.now.table) c.args.command c.make-reply.result.0
    (sym c.window.ensures ∙ c.in_default.is)

pub returns-in-Some-other-clause-taken_places : goal.returns-in-Some-other-clause-taken_places
returns-in-Some-other-clause-taken_places g c =
    takes_two (WrapsPlaces g.S.Items.Wraps.wraps) g.B.Buffer.places (row_at c.args.self.now.table)
    c.args.command c.join.result _ (sym c.other.ensures ∙ c.in-Some-other.is)
