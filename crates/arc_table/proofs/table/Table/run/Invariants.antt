use Rattle.arc_block.specs.LayoutFacts.{layout_facts}
use Rattle.std.specs.Mem.{type_size}
use Rattle.std.proofs.Common.{◌≡◌, ◌+◌, ◌≤◌, ◌++◌, length, map}
use Rattle.std.specs.Vec.{vec_len, vec_capacity}
use Rattle.std.specs.Vec.Iter.{into_iter_items, into_iter_len}
use Rattle.arc_commands.specs.RunOf.{RunOf}
use Rattle.arc_commands.specs.Seen.{map_command, seen_reply}
use Rattle.arc_commands.specs.State.{CarriesOut}
use Rattle.arc_commands.specs.Changes.{setting_of}
use Rattle.arc_slots.specs.Places.{WrapsPlaces}
use Rattle.arc_table.specs.Carries.{CarriesPlaces}
use Rattle.arc_table.proofs.table.Table.run.Given as goal

-- the commands up to here were carried out, and there is room for the replies to the others
abbrev pub invariant-loop-command : goal.invariant-loop-command
invariant-loop-command g l = record {
  commands : l.yielded ++ into_iter_items l.command-iterator ≡ l.fn.commands.items;
  left : into_iter_len l.command-iterator ≡ length (into_iter_items l.command-iterator);
  run :
      RunOf (CarriesOut (setting_of (layout_facts g.L.Layout) g.L.Writable.Layout.ANY
      g.L.Layout.clone_wants g.S.Slice.DROPS
      g.S.Subsliceable.boundary (type_size g.row.S-Item)
      g.S.Zero.ZeroOf.zero g.S.Calls.CallsOf.calls)) l.fn.self
      (map (map_command g.S.Commands.items_in g.S.Commands.static_in g.B.Buffer.list) l.yielded)
      (map (seen_reply g.S.Commands.items_in g.S.Commands.items_in_box g.B.Buffer.list)
      l.replies.items) l.self;
  places :
      RunOf (CarriesPlaces (setting_of (layout_facts g.L.Layout) g.L.Writable.Layout.ANY
      g.L.Layout.clone_wants g.S.Slice.DROPS
      g.S.Subsliceable.boundary (type_size g.row.S-Item)
      g.S.Zero.ZeroOf.zero g.S.Calls.CallsOf.calls) (WrapsPlaces g.S.Items.Wraps.wraps)
      g.S.Commands.items_in g.S.Commands.items_in_box g.S.Commands.static_in g.B.Buffer.list
      g.B.Buffer.places) l.fn.self l.yielded l.replies.items l.self;
  many : vec_len l.replies + into_iter_len l.command-iterator ≡ vec_len l.fn.commands;
  room : vec_len l.fn.commands ≤ vec_capacity l.replies;
}
