use Rattle.arc_block.specs.LayoutFacts.{layout_facts}
use Rattle.std.specs.Mem.{type_size}
use Rattle.std.proofs.Common.{◌≡◌, ℕ, ◌<◌, List, None, length}
use Rattle.arc_block.specs.Table.{row_at}
use Rattle.arc_commands.specs.RunOf.{RunOf}
use Rattle.arc_commands.specs.State.{CarriesOut, drops}
use Rattle.arc_commands.specs.Changes.{setting_of}
use Rattle.arc_commands.specs.Commands.{ListReply}
use Rattle.arc_table.proofs.table.Table.release_all.Given as goal

-- the rows that were reached have ended, one after another
abbrev pub invariant-loop-i : goal.invariant-loop-i
invariant-loop-i g l = record {
  gone : (j : ℕ) → j < l.i → row_at l.self.table j ≡ None;
  rows : length l.self.table.rows ≡ l.i-end;
  blocks : l.self.table.blocks ≡ l.fn.self.table.blocks;
  passes :
      (replies : List (ListReply g.row.S-Item.Denot g.row.M.Denot))
      × RunOf (CarriesOut (setting_of (layout_facts g.L.Layout) g.L.Writable.Layout.ANY
      g.L.Layout.clone_wants g.S.Slice.DROPS
      g.S.Subsliceable.boundary (type_size g.row.S-Item)
      g.S.Zero.ZeroOf.zero g.S.Calls.CallsOf.calls)) l.fn.self (drops l.i) replies l.self;
}
