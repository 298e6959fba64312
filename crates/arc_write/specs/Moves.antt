-- Where a writer goes that changes its layout, and what a reader becomes that is written.
use Rattle.std.specs.Prelude.{Bool, Option}
use Rattle.arc_owners.specs.declared.count.tokens.Pass.{Pass}
use Rattle.arc_block.specs.Layouts.{LayoutFacts}
use Rattle.arc_block.specs.Moves.{layout_move}
use Rattle.arc_block.specs.Place.{Place, nowhere, static_data, on_block}
use Rattle.arc_block.specs.declared.layout.Move.{Move}
use Rattle.arc_block.specs.declared.layout.Move.TheVariants.{Stays}
use Rattle.arc_parts.specs.Moves.{Moves}
use Rattle.arc_parts.specs.Window.{PartsView}
use Rattle.arc_parts.specs.Writers.{BecomesSole, as_sole}

-- where a writer goes under a layout: on no block it stays, and else as what the layout holds says
abbrev pub writer_move : {O M : Type 0} → LayoutFacts → Place (Option O) M → Move
writer_move layout nowhere = Stays
writer_move layout static_data = Stays
writer_move layout (on_block owner offset info) = layout_move layout (on_block owner offset info)

-- a reader became the only writer, by one Alone where its block counts its owners, and then went
-- under the layout
pub record BecomesWriter {T M H : Type 0} (layout : LayoutFacts) (drops one_pass : Bool)
    (w v : PartsView T M) (before after : Pass H) : Type 0 where
  pub between : Pass H
  pub asked : BecomesSole layout.has_any w before between
  pub moved : Moves (writer_move layout w.place) drops one_pass (as_sole drops w) v between after
