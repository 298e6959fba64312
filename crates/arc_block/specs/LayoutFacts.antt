-- What a layout says of itself, as one record.
use Rattle.arc_block.specs.Layouts.{LayoutFacts}
use Rattle.arc_block.specs.declared.layout.Layout as Layout

abbrev pub layout_facts : {L W : Type 0} → Layout.Ghosts L W → LayoutFacts
layout_facts layout = record {
  has_static = layout.STATIC;
  has_any = layout.ANY;
  by_itself = layout.RAW;
  lone = layout.lone;
}
