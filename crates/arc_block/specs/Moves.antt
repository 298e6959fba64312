-- Where a window goes that changes its layout.
use Rattle.std.specs.Prelude.{if◌then◌else◌, Option, Some, None}
use Rattle.arc_block.specs.Block.{Sort, native, vector, buffer, raw}
use Rattle.arc_block.specs.Layouts.{LayoutFacts}
use Rattle.arc_block.specs.Place.{Place, nowhere, static_data, on_block}
use Rattle.arc_block.specs.declared.layout.Move.{Move}
use Rattle.arc_block.specs.declared.layout.Move.TheVariants.{Stays, HandedBack, NewEmpty}
use Rattle.arc_block.specs.declared.layout.Move.TheVariants.{NewCount, LeavesCount}

-- The move of a window on a block that counts its owners. A block that counts an `Arc` is left
-- under a layout that has an `Arc` as a block by itself.
abbrev pub counted_move : LayoutFacts → Sort → Move
counted_move layout native = Stays
counted_move layout vector = if layout.has_any then Stays else HandedBack
counted_move layout (buffer writable) = if layout.has_any then Stays else HandedBack
counted_move layout raw =
    if layout.by_itself then LeavesCount else if layout.has_any then Stays else HandedBack

-- The move, by what the layout holds. A window on nothing has no items, so that a block of no
-- places can be made for it. Static data isn't copied.
abbrev pub layout_move : {O M : Type 0} → LayoutFacts → Place (Option O) M → Move
layout_move layout nowhere = if layout.has_static then Stays else NewEmpty
layout_move layout static_data = if layout.has_static then Stays else HandedBack
layout_move layout (on_block None offset facts) =
    if layout.by_itself then Stays else if layout.has_any then NewCount else HandedBack
layout_move layout (on_block (Some owner) offset facts) = counted_move layout facts.sort

-- Whether the window may come back: where it is handed back, where memory for a new block is
-- refused, and where the `Arc` refuses to be cloned.
abbrev pub IsRefused : Move → Type 0
IsRefused Stays = ⊥
IsRefused HandedBack = Unit {0}
IsRefused NewEmpty = Unit {0}
IsRefused NewCount = Unit {0}
IsRefused LeavesCount = Unit {0}
