-- Parts of a read window that are borrowed.
use Rattle.std.specs.Prelude.{Bool, ◌&&◌, ◌==◌, if◌then◌else◌, Option, length}
use Rattle.arc_owners.specs.count.Calls.{Owner}
use Rattle.arc_owners.specs.declared.mark.Mark as Mark
use Rattle.arc_buffer.specs.declared.buffer.Buffer as Buffer
use Rattle.arc_buffer.specs.declared.kinds.Slice as Slice
use Rattle.arc_buffer.specs.declared.kinds.Subsliceable as Subsliceable
use Rattle.arc_block.specs.declared.layout.Layout as Layout
use Rattle.arc_block.specs.Given.{Given}
use Rattle.arc_block.specs.Place.{Place, nowhere}
use Rattle.arc_parts.specs.Window.{Window}
use Rattle.arc_read.specs.Cuts.{cut_window}
use Rattle.arc_read.specs.declared.borrow.ArcSliceBorrow.{ArcSliceBorrow}

-- where a window stands that is made of a borrowed part: on nothing where it has no items and the
-- layout has static data, else where the part does
abbrev pub clone_place : {T M : Type 0} → Bool → Window T M → Place (Option Owner) M
clone_place has_static w =
    if has_static && (length w.items == 0) then nowhere else w.place

module _ {S L B M A H T E W : Type 0} {cuts : Subsliceable.Ghosts S T E} {kind : Slice.Ghosts S T E}
    {layout : Layout.Ghosts L W} {buffer : Buffer.Ghosts B T} {mark : Mark.Ghosts H} where
  -- the part of a window that is borrowed, as the window cut to it
  abbrev pub borrowed_part : ArcSliceBorrow S L B M A H T E W cuts kind layout buffer mark
      → Window T (Given B M)
  borrowed_part b = cut_window b.window.now b.start b.end
