-- What is seen of a small window, and what makes one.
use Rattle.std.specs.Prelude.{◌≡◌, ℕ, ◌<◌, ◌≤◌, Bool, List, length, Option}
use Rattle.either.specs.declared.Either.{Either}
use Rattle.either.specs.declared.Either.TheVariants.{Left, Right}
use Rattle.arc_block.specs.Inline.{inline_limit}
use Rattle.arc_block.specs.Place.{Place, nowhere}
use Rattle.arc_block.specs.Layouts.{LayoutFacts}
use Rattle.arc_block.specs.Moves.{layout_move}
use Rattle.arc_block.specs.Table.{Role, inline, reader, sole_writer, one_writer_of_several}
use Rattle.arc_block.specs.Table.{forgotten}
use Rattle.arc_block.specs.declared.layout.Move.{Move}
use Rattle.arc_block.specs.declared.layout.Move.TheVariants.{Stays}
use Rattle.arc_parts.specs.Window.{Window, PartsView, window_of, parts_of}
use Rattle.arc_parts.specs.Steps.{Makes}
use Rattle.arc_small.specs.Inline.{Inlined}

-- the row of a list that lies in the window itself
abbrev pub inline_row : {T M : Type 0} → List T → PartsView T M
inline_row items = record { items = items; place = nowhere; role = inline }

-- the row of a short list in the window itself, or of a window that is read
abbrev pub row_of : {M : Type 0} → Either Inlined (Window ℕ M) → PartsView ℕ M
row_of (Left small) = inline_row small.items
row_of (Right window) = parts_of window

-- What holds of each small window. One with its bytes in itself has at most the limit, and stands
-- on nothing. Any other is read.
pub record IsSmall {T M : Type 0} (w : PartsView T M) : Type 0 where
  pub short : w.role ≡ inline → (length w.items ≤ inline_limit) × (w.place ≡ nowhere)
  pub read : (w.role ≡ inline → ⊥) → w.role ≡ reader

-- A small window was made of a list: within the limit it lies in the window itself, and else a
-- window that is read was made of it.
pub record MakesSmall {T M : Type 0} (has_static drops one_pass : Bool)
    (items : List T) (w : PartsView T M) : Type 0 where
  pub short : length items ≤ inline_limit → w ≡ inline_row items
  pub long : inline_limit < length items
      → (w.role ≡ reader) × Makes has_static drops one_pass items (window_of w)

-- Where a small window goes that changes its layout. Bytes in itself stay there.
abbrev pub small_move : {O M : Type 0} → LayoutFacts → Role → Place (Option O) M → Move
small_move layout inline place = Stays
small_move layout reader place = layout_move layout place
small_move layout (sole_writer capacity) place = layout_move layout place
small_move layout (one_writer_of_several capacity) place = layout_move layout place
small_move layout forgotten place = layout_move layout place
