-- What a small window is once a borrow of what it holds has ended.
use Rattle.std.specs.Prelude.{ℕ}
use Rattle.std.specs.Borrow.{Lends, Fml, RattleType, MutBor, u8 as byte}
use Rattle.std.specs.declared.alloc.Allocator as allocator
use Rattle.either.specs.declared.Either.{Either}
use Rattle.either.specs.contracts.Either as either
use Rattle.arc_owners.specs.declared.mark.Mark as mark
use Rattle.arc_buffer.specs.declared.buffer.Buffer as buffer
use Rattle.arc_buffer.specs.declared.kinds.Slice as kind
use Rattle.arc_block.specs.declared.layout.Layout as layout
use Rattle.arc_block.specs.Given.{Given}
use Rattle.arc_parts.specs.Window.{PartsView, Window}
use Rattle.arc_read.specs.contracts.slice.ArcSlice as window
use Rattle.arc_small.specs.Inline.{Inlined}
use Rattle.arc_small.specs.Small.{row_of}
use Rattle.arc_small.specs.contracts.arc.SmallArcSlice.{the_row}
use Rattle.arc_small.specs.contracts.slice.SmallSlice as small

module _ (S L B M A H Error Writable : RattleType) (s : kind.Ghosts S.Denot ℕ Error.Denot)
    (l : layout.Ghosts L.Denot Writable.Denot) (b : buffer.Ghosts B.Denot ℕ)
    (a : allocator.Ghosts A.Denot) (h : mark.Ghosts H.Denot)
    (parts : MutBor (PartsView ℕ (Given B.Denot M.Denot))) where
  -- once the borrow r ends, the window is what r shows last
  abbrev pub lends_either : MutBor (Either Inlined (Window ℕ (Given B.Denot M.Denot))) → Fml
  lends_either r =
      Lends (the_row S L B M A H Error Writable s l b a h)
      (either.the_row (small.the_row S L Error Writable s l)
      (window.the_row S L B M A H byte Error Writable s l b a h)) parts r row_of
