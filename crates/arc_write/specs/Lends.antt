-- What a write window ends as, where its items are lent to be changed.
use Rattle.std.specs.Prelude.{List}
use Rattle.std.specs.Borrow.{Lends, Fml, RattleType, MutBor, Array}
use Rattle.std.specs.declared.alloc.Allocator as allocator
use Rattle.arc_owners.specs.declared.mark.Mark as mark
use Rattle.arc_buffer.specs.declared.buffer.Buffer as buffer
use Rattle.arc_buffer.specs.declared.buffer.BufferMut as buffer_mut
use Rattle.arc_buffer.specs.declared.kinds.Slice as kind
use Rattle.arc_block.specs.Given.{Given}
use Rattle.arc_block.specs.declared.layout.Layout as layout
use Rattle.arc_parts.specs.Window.{PartsView}
use Rattle.arc_parts.specs.Writers.{with_written}
use Rattle.arc_writer_parts.specs.declared.role.WriterParts as writer_parts
use Rattle.arc_write.specs.contracts.slice_mut.WriteWindow.{the_row}

module _ (S L R B M A H Item Error Parts : RattleType)
    (s : kind.Ghosts S.Denot Item.Denot Error.Denot) (l : layout.Ghosts L.Denot L.Denot)
    (p : writer_parts.Ghosts Parts.Denot S.Denot B.Denot M.Denot A.Denot H.Denot Item.Denot
    Error.Denot)
    (m : buffer_mut.Ghosts B.Denot Item.Denot) (b : buffer.Ghosts B.Denot Item.Denot)
    (a : allocator.Ghosts A.Denot)
    (h : mark.Ghosts H.Denot)
    (window : MutBor (PartsView Item.Denot (Given B.Denot M.Denot))) where
  -- once the borrow r ends, the items are those that r shows last, in a caller's buffer too
  abbrev pub lends_items : MutBor (List Item.Denot) → Fml
  lends_items r =
      Lends (the_row S L R B M A H Item Error Parts s l p m b a h) (Array Item 0)
      window r (with_written m.with_part window.now)
