-- What a block's content is once a borrow of its buffer has ended.
use Rattle.std.specs.Prelude.{◌≡◌}
use Rattle.std.specs.Borrow.{Lends, Fml, RattleType, MutBor}
use Rattle.std.specs.declared.alloc.Allocator as allocator
use Rattle.arc_block.specs.declared.block.content.Content.{Content}
use Rattle.arc_block.specs.declared.block.content.Content.TheVariants.{Vector, Buffer, Raw}
use Rattle.arc_block.specs.contracts.block.content.Content.{the_row}

-- the same content, with another buffer where it is one
abbrev pub with_buffer : {T B M A : Type 0} → Content T B M A → B → Content T B M A
with_buffer (Vector memory) b = Vector memory
with_buffer (Buffer held) b = Buffer (record held { buffer = b })
with_buffer (Raw shared) b = Raw shared

-- the content is this buffer, with whatever metadata
abbrev pub KeepsBuffer : {T B M A : Type 0} → Content T B M A → B → Type 0
KeepsBuffer (Vector memory) b = ⊥
KeepsBuffer (Buffer held) b = held.buffer ≡ b
KeepsBuffer (Raw shared) b = ⊥

module _ (T B M A : RattleType) (a : allocator.Ghosts A.Denot)
    (content : MutBor (Content T.Denot B.Denot M.Denot A.Denot)) where
  abbrev pub LendsBuffer : MutBor B.Denot → Fml
  LendsBuffer r = Lends (the_row T B M A a) B content r (with_buffer content.now)
