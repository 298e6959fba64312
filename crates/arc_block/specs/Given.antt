-- What a caller gave that a block keeps: a buffer, with metadata or without.
use Rattle.std.specs.Prelude.{Bool, Option, Some, None}
use Rattle.arc_block.specs.declared.block.content.CallersBuffer.{CallersBuffer}
use Rattle.arc_block.specs.Block.{BlockInfo}

-- a caller's buffer with its metadata, as one that may be written or not
abbrev pub Given : Type 0 → Type 0 → Type 0
Given B M = CallersBuffer B M

module _ {B M : Type 0} where
  -- this buffer with this metadata, if there is some. One behind an `Arc` has none, and isn't
  -- written.
  abbrev pub given_as : (writable : Bool) → B → Option M → Given B M
  given_as writable buffer metadata = record {
    buffer = buffer;
    metadata = metadata;
    writable = writable;
  }

  -- the buffer that was given, and the metadata
  abbrev pub buffer_of : Option (Given B M) → Option B
  buffer_of None = None
  buffer_of (Some held) = Some held.buffer

  abbrev pub metadata_of : Option (Given B M) → Option M
  metadata_of None = None
  metadata_of (Some held) = held.metadata

  -- what is known of a block beside its buffer's value
  abbrev pub bare_info : BlockInfo (Given B M) → BlockInfo M
  bare_info info = record {
    sort = info.sort;
    size = info.size;
    full = info.full;
    given = metadata_of info.given;
  }
