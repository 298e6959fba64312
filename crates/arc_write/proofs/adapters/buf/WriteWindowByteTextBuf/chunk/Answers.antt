use Rattle.arc_write.proofs.ReadParts.{whole_chunk}
use Rattle.arc_write.proofs.adapters.buf.WriteWindowByteTextBuf.chunk.Goals as goal

pub returns-clause-chunk : goal.returns-clause-chunk
returns-clause-chunk g c = whole_chunk _ _ c.as_slice.ensures
