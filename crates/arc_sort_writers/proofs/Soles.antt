-- Blocks that may be written.
use Rattle.std.proofs.Common.{◌≡◌, true, sym, refl, subst}
use Rattle.arc_block.specs.Block.{IsBuffer, IsWritable, Sort, buffer}

-- who has a caller's buffer that came in as writable may write the block
pub buffer_writes : (sort : Sort) → sort ≡ buffer true → IsWritable sort
buffer_writes sort is = subst IsWritable (sym is) refl

-- one that may be written is a caller's buffer
pub is_buffer_sort : (sort : Sort) → sort ≡ buffer true → IsBuffer sort
is_buffer_sort sort is = subst IsBuffer (sym is) tt
