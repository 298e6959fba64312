-- They stand behind the others, in places that count no full ones.
use Rattle.arc_block.specs.Table.{bare}
use Rattle.arc_writer_parts.proofs.Bare.{bare_extended}
use Rattle.arc_writer_parts.proofs.shared.role.SharedPartsCopyWriterParts.try_extend_from_slice_as.Goals as goal

pub returns-in-Ok-clause-extended : goal.returns-in-Ok-clause-extended
returns-in-Ok-clause-extended g c = let mid = c.try_reserve_as.new.self in record {
  between = bare mid;
  makes = c.in-Ok.ensures.room;
  pushed = bare_extended c.args.items.now mid c.extend_reserved.new.self
      c.known_uncounted.ensures c.extend_reserved.ensures;
}
