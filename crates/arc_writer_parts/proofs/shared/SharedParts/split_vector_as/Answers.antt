-- The writer moved first, and its places were split on the new block.
use Rattle.std.proofs.Common.{not, eqb, sym, subst}
use Rattle.arc_memory.specs.WriterParts.{SplitsOwner}
use Rattle.arc_writer_parts.proofs.Splits.{left_shown, moves_to_split, parts_split}
use Rattle.arc_sort_writers.specs.NativeWriters.{native_row}
use Rattle.arc_writer_parts.proofs.shared.SharedParts.split_vector_as.Goals as goal

pub returns-in-Ok-try_split_as-clause-made : goal.returns-in-Ok-try_split_as-clause-made
returns-in-Ok-try_split_as-clause-made g c =
    let real = g.H.Mark.real in let whole = g.H.Mark.whole in let v = c.in-Ok.writer in
    let w = c.args.self.now in let before = c.args.pass.now in let between = c.in-Ok.new in
    let split = c.in-Ok-try_split_as.ensures in
    let front = c.in-Ok-try_split_as.front in let back = c.in-Ok-try_split_as.back in
    let left = left_shown real w.place before c.leave_for.new.pass c.replace.result
    c.replace.ensures.value c.leave_for.ensures.left c.show.ensures in
    let stands = moves_to_split real whole w (native_row v) before between w.place
    c.requires.vector (record {
      owner = v.owner;
      made = c.in-Ok.ensures.made;
      first = c.in-Ok.ensures.first;
      pass = c.in-Ok.ensures.pass;
      left = left;
    }) in
    let stays = not (eqb g.row.FRONT_STAYS 0) in
    let owners = subst (λ p. SplitsOwner stays v.owner between p front.owner back.owner)
    (sym c.replace.ensures.after) split.owners in
    parts_split real whole stays c.args.at v front back c.staying_first-stays.result.0
    c.staying_first-stays.result.1 w c.leave_for.new.self c.several.result before between
    c.replace.new.dest stands c.leave_for.ensures.moved c.several.ensures
    c.staying_first-stays.ensures.stays c.staying_first-stays.ensures.leaves split.front split.back
    owners
