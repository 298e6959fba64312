-- The parts are all of the memory.
use Rattle.std.proofs.Common.{Some, ◌∙◌, arith}
use Rattle.arc_owners.specs.memory.SoleCounts.{count_owner}
use Rattle.arc_block.specs.Block.{native}
use Rattle.arc_parts.specs.Writers.{writer_over}
use Rattle.arc_sort_writers.proofs.CutNatives.{new_cut}
use Rattle.arc_sort_writers.proofs.native.SoleNative.on_new.Goals as goal

pub returns : goal.returns
returns g c =
    let m = c.args.memory in let w = c.of.result in let drops = g.S.Slice.DROPS in
    let o = count_owner c.new-count.result.0 in let cut = c.of.ensures.memory in
    record {
      owner = o;
      made = new_cut drops o w (cut.start ∙ c.requires.start) c.of.ensures.own.back
          (omega (
            arith,
            cut.count,
            cut.whole,
            m.own,
            c.requires.start,
            c.capacity-capacity.ensures,
          ))
          ∙ (λ i. writer_over native drops (Some o) (c.of.ensures.items i) (cut.whole i));
      first = c.new-count.ensures.first;
      pass = c.new-count.ensures.pass;
    }
