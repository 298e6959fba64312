-- The owner's block is that of the word.
use Rattle.std.proofs.Common.{subst}
use Rattle.arc_owners.specs.count.Calls.{Asks}
use Rattle.arc_owners.proofs.memory.counted_box.CountedBox.is_unique_as.Goals as goal

pub returns : goal.returns
returns g c = let right = c.args.self.now.share.right in record {
  entry = subst (λ t. Asks (record { block = t; number = right.owner; born = right.born })
      c.args.pass.now c.alone_raw.new.pass c.alone_raw.result) c.args.self.now.counted
      c.alone_raw.ensures.entry;
}
