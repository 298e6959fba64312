-- What the step of the word leaves.
use Rattle.std.proofs.Common.{refl, sym, ◌∙◌}
use Rattle.arc_owners.specs.count.Calls.{owner_of}
use Rattle.arc_owners.proofs.count.Calls.{asks_at}
use Rattle.arc_owners.proofs.count.tokens.Owners.alone_raw.Goals as goal

pub returns : goal.returns
returns g c = record {
  entry = asks_at (owner_of c.args.by.now) (c.requires.share ∙ sym c.word-word.ensures)
      c.args.pass.now c.load.new.pass refl c.load.ensures.0 c.load.ensures.1;
}
