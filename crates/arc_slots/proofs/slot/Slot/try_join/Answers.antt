-- Two windows are joined where their rows are, and the end of the other goes through the pass that
-- was lent for this one.
use Rattle.std.proofs.Common.{◌∙◌}
use Rattle.arc_slots.proofs.Taken.{back-same}
use Rattle.arc_slots.proofs.slot.Slot.try_join.Goals as goal

pub returns-clause-passes : goal.returns-clause-passes
returns-clause-passes g c =
    c.give_back.ensures
    ∙ back-same c.args.passes.now.of_blocks.items c.lend-pass.new.self.of_blocks.items
    c.lend-pass.result c.self.inside.block c.lend-pass.ensures.taken
    c.try_unsplit_as-joined.new.pass c.in_default-joined.ensures.kept.2
