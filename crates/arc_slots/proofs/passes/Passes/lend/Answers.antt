-- A pass that is set back stands where it was taken out.
use Rattle.std.proofs.Common.{slice_set}
use Rattle.arc_slots.specs.Stands.{TakenOut}
use Rattle.arc_slots.proofs.Taken.{left-number, lent}
use Rattle.arc_slots.proofs.passes.Passes.lend.Given.{Over}
use Rattle.arc_slots.proofs.passes.Passes.lend.Goals.{After-replace}
use Rattle.arc_slots.proofs.passes.Passes.lend.Goals as goal

taken : (g : Over) (c : After-replace g)
    → TakenOut c.args.self.now.of_blocks.items c.args.block c.replace.result
    (slice_set c.args.self.now.of_blocks.items c.in-Some.number c.replace.new.dest)
taken g c =
    lent c.args.self.now.of_blocks.items c.args.block c.in-Some.number c.replace.result
    c.replace.new.dest c.index_mut.result.now c.requires c.in-Some.is c.index_mut.ensures.value
    c.replace.ensures.value

pub returns-in-Some-clause-taken : goal.returns-in-Some-clause-taken
returns-in-Some-clause-taken g c = taken g (goal.at.returns-in-Some-clause-taken g c).After-replace

pub returns-in-Some-clause-number : goal.returns-in-Some-clause-number
returns-in-Some-clause-number g c =
    left-number c.args.self.now.of_blocks.items
    (slice_set c.args.self.now.of_blocks.items c.in-Some.number c.replace.new.dest)
    c.replace.result c.args.block
    (taken g (goal.at.returns-in-Some-clause-number g c).After-replace)
    c.requires
