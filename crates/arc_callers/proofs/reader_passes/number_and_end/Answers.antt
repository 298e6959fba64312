-- The owner that ends is the one that the window had before the read.
use Rattle.arc_callers.proofs.reader_passes.number_and_end.Goals as goal

pub returns-clause-entry : goal.returns-clause-entry
returns-clause-entry c = c.known_after_reads.ensures.left c.args.window.place c.args.window.items
    c.args.pass.now c.release_as.new.pass c.get_u16-number.ensures.kept c.release_as.ensures.entry
