use Rattle.std.proofs.Common.{rules}
use Rattle.arc_table.proofs.table.Table.step.Goals as goal

pub returns-clause-carried : goal.returns-clause-carried
returns-clause-carried g c = search rules
