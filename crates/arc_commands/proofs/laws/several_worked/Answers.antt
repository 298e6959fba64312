-- Each of the scripts, computed.
use Rattle.arc_commands.specs.Worked.{alone_for_more, joined_on_nothing, joined_when_full}
use Rattle.arc_commands.specs.Worked.{leaves_its_vector, not_with_itself, only_one_again}
use Rattle.arc_commands.specs.Worked.{whole_again}
use Rattle.arc_commands.proofs.WorkedRows.{answers}
use Rattle.arc_commands.proofs.laws.several_worked.Goals as goal

pub returns-clause-joined_when_full : goal.returns-clause-joined_when_full
returns-clause-joined_when_full c = answers joined_when_full.0

pub returns-clause-alone_for_more : goal.returns-clause-alone_for_more
returns-clause-alone_for_more c = answers alone_for_more.0

pub returns-clause-not_with_itself : goal.returns-clause-not_with_itself
returns-clause-not_with_itself c = answers not_with_itself.0

pub returns-clause-whole_again : goal.returns-clause-whole_again
returns-clause-whole_again c = answers whole_again.0

pub returns-clause-only_one_again : goal.returns-clause-only_one_again
returns-clause-only_one_again c = answers only_one_again.0

pub returns-clause-joined_on_nothing : goal.returns-clause-joined_on_nothing
returns-clause-joined_on_nothing c = answers joined_on_nothing.0

pub returns-clause-leaves_its_vector : goal.returns-clause-leaves_its_vector
returns-clause-leaves_its_vector c = answers leaves_its_vector.0
