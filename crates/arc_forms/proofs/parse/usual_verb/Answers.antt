-- What stands behind a first word is read as its form wants it. By `grind`: search alone runs long
-- through the tables of words before it gives up.
use Rattle.std.proofs.Common.{arith}
use Rattle.std.proofs.lemmas.Grind.{common_steps}
use Rattle.arc_forms.specs.Reading.{command_of, read_as}
use Rattle.arc_forms.proofs.parse.usual_verb.Goals as goal

pub returns-in-116 : goal.returns-in-116
unfolding command_of read_as
returns-in-116 c = grind (arith, common_steps)

pub returns-in-99 : goal.returns-in-99
unfolding command_of read_as
returns-in-99 c = grind (arith, common_steps)

pub returns-in-99-2 : goal.returns-in-99-2
unfolding command_of read_as
returns-in-99-2 c = grind (arith, common_steps)

pub returns-in-101 : goal.returns-in-101
unfolding command_of read_as
returns-in-101 c = grind (arith, common_steps)

pub returns-in-111 : goal.returns-in-111
unfolding command_of read_as
returns-in-111 c = grind (arith, common_steps)

pub returns-in-108 : goal.returns-in-108
unfolding command_of read_as
returns-in-108 c = grind (arith, common_steps)

pub returns-in-115-4 : goal.returns-in-115-4
unfolding command_of read_as
returns-in-115-4 c = grind (arith, common_steps)

pub returns-in-114-3 : goal.returns-in-114-3
unfolding command_of read_as
returns-in-114-3 c = grind (arith, common_steps)

pub returns-in-114-2 : goal.returns-in-114-2
unfolding command_of read_as
returns-in-114-2 c = grind (arith, common_steps)

pub returns-in-115-3 : goal.returns-in-115-3
unfolding command_of read_as
returns-in-115-3 c = grind (arith, common_steps)

pub returns-in-115-2 : goal.returns-in-115-2
unfolding command_of read_as
returns-in-115-2 c = grind (arith, common_steps)

pub returns-in-112 : goal.returns-in-112
unfolding command_of read_as
returns-in-112 c = grind (arith, common_steps)

pub returns-in-100 : goal.returns-in-100
unfolding command_of read_as
returns-in-100 c = grind (arith, common_steps)

pub returns-in-114 : goal.returns-in-114
unfolding command_of read_as
returns-in-114 c = grind (arith, common_steps)

pub returns-in-117 : goal.returns-in-117
unfolding command_of read_as
returns-in-117 c = grind (arith, common_steps)

pub returns-in-115 : goal.returns-in-115
unfolding command_of read_as
returns-in-115 c = grind (arith, common_steps)
