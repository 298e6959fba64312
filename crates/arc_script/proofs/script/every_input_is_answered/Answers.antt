-- Each line has an answer, and a line ends at the first line feed.
use Rattle.arc_script.proofs.Underway.{reply_text_exists}
use Rattle.arc_script.proofs.Splits.{lines_once}
use Rattle.arc_script.proofs.script.every_input_is_answered.Goals as goal

pub returns-clause-answered : goal.returns-clause-answered
returns-clause-answered c = reply_text_exists

pub returns-clause-lines : goal.returns-clause-lines
returns-clause-lines c = lines_once
