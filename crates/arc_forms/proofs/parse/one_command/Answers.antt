use Rattle.arc_forms.proofs.Forms.{says_one}
use Rattle.arc_forms.proofs.parse.one_command.Goals as goal

pub returns : goal.returns
returns c = says_one
