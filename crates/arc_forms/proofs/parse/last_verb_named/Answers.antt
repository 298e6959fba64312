-- A word of the first table.
use Rattle.std.proofs.Common.{sym, ◌∙◌}
use Rattle.arc_forms.specs.Reading.{other_verbs, turning_verbs}
use Rattle.arc_forms.proofs.Verbs.{named_front}
use Rattle.arc_forms.proofs.parse.last_verb_named.Goals as goal

pub returns-in-Some : goal.returns-in-Some
returns-in-Some c =
    named_front c.args.word.now other_verbs turning_verbs c.in-Some.verb
    (sym c.in-Some.is ∙ c.other_verb_named.ensures)
