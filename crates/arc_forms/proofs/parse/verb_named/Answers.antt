-- A word of one of the three tables, and of none before it.
use Rattle.std.proofs.Common.{◌++◌, sym, ◌∙◌}
use Rattle.arc_forms.specs.Reading.{cut_verbs, rare_verbs, usual_verbs}
use Rattle.arc_forms.proofs.Verbs.{named_behind, named_front}
use Rattle.arc_forms.proofs.parse.verb_named.Goals as goal

pub returns-in-Some : goal.returns-in-Some
returns-in-Some c =
    named_front c.args.word.now usual_verbs (cut_verbs ++ rare_verbs) c.in-Some.verb
    (sym c.in-Some.is ∙ c.usual_verb_named.ensures)

pub returns-in-Some-cut_verb_named : goal.returns-in-Some-cut_verb_named
returns-in-Some-cut_verb_named c =
    let word = c.args.word.now in
    let found = c.in-Some-cut_verb_named in
    named_front word cut_verbs rare_verbs found.verb (sym found.is ∙ c.cut_verb_named.ensures)
    ∙ named_behind word usual_verbs (cut_verbs ++ rare_verbs)
    (sym c.in_default.is ∙ c.usual_verb_named.ensures)

pub returns : goal.returns
returns c =
    let word = c.args.word.now in
    c.rare_verb_named.ensures
    ∙ named_behind word cut_verbs rare_verbs
    (sym c.in_default-cut_verb_named.is ∙ c.cut_verb_named.ensures)
    ∙ named_behind word usual_verbs (cut_verbs ++ rare_verbs)
    (sym c.in_default.is ∙ c.usual_verb_named.ensures)
