-- A word of the second table isn't one of the first.
use Rattle.std.proofs.Common.{◌++◌, sym, ◌∙◌}
use Rattle.arc_forms.specs.Reading.{making_verbs, buffer_verbs, last_verbs}
use Rattle.arc_forms.proofs.Verbs.{named_behind, named_front}
use Rattle.arc_forms.proofs.parse.rare_verb_named.Goals as goal

pub returns-in-Some-buffer_verb_named : goal.returns-in-Some-buffer_verb_named
returns-in-Some-buffer_verb_named c =
    let word = c.args.word.now in
    let found = c.in-Some-buffer_verb_named in
    named_front word buffer_verbs last_verbs found.verb
    (sym found.is ∙ c.buffer_verb_named.ensures)
    ∙ named_behind word making_verbs (buffer_verbs ++ last_verbs)
    (sym c.in_default.is ∙ c.making_verb_named.ensures)
