use Rattle.std.proofs.Common.{sym, ◌∙◌}
use Rattle.arc_forms.proofs.Forms.{verb_read, no_verb}
use Rattle.arc_forms.proofs.parse.verb_of.Goals as goal

pub returns-in_default-verb_named : goal.returns-in_default-verb_named
returns-in_default-verb_named c =
    no_verb _ _ _ c.word.ensures (sym c.verb_named.ensures ∙ c.in_default-verb_named.is)

pub returns : goal.returns
returns c = verb_read _ _ _ _ c.word.ensures (sym c.verb_named.ensures ∙ c.in-Some-verb_named.is)
