-- What is said of a kind of items is said of these.
use Rattle.std.proofs.Common.{sym, ◌∙◌, subst}
use Rattle.arc_sort_writers.specs.CutParts.{IsPartCut}
use Rattle.arc_sort_writers.proofs.native.part_of.Goals as goal

pub returns-then-DROPS : goal.returns-then-DROPS
returns-then-DROPS g c =
    subst (λ b. IsPartCut b c.args.memory c.args.start c.args.end c.kept_part.result)
    (sym (sym c.DROPS.ensures ∙ c.if-DROPS.true)) c.kept_part.ensures

pub returns : goal.returns
returns g c =
    subst (λ b. IsPartCut b c.args.memory c.args.start c.args.end c.forgotten_part.result)
    (sym (sym c.DROPS.ensures ∙ c.if-DROPS.false)) c.forgotten_part.ensures
