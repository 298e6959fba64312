-- The table's passes are the engine's, under the layout by its name.
use Rattle.std.proofs.Common.{ℕ, subst}
use Rattle.arc_commands.specs.Changes.{Setting}
use Rattle.arc_commands.specs.State.{EndsWith}
use Rattle.arc_script.proofs.script.Engine.end.Goals as goal

pub returns-clause-passes : goal.returns-clause-passes
returns-clause-passes g c = subst (λ (setting : Setting ℕ). EndsWith setting c.args.self.table
    c.end.result.of_blocks.items) g.met.L.NamedLayout.run_so c.end.ensures.passes
