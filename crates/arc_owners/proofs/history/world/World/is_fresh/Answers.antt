-- It isn't live, and no release of it stands among the entries.
use Rattle.std.proofs.Common.{not, ◌&&◌, sym, ap, ◌∙◌}
use Rattle.std.specs.List.{list_any}
use Rattle.arc_owners.specs.declared.history.entry.Entry.TheVariants.{Down}
use Rattle.arc_owners.specs.contracts.history.entry.EntryPartialEq.TheImpl.{ghosts}
use Rattle.arc_owners.specs.history.Histories.{is_in, owners_ended}
use Rattle.arc_owners.specs.history.Machine.{is_fresh}
use Rattle.arc_owners.proofs.history.Owned.{any_down}
use Rattle.arc_owners.proofs.history.world.World.is_fresh.Goals as goal

pub returns-then-not-contains : goal.returns-then-not-contains
unfolding is_fresh
returns-then-not-contains g c =
    let entries = c.args.self.now.entries.items in let owner = c.args.owner in
    let ended = c.contains-then-not-contains.ensures.value
    ∙ (ap (list_any (λ e. ghosts.eq e (Down owner))) c.deref-then-not-contains.ensures.value
    ∙ any_down entries owner) in
    let live = sym c.if-not-contains.true ∙ (c.contains.ensures.value
    ∙ ap (is_in owner) c.deref.ensures.value) in
    ap not ended ∙ ap (λ b. not b && not (is_in owner (owners_ended entries))) live
