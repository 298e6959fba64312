-- What the clone adds to the pass that was lent for it, it adds to the passes.
use Rattle.std.proofs.Common.{ap}
use Rattle.arc_slots.specs.Slots.{as_held, bare_held, bare_read, held, role_in, row_of}
use Rattle.arc_slots.specs.Slots.{window_in}
use Rattle.arc_slots.proofs.Cuts.{MadeBeside, clone-fits, clone-made, clone-refused, holds-made}
use Rattle.arc_slots.proofs.Slots.{held-call}
use Rattle.arc_slots.proofs.slot.Slot.try_clone.Given.{Over}
use Rattle.arc_slots.proofs.slot.Slot.try_clone.Goals.{After-hold_window}
use Rattle.arc_slots.proofs.slot.Slot.try_clone.Goals as goal

pub invariant_of-result : goal.invariant_of-result
invariant_of-result g c =
    let small = g.S.Small.SmallOf.seen in
    let made = bare_read c.in-Ok.window in
    holds-made small g.S.TableKind.SHARES made c.self.inside.block
    (bare_held c.hold_window.result) c.hold_window.ensures
    (clone-fits (held-call small (bare_held c.self.inside.window) c.self.view_is
    c.self.invariant.0 c.requires.pass c.lend-pass.ensures.taken) c.clone_window-made.new.pass
    (window_in small (as_held made)) c.in-Ok.ensures.place)

pub returns-in-Err-clause-refused : goal.returns-in-Err-clause-refused
returns-in-Err-clause-refused g c =
    clone-refused (held-call g.S.Small.SmallOf.seen
    (bare_held c.self.inside.window) c.self.view_is
    c.self.invariant.0 c.requires.pass c.lend-pass.ensures.taken) c.clone_window-made.new.pass
    g.L.Layout.clone_wants c.in-Err.e c.in-Err.ensures.refused
    c.give_back.new.self.of_blocks.items c.give_back.ensures

made : (g : Over) (c : After-hold_window g)
    → MadeBeside c.args.self.now (held g.S.Small.SmallOf.seen
    (bare_held c.hold_window.result) c.self.inside.block) (row_of c.args.self.now)
    c.args.passes.now.of_blocks.items
    c.give_back.new.self.of_blocks.items
made g c =
    let small = g.S.Small.SmallOf.seen in
    let made = as_held (bare_read c.in-Ok.window) in
    clone-made (held-call small (bare_held c.self.inside.window) c.self.view_is c.self.invariant.0
    c.requires.pass c.lend-pass.ensures.taken) c.clone_window-made.new.pass
    (window_in small made) c.in-Ok.ensures.place (role_in made)
    (held small (bare_held c.hold_window.result) c.self.inside.block)
    (ap (λ h. held small h c.self.inside.block) c.hold_window.ensures) c.in-Ok.ensures.items
    c.in-Ok.ensures.role c.give_back.new.self.of_blocks.items c.give_back.ensures

pub returns-in-Ok-clause-stand : goal.returns-in-Ok-clause-stand
returns-in-Ok-clause-stand g c =
    (made g (goal.at.returns-in-Ok-clause-stand g c).After-hold_window).stand

pub returns-in-Ok-clause-row : goal.returns-in-Ok-clause-row
returns-in-Ok-clause-row g c =
    (made g (goal.at.returns-in-Ok-clause-row g c).After-hold_window).row_is
