-- What asking adds to the pass that was lent for it, it adds to the passes.
use Rattle.arc_block.specs.Table.{bare}
use Rattle.arc_parts.specs.Shared.{AsksAlone}
use Rattle.arc_writer_parts.proofs.Bare.{bare_asked}
use Rattle.std.proofs.Common.{Bool, Some, true, false, ap, ◌∙◌}
use Rattle.arc_slots.specs.Several.{AsksAt}
use Rattle.arc_slots.specs.Slots.{bare_held, row_of, stand_of}
use Rattle.arc_slots.specs.declared.window.Held.TheVariants.{Several}
use Rattle.arc_slots.proofs.FilledBeside.{beside-asked}
use Rattle.arc_slots.proofs.FilledBeside.{beside-seen}
use Rattle.arc_slots.proofs.Shared.{unique-row}
use Rattle.arc_slots.proofs.Slots.{fits-as}
use Rattle.arc_slots.proofs.slot.Slot.try_into_unique.Given.{Over}
use Rattle.arc_slots.proofs.slot.Slot.try_into_unique.Goals.{After-give_back}
use Rattle.arc_slots.proofs.slot.Slot.try_into_unique.Goals as goal

pub returns-in-Ok-clause-row : goal.returns-in-Ok-clause-row
returns-in-Ok-clause-row g c =
    let small = g.S.Small.SmallOf.seen in
    let h = bare_held c.self.inside.window in
    let w = bare c.in-Several.window in
    let b = c.self.inside.block in
    ap row_of c.written.ensures
    ∙ unique-row w b c.args.self
    (beside-seen small h w b (ap bare_held c.in-Several.is) c.args.self c.self.view_is
    g.S.TableKind.SHARES c.self.invariant)
    (fits-as h (Several w) (ap bare_held c.in-Several.is) small b c.self.invariant.0)
    (bare c.in-Ok.window) (ap bare c.in-Ok.ensures.sole)

-- what he asked by the pass that was lent is asked of the table
asked : (g : Over) (c : After-give_back g) (found : Bool)
    → AsksAlone c.in-Several.window.place c.lend-pass.result
    c.try_into_unique_as-made.new.pass found
    → AsksAt (stand_of (Some c.args.self)) c.args.passes.now.of_blocks.items
    c.give_back.new.self.of_blocks.items found
asked g c found asks =
    let w = c.in-Several.window in
    beside-asked g.S.Small.SmallOf.seen (bare_held c.self.inside.window) (bare w)
    c.self.inside.block (ap bare_held c.in-Several.is) c.args.self c.self.view_is
    g.S.TableKind.SHARES c.self.invariant c.args.passes.now.of_blocks.items c.requires.pass
    c.lend-pass.new.self.of_blocks.items c.lend-pass.result c.try_into_unique_as-made.new.pass
    c.lend-pass.ensures.taken c.give_back.new.self.of_blocks.items c.give_back.ensures found
    (bare_asked w.place c.lend-pass.result c.try_into_unique_as-made.new.pass found asks)

pub returns-in-Ok-clause-alone : goal.returns-in-Ok-clause-alone
returns-in-Ok-clause-alone g c =
    asked g (goal.at.returns-in-Ok-clause-alone g c).After-give_back true c.in-Ok.ensures.entry

pub returns-in-Err-clause-beside : goal.returns-in-Err-clause-beside
returns-in-Err-clause-beside g c =
    asked g (goal.at.returns-in-Err-clause-beside g c).After-give_back false c.in-Err.ensures.entry
