-- What the cut adds to the pass that was lent for it, it adds to the passes.
use Rattle.std.proofs.Common.{◌≡◌, ◌==◌, ◌&&◌, if◌then◌else◌, None, length, sym, ap, ◌∙◌}
use Rattle.arc_buffer.specs.Slice.{sub}
use Rattle.arc_buffer.proofs.Sub.{length-sub}
use Rattle.arc_commands.specs.Changes.{part_of}
use Rattle.arc_slots.specs.Slots.{SlotView, as_held, bare_held, bare_read, held}
use Rattle.arc_slots.specs.Slots.{role_in, row_of, window_in}
use Rattle.arc_slots.proofs.Cuts.{MadeBeside, holds-made, sub-fits, sub-made, sub-refused}
use Rattle.arc_slots.proofs.Slots.{held-call}
use Rattle.arc_slots.proofs.slot.Slot.try_subslice.Given.{Over}
use Rattle.arc_slots.proofs.slot.Slot.try_subslice.Goals.{After-part_block}
use Rattle.arc_slots.proofs.slot.Slot.try_subslice.Goals as goal

-- the block of the part
part-block : (g : Over) (c : After-part_block g)
    → c.part_block.result ≡ (if g.L.Layout.STATIC
    && (length (sub (window_in g.S.Small.SmallOf.seen
    (bare_held c.self.inside.window)).items c.args.start
    c.args.end) == 0) then None else c.self.inside.block)
part-block g c =
    let long =
    ap (λ (s : SlotView g.row.S-Item.Denot g.row.M.Denot).
    length (sub s.window.items c.args.start c.args.end)) c.self.view_is
    ∙ length-sub c.args.self.now.window.items c.args.start c.args.end c.requires.range.ordered
    c.requires.range.within in
    c.part_block.ensures
    ∙ ap (λ n. if g.L.Layout.STATIC && (n == 0) then None else c.self.inside.block) (sym long)

pub invariant_of-result : goal.invariant_of-result
invariant_of-result g c =
    let small = g.S.Small.SmallOf.seen in
    let made = bare_read c.in-Ok.window in
    holds-made small g.S.TableKind.SHARES made c.part_block.result
    (bare_held c.hold_window.result) c.hold_window.ensures
    (sub-fits (held-call small (bare_held c.self.inside.window) c.self.view_is c.self.invariant.0
    c.requires.pass c.lend-pass.ensures.taken) c.cut_window-made.new.pass g.L.Layout.STATIC
    c.args.start c.args.end (window_in small (as_held made)) c.in-Ok.ensures.place
    c.part_block.result (part-block g (goal.at.invariant_of-result g c).After-part_block))

pub returns-in-Err-clause-refused : goal.returns-in-Err-clause-refused
returns-in-Err-clause-refused g c =
    sub-refused (held-call g.S.Small.SmallOf.seen
    (bare_held c.self.inside.window) c.self.view_is
    c.self.invariant.0 c.requires.pass c.lend-pass.ensures.taken) c.cut_window-made.new.pass
    g.L.Layout.STATIC c.args.start c.args.end g.L.Layout.clone_wants c.in-Err.e
    c.in-Err.ensures.refused c.give_back.new.self.of_blocks.items c.give_back.ensures

made : (g : Over) (c : After-part_block g)
    → MadeBeside c.args.self.now (held g.S.Small.SmallOf.seen
    (bare_held c.hold_window.result) c.part_block.result)
    (part_of g.L.Layout.STATIC (row_of c.args.self.now) c.args.start c.args.end)
    c.args.passes.now.of_blocks.items c.give_back.new.self.of_blocks.items
made g c =
    let small = g.S.Small.SmallOf.seen in
    let made = as_held (bare_read c.in-Ok.window) in
    sub-made (held-call small (bare_held c.self.inside.window) c.self.view_is c.self.invariant.0
    c.requires.pass c.lend-pass.ensures.taken) c.cut_window-made.new.pass g.L.Layout.STATIC
    c.args.start c.args.end (window_in small made) c.in-Ok.ensures.place
    c.part_block.result (part-block g c) (role_in made)
    (held small (bare_held c.hold_window.result) c.part_block.result)
    (ap (λ h. held small h c.part_block.result) c.hold_window.ensures) c.in-Ok.ensures.items
    c.in-Ok.ensures.role c.give_back.new.self.of_blocks.items c.give_back.ensures

pub returns-in-Ok-clause-stand : goal.returns-in-Ok-clause-stand
returns-in-Ok-clause-stand g c =
    (made g (goal.at.returns-in-Ok-clause-stand g c).After-part_block).stand

pub returns-in-Ok-clause-row : goal.returns-in-Ok-clause-row
returns-in-Ok-clause-row g c =
    (made g (goal.at.returns-in-Ok-clause-row g c).After-part_block).row_is
