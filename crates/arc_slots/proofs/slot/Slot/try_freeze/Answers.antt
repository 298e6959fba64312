-- The window stands where it stood, or is what is made of its items, on a block more or on none.
use Rattle.arc_block.specs.LayoutFacts.{layout_facts}
use Rattle.std.proofs.Common.{refl, ap, ◌∙◌}
use Rattle.arc_slots.specs.Slots.{bare_held, bare_window, held, parts_in}
use Rattle.arc_slots.proofs.Freezing.{slot-frozen, slot-numbered}
use Rattle.arc_slots.proofs.Slots.{call-pass, held-call}
use Rattle.arc_slots.proofs.Taken.{back-same}
use Rattle.arc_slots.proofs.slot.Slot.try_freeze.Goals as goal

pub freeze_window-requires-clause-pass : goal.freeze_window-requires-clause-pass
freeze_window-requires-clause-pass g c =
    call-pass (held-call g.S.Small.SmallOf.seen (bare_held c.self.inside.window)
    c.self.view_is c.self.invariant.0 c.requires.pass c.lend-pass.ensures.taken)

pub returns-in-Ok-clause-frozen : goal.returns-in-Ok-clause-frozen
returns-in-Ok-clause-frozen g c =
    slot-frozen (parts_in g.S.Small.SmallOf.seen (bare_held c.self.inside.window))
    c.self.inside.block c.args.self c.self.view_is c.self.invariant.0 (layout_facts g.L.Layout)
    c.in-Ok.ensures.writer g.S.Slice.DROPS
    c.args.passes.now.of_blocks.items c.lend-pass.new.self.of_blocks.items c.lend-pass.result
    c.freeze_window.new.pass (bare_window c.in-Ok.window) c.keep-block.result
    c.keep-block.new.self.of_blocks.items c.wants_block_to_read-begins.result
    c.lend-pass.ensures.taken c.in-Ok.ensures.frozen c.wants_block_to_read-begins.ensures
    c.keep-block.ensures.same c.keep-block.ensures.new

pub returns-in-Err-clause-back : goal.returns-in-Err-clause-back
returns-in-Err-clause-back g c = (
  ap (λ h. held g.S.Small.SmallOf.seen (bare_held h) c.self.inside.block)
      c.in-Err.ensures.back
      ∙ c.self.view_is,
  c.give_back.ensures
      ∙ back-same c.args.passes.now.of_blocks.items c.lend-pass.new.self.of_blocks.items
      c.lend-pass.result c.self.inside.block c.lend-pass.ensures.taken
      c.freeze_window.new.pass c.in-Err.ensures.kept,
)

pub invariant_of-result : goal.invariant_of-result
invariant_of-result g c = (
  slot-numbered (parts_in g.S.Small.SmallOf.seen (bare_held c.self.inside.window))
      c.self.inside.block c.args.self c.self.view_is c.self.invariant.0 (layout_facts g.L.Layout)
      c.in-Ok.ensures.writer g.S.Slice.DROPS c.lend-pass.new.self.of_blocks.items
      c.lend-pass.result c.freeze_window.new.pass (bare_window c.in-Ok.window) c.keep-block.result
      c.keep-block.new.self.of_blocks.items c.wants_block_to_read-begins.result
      c.in-Ok.ensures.frozen c.wants_block_to_read-begins.ensures c.keep-block.ensures.same
      c.keep-block.ensures.new,
  refl,
  refl,
)
