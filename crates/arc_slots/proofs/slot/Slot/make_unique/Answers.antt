use Rattle.arc_block.specs.LayoutFacts.{layout_facts}
use Rattle.std.specs.Mem.{type_size}
use Rattle.arc_commands.specs.Changes.{Setting, setting_of}
use Rattle.std.proofs.Common.{Some, None, subst, sym, ◌∙◌}
use Rattle.arc_commands.specs.declared.command.Cmd.TheVariants as command
use Rattle.arc_commands.specs.declared.command.Reply.TheVariants as reply
use Rattle.arc_slots.specs.Answers.{Answers}
use Rattle.arc_slots.proofs.Answered.{unique-kind}
use Rattle.arc_slots.proofs.Asked.{made-unique, not-made-unique}
use Rattle.arc_slots.proofs.slot.Slot.make_unique.Given.{Over}
use Rattle.arc_slots.proofs.slot.Slot.make_unique.Goals as goal

abbrev setting : (g : Over) → Setting g.row.S-Item.Denot
setting g =
    setting_of (layout_facts g.L.Layout) g.L.Writable.Layout.ANY g.L.Layout.clone_wants
    g.S.Slice.DROPS g.S.Subsliceable.boundary (type_size g.row.S-Item) g.S.Zero.ZeroOf.zero
    g.S.Calls.CallsOf.calls

pub returns-then-not-is_several : goal.returns-then-not-is_several
returns-then-not-is_several g c next i =
    unique-kind (setting g) next c.args.self c.args.passes.now.of_blocks.items i
    c.known_role.ensures (sym c.is_several.ensures.answer ∙ c.if-not-is_several.true)

pub returns-in-Ok : goal.returns-in-Ok
returns-in-Ok g c next i =
    made-unique (setting g) next c.args.self c.args.passes.now.of_blocks.items
    c.try_into_unique.new.passes.of_blocks.items c.requires
    (sym c.is_several.ensures.answer ∙ c.if-not-is_several.false) c.known_shared.ensures i
    c.in-Ok.ensures.alone c.in-Ok.slot c.in-Ok.ensures.stand c.in-Ok.ensures.row

pub returns-in-Err : goal.returns-in-Err
returns-in-Err g c next i =
    let s = c.args.self in
    let passes = c.args.passes.now.of_blocks.items in
    let after = c.try_into_unique.new.passes.of_blocks.items in
    subst (λ x. Answers (setting g) next (command.Unique i) s passes reply.Refused (Some x) None
    after) (sym c.in-Err.ensures.back)
    (not-made-unique (setting g) next s passes after c.requires
    (sym c.is_several.ensures.answer ∙ c.if-not-is_several.false) c.known_shared.ensures i
    c.in-Err.ensures.beside)
