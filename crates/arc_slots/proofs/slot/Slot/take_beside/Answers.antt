use Rattle.arc_block.specs.LayoutFacts.{layout_facts}
use Rattle.std.specs.Mem.{type_size}
use Rattle.arc_commands.specs.Changes.{Setting, setting_of}
use Rattle.std.proofs.Common.{Some, None, subst, sym}
use Rattle.arc_commands.specs.Seen.{seen_reply}
use Rattle.arc_commands.specs.declared.command.Cmd.TheVariants as command
use Rattle.arc_commands.specs.declared.command.Reply.TheVariants as reply
use Rattle.arc_slots.specs.Answers.{Answers}
use Rattle.arc_slots.specs.Taking.{take_command}
use Rattle.arc_slots.proofs.Asked.{took-shared, untook-shared}
use Rattle.arc_slots.proofs.slot.Slot.take_beside.Given.{Over}
use Rattle.arc_slots.proofs.slot.Slot.take_beside.Goals as goal

abbrev setting : (g : Over) → Setting g.row.S-Item.Denot
setting g =
    setting_of (layout_facts g.L.Layout) g.L.Writable.Layout.ANY g.L.Layout.clone_wants
    g.S.Slice.DROPS g.S.Subsliceable.boundary (type_size g.row.S-Item) g.S.Zero.ZeroOf.zero
    g.S.Calls.CallsOf.calls

pub returns-in-Ok-clause-answers : goal.returns-in-Ok-clause-answers
returns-in-Ok-clause-answers g c next i =
    let s = c.args.self in
    let passes = c.args.passes.now.of_blocks.items in
    let after = c.try_take_beside.new.passes.of_blocks.items in
    subst (λ what. Answers (setting g) next (take_command i what) s passes
    (seen_reply g.S.Commands.items_in g.S.Commands.items_in_box g.B.Buffer.list c.in-Ok.reply) None
    None after) (sym c.in-Vector.is)
    (subst (λ r. Answers (setting g) next (command.Take i) s passes r None None after)
    (sym c.in-Ok.ensures.reply)
    (took-shared (setting g) next s passes c.requires.pass c.requires.role i after
    c.in-Ok.ensures.taken))

pub returns-in-Err-clause-answers : goal.returns-in-Err-clause-answers
returns-in-Err-clause-answers g c next i =
    let s = c.args.self in
    let passes = c.args.passes.now.of_blocks.items in
    let after = c.try_take_beside.new.passes.of_blocks.items in
    subst (λ what. Answers (setting g) next (take_command i what) s passes reply.Refused
    (Some c.in-Err.slot) None after) (sym c.in-Vector.is)
    (subst (λ x. Answers (setting g) next (command.Take i) s passes reply.Refused (Some x) None
    after) (sym c.in-Err.ensures.back)
    (untook-shared (setting g) next s passes c.requires.pass c.requires.role i after
    c.in-Err.ensures.refused))
