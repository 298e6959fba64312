-- The native block's count said that another owner lives.
use Rattle.std.proofs.Common.{◌≡◌, true, refl, sym, ap, ◌∙◌, subst, arith}
use Rattle.std.proofs.lemmas.Grind.{common_steps}
use Rattle.arc_block.specs.Given.{Given}
use Rattle.arc_block.specs.LayoutFacts.{layout_facts}
use Rattle.arc_block.specs.Layouts.{holds_sort}
use Rattle.arc_parts.specs.Window.{PartsView, IsBlockHeld, parts_of, window_seen}
use Rattle.arc_writer_parts.proofs.Takes.{held_writable}
use Rattle.arc_sort_writers.proofs.SoleNatives.{refused_native}
use Rattle.arc_writer_parts.proofs.sole.SoleParts.try_from_parts_as.Goals as goal

pub returns-in-Err-clause-refused : goal.returns-in-Err-clause-refused
returns-in-Err-clause-refused g c =
    let start = c.into_storage-on.result.1 in let end = c.into_storage-on.result.2 in
    let seen = refused_native g.L.Layout.ANY c.in-Native.block c.in-Err.block start end
    c.args.parts c.args.pass.now c.try_of_native_as.new.pass
    (ap (λ on. parts_of (window_seen on start end)) (sym c.in-Native.is)
    ∙ sym c.into_storage-on.ensures.parts)
    c.in-Err.ensures.others c.in-Err.ensures.entry in
    (c.over.ensures ∙ seen.0, seen.1)

pub returns-in-Static-clause-refused : goal.returns-in-Static-clause-refused
returns-in-Static-clause-refused g c = grind (arith, common_steps)

pub returns-in-Static-2-clause-sole : goal.returns-in-Static-2-clause-sole
returns-in-Static-2-clause-sole g c = grind (arith, common_steps)

pub returns-in-Ok-try_of_block_as-clause-held : goal.returns-in-Ok-try_of_block_as-clause-held
returns-in-Ok-try_of_block_as-clause-held g c =
    let block = c.in-Block.block in let may = c.if-not-may_write.ensures.0 refl in
    subst (λ (w : PartsView g.row.S-Item.Denot (Given g.row.B.Denot g.row.M.Denot)).
    IsBlockHeld (layout_facts g.L.Layout) w.place) (sym c.in-Ok-try_of_block_as.ensures.sole)
    (held_writable (layout_facts g.L.Layout) block.owner block.facts.sort
    (may.0, subst (λ any. holds_sort any block.facts.sort ≡ true) c.ANY.ensures may.1))
