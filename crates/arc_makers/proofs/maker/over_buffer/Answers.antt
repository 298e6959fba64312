use Rattle.std.proofs.Common.{Some, None, ◌&&◌, if◌then◌else◌, List, length, refl, sym, ap, ◌∙◌}
use Rattle.std.proofs.Common.{subst}
use Rattle.arc_owners.specs.declared.mark.Whole.{Whole}
use Rattle.arc_owners.specs.declared.count.tokens.Pass.{Pass}
use Rattle.arc_commands.specs.Additions.{Founds}
use Rattle.arc_commands.specs.Changes.{buffer_row}
use Rattle.arc_slots.specs.Slots.{stand_of}
use Rattle.arc_makers.proofs.maker.over_buffer.Goals as goal

pub returns-in-Ok-clause-made : goal.returns-in-Ok-clause-made
returns-in-Ok-clause-made g c =
    let slot = c.in-Ok.slot in
    let passes = c.args.passes.now.of_blocks.items in
    let places = g.B.Buffer.places c.args.given in
    let row_on = λ (ps : List (Pass Whole)).
    buffer_row (length ps) (g.B.Buffer.list c.args.given) places c.args.metadata in
    let may =
    ap (λ b. b && g.L.Layout.ANY) (sym c.any_list.ensures ∙ c.if-not-any_list.false)
    ∙ sym c.ANY.ensures ∙ c.if-not-ANY.false in
    record {
      places = places;
      enough = c.in-Ok.ensures.enough;
      said = (
        ap (λ b. if b then Some (row_on passes) else None) may
            ∙ ap Some (sym (c.in-Ok.ensures.row ∙ ap row_on c.reserve_for.ensures.items)),
        refl,
        subst (λ ps. Founds (stand_of (Some slot)) ps c.buffer_reader.new.passes.of_blocks.items)
            c.reserve_for.ensures.items c.in-Ok.ensures.stand,
      );
    }

pub returns-in-Ok-clause-places : goal.returns-in-Ok-clause-places
returns-in-Ok-clause-places g c =
    c.in-Ok.ensures.row
    ∙ ap (λ (ps : List (Pass Whole)). buffer_row (length ps) (g.B.Buffer.list c.args.given)
    (g.B.Buffer.places c.args.given) c.args.metadata) c.reserve_for.ensures.items
