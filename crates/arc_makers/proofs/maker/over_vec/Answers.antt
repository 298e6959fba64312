use Rattle.std.proofs.Common.{◌≤◌, Some, None, if◌then◌else◌, List, length, refl, sym, ap, ◌∙◌}
use Rattle.std.proofs.Common.{subst}
use Rattle.std.specs.Vec.{vec_capacity}
use Rattle.arc_owners.specs.declared.mark.Whole.{Whole}
use Rattle.arc_owners.specs.declared.count.tokens.Pass.{Pass}
use Rattle.arc_commands.specs.Additions.{Founds}
use Rattle.arc_commands.specs.Changes.{vector_row}
use Rattle.arc_slots.specs.Slots.{stand_of}
use Rattle.arc_makers.proofs.maker.over_vec.Goals as goal

pub returns-in-Ok-clause-made : goal.returns-in-Ok-clause-made
returns-in-Ok-clause-made g c =
    let v = c.wrapped.result in
    let places = vec_capacity v in
    let slot = c.in-Ok.slot in
    let passes = c.args.passes.now.of_blocks.items in
    let row_on = λ (xs : List g.row.S-Item.Denot) (ps : List (Pass Whole)).
    vector_row g.L.Layout.STATIC g.S.Slice.DROPS (length ps) xs places in
    record {
      places = places;
      enough = subst (λ xs. length xs ≤ places) c.wrapped.ensures.list c.in-Ok.ensures.enough;
      said = (
        ap (λ b. if b then Some (row_on (g.S.Commands.items_in c.args.items) passes) else None)
            (sym c.ANY.ensures ∙ c.if-not-ANY.false)
            ∙ ap Some (sym (c.in-Ok.ensures.row
            ∙ ap (λ xs. row_on xs c.reserve_for.new.self.of_blocks.items) c.wrapped.ensures.list
            ∙ ap (λ ps. row_on (g.S.Commands.items_in c.args.items) ps)
            c.reserve_for.ensures.items)),
        refl,
        subst (λ ps. Founds (stand_of (Some slot)) ps c.vector.new.passes.of_blocks.items)
            c.reserve_for.ensures.items c.in-Ok.ensures.stand,
      );
    }

pub returns-in-Ok-clause-places : goal.returns-in-Ok-clause-places
returns-in-Ok-clause-places g c =
    let v = c.wrapped.result in
    let row_on = λ (xs : List g.row.S-Item.Denot) (ps : List (Pass Whole)).
    vector_row g.L.Layout.STATIC g.S.Slice.DROPS (length ps) xs (vec_capacity v) in (
      vec_capacity v,
      (v, c.wrapped.ensures.wraps, refl),
      c.in-Ok.ensures.row
          ∙ ap (λ xs. row_on xs c.reserve_for.new.self.of_blocks.items) c.wrapped.ensures.list
          ∙ ap (λ ps. row_on (g.S.Commands.items_in c.args.items) ps)
          c.reserve_for.ensures.items,
    )
