-- The parts are all of the vector.
use Rattle.std.proofs.Common.{◌≤◌, [], length, refl, sym, ◌∙◌, arith}
use Rattle.std.specs.Vec.{vec_capacity}
use Rattle.arc_parts.proofs.Windows.{vec_of_none, vec_on_block, none_needs}
use Rattle.arc_parts.proofs.parts.Parts.try_from_vec_as.Goals as goal

pub returns-in-Ok-clause-made : goal.returns-in-Ok-clause-made
returns-in-Ok-clause-made g c =
    let v = c.args.items in
    let fit : length v.items ≤ vec_capacity v = omega (arith, v.ok.0, v.ok.1) in
    vec_of_none g.L.Layout.STATIC g.S.Slice.DROPS g.H.Mark.whole g.L.Layout.lone v.items
    (vec_capacity v) fit
    (sym c.capacity.ensures ∙ c.if-capacity-eq0.true) _ refl _ c.in-Ok.ensures.made

pub returns-in-Err-clause-refused : goal.returns-in-Err-clause-refused
returns-in-Err-clause-refused g c = (
  refl,
  none_needs {T = g.row.S-Item.Denot} g.L.Layout.STATIC [] (vec_capacity c.args.items) refl
      (sym c.capacity.ensures ∙ c.if-capacity-eq0.true) c.in-Err.ensures.refused.1,
  c.in-Err.ensures.refused.2,
)

pub returns-in-Ok-try_from_vec-clause-made : goal.returns-in-Ok-try_from_vec-clause-made
returns-in-Ok-try_from_vec-clause-made g c =
    let v = c.args.items in let made = c.in-Ok-try_from_vec.ensures.made in
    let fit : length v.items ≤ vec_capacity v = omega (arith, v.ok.0, v.ok.1) in
    vec_on_block g.L.Layout.STATIC g.S.Slice.DROPS g.H.Mark.whole g.L.Layout.lone v.items
    (vec_capacity v) fit
    c.in-Ok-try_from_vec.block made.0 made.1
    (λ none. c.if-capacity-eq0.false (c.capacity.ensures ∙ none))
    c.over_all.result c.over_all.ensures
