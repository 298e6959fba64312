-- The places of a native block's writer were split where he stood; without a block both parts stand
-- on nothing.
use Rattle.std.proofs.Common.{◌≡◌, ◌≤◌, true, not, eqb, sym, ap, ◌∙◌, subst, rules}
use Rattle.arc_block.specs.Given.{Given}
use Rattle.arc_writer_parts.specs.PartsOn.{shared_on, IsSharedOn}
use Rattle.arc_block.specs.Place.{IsOnBlock}
use Rattle.arc_parts.specs.Shared.{as_shared, is_vector_at}
use Rattle.arc_parts.specs.Window.{PartsView}
use Rattle.arc_parts.specs.Writers.{capacity_of}
use Rattle.arc_writer_parts.proofs.Splits.{parts_split, stays_to_split, idle_split, alone_vector}
use Rattle.arc_writer_parts.proofs.shared.SharedParts.split_as.Goals as goal

pub returns-in-Ok-clause-made : goal.returns-in-Ok-clause-made
returns-in-Ok-clause-made g c =
    let real = g.H.Mark.real in let whole = g.H.Mark.whole in let v = c.in-Several.writer in
    let w = c.args.self in let p = c.args.pass.now in
    let seen = sym (ap shared_on c.in-Several.is) ∙ c.self.view_is in
    parts_split real whole (not (eqb g.row.FRONT_STAYS 0)) c.args.at v c.in-Ok.front c.in-Ok.back
    c.staying_first-stays.result.0 c.staying_first-stays.result.1 w c.several.result
    c.several-in-Ok.result p p c.try_split_as.new.pass (stays_to_split real whole v w p seen)
    c.several.ensures c.several-in-Ok.ensures c.staying_first-stays.ensures.stays
    c.staying_first-stays.ensures.leaves c.in-Ok.ensures.front c.in-Ok.ensures.back
    c.in-Ok.ensures.owners

pub returns-then-not-is_on_block-clause-made : goal.returns-then-not-is_on_block-clause-made
returns-then-not-is_on_block-clause-made g c =
    let idle = c.is_on_block.ensures.idle (search rules) in
    let seen = sym (sym (ap shared_on c.in-Alone.is) ∙ c.self.view_is) ∙ ap as_shared idle in
    idle_split g.H.Mark.real g.H.Mark.whole (not (eqb g.row.FRONT_STAYS 0)) c.args.at c.args.self
    c.alone.result c.on_nothing.result c.args.pass.now seen (c.alone.ensures ∙ ap as_shared idle)
    c.on_nothing.ensures
    (subst (λ (w : PartsView g.row.S-Item.Denot (Given g.row.B.Denot g.row.M.Denot)).
    c.args.at ≤ capacity_of w.role) seen
    c.requires.at)

pub split_vector_as-requires-clause-vector : goal.split_vector_as-requires-clause-vector
split_vector_as-requires-clause-vector g c =
    let on : IsOnBlock c.in-Alone.parts.place = search rules in
    subst (λ (w : PartsView g.row.S-Item.Denot (Given g.row.B.Denot g.row.M.Denot)).
    is_vector_at w.place ≡ true)
    (sym c.alone-whole.ensures)
    (alone_vector c.in-Alone.parts.place
    (subst (λ on. IsSharedOn on) c.in-Alone.is c.self.invariant.1) on)
