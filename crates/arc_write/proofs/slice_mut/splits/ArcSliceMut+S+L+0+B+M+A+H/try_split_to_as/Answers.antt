use Rattle.std.proofs.Common.{◌≡◌, ◌-◌, true, false, take, drop, sym, subst}
use Rattle.std.specs.Prelude.{IfOk}
use Rattle.arc_block.specs.Given.{Given}
use Rattle.arc_block.specs.LayoutFacts.{layout_facts}
use Rattle.arc_parts.specs.Shared.{SplitsWriterTo, IsSharedPlace, ends_at}
use Rattle.arc_parts.specs.Window.{PartsView}
use Rattle.arc_parts.specs.Writers.{capacity_of}
use Rattle.arc_writer_parts.specs.Roles.{HasWritersRole}
use Rattle.arc_write.proofs.Apart.{front_apart, front_lists, front_places}
use Rattle.arc_write.proofs.Parts.{HoldsLegal}
use Rattle.arc_write.proofs.Splits.{split_holds, back_stays}
use Rattle.arc_write.proofs.slice_mut.splits.ArcSliceMut+S+L+0+B+M+A+H.try_split_to_as.Goals.{in-Ok, in-Err}
use Rattle.arc_write.proofs.slice_mut.splits.ArcSliceMut+S+L+0+B+M+A+H.try_split_to_as.Goals as goal

pub from_parts-requires-clause-held : goal.from_parts-requires-clause-held
from_parts-requires-clause-held g c =
    (split_holds (layout_facts g.L.Layout) g.H.Mark.real g.H.Mark.whole g.S.Slice.is_legal
    g.S.Subsliceable.boundary g.met.S.Subsliceable.range_is_legal
    g.met.S.Subsliceable.ends_are_edges c.args.at c.self.inside.parts _ _ _ _ _
    (sym c.self.view_is) c.requires.at false c.in-Ok.ensures.made c.self.invariant).1.0

pub from_parts-requires-clause-legal : goal.from_parts-requires-clause-legal
from_parts-requires-clause-legal g c =
    (split_holds (layout_facts g.L.Layout) g.H.Mark.real g.H.Mark.whole g.S.Slice.is_legal
    g.S.Subsliceable.boundary g.met.S.Subsliceable.range_is_legal
    g.met.S.Subsliceable.ends_are_edges c.args.at c.self.inside.parts _ _ _ _ _
    (sym c.self.view_is) c.requires.at false c.in-Ok.ensures.made c.self.invariant).1.1

pub invariant_of-self : goal.invariant_of-self
invariant_of-self g c =
    elim c.match-try_split_as.branch [
      | in-Ok w ↦ (split_holds (layout_facts g.L.Layout) g.H.Mark.real g.H.Mark.whole
          g.S.Slice.is_legal g.S.Subsliceable.boundary g.met.S.Subsliceable.range_is_legal
          g.met.S.Subsliceable.ends_are_edges c.args.at c.self.inside.parts _ _ _ _ _
          (sym c.self.view_is) c.requires.at false w.in-Ok.ensures.made c.self.invariant).0
      | in-Err w ↦ subst (HoldsLegal (layout_facts g.L.Layout) g.S.Slice.is_legal)
          (sym w.in-Err.ensures.refused.0) c.self.invariant
    ]

pub returns-clause-made : goal.returns-clause-made
returns-clause-made g c =
    let made-of : (old made : PartsView g.row.S-Item.Denot (Given g.row.B.Denot g.row.M.Denot))
    → Type 0 = λ old made.
    SplitsWriterTo g.row.H.Denot g.H.Mark.real false g.H.Mark.whole c.args.at
    old made c.try_split_as.new.self
    c.args.pass.now c.try_split_as.new.pass in
    elim c.match-try_split_as.branch [
      | in-Ok w ↦ subst (λ r. IfOk r (made-of c.args.self.now)) (sym w.result-is)
          (subst (made-of c.args.self.now) (sym w.from_parts.ensures)
          (subst (λ old. made-of old w.in-Ok.front) c.self.view_is
          (back_stays g.H.Mark.real g.H.Mark.whole c.args.at _ _ _ _ _ w.in-Ok.ensures.made)))
      | in-Err w ↦ subst (λ r. IfOk r (made-of c.args.self.now)) (sym w.result-is) tt
    ]

pub returns-clause-apart : goal.returns-clause-apart
returns-clause-apart g c =
    let are-apart : PartsView g.row.S-Item.Denot (Given g.row.B.Denot g.row.M.Denot)
    → Type 0 = λ made.
    ends_at c.args.at made.place c.try_split_as.new.self.place ≡ true in
    elim c.match-try_split_as.branch [
      | in-Ok w ↦ subst (λ r. IfOk r are-apart) (sym w.result-is)
          (subst are-apart (sym w.from_parts.ensures)
          (front_apart g.H.Mark.real g.H.Mark.whole c.args.at _ _ _ _ _ w.in-Ok.ensures.made
          (subst (λ (u : PartsView g.row.S-Item.Denot (Given g.row.B.Denot g.row.M.Denot)).
          IsSharedPlace u.place)
          (sym c.self.view_is) c.known_place.ensures.place)))
      | in-Err w ↦ subst (λ r. IfOk r are-apart) (sym w.result-is) tt
    ]

pub returns-clause-lists : goal.returns-clause-lists
returns-clause-lists g c =
    let lists : (old made : PartsView g.row.S-Item.Denot (Given g.row.B.Denot g.row.M.Denot))
    → Type 0 = λ old made.
    (made.items ≡ take c.args.at old.items)
    × (c.try_split_as.new.self.items ≡ drop c.args.at old.items) in
    elim c.match-try_split_as.branch [
      | in-Ok w ↦ subst (λ r. IfOk r (lists c.args.self.now)) (sym w.result-is)
          (subst (lists c.args.self.now) (sym w.from_parts.ensures)
          (subst (λ old. lists old w.in-Ok.front) c.self.view_is
          (front_lists g.H.Mark.real g.H.Mark.whole c.args.at _ _ _ _ _ w.in-Ok.ensures.made)))
      | in-Err w ↦ subst (λ r. IfOk r (lists c.args.self.now)) (sym w.result-is) tt
    ]

pub returns-clause-places : goal.returns-clause-places
returns-clause-places g c =
    let places : (old made : PartsView g.row.S-Item.Denot (Given g.row.B.Denot g.row.M.Denot))
    → Type 0 = λ old made.
    (capacity_of made.role ≡ c.args.at)
    × (capacity_of c.try_split_as.new.self.role ≡ capacity_of old.role - c.args.at) in
    elim c.match-try_split_as.branch [
      | in-Ok w ↦ subst (λ r. IfOk r (places c.args.self.now)) (sym w.result-is)
          (subst (places c.args.self.now) (sym w.from_parts.ensures)
          (subst (λ old. places old w.in-Ok.front) c.self.view_is
          (front_places g.H.Mark.real g.H.Mark.whole c.args.at _ _ _ _ _ w.in-Ok.ensures.made
          (subst (λ (u : PartsView g.row.S-Item.Denot (Given g.row.B.Denot g.row.M.Denot)).
          HasWritersRole true u.role)
          (sym c.self.view_is) c.known_place.ensures.role))))
      | in-Err w ↦ subst (λ r. IfOk r (places c.args.self.now)) (sym w.result-is) tt
    ]
