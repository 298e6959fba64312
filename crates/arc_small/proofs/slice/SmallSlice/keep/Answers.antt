-- A range of the list is a part of the array.
use Rattle.std.proofs.Common.{sym, ap, ◌∙◌, subst, arith}
use Rattle.arc_buffer.specs.Slice.{IsRange, sub}
use Rattle.arc_buffer.proofs.Sub.{sub-sub}
use Rattle.arc_small.specs.Inline.{Inlined}
use Rattle.arc_small.proofs.Inline.{part_inlined, inlined_long}
use Rattle.arc_small.proofs.slice.SmallSlice.keep.Goals as goal

pub invariant_of-self : goal.invariant_of-self
invariant_of-self g c =
    let boundary = g.S.Subsliceable.boundary in
    let s = c.self.inside in
    let from = c.args.start in
    let to = c.args.end in
    part_inlined g.S.Slice.is_legal boundary g.met.S.Subsliceable.range_is_legal
    s.words s.bytes s.start s.end from to c.self.invariant
    (subst (λ (v : Inlined). IsRange boundary v.items from to) (sym c.self.view_is) c.requires)

pub returns : goal.returns
returns g c =
    let boundary = g.S.Subsliceable.boundary in
    let s = c.self.inside in
    let from = c.args.start in
    let to = c.args.end in
    let range = subst (λ (v : Inlined). IsRange boundary v.items from to) (sym c.self.view_is)
    c.requires in
    let long = inlined_long s.words s.bytes s.start s.end c.self.invariant.0 in
    sym (sub-sub s.bytes s.start s.end from to (omega (arith, long, range.within)))
    ∙ ap (λ (v : Inlined). sub v.items from to) c.self.view_is
