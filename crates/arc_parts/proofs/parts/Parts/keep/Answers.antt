-- What is left is seen as a part.
use Rattle.std.proofs.Common.{Fits, rules, arith}
use mir.Syntax.{w64}
use Rattle.arc_parts.proofs.Windows.{how_long, kept_seen, places_fit}
use Rattle.arc_parts.proofs.parts.Parts.keep.Goals as goal

pub returns : goal.returns
returns g c =
    let long = how_long _ _ _ c.args.self.now c.self.view_is c.self.invariant in
    kept_seen _ _ _ c.args.start c.args.end c.args.self.now c.self.view_is c.self.invariant
    c.requires.range.0 (omega (arith, long, c.requires.range.1))

pub overflow_add-self : goal.overflow_add-self
overflow_add-self g c =
    let last : Fits w64 c.self.inside.end = search rules in
    (places_fit _ _ _ c.args.self.now c.self.view_is c.self.invariant last c.args.start c.args.end
    c.requires.range.0 c.requires.range.1).1

pub overflow_add-self-2 : goal.overflow_add-self-2
overflow_add-self-2 g c =
    let last : Fits w64 c.self.inside.end = search rules in
    (places_fit _ _ _ c.args.self.now c.self.view_is c.self.invariant last c.args.start c.args.end
    c.requires.range.0 c.requires.range.1).0
