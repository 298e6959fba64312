-- The part lies where its source does, has its items, and stands that much further in.
use Rattle.std.proofs.Common.{Fits, ◌≡◌, sym, ap, ◌∙◌, subst, rules, IfOk, arith}
use mir.Syntax.{w64}
use Rattle.arc_owners.specs.count.Calls.{MakesAnother}
use Rattle.arc_block.specs.Block.{raw}
use Rattle.arc_block.specs.LayoutFacts.{layout_facts}
use Rattle.arc_parts.proofs.Raws.{raw_items, raw_refuses}
use Rattle.arc_parts.proofs.NativeWindows.{native_items, native_shares, native_within}
use Rattle.arc_parts.proofs.Windows.{part_items, part_shares, part_within}
use Rattle.arc_parts.proofs.Windows.{slice_items, slice_shares, slice_within, places_fit}
use Rattle.arc_parts.proofs.Windows.{none_there, none_on_nothing}
use Rattle.std.proofs.lemmas.Grind.{common_steps}
use Rattle.arc_parts.proofs.parts.Parts.try_part_once_as.Goals as goal

pub returns-in-Ok-clause-items : goal.returns-in-Ok-clause-items
returns-in-Ok-clause-items g c =
    let alike = subst (λ r. IfOk r (λ other. other ≡ record c.in-Native.block {
      owner = other.owner;
    })) c.in-Ok.is c.in_ok-block-in-Native.ensures.alike in
    native_items _ _ _ c.args.self.now _ c.self.view_is c.in-Native.is c.self.invariant
    g.L.Layout.STATIC c.args.start c.args.end c.requires.range.0 c.requires.range.1
    (sym c.if-stands_on_nothing.ensures) c.in-Ok.block alike

pub returns-in-Ok-clause-place : goal.returns-in-Ok-clause-place
returns-in-Ok-clause-place g c =
    let alike = subst (λ r. IfOk r (λ other. other ≡ record c.in-Native.block {
      owner = other.owner;
    })) c.in-Ok.is c.in_ok-block-in-Native.ensures.alike in
    let made = subst (λ r. IfOk r (λ other.
    MakesAnother c.in-Native.block.owner c.args.pass.now c.try_share_once_as.new.pass other.owner))
    c.in-Ok.is c.in_ok-block-in-Native.ensures.made in
    native_shares _ _ _ c.args.self.now _ c.self.view_is c.in-Native.is c.self.invariant
    g.L.Layout.STATIC c.args.start c.args.end c.requires.range.0 c.requires.range.1
    (sym c.if-stands_on_nothing.ensures) c.in-Ok.block alike
    c.args.pass.now c.try_share_once_as.new.pass made

pub invariant_of-result : goal.invariant_of-result
invariant_of-result g c =
    let alike = subst (λ r. IfOk r (λ other. other ≡ record c.in-Native.block {
      owner = other.owner;
    })) c.in-Ok.is c.in_ok-block-in-Native.ensures.alike in
    native_within _ _ _ c.args.self.now _ c.self.view_is c.in-Native.is c.self.invariant
    g.L.Layout.STATIC c.args.start c.args.end c.requires.range.0 c.requires.range.1
    (sym c.if-stands_on_nothing.ensures) c.in-Ok.block alike

pub returns-in-Ok-2-clause-items : goal.returns-in-Ok-2-clause-items
returns-in-Ok-2-clause-items g c =
    let alike = subst (λ r. IfOk r (λ other. (other.items ≡ c.in-Block.block.items)
    × (other.facts ≡ c.in-Block.block.facts))) c.in-Ok-2.is c.in_ok-block-in-Block.ensures.alike in
    part_items _ _ _ c.args.self.now _ c.self.view_is c.in-Block.is c.self.invariant
    g.L.Layout.STATIC c.args.start c.args.end c.requires.range.0 c.requires.range.1
    (sym c.if-stands_on_nothing.ensures) c.in-Ok-2.block alike.0 alike.1

pub returns-in-Ok-2-clause-place : goal.returns-in-Ok-2-clause-place
returns-in-Ok-2-clause-place g c =
    let alike = subst (λ r. IfOk r (λ other. (other.items ≡ c.in-Block.block.items)
    × (other.facts ≡ c.in-Block.block.facts))) c.in-Ok-2.is c.in_ok-block-in-Block.ensures.alike in
    let made = subst (λ r. IfOk r (λ other.
    MakesAnother c.in-Block.block.owner c.args.pass.now c.try_share_once_as-in-Block.new.pass
    other.owner))
    c.in-Ok-2.is c.in_ok-block-in-Block.ensures.made in
    part_shares _ _ _ c.args.self.now _ c.self.view_is c.in-Block.is c.self.invariant
    g.L.Layout.STATIC c.args.start c.args.end c.requires.range.0 c.requires.range.1
    (sym c.if-stands_on_nothing.ensures) c.in-Ok-2.block alike.0 alike.1
    c.args.pass.now c.try_share_once_as-in-Block.new.pass made

pub returns-in-Static-clause-items : goal.returns-in-Static-clause-items
returns-in-Static-clause-items g c =
    slice_items _ _ _ c.args.self.now _ c.self.view_is c.in-Static.is c.self.invariant
    c.args.start c.args.end c.requires.range.0 c.requires.range.1 _ c.again.ensures

pub returns-in-Static-clause-place : goal.returns-in-Static-clause-place
returns-in-Static-clause-place g c =
    slice_shares _ _ _ c.args.self.now _ c.self.view_is c.in-Static.is c.self.invariant
    c.args.start c.args.end c.requires.range.0 c.requires.range.1 g.L.Layout.STATIC
    c.args.pass.now (sym c.if-stands_on_nothing.ensures)

pub invariant_of-result-in-Ok-2 : goal.invariant_of-result-in-Ok-2
invariant_of-result-in-Ok-2 g c =
    let alike = subst (λ r. IfOk r (λ other. (other.items ≡ c.in-Block.block.items)
    × (other.facts ≡ c.in-Block.block.facts))) c.in-Ok-2.is c.in_ok-block-in-Block.ensures.alike in
    part_within _ _ _ c.args.self.now _ c.self.view_is c.in-Block.is c.self.invariant
    g.L.Layout.STATIC c.args.start c.args.end c.requires.range.0 c.requires.range.1
    (sym c.if-stands_on_nothing.ensures) c.in-Ok-2.block alike.0 alike.1

pub invariant_of-result-in-Static : goal.invariant_of-result-in-Static
invariant_of-result-in-Static g c =
    slice_within _ _ _ c.args.self.now _ c.self.view_is c.in-Static.is c.self.invariant
    c.args.start c.args.end c.requires.range.0 c.requires.range.1 _ c.again.ensures

pub overflow_add-to : goal.overflow_add-to
overflow_add-to g c =
    let last : Fits w64 c.self.inside.end = search rules in
    (places_fit _ _ _ c.args.self.now c.self.view_is c.self.invariant last
    c.args.start c.args.end c.requires.range.0 c.requires.range.1).1

pub overflow_add-from : goal.overflow_add-from
overflow_add-from g c =
    let last : Fits w64 c.self.inside.end = search rules in
    (places_fit _ _ _ c.args.self.now c.self.view_is c.self.invariant last
    c.args.start c.args.end c.requires.range.0 c.requires.range.1).0

pub returns-then-stands_on_nothing-clause-items : goal.returns-then-stands_on_nothing-clause-items
returns-then-stands_on_nothing-clause-items g c =
    ap (λ p. p.items) c.on_nothing.ensures
    ∙ none_there g.L.Layout.STATIC c.args.self.now.items c.args.start c.args.end
    c.requires.range.0 c.requires.range.1 (sym c.if-stands_on_nothing.ensures)

pub returns-in-Nothing-clause-items : goal.returns-in-Nothing-clause-items
returns-in-Nothing-clause-items g c =
    ap (λ p. p.items) c.on_nothing-in-Nothing.ensures
    ∙ none_on_nothing _ _ _ c.args.self.now _ c.self.view_is c.in-Nothing.is
    c.args.start c.args.end c.requires.range.0 c.requires.range.1

pub returns-in-Ok-try_clone-clause-items : goal.returns-in-Ok-try_clone-clause-items
returns-in-Ok-try_clone-clause-items g c =
    raw_items _ _ _ c.args.self.now _ c.self.view_is c.in-Raw.is c.self.invariant
    c.args.start c.args.end c.requires.range.0 c.requires.range.1 _ c.in-Ok-try_clone.ensures

pub returns-in-Err-try_clone-clause-refused : goal.returns-in-Err-try_clone-clause-refused
returns-in-Err-try_clone-clause-refused g c =
    raw_refuses _ _ _ c.args.self.now _ c.self.view_is c.in-Raw.is c.self.invariant
    c.args.start c.args.end c.requires.range.0 c.requires.range.1 g.L.Layout.STATIC
    (sym c.if-stands_on_nothing.ensures) (layout_facts g.L.Layout) c.requires.held
    g.L.Layout.clone_wants (g.L.Layout.wants raw) c.args.pass.now

pub invariant_of-result-in-Ok-try_clone : goal.invariant_of-result-in-Ok-try_clone
invariant_of-result-in-Ok-try_clone g c = grind (arith, common_steps)

pub returns-in_err-block-in-Block-clause-again : goal.returns-in_err-block-in-Block-clause-again
returns-in_err-block-in-Block-clause-again g c = grind (arith, common_steps)

pub returns-in_err-block-in-Native-clause-again : goal.returns-in_err-block-in-Native-clause-again
returns-in_err-block-in-Native-clause-again g c = grind (arith, common_steps)

pub returns-in-Ok-try_clone-clause-place : goal.returns-in-Ok-try_clone-clause-place
returns-in-Ok-try_clone-clause-place g c = grind (arith, common_steps)

pub returns-in-Err-2-clause-refused : goal.returns-in-Err-2-clause-refused
returns-in-Err-2-clause-refused g c = grind (arith, common_steps)

pub returns-in-Err-clause-refused : goal.returns-in-Err-clause-refused
returns-in-Err-clause-refused g c = grind (arith, common_steps)
