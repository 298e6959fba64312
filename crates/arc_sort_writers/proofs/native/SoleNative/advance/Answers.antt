-- The items that are left end where they did.
use Rattle.std.proofs.Common.{◌+◌, ◌-◌, length, refl, sym, ap, ◌∙◌, arith}
use Rattle.std.specs.Option.{option_map}
use Rattle.arc_owners.specs.memory.SoleCounts.{count_owner}
use Rattle.std.proofs.lemmas.Bool.{false≢true}
use Rattle.std.proofs.lemmas.List.{length-drop}
use Rattle.arc_sort_writers.proofs.CutNatives.{advanced_cut}
use Rattle.arc_sort_writers.proofs.CutKeeps.{within_at, keeps_all, keeps_own}
use Rattle.arc_sort_writers.proofs.CutKeeps.{last_front}
use Rattle.arc_sort_writers.proofs.native.SoleNative.advance.Goals as goal

pub returns-then-DROPS : goal.returns-then-DROPS
returns-then-DROPS g c =
    let m = c.self.inside.memory in
    advanced_cut g.S.Slice.DROPS (option_map count_owner c.self.inside.count) m
    c.keep_front.new.self c.args.count (length m.behind.items) c.args.self.now c.self.view_is
    (omega (arith, c.requires, ap (λ s. length s.items) c.self.view_is))
    c.keep_front.ensures.items c.keep_front.ensures.memory (λ owned. refl)

pub returns : goal.returns
returns g c =
    let m = c.self.inside.memory in
    let copied = sym c.DROPS.ensures ∙ c.if-DROPS.false in
    advanced_cut g.S.Slice.DROPS (option_map count_owner c.self.inside.count) m
    c.forget_front.new.self c.args.count 0 c.args.self.now c.self.view_is
    (omega (arith, c.requires, ap (λ s. length s.items) c.self.view_is))
    c.forget_front.ensures.items c.forget_front.ensures.memory
    (λ owned. absurd (false≢true (sym copied ∙ owned)))

pub invariant_of-self : goal.invariant_of-self
invariant_of-self g c =
    let m = c.self.inside.memory in let w = c.keep_front.new.self in
    let owned = sym c.DROPS.ensures ∙ c.if-DROPS.true in
    within_at g.S.Slice.DROPS g.H.Mark.whole (option_map count_owner c.self.inside.count) m w
    (m.places.under.start + c.args.count) (m.places.under.count - c.args.count)
    (length m.behind.items) c.self.invariant c.keep_front.ensures.memory
    (omega (
      arith,
      ap (λ zs. length zs) c.keep_front.ensures.items,
      length-drop c.args.count m.places.vec.items,
    ))
    (keeps_all g.S.Slice.DROPS w owned c.keep_front.ensures.all
    (last_front m w c.args.count (c.self.invariant.0.last owned)
    (omega (arith, c.requires, ap (λ s. length s.items) c.self.view_is))
    c.keep_front.ensures.memory))

pub invariant_of-self-2 : goal.invariant_of-self-2
invariant_of-self-2 g c =
    let m = c.self.inside.memory in let w = c.forget_front.new.self in
    within_at g.S.Slice.DROPS g.H.Mark.whole (option_map count_owner c.self.inside.count) m w
    (m.places.under.start + c.args.count) (m.places.under.count - c.args.count) 0
    c.self.invariant c.forget_front.ensures.memory
    (omega (
      arith,
      ap (λ zs. length zs) c.forget_front.ensures.items,
      length-drop c.args.count m.places.vec.items,
    ))
    (keeps_own g.S.Slice.DROPS w (sym c.DROPS.ensures ∙ c.if-DROPS.false)
    c.forget_front.ensures.own)
