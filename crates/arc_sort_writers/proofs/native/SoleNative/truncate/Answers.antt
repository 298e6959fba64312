-- What is left is the first items.
use Rattle.std.proofs.Common.{◌+◌, ◌-◌, ◌<◌, length, sym, ap, ◌∙◌, arith}
use Rattle.std.specs.Option.{option_map}
use Rattle.arc_owners.specs.memory.SoleCounts.{count_owner}
use Rattle.std.proofs.lemmas.List.{length-take-le}
use Rattle.arc_sort_writers.proofs.CutNatives.{forgotten_cut, kept_cut}
use Rattle.arc_sort_writers.proofs.CutKeeps.{within_at, within_short}
use Rattle.arc_sort_writers.proofs.CutKeeps.{keeps_all, last_back}
use Rattle.arc_sort_writers.proofs.native.SoleNative.truncate.Goals as goal

pub returns-then-DROPS : goal.returns-then-DROPS
returns-then-DROPS g c =
    kept_cut g.S.Slice.DROPS (option_map count_owner c.self.inside.count) c.self.inside.memory
    c.keep_back.new.self c.args.len c.args.self.now c.self.view_is
    (sym c.DROPS.ensures ∙ c.if-DROPS.true) (omega (arith, c.len.ensures, c.if-len.false))
    c.keep_back.ensures.items c.keep_back.ensures.memory

pub returns : goal.returns
returns g c =
    forgotten_cut g.S.Slice.DROPS (option_map count_owner c.self.inside.count)
    c.self.inside.memory c.truncate.new.self c.args.len c.args.self.now c.self.view_is
    (sym c.DROPS.ensures ∙ c.if-DROPS.false) (omega (arith, c.len.ensures, c.if-len.false))
    c.truncate.ensures.items c.truncate.ensures.memory

pub invariant_of-self : goal.invariant_of-self
invariant_of-self g c =
    let m = c.self.inside.memory in let w = c.keep_back.new.self in
    let short : c.args.len < length m.places.vec.items = omega
    (arith, c.len.ensures, c.if-len.false) in
    within_at g.S.Slice.DROPS g.H.Mark.whole (option_map count_owner c.self.inside.count) m w
    m.places.under.start c.args.len
    (length m.places.vec.items - c.args.len + length m.behind.items) c.self.invariant
    c.keep_back.ensures.memory
    (omega (
      arith,
      ap (λ zs. length zs) c.keep_back.ensures.items,
      length-take-le c.args.len m.places.vec.items (omega (arith, short)),
    ))
    (keeps_all g.S.Slice.DROPS w (sym c.DROPS.ensures ∙ c.if-DROPS.true) c.keep_back.ensures.all
    (last_back m w c.args.len short c.keep_back.ensures.memory))

pub invariant_of-self-2 : goal.invariant_of-self-2
invariant_of-self-2 g c =
    within_short g.S.Slice.DROPS g.H.Mark.whole (option_map count_owner c.self.inside.count)
    c.self.inside.memory c.truncate.new.self c.args.len c.self.invariant
    (sym c.DROPS.ensures ∙ c.if-DROPS.false) c.truncate.ensures.items
    c.truncate.ensures.memory
