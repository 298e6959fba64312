-- One byte more each time.
use Rattle.std.proofs.Common.{◌≡◌, ◌∷◌, [], replicate, sym, ap, ◌∙◌, arith}
use Rattle.arc_block.specs.Table.{bare}
use Rattle.arc_parts.specs.Writers.{with_more}
use Rattle.arc_write.proofs.More.{more_none, one_more_alike}
use Rattle.arc_write.proofs.ReadParts.{spare_more}
use Rattle.arc_write.proofs.slice_mut.WriteWindow.fill.Goals as goal

pub loop-init : goal.loop-init
loop-init g c = sym (more_none (bare c.args.self.now))

pub unreachable-requires : goal.unreachable-requires
unreachable-requires g c = omega (
  arith,
  c.in-Err.ensures.full.0,
  spare_more c.loop.counter c.args.byte (bare c.args.self.now) (bare c.loop.self)
      c.loop.invariant,
  c.loop-test.true,
  c.requires,
)

pub loop-preserved : goal.loop-preserved
loop-preserved g c =
    c.in-Ok.ensures.done.1
    ∙ ap (λ w. with_more (c.args.byte ∷ []) w) c.loop.invariant
    ∙ one_more_alike c.loop.counter c.args.byte (bare c.args.self.now)

pub returns : goal.returns
returns g c =
    let all : c.loop.counter ≡ c.args.count = omega
    (arith, c.loop-test.false, c.loop.auto.counter-end) in
    c.loop.invariant ∙ (λ i. with_more (replicate (all i) c.args.byte) (bare c.args.self.now))
