-- A part of a part is a part of all.
use Rattle.std.proofs.Common.{◌≡◌, ◌+◌, ◌-◌, ◌≤◌, length, ap, sym, ◌∙◌, arith}
use Rattle.arc_buffer.specs.Slice.{sub}
use Rattle.arc_buffer.proofs.Sub.{sub-sub, length-sub}
use Rattle.arc_block.proofs.static_slice.StaticSlice.part.Goals as goal

pub returns : goal.returns
returns g c =
    let s = c.self.inside in
    let long : length c.args.self.now ≡ s.end - s.start =
    ap (λ xs. length xs) (sym c.self.view_is)
    ∙ length-sub s.items s.start s.end c.self.invariant.0 c.self.invariant.1 in
    let within : s.start + c.args.end ≤ s.end =
    omega (arith, long, c.requires.1, c.self.invariant.0) in
    ap (λ xs. sub xs (s.start + c.args.start) (s.start + c.args.end)) c.again.ensures
    ∙ sym (sub-sub s.items s.start s.end c.args.start c.args.end within)
    ∙ ap (λ xs. sub xs c.args.start c.args.end) c.self.view_is
