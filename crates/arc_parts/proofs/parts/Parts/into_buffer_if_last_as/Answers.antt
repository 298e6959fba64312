-- The buffer is the one that was given.
use Rattle.std.proofs.Common.{ap, ◌∙◌}
use Rattle.arc_block.specs.Contents.{content_info}
use Rattle.arc_block.specs.Given.{buffer_of}
use Rattle.arc_parts.proofs.GivenParts.{buffer_kept}
use Rattle.arc_parts.proofs.parts.Parts.into_buffer_if_last_as.Goals as goal

pub returns-in-Some-clause-itself : goal.returns-in-Some-clause-itself
returns-in-Some-clause-itself g c =
    let list = g.B.Buffer.list in
    let places = g.B.Buffer.places in
    let drops = g.S.Slice.DROPS in
    buffer_kept list places drops _ _ _ c.args.self _ c.self.view_is c.in-Block.is _
    c.in-Some.content c.in-Some.ensures.content
    ∙ ap (λ x. buffer_of (content_info list places drops x).given) c.into_buffer-buffer.ensures
