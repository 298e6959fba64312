-- The block keeps the `Arc` on which the parts stood.
use Rattle.std.proofs.Common.{sym, ◌∙◌}
use Rattle.arc_parts.proofs.Raws.{counted_seen}
use Rattle.arc_parts.proofs.parts.Parts.try_into_counted_as.Goals as goal

pub returns-in-Ok-clause-moved : goal.returns-in-Ok-clause-moved
returns-in-Ok-clause-moved g c =
    let was = c.into_storage-on.ensures in let made = c.in-Ok.ensures.made in (
      c.in-Ok.block.owner,
      c.over.ensures
          ∙ counted_seen _ _ _ c.args.self _ (sym was.parts) c.in-Raw.is was.within c.in-Ok.block _
          c.into_arc.ensures made.0,
      made.1,
      c.in-Ok.ensures.pass,
    )
