use Rattle.arc_buffer.specs.Laws.{cut_into_texts}
use Rattle.arc_buffer.proofs.kinds.text.cuts_into_texts.Goals as goal

pub returns : goal.returns
returns c = cut_into_texts
