-- Where any items come, there is one for the places that hold none yet.
use Rattle.std.proofs.Common.{◌<◌, length, List, [], ◌∷◌, ap, arith}
use Rattle.arc_memory.proofs.writer_places.filled_with.Goals as goal

one_of : {X : Type 0} (xs : List X) → 0 < length xs → X
one_of [] some = absurd (omega (arith, some))
one_of (x ∷ xs) some = x

pub into_slots-requires-clause-value : goal.into_slots-requires-clause-value
into_slots-requires-clause-value g c =
    let asked = c.requires.sizes in
    λ fewer. one_of c.args.items.now (omega (arith, fewer, ap length asked.0, asked.1))
