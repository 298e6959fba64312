-- What lies in a block's memory, when its value is lent to be changed.
use Rattle.std.specs.Borrow.{Lends, MutBor, Fml}
use denote.RattleType.{RattleType}
use Rattle.arc_owners.specs.declared.memory.inner.Inner.{Inner}
use Rattle.arc_owners.specs.declared.memory.counted_box.Housed.{Housed}
use Rattle.arc_owners.specs.contracts.memory.inner.Inner.{the_row as inner_row}
use Rattle.arc_owners.specs.contracts.memory.counted_box.Housed.{the_row as housed_row}

-- once the borrow ends, what was last written through it lies beside the word
abbrev pub LendsInner : (V : RattleType) → MutBor (Inner V.Denot) → MutBor V.Denot → Fml
LendsInner V s r = Lends (inner_row V) V s r (λ w. record s.now { value = w })

-- once the borrow ends, what was last written through it lies beside the allocator
abbrev pub LendsHoused : (V A : RattleType) → MutBor (Housed V.Denot A.Denot) → MutBor V.Denot → Fml
LendsHoused V A s r = Lends (housed_row V A) V s r (λ w. record s.now { value = w })
