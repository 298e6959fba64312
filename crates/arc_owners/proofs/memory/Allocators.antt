-- An allocator that is among a function's type parameters, as walks take it.
use mir.Syntax.{Dict}
use denote.RattleType.{RattleType}
use denote.Param.Laws.{Laws}
use Rattle.core.specs.declared.alloc.Allocator.{Ghosts}
use Rattle.core.proofs.alloc.Calls.{Al}

abbrev pub allocating : (A : RattleType) → Laws A → Ghosts A.Denot → Dict → Dict → Al
allocating A LA g d da = record { row = A; laws = LA; g = g; d = d; drops = da }
