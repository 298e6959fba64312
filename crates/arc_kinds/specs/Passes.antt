-- What may be asked of a pass.
use Rattle.std.specs.Prelude.{ℕ, List}
use Rattle.arc_owners.specs.count.Invariant.{BlockId, Line}

-- whatever a pass may be, where a block has one pass
abbrev pub is_any : BlockId → ℕ → List Line → Type 0
is_any block number lines = Unit {0}
