-- How many bytes a window has in itself.
use Rattle.std.specs.Prelude.{ℕ}

-- How many bytes a window has in itself at most, under every layout.
abbrev pub inline_limit : ℕ
inline_limit = 30
