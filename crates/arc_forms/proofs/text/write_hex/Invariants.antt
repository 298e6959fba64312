use Rattle.std.proofs.Common.{◌≡◌, ◌++◌, ◌*◌, drop, take}
use Rattle.arc_forms.specs.Text.{hex}
use Rattle.arc_forms.proofs.text.write_hex.Given as goal

-- a front is written
abbrev pub invariant-items : goal.invariant-items
invariant-items l = take (2 * l.i) l.out ++ hex (drop l.i l.items) ≡ hex l.items
