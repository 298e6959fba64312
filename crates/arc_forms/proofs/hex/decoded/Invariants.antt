use Rattle.std.proofs.Common.{◌≡◌, ◌++◌, ◌+◌, ◌/◌, ◌≤◌, length, IsTrue}
use Rattle.std.specs.List.{list_all}
use Rattle.std.specs.Vec.{vec_len, vec_capacity}
use Rattle.arc_forms.specs.Reading.{is_hex_digit, pairs}
use Rattle.arc_forms.proofs.hex.decoded.Given as goal

abbrev pub invariant-loop-rest : goal.invariant-loop-rest
invariant-loop-rest g l = record {
  digits : IsTrue (list_all is_hex_digit l.rest);
  made : l.items.items ++ pairs l.rest ≡ pairs l.hex.digits.now;
  room : vec_len l.items + length l.rest / 2 ≤ vec_capacity l.items;
}

abbrev pub decreases-loop-rest : goal.decreases-loop-rest
decreases-loop-rest g l = length l.rest
