use Rattle.std.proofs.Common.{◌≡◌, take}
use Rattle.std.specs.Str.Parse.{digits_value, AllDigits}
use Rattle.arc_forms.proofs.parse.number_in.Given as goal

abbrev pub invariant-loop-byte : goal.invariant-loop-byte
invariant-loop-byte l = record {
  digits : AllDigits 10 (take l.byte-index l.word);
  value : l.number ≡ digits_value 10 (take l.byte-index l.word);
}
