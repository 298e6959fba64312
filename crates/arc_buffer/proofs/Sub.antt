-- Parts of lists.
use Rattle.std.proofs.Common.{◌≡◌, ℕ, ◌+◌, ◌-◌, ◌≤◌, List, [], length, take, drop, sym, ap, ◌∙◌}
use Rattle.std.proofs.Common.{arith, length-drop}
use Rattle.std.proofs.lemmas.List.{drop-take, drop-drop, take-take, length-take-le}
use Rattle.std.proofs.Math.Seq.{take-length}
use Rattle.arc_buffer.specs.Slice.{sub}

-- a part of a part is a part
pub sub-sub : {T : Type 0} (xs : List T) (from to start end : ℕ) → from + end ≤ to
    → sub (sub xs from to) start end ≡ sub xs (from + start) (from + end)
sub-sub xs from to start end within =
    ap (λ ys. drop start ys) (sym (drop-take from end (take to xs))
    ∙ ap (drop from) (take-take (from + end) to xs within))
    ∙ drop-drop start from (take (from + end) xs)

-- all of a list is a part of it
pub sub-whole : {T : Type 0} (xs : List T) → sub xs 0 (length xs) ≡ xs
sub-whole xs = take-length xs

-- how long a part is
pub length-sub : {T : Type 0} (xs : List T) (start end : ℕ) → start ≤ end → end ≤ length xs
    → length (sub xs start end) ≡ end - start
length-sub xs start end ordered within =
    omega (arith, length-drop start (take end xs), length-take-le end xs within)
