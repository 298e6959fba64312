-- What an encoder writes.
use Rattle.std.proofs.Common.{◌≡◌, ℕ, ◌+◌, ◌*◌, ◌-◌, ◌≤◌, Bool, false, not, if◌then◌else◌, List, []}
use Rattle.std.proofs.Common.{◌∷◌, ◌++◌, length, take, drop, sym, ap, ◌∙◌, subst, arith}
use Rattle.std.specs.Prelude.{nat_lt}
use Rattle.std.proofs.lemmas.Bool.{le-ltb}
use Rattle.std.proofs.lemmas.List.{append_assoc, append-nil, take-append-le, take_all, drop_all}
use Rattle.std.proofs.lemmas.List.{drop-append-le}
use Rattle.arc_parts.specs.declared.room.Room.TheVariants.{Spare}
use Rattle.arc_block.specs.Table.{RowOf}
use Rattle.arc_parts.specs.Writers.{room, room_at, capacity_of}
use Rattle.arc_callers.specs.Frames.{IsFrame, IsAppended}

-- where there are places enough, room is spare
pub room_spare : {N T M : Type 0} → (drops : Bool) (first size : ℕ) (row : RowOf N T M) (n : ℕ)
    → length row.items + n ≤ capacity_of row.role → room drops first size row n ≡ Spare
room_spare drops first size row n fits =
    let none : nat_lt (capacity_of row.role - length row.items) n ≡ false = le-ltb
    (capacity_of row.role - length row.items) n (omega (arith, fits)) in
    ap (λ b. if not b then Spare else room_at drops first size row.place (length row.items) n) none

-- two bytes and a payload behind what was there
pub appended : (before one two after payload : List ℕ) (high low : ℕ)
    → one ≡ before ++ high ∷ [] → two ≡ one ++ low ∷ [] → after ≡ two ++ payload
    → length payload ≡ 256 * high + low → IsAppended before after payload
appended before one two after payload high low first second third told = record {
  frame = high ∷ low ∷ payload;
  behind = third ∙ ap (λ xs. xs ++ payload) (second ∙ ap (λ xs. xs ++ low ∷ []) first
      ∙ append_assoc before (high ∷ []) (low ∷ []))
      ∙ append_assoc before (high ∷ low ∷ []) payload;
  framed = record {
    high = high;
    low = low;
    told = told;
    stands = ap (λ xs. high ∷ low ∷ xs) (sym (append-nil payload));
  };
}

-- the first of two frames, and the second
pub front_framed : (start middle whole first second : List ℕ) → start ≡ []
    → IsAppended start middle first
    → IsAppended middle whole second → IsFrame (take (length middle) whole) first []
front_framed start middle whole first second none one two =
    let is : middle ≡ one.frame = one.behind ∙ ap (λ xs. xs ++ one.frame) none in
    let front : take (length middle) whole ≡ middle = ap (take (length middle)) two.behind
    ∙ take-append-le (length middle) middle two.frame (omega arith)
    ∙ take_all (length middle) middle (omega arith) in
    subst (λ xs. IsFrame xs first []) (sym (front ∙ is)) one.framed

pub back_framed : (middle whole second : List ℕ) → IsAppended middle whole second
    → IsFrame (drop (length middle) whole) second []
back_framed middle whole second two =
    subst (λ xs. IsFrame xs second [])
    (sym (ap (drop (length middle)) two.behind ∙ drop-append-le (length middle) middle two.frame
    (omega arith) ∙ ap (λ xs. xs ++ two.frame) (drop_all (length middle) middle (omega arith))))
    two.framed
