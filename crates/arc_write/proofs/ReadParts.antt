-- What a window is read as, and what is left of it then.
use Rattle.std.proofs.Common.{◌≡◌, ℕ, ◌-◌, ◌+◌, ◌≤◌, ◌<◌, Bool, if◌then◌else◌, List, [], ◌++◌}
use Rattle.std.proofs.Common.{length, take, drop, replicate, refl, sym, ap, ◌∙◌, subst, arith}
use Rattle.std.proofs.lemmas.List.{take_all, length-drop, length-take-le, length-append}
use Rattle.std.proofs.lemmas.List.{length-replicate, take-take, take-append-le, take-append-drop}
use Rattle.std.proofs.lemmas.List.{drop_all}
use Rattle.std.proofs.lemmas.Bool.{le-ltb}
use Rattle.std.specs.Prelude.{nat_lt, min, Result, Ok, Err}
use Rattle.arc_owners.specs.declared.error.RangeError.TheVariants.{OutOfRange}
use Rattle.arc_buffer.specs.Slice.{IsEdge, edge_answer}
use Rattle.arc_parts.specs.Shared.{CanSplit, split_answer}
use Rattle.bytes.specs.Unread.{IsChunkOf}
use Rattle.arc_block.specs.Table.{Role, RowOf, reader, sole_writer, one_writer_of_several, inline}
use Rattle.arc_block.specs.Table.{forgotten}
use Rattle.arc_parts.specs.Writers.{after_advance, capacity_of, with_capacity, with_more}
use Rattle.arc_write.specs.Within.{spare_places, taken}

-- all bytes are a chunk of themselves
pub whole_chunk : (xs all : List ℕ) → xs ≡ all → IsChunkOf xs all
whole_chunk xs all is = subst (λ ys. IsChunkOf ys all) (sym is)
    (record { front = take_all (length all) all (omega arith); fits = omega arith; some = λ p. p })

-- further in, a window has so many places and items less, and as many places behind them
less : (role : Role) (n len : ℕ) → n ≤ len
    → capacity_of (with_capacity role (capacity_of role - n)) - (len - n) ≡ capacity_of role - len
less reader n len within = omega (arith, within)
less (sole_writer places) n len within = omega (arith, within)
less (one_writer_of_several places) n len within = omega (arith, within)
less inline n len within = omega (arith, within)
less forgotten n len within = omega (arith, within)

pub spare_advanced : {N T M : Type 0} (n : ℕ) (w : RowOf N T M) → n ≤ length w.items
    → spare_places (after_advance n w) ≡ spare_places w
spare_advanced n w within =
    ap (λ len. capacity_of (with_capacity w.role (capacity_of w.role - n)) - len)
    (length-drop n w.items)
    ∙ less w.role n (length w.items) within

-- So many places can be split off: past the capacity never, behind the items always, and among them
-- at an edge.
module _ {T : Type 0} (boundary : List T → ℕ → Bool) (items : List T) (capacity at : ℕ) where
  pub split_inside : {R : Type 0} → at ≤ capacity → at < length items
      → (R → IsEdge boundary items at) × (IsEdge boundary items at → R)
      → (R → CanSplit boundary items capacity at) × (CanSplit boundary items capacity at → R)
  split_inside within inside edge = (
    λ r. record { within = within; edge = λ _. edge.0 r },
    λ can. edge.1 (can.edge inside),
  )

  pub split_behind : at ≤ capacity → length items ≤ at → CanSplit boundary items capacity at
  split_behind within behind = record {
    within = within;
    edge = λ inside. absurd (omega (arith, behind, inside));
  }

  pub split_answer_behind : at ≤ capacity → length items ≤ at
      → Ok tt ≡ split_answer boundary items capacity at
  split_answer_behind within behind =
      sym (ap (λ b. if b then Err OutOfRange else
      if nat_lt at (length items) then edge_answer boundary items at else Ok tt)
      (le-ltb capacity at within)
      ∙ ap (λ b. if b then edge_answer boundary items at else Ok tt)
      (le-ltb at (length items) behind))

-- what is read are the window's first bytes, and all of them where that is none
pub read_bytes : (items buffer copied rest : List ℕ) (n : ℕ)
    → n ≡ min (length items) (length buffer) → copied ≡ take n items → rest ≡ drop n items
    → (items ≡ take n (copied ++ drop n buffer) ++ rest)
    × (n ≡ 0 → 0 < length (copied ++ drop n buffer) → rest ≡ [])
read_bytes items buffer copied rest n count front behind =
    let long : length (take n items) ≡ n =
    length-take-le n items (omega (arith, count)) in (
      sym (ap (λ xs. take n (xs ++ drop n buffer) ++ rest) front
          ∙ ap (λ xs. xs ++ rest) (take-append-le n (take n items) (drop n buffer)
          (omega (arith, long)) ∙ take-take n n items (omega arith))
          ∙ ap (λ xs. take n items ++ xs) behind
          ∙ take-append-drop n items),
      λ none some. behind ∙ drop_all n items (omega (
        arith,
        count,
        none,
        some,
        length-append copied (drop n buffer),
        length-drop n buffer,
        ap length front,
        long,
      )),
    )

-- all bytes are written where there are places for them
pub all_written : {N T M : Type 0} → (w : RowOf N T M) (xs : List T)
    → length xs ≤ spare_places w → take (taken w xs) xs ≡ xs
all_written w xs within = take_all (taken w xs) xs (omega (arith, within))

-- behind so many items more there are so many places less
module _ {N T M : Type 0} where
  pub spare_after : (xs : List T) (w v : RowOf N T M) → v ≡ with_more xs w
      → spare_places v ≡ spare_places w - length xs
  spare_after xs w v more =
      ap (λ (u : RowOf N T M). spare_places u) more
      ∙ ap (λ len. capacity_of w.role - len) (length-append w.items xs)
      ∙ omega arith

  pub spare_more : (n : ℕ) (x : T) (w v : RowOf N T M) → v ≡ with_more (replicate n x) w
      → spare_places v ≡ spare_places w - n
  spare_more n x w v more =
      spare_after (replicate n x) w v more
      ∙ ap (λ k. spare_places w - k) (length-replicate n x)
