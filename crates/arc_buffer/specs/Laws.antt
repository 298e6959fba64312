-- Laws of the kinds: that their lists may be cut as the traits promise.
use Rattle.std.proofs.Common.{◌≡◌, ℕ, ◌+◌, ◌-◌, ◌<◌, ◌≤◌, not, ◌||◌, ◌==◌, IsTrue, List, length}
use Rattle.std.proofs.Common.{take, drop, replicate, slice_index, sym, ap, ◌∙◌, subst, refl}
use Rattle.std.proofs.Common.{length-drop, zero, suc, inl, inr, arith}
use Rattle.std.proofs.lemmas.Bool.Decides.{nat_tests, eqb_tells, leb_tells}
use Rattle.std.specs.Str.{IsUtf8, IsCharBoundary}
use Rattle.std.proofs.lemmas.Str.{IsCharBoundary-start, IsCharBoundary-end}
use Rattle.std.proofs.lemmas.Str.{IsCharBoundary-from_drop, IsUtf8-take, IsUtf8-drop}
use Rattle.std.proofs.lemmas.Str.{IsUtf8-between, IsUtf8-from_ascii}
use Rattle.arc_buffer.specs.Slice.{sub, anywhere, IsEdge, IsRange}
use Rattle.arc_buffer.specs.Text.{continues, is_between_characters, CutsIntoTexts}
use Rattle.std.proofs.lemmas.List.{drop-take, length-take-le, get_or-take, get_or-drop}
use Rattle.std.proofs.lemmas.List.{get_or-replicate, get_or_past, length-replicate}

-- a part is what `&xs[start..end]` is
pub sub-slice_range : {T : Type 0} (xs : List T) (start end : ℕ) → start ≤ end
    → sub xs start end ≡ take (end - start) (drop start xs)
sub-slice_range xs start end ordered =
    let h : end ≡ start + (end - start) = omega arith in
    ap (λ n. drop start (take n xs)) h ∙ drop-take start (end - start) xs

-- a list that may be cut anywhere may be cut at both ends
pub anywhere_at_ends : {T : Type 0} (xs : List T)
    → IsEdge anywhere xs 0 × IsEdge anywhere xs (length xs)
anywhere_at_ends xs = (
  record { within = omega arith; cuts = refl },
  record { within = omega arith; cuts = refl },
)

-- between characters is where the language says that one begins, or the text ends
pub between_from_boundary : (text : List ℕ) (at : ℕ) → IsCharBoundary text at
    → IsTrue (is_between_characters text at)
between_from_boundary text at b = grind (arith, nat_tests)

pub boundary_from_between : (text : List ℕ) (at : ℕ) → IsUtf8 text → at ≤ length text
    → IsTrue (is_between_characters text at) → IsCharBoundary text at
boundary_from_between text zero u within cuts = IsCharBoundary-start text u
boundary_from_between text (suc n) u within cuts = (within, λ before wide. grind (arith, nat_tests))

cuts_at_end : (xs : List ℕ) (at : ℕ) → at ≡ length xs → IsTrue (is_between_characters xs at)
cuts_at_end xs at last =
    subst (λ n. IsTrue (is_between_characters xs n)) (sym last)
    (between_from_boundary xs (length xs) (IsCharBoundary-end xs))

pub text_ends : (xs : List ℕ) → IsUtf8 xs
    → IsEdge is_between_characters xs 0 × IsEdge is_between_characters xs (length xs)
text_ends xs u = (
  record { within = omega arith; cuts = refl },
  record { within = omega arith; cuts = cuts_at_end xs (length xs) refl },
)

pub text_parts : (xs : List ℕ) (start end : ℕ) → IsUtf8 xs
    → IsRange is_between_characters xs start end → IsUtf8 (sub xs start end)
text_parts xs start end u r =
    subst IsUtf8 (sym (sub-slice_range xs start end r.ordered))
    (IsUtf8-between xs start end u r.ordered
    (boundary_from_between xs start u (omega (arith, r.ordered, r.within)) r.from)
    (boundary_from_between xs end u r.within r.to))

-- inside two texts, at a byte that is the same one
same_byte : (xs ys : List ℕ) (i j : ℕ) → 0 < i → i < length xs → 0 < j → j < length ys
    → slice_index xs i ≡ slice_index ys j → is_between_characters xs i ≡ is_between_characters ys j
same_byte xs ys i j behind inside behind' inside' same =
    let start : (i == 0) ≡ (j == 0) = grind (arith, nat_tests) in
    let last : (i == length xs) ≡ (j == length ys) = grind (arith, nat_tests) in
    ap (λ b. b || (i == length xs) || not (continues (slice_index xs i))) start
    ∙ ap (λ b. (j == 0) || b || not (continues (slice_index xs i))) last
    ∙ ap (λ x. (j == 0) || (j == length ys) || not (continues x)) same

pub text_ranges : (xs : List ℕ) (start end at : ℕ) → IsUtf8 xs
    → IsRange is_between_characters xs start end → start + at ≤ end
    → is_between_characters (sub xs start end) at ≡ is_between_characters xs (start + at)
text_ranges xs start end zero u r within =
    let here : start + 0 ≡ start = omega arith in
    sym (subst (λ n. IsTrue (is_between_characters xs n)) (sym here) r.from)
text_ranges xs start end (suc more) u r within =
    let at : ℕ = suc more in
    let long : length (sub xs start end) ≡ end - start =
    omega (
      arith,
      r.ordered,
      length-drop start (take end xs),
      length-take-le end xs r.within,
    ) in
    elim (eqb_tells (start + at) end) [
      | inl last ↦
          let there = subst (λ n. IsTrue (is_between_characters xs n)) (sym last.1) r.to in
          cuts_at_end (sub xs start end) at (omega (arith, long, last.1, r.ordered)) ∙ sym there
      | inr before ↦
          let inside : start + at < end = omega (arith, within, before.1) in
          same_byte (sub xs start end) xs at (start + at) (omega arith)
          (omega (arith, long, inside)) (omega arith) (omega (arith, inside, r.within))
          (get_or-drop start (take end xs) at 0 ∙ get_or-take end xs (start + at) 0 inside)
    ]

-- a list of zeros is zero everywhere, and past its end
zeros_are_zero : (n i : ℕ) → slice_index (replicate n 0) i ≡ 0
zeros_are_zero n i = elim (leb_tells (suc i) n) [
  | inl inside ↦ get_or-replicate n i 0 0 inside.1
  | inr past ↦ get_or_past (replicate n 0) i 0 (omega (arith, past.1, length-replicate {A = ℕ} n 0))
]

pub zeros_are_text : (n : ℕ) → IsUtf8 (replicate n 0)
zeros_are_text n = IsUtf8-from_ascii (replicate n 0) (λ i. omega (arith, zeros_are_zero n i))

pub cut_into_texts : CutsIntoTexts
cut_into_texts text at u within = (
  (λ cuts. let b = boundary_from_between text at u within cuts in
      (IsUtf8-take text at u b, IsUtf8-drop text at u b)),
  λ parts. between_from_boundary text at (IsCharBoundary-from_drop text at within parts.1),
)
