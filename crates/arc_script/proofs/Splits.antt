-- Every input is cut into lines.
use Rattle.std.proofs.Common.{◌≡◌, ◌≢◌, ℕ, zero, suc, Bool, true, false, eqb, List, [], ◌∷◌, ◌++◌}
use Rattle.std.proofs.Common.{Contains, inl, inr, refl, sym, ap, ◌∙◌, subst, append_assoc, arith}
use Rattle.std.proofs.Common.{◌+◌, cond, length}
use Rattle.std.specs.List.{AllByRecursion}
use Rattle.std.proofs.lemmas.List.Elements.{Contains-append_cases, Contains-append_right}
use Rattle.std.proofs.lemmas.Bool.{eqb-false, eqb-true}
use Rattle.std.proofs.lemmas.List.Sums.{sum_by-append, sum_by-cons}
use Rattle.arc_forms.specs.Text.{line_feed}
use Rattle.arc_script.specs.Script.{HasNoFeed, AreLines, ended, feeds, last_line}

-- lines that have ended, and what stands behind the last line feed
pub record Split (bytes : List ℕ) : Type 0 where
  pub whole : List (List ℕ)
  pub rest : List ℕ
  pub cut : bytes ≡ ended whole ++ rest
  pub each : AllByRecursion HasNoFeed whole
  pub last : HasNoFeed rest

pub empty_has_no_feed : HasNoFeed []
empty_has_no_feed (k, below, is) = absurd (omega arith)

pub no_feed-append : (xs ys : List ℕ) → HasNoFeed xs → HasNoFeed ys → HasNoFeed (xs ++ ys)
no_feed-append xs ys front back has =
    elim (Contains-append_cases xs ys line_feed has) [ inl h ↦ front h | inr h ↦ back h ]

byte_is_no_feed : (byte : ℕ) → byte ≢ line_feed → HasNoFeed (byte ∷ [])
byte_is_no_feed byte other (zero, below, is) = other is
byte_is_no_feed byte other (suc k, below, is) = absurd (omega arith)

-- a byte that is no line feed stands at the front of the first line
at_front : (byte : ℕ) (bytes : List ℕ) (whole : List (List ℕ)) (rest : List ℕ) → byte ≢ line_feed
    → bytes ≡ ended whole ++ rest → AllByRecursion HasNoFeed whole → HasNoFeed rest
    → Split (byte ∷ bytes)
at_front byte bytes [] rest other cut each last = record {
  whole = [];
  rest = byte ∷ rest;
  cut = ap (λ xs. byte ∷ xs) cut;
  each = tt;
  last = no_feed-append (byte ∷ []) rest (byte_is_no_feed byte other) last;
}
at_front byte bytes (line ∷ lines) rest other cut each last = record {
  whole = (byte ∷ line) ∷ lines;
  rest = rest;
  cut = ap (λ xs. byte ∷ xs) cut;
  each = (no_feed-append (byte ∷ []) line (byte_is_no_feed byte other) each.0, each.1);
  last = last;
}

one_more : (byte : ℕ) (bytes : List ℕ) (ends : Bool) → eqb byte line_feed ≡ ends → Split bytes
    → Split (byte ∷ bytes)
one_more byte bytes true is s = record {
  whole = [] ∷ s.whole;
  rest = s.rest;
  cut = ap (λ x. x ∷ bytes) (eqb-true byte line_feed is) ∙ ap (λ xs. line_feed ∷ xs) s.cut;
  each = (empty_has_no_feed, s.each);
  last = s.last;
}
one_more byte bytes false is s =
    at_front byte bytes s.whole s.rest (eqb-false byte line_feed is) s.cut s.each s.last

pub split_exists : (bytes : List ℕ) → Split bytes
split_exists [] = record { whole = []; rest = []; cut = refl; each = tt; last = empty_has_no_feed }
split_exists (byte ∷ bytes) = one_more byte bytes (eqb byte line_feed) refl (split_exists bytes)

pub all-append : {X : Type 0} (P : X → Type 0) (xs ys : List X) → AllByRecursion P xs
    → AllByRecursion P ys → AllByRecursion P (xs ++ ys)
all-append P [] ys front back = back
all-append P (x ∷ xs) ys front back = (front.0, all-append P xs ys front.1 back)

-- the first line, its line feed, and the rest
regrouped : (line : List ℕ) (lines : List (List ℕ)) (rest : List ℕ)
    → ended (line ∷ lines) ++ rest ≡ line ++ line_feed ∷ (ended lines ++ rest)
regrouped line lines rest = append_assoc (line ++ line_feed ∷ []) (ended lines) rest
    ∙ append_assoc line (line_feed ∷ []) (ended lines ++ rest)

-- a line feed stands in what holds one
feed_inside : (front back : List ℕ) → Contains (front ++ line_feed ∷ back) line_feed
feed_inside front back =
    Contains-append_right front (line_feed ∷ back) line_feed (0, omega arith, refl)

-- two lines that end at the first line feed of one text are one
first_lines : (line line' back back' : List ℕ) → HasNoFeed line → HasNoFeed line'
    → line ++ line_feed ∷ back ≡ line' ++ line_feed ∷ back' → (line ≡ line') × (back ≡ back')
first_lines [] [] back back' plain plain' same = (refl, cc)
first_lines [] (byte ∷ line') back back' plain plain' same = let is : line_feed ≡ byte = cc in
    absurd (plain' (0, omega arith, sym is))
first_lines (byte ∷ line) [] back back' plain plain' same = let is : line_feed ≡ byte = cc in
    absurd (plain (0, omega arith, sym is))
first_lines (byte ∷ line) (byte' ∷ line') back back' plain plain' same =
    let head : byte ≡ byte' = cc in
    let tail : line ++ line_feed ∷ back ≡ line' ++ line_feed ∷ back' = cc in
    let rest = first_lines line line' back back'
    (λ has. plain (Contains-append_right (byte ∷ []) line line_feed has))
    (λ has. plain' (Contains-append_right (byte' ∷ []) line' line_feed has)) tail in
    (cc (head, rest.0), rest.1)

-- an input is cut into lines in one way
pub cut_once : (whole whole' : List (List ℕ)) (rest rest' : List ℕ) → AllByRecursion HasNoFeed whole
    → AllByRecursion HasNoFeed whole' → HasNoFeed rest → HasNoFeed rest'
    → ended whole ++ rest ≡ ended whole' ++ rest' → (whole ≡ whole') × (rest ≡ rest')
cut_once [] [] rest rest' each each' last last' same = (refl, same)
cut_once [] (line ∷ lines) rest rest' each each' last last' same =
    absurd (last (subst (λ xs. Contains xs line_feed) (sym (same ∙ regrouped line lines rest'))
    (feed_inside line (ended lines ++ rest'))))
cut_once (line ∷ lines) [] rest rest' each each' last last' same =
    absurd (last' (subst (λ xs. Contains xs line_feed) (sym (sym same ∙ regrouped line lines rest))
    (feed_inside line (ended lines ++ rest))))
cut_once (line ∷ lines) (line' ∷ lines') rest rest' each each' last last' same =
    let first = first_lines line line' (ended lines ++ rest) (ended lines' ++ rest') each.0 each'.0
    (sym (regrouped line lines rest) ∙ same ∙ regrouped line' lines' rest') in
    let others = cut_once lines lines' rest rest' each.1 each'.1 last last' first.1 in
    (cc (first.0, others.0), others.1)

pub lines_once : (input : List ℕ) (lines lines' : List (List ℕ)) → AreLines input lines
    → AreLines input lines' → lines ≡ lines'
lines_once input lines lines' a b =
    let same = cut_once a.whole b.whole a.rest b.rest a.each b.each a.last b.last (sym a.cut
    ∙ b.cut) in
    a.are ∙ ap (λ w. w ++ last_line a.rest) same.0 ∙ ap (λ r. b.whole ++ last_line r) same.1
    ∙ sym b.are

-- ---- how many lines have ended

-- 1 for a line feed, else 0
abbrev is_one : ℕ → ℕ
is_one byte = cond (eqb byte line_feed) 1 0

pub feeds-append : (xs ys : List ℕ) → feeds (xs ++ ys) ≡ feeds xs + feeds ys
feeds-append = sum_by-append is_one

added : (a b m n : ℕ) → a ≡ m → b ≡ n → a + b ≡ m + n
added a b m n p q = omega (arith, p, q)

no_one : (byte : ℕ) (test : Bool) → eqb byte line_feed ≡ test → byte ≢ line_feed → is_one byte ≡ 0
no_one byte true is other = absurd (other (eqb-true byte line_feed is))
no_one byte false is other = ap (λ b. cond b 1 0) is

no_feeds_in : (line : List ℕ) → HasNoFeed line → feeds line ≡ 0
no_feeds_in [] plain = refl
no_feeds_in (byte ∷ bytes) plain =
    let here : is_one byte ≡ 0 = no_one byte (eqb byte line_feed) refl
    (λ is. plain (0, omega arith, is)) in
    let behind : feeds bytes ≡ 0 = no_feeds_in bytes
    (λ has. plain (Contains-append_right (byte ∷ []) bytes line_feed has)) in
    sum_by-cons is_one byte bytes ∙ added (is_one byte) (feeds bytes) 0 0 here behind

one_first : (n : ℕ) → (0 + 1) + n ≡ suc n
one_first n = omega arith

none_last : (n : ℕ) → n + 0 ≡ n
none_last n = omega arith

-- as many as whole lines
feeds_ended : (lines : List (List ℕ)) → AllByRecursion HasNoFeed lines
    → feeds (ended lines) ≡ length lines
feeds_ended [] each = refl
feeds_ended (line ∷ lines) each =
    let one : feeds (line_feed ∷ []) ≡ 1 = refl in
    let here : feeds (line ++ line_feed ∷ []) ≡ 0 + 1 =
    feeds-append line (line_feed ∷ [])
    ∙ added (feeds line) (feeds (line_feed ∷ [])) 0 1 (no_feeds_in line each.0) one in
    feeds-append (line ++ line_feed ∷ []) (ended lines)
    ∙ added (feeds (line ++ line_feed ∷ [])) (feeds (ended lines)) (0 + 1) (length lines) here
    (feeds_ended lines each.1)
    ∙ one_first (length lines)

pub feeds_cut : (input : List ℕ) (whole : List (List ℕ)) (rest : List ℕ)
    → input ≡ ended whole ++ rest → AllByRecursion HasNoFeed whole → HasNoFeed rest
    → feeds input ≡ length whole
feeds_cut input whole rest cut each last =
    ap (λ (bytes : List ℕ). feeds bytes) cut ∙ feeds-append (ended whole) rest
    ∙ added (feeds (ended whole)) (feeds rest) (length whole) 0 (feeds_ended whole each)
    (no_feeds_in rest last) ∙ none_last (length whole)
