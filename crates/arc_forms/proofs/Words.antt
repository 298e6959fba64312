-- Words: what they say, and how they stand in a line.
use Rattle.std.proofs.Common.{append_assoc, ◌++◌, IsTrue, ◌≡◌, ◌≢◌, ℕ, zero, suc, ◌+◌, ◌*◌, ◌/◌}
use Rattle.std.proofs.Common.{◌%◌, ◌^◌, ◌<◌, ◌≤◌, ◌&&◌, Bool, true, false, not, List, [], ◌∷◌}
use Rattle.std.proofs.Common.{length, get_or, take, drop, ltb, ◌-◌, Option, Some, None, ◌⊎◌, inl}
use Rattle.std.proofs.Common.{inr, refl, sym, ap, subst, ◌∙◌, arith}
use Rattle.std.specs.Prelude.{decimal, codes}
use Rattle.std.specs.Int.{IsInRange}
use Rattle.std.specs.Bool.{Decides}
use Rattle.std.specs.Char.{digit_value, is_ascii_digit}
use Rattle.std.specs.List.{list_all, join_with_byte, position_or_len, All, AllByRecursion}
use Rattle.std.specs.Str.{bytes_eq}
use Rattle.std.specs.Str.Parse.{digits_value, AllDigits}
use Rattle.std.proofs.lemmas.Bool.{and_parts, and_from, lt-ltb, ltb-true, cases_Bool, cond-false}
use Rattle.std.proofs.lemmas.Bool.{ne_eqb, not-true}
use Rattle.std.proofs.lemmas.Bool.Decides.{nat_tests}
use Rattle.std.proofs.lemmas.Fmt.{decimal_is_IsNumeral, digits_decimal, decimal-digits_value}
use Rattle.std.proofs.lemmas.Fmt.{length-decimal-le, first_decimal, decimal_nonempty, decimal_digit}
use Rattle.std.proofs.lemmas.List.{length-take, take_rest}
use Rattle.std.proofs.lemmas.List.Elements.{All-nil, All-cons, All-from_get_or}
use Rattle.std.proofs.lemmas.List.Splits.{slice_split_none, slice_split_at, slice_split_first}
use Rattle.std.proofs.lemmas.List.Sums.{position_or_len_is}
use Rattle.std.proofs.lemmas.Option.{cond_some, none-some, same_Some}
use Rattle.std.proofs.lemmas.Slice.Eq.{bytes_eq-Decides}
use Rattle.std.proofs.lemmas.Str.Parse.{IsNumeralModel, numerals_by_value, tells_digits}
use Rattle.std.proofs.lemmas.Str.Parse.{digits_value_short, digit_from_value, digit_at}
use Rattle.arc_forms.specs.Text.{space, hex, items_word, hex_digit, IsByte, IsShort}
use Rattle.arc_forms.specs.Reading.{◌>>=◌, is_space, is_hex_digit, words_of_line, checked}
use Rattle.arc_forms.specs.Reading.{number_of, pairs, items_of, only, byte_of}

-- ---- a value that is guessed and checked

module _ {X : Type 0} (guess : List ℕ → X) (write : X → List ℕ) (fits : X → Bool) where
  -- what is read is written so, and fits
  pub checked_is : (word : List ℕ) (x : X) → checked guess write fits word ≡ Some x
      → (word ≡ write x) × (fits x ≡ true)
  checked_is word x e =
      let found = cond_some (bytes_eq word (write (guess word)) && fits (guess word)) (guess word) x
      e in
      let both = and_parts _ _ found.0 in (
        subst (λ (y : X). word ≡ write y) found.1 ((bytes_eq-Decides word (write (guess word))).0
            both.0),
        subst (λ (y : X). fits y ≡ true) found.1 both.1,
      )

  -- what is written is read again, where the guess is right
  pub checked_again : (x : X) → guess (write x) ≡ x → fits x ≡ true
      → checked guess write fits (write x) ≡ Some x
  checked_again x right fit = rw (right, (bytes_eq-Decides (write x) (write x)).1 refl, fit) refl

  -- what nothing that fits is written as isn't read
  pub checked_none : (word : List ℕ) → ((x : X) → fits x ≡ true → word ≡ write x → ⊥)
      → checked guess write fits word ≡ None
  checked_none word none =
      elim (cases_Bool (bytes_eq word (write (guess word)) && fits (guess word))) [
        | inl passes ↦ let both = and_parts _ _ passes in
            absurd (none (guess word) both.1 ((bytes_eq-Decides word (write (guess word))).0
            both.0))
        | inr fails ↦ cond-false _ _ _ fails
      ]

-- ---- numbers

pub own_digits : IsNumeralModel (AllDigits 10) (digits_value 10)
own_digits = numerals_by_value (AllDigits 10) tells_digits

-- how the number words look
pub record IsNumberWord (word : List ℕ) : Type 0 where
  pub digits : AllDigits 10 word
  pub some : 0 < length word
  pub most : length word ≤ 18
  pub first : get_or word 0 0 ≡ 48 → length word ≡ 1

short_fits : (n : ℕ) → IsShort n → n < 2 ^ 64
short_fits n short = omega arith

decimal_first : (n : ℕ) → n < 2 ^ 64 → get_or (decimal n) 0 0 ≡ 48 → length (decimal n) ≡ 1
decimal_first zero fits e = ap length (decimal_digit 0 (omega arith))
decimal_first (suc n) fits e = absurd (omega (arith, first_decimal (suc n) (omega arith) fits))

pub decimal_is_number_word : (n : ℕ) → IsShort n → IsNumberWord (decimal n)
decimal_is_number_word n short =
    let fits = short_fits n short in
    record {
      digits = digits_decimal own_digits n fits;
      some = decimal_nonempty n fits;
      most = length-decimal-le 18 n (omega arith) short fits;
      first = decimal_first n fits;
    }

pub number_is : (word : List ℕ) (n : ℕ) → number_of word ≡ Some n → (word ≡ decimal n) × IsShort n
number_is word n e =
    let found = checked_is (digits_value 10) decimal (λ m. ltb m (10 ^ 18)) word n e in
    (found.0, ltb-true n (10 ^ 18) found.1)

pub number_again : (n : ℕ) → IsShort n → number_of (decimal n) ≡ Some n
number_again n short =
    checked_again (digits_value 10) decimal (λ m. ltb m (10 ^ 18)) n
    (decimal_is_IsNumeral n (short_fits n short)).1 (lt-ltb n (10 ^ 18) short)

-- the value of a number word
pub number_of_digits : (word : List ℕ) → IsNumberWord word
    → number_of word ≡ Some (digits_value 10 word)
number_of_digits word is =
    let short : digits_value 10 word < 10 ^ 18 = digits_value_short own_digits word 18 is.digits
    is.most in
    let same : decimal (digits_value 10 word) ≡ word = decimal-digits_value own_digits word
    is.digits is.some is.first (short_fits _ short) in
    subst (λ (w : List ℕ). number_of w ≡ Some (digits_value 10 word)) same
    (number_again (digits_value 10 word) short)

pub number_refused : (word : List ℕ) → ¬ IsNumberWord word → number_of word ≡ None
number_refused word other =
    checked_none (digits_value 10) decimal (λ m. ltb m (10 ^ 18)) word
    (λ n short e. other
    (subst IsNumberWord (sym e) (decimal_is_number_word n (ltb-true n (10 ^ 18) short))))

-- ---- items

digit_again : (n : ℕ) → n < 16 → digit_value (hex_digit n) ≡ n
digit_again n small = grind (arith, nat_tests)

digit_is_hex : (n : ℕ) → n < 16 → is_hex_digit (hex_digit n) ≡ true
digit_is_hex n small = grind (arith, nat_tests)

pub hex_digit_again : (digit : ℕ) → is_hex_digit digit ≡ true → (digit_value digit < 16)
    × (hex_digit (digit_value digit) ≡ digit)
hex_digit_again digit is = grind (arith, nat_tests)

abbrev pub is_item : ℕ → Bool
is_item item = ltb item 256

pairs-hex : (items : List ℕ) → list_all is_item items ≡ true → pairs (hex items) ≡ items
pairs-hex [] fit = refl
pairs-hex (item ∷ items) fit =
    let both = and_parts _ _ fit in
    let small : item < 256 = ltb-true _ _ both.0 in
    let high = digit_again (item / 16) (omega arith) in
    let low = digit_again (item % 16) (omega arith) in
    let whole : 16 * digit_value (hex_digit (item / 16)) + digit_value
    (hex_digit (item % 16)) ≡ item = rw (high, low) (omega arith) in
    rw (whole, pairs-hex items both.1) refl

hex_digits : (items : List ℕ) → list_all is_item items ≡ true
    → list_all is_hex_digit (hex items) ≡ true
hex_digits [] fit = refl
hex_digits (item ∷ items) fit =
    let both = and_parts _ _ fit in
    let small : item < 256 = ltb-true _ _ both.0 in
    and_from _ _ (digit_is_hex (item / 16) (omega arith))
    (and_from _ _ (digit_is_hex (item % 16) (omega arith)) (hex_digits items both.1))

hex_even : (items : List ℕ) → length (hex items) % 2 ≡ 0
hex_even [] = refl
hex_even (item ∷ items) = let rest = hex_even items in omega arith

-- how the words of items look, but for the dash
pub record IsHexWord (word : List ℕ) : Type 0 where
  pub digits : list_all is_hex_digit word ≡ true
  pub some : 0 < length word
  pub even : length word % 2 ≡ 0

pub items_word_is : (items : List ℕ) → list_all is_item items ≡ true
    → (items_word items ≡ codes "-") ⊎ IsHexWord (items_word items)
items_word_is [] fit = inl refl
items_word_is (item ∷ items) fit =
    inr (record {
      digits = hex_digits (item ∷ items) fit;
      some = omega arith;
      even =
          hex_even (item ∷ items);
    })

pairs-items_word : (items : List ℕ) → list_all is_item items ≡ true
    → pairs (items_word items) ≡ items
pairs-items_word [] fit = refl
pairs-items_word (item ∷ items) fit = pairs-hex (item ∷ items) fit

hex-pairs : (word : List ℕ) → list_all is_hex_digit word ≡ true → length word % 2 ≡ 0
    → (hex (pairs word) ≡ word) × (list_all is_item (pairs word) ≡ true)
hex-pairs [] digits even = (refl, refl)
hex-pairs (high ∷ []) digits even = absurd (omega arith)
hex-pairs (high ∷ low ∷ word) digits even =
    let first = and_parts _ _ digits in
    let second = and_parts _ _ first.1 in
    let above = hex_digit_again high first.0 in
    let below = hex_digit_again low second.0 in
    let rest = hex-pairs word second.1 (omega arith) in
    let above-is : (16 * digit_value high + digit_value low) / 16 ≡ digit_value high = omega
    (arith, below.0) in
    let below-is : (16 * digit_value high + digit_value low) % 16 ≡ digit_value low = omega
    (arith, below.0) in (
      rw (above-is, below-is, above.1, below.1, rest.0) refl,
      and_from _ _
          (lt-ltb _ _ (omega (arith, above.0, below.0))) rest.1,
    )

pub items_is : (word items : List ℕ) → items_of word ≡ Some items → (word ≡ items_word items)
    × (list_all is_item items ≡ true)
items_is word items e = checked_is pairs items_word (list_all is_item) word items e

pub items_again : (items : List ℕ) → list_all is_item items ≡ true
    → items_of (items_word items) ≡ Some items
items_again items fit =
    checked_again pairs items_word (list_all is_item) items (pairs-items_word items fit) fit

-- the items of a hex word
pub items_of_digits : (word : List ℕ) → IsHexWord word → items_of word ≡ Some (pairs word)
items_of_digits [] is = absurd (omega (arith, is.some))
items_of_digits (high ∷ []) is = absurd (omega (arith, is.even))
items_of_digits (high ∷ low ∷ word) is =
    let same = hex-pairs (high ∷ low ∷ word) is.digits is.even in
    subst (λ (w : List ℕ). items_of w ≡ Some (pairs (high ∷ low ∷ word))) same.0
    (items_again (pairs (high ∷ low ∷ word)) same.1)

pub items_refused : (word : List ℕ) → word ≢ codes "-" → ¬ IsHexWord word → items_of word ≡ None
items_refused word dash other =
    checked_none pairs items_word (list_all is_item) word
    (λ items fit e. elim (items_word_is items fit) [
      | inl is ↦ dash (e ∙ is)
      | inr is ↦ other (subst IsHexWord (sym e) is)
    ])

-- ---- words in a line

abbrev pub NoSpace : List ℕ → Type 0
NoSpace word = All (λ byte. is_space byte ≡ false) word

-- words without a space, parted by spaces, are found again
pub words-join : (word : List ℕ) (words : List (List ℕ)) → AllByRecursion NoSpace (word ∷ words)
    → words_of_line (join_with_byte space (word ∷ words)) ≡ word ∷ words
words-join word [] free = slice_split_none is_space word free.0
words-join word (next ∷ words) free =
    slice_split_at is_space word space (join_with_byte space (next ∷ words)) free.0 refl
    ∙ ap (λ (rest : List (List ℕ)). word ∷ rest) (words-join next words free.1)

-- what holds of the elements that pass a test holds of each, where all pass
pub all_by : {X : Type 0} (test : X → Bool) (P : X → Type 0) → ((x : X) → test x ≡ true → P x)
    → (xs : List X) → list_all test xs ≡ true → All P xs
all_by test P from [] pass = All-nil P
all_by test P from (x ∷ xs) pass =
    let both = and_parts _ _ pass in All-cons P x xs (from x both.0) (all_by test P from xs both.1)

pub no_space_text : (word : List ℕ) → list_all (λ byte. not (is_space byte)) word ≡ true
    → NoSpace word
no_space_text word pass = all_by (λ byte. not (is_space byte)) (λ byte. is_space byte ≡ false)
    (λ byte e. not-true _ e) word pass

no_space_digits : (word : List ℕ) → AllDigits 10 word → NoSpace word
no_space_digits [] digits = All-nil (λ byte. is_space byte ≡ false)
no_space_digits (byte ∷ word) digits =
    let range = digit_from_value byte digits.0 in
    All-cons (λ b. is_space b ≡ false) byte word (ne_eqb byte 32 (λ e. omega arith))
    (no_space_digits word digits.1)

pub no_space_number : (n : ℕ) → IsShort n → NoSpace (decimal n)
no_space_number n short = no_space_digits (decimal n) (decimal_is_number_word n short).digits

pub no_space_items : (items : List ℕ) → list_all is_item items ≡ true → NoSpace (items_word items)
no_space_items items fit =
    elim (items_word_is items fit) [
      | inl is ↦ subst NoSpace (sym is) (no_space_text (codes "-") refl)
      | inr is ↦ all_by is_hex_digit (λ byte. is_space byte ≡ false)
          (λ byte e. grind (arith, nat_tests)) (items_word items) is.digits
    ]

-- ---- bytes, by the two ways to say it

pub items_fit : (items : List ℕ) → AllByRecursion IsByte items → list_all is_item items ≡ true
items_fit [] all = refl
items_fit (item ∷ items) all = and_from _ _ (lt-ltb item 256 all.0) (items_fit items all.1)

pub items_are_bytes : (items : List ℕ) → list_all is_item items ≡ true → AllByRecursion IsByte items
items_are_bytes [] fit = tt
items_are_bytes (item ∷ items) fit =
    let both = and_parts _ _ fit in (ltb-true item 256 both.0, items_are_bytes items both.1)

-- ---- a byte, which is an item that stands alone

only_is : (read : Option (List ℕ)) (item : ℕ) → (read >>= only) ≡ Some item
    → read ≡ Some (item ∷ [])
only_is None item e = absurd (none-some item e)
only_is (Some []) item e = absurd (none-some item e)
only_is (Some (x ∷ [])) item e = ap (λ (y : ℕ). Some (y ∷ [])) (same_Some x item e)
only_is (Some (x ∷ y ∷ items)) item e = absurd (none-some item e)

one_fits : (item : ℕ) → IsByte item → list_all is_item (item ∷ []) ≡ true
one_fits item fit = items_fit (item ∷ []) (fit, tt)

pub byte_is : (word : List ℕ) (item : ℕ) → byte_of word ≡ Some item
    → (word ≡ items_word (item ∷ [])) × IsByte item
byte_is word item e =
    let found = items_is word (item ∷ []) (only_is (items_of word) item e) in
    (found.0, (items_are_bytes (item ∷ []) found.1).0)

pub byte_again : (item : ℕ) → IsByte item → byte_of (items_word (item ∷ [])) ≡ Some item
byte_again item fit =
    ap (λ (read : Option (List ℕ)). read >>= only) (items_again (item ∷ []) (one_fits item fit))

pub no_space_byte : (item : ℕ) → IsByte item → NoSpace (items_word (item ∷ []))
no_space_byte item fit = no_space_items (item ∷ []) (one_fits item fit)

-- two digits say a byte, and two bytes of which one is no digit say none
pub byte_of_digits : (word : List ℕ) → length word ≡ 2 → list_all is_hex_digit word ≡ true
    → byte_of word ≡ Some (16 * digit_value (get_or word 0 0) + digit_value (get_or word 1 0))
byte_of_digits [] two digits = absurd (omega arith)
byte_of_digits (high ∷ []) two digits = absurd (omega arith)
byte_of_digits (high ∷ low ∷ []) two digits =
    ap (λ (read : Option (List ℕ)). read >>= only)
    (items_of_digits (high ∷ low ∷ [])
    (record { digits = digits; some = omega arith; even = refl }))
byte_of_digits (high ∷ low ∷ next ∷ word) two digits = absurd (omega arith)

pub byte_refused : (word : List ℕ) → length word ≡ 2 → ¬ (list_all is_hex_digit word ≡ true)
    → byte_of word ≡ None
byte_refused word two other =
    ap (λ (read : Option (List ℕ)). read >>= only)
    (items_refused word (λ dash. let one = ap length dash in absurd (omega arith))
    (λ is. other is.digits))

-- what stands before the first space is the first word, and the others stand behind it
pub words_at_end : (line : List ℕ)
    → ((k : ℕ) → k < length line → is_space (get_or line k 0) ≡ false)
    → words_of_line line ≡ line ∷ []
words_at_end line none =
    slice_split_none is_space line (All-from_get_or (λ byte. is_space byte ≡ false) line 0 none)

pub words_at_space : (line : List ℕ) (n : ℕ) → n < length line
    → ((k : ℕ) → k < n → is_space (get_or line k 0) ≡ false) → get_or line n 0 ≡ space
    → words_of_line line ≡ take n line ∷ words_of_line
    (take (length line - (n + 1)) (drop (n + 1) line))
words_at_space line n below before here =
    let first : position_or_len is_space line ≡ n = position_or_len_is is_space line n 0
    (omega arith) before (λ _. rw here refl) in
    rw take_rest (rw (sym first) (slice_split_first is_space line 0 (omega arith)))

-- ---- digits one by one

pub digit_value_is : (byte : ℕ) → IsInRange 48 57 byte → (digit_value byte < 10)
    × (digit_value byte ≡ byte - 48)
digit_value_is byte range = grind (arith, nat_tests)

-- the number so far leaves room for a digit more
pub number_so_far : (word : List ℕ) (i : ℕ) → AllDigits 10 (take i word) → i < length word
    → length word ≤ 18 → digits_value 10 (take i word) < 10 ^ 17
number_so_far word i digits within most =
    digits_value_short own_digits (take i word) 17 digits (omega (arith, length-take i word))

pub number_refused_at : (word : List ℕ) (i : ℕ) → i < length word
    → ¬ IsInRange 48 57 (get_or word i 0) → number_of word ≡ None
number_refused_at word i within other =
    number_refused word (λ is. other (digit_at word i is.digits within))

pub digit_tested : (byte : ℕ) (b : Bool) → b ≡ is_ascii_digit byte
    → Decides b (IsInRange 48 57 byte)
digit_tested byte b is = (λ e. grind (arith, nat_tests), λ range. grind (arith, nat_tests))

-- ---- two digits of several

-- what stands behind two digits
abbrev pub behind_two : List ℕ → List ℕ
behind_two rest = take (length rest - 2) (drop 2 rest)

-- digits, of which two stand in front
pub record TwoDigits (rest : List ℕ) : Type 0 where
  pub high : IsTrue (is_hex_digit (get_or rest 0 0))
  pub low : IsTrue (is_hex_digit (get_or rest 1 0))
  pub behind : IsTrue (list_all is_hex_digit (behind_two rest))
  pub short : length (behind_two rest) + 2 ≡ length rest
  pub item : pairs rest ≡ (16 * digit_value (get_or rest 0 0) + digit_value
      (get_or rest 1 0)) ∷ pairs (behind_two rest)

pub two_digits : (rest : List ℕ) → 2 ≤ length rest → IsTrue (list_all is_hex_digit rest)
    → TwoDigits rest
two_digits [] two all = absurd (omega (arith, two))
two_digits (x ∷ []) two all = absurd (omega (arith, two))
two_digits (x ∷ y ∷ zs) two all =
    let first = and_parts (is_hex_digit x) (is_hex_digit y && list_all is_hex_digit zs) all in
    let second = and_parts (is_hex_digit y) (list_all is_hex_digit zs) first.1 in
    let same : behind_two (x ∷ y ∷ zs) ≡ zs = take_rest (x ∷ y ∷ zs) 2 in
    record {
      high = first.0;
      low = second.0;
      behind = rw same second.1;
      short =
          rw same (omega arith);
      item = rw same refl;
    }

-- an item more, of these two digits
pub one_item_more : (items new rest whole : List ℕ) (high low : ℕ) → TwoDigits rest
    → items ++ pairs rest ≡ whole
    → high ≡ digit_value (get_or rest 0 0) → low ≡ digit_value (get_or rest 1 0)
    → new ≡ items ++ (16 * high + low) ∷ [] → new ++ pairs (behind_two rest) ≡ whole
one_item_more items new rest whole high low two made of_high of_low is =
    rw (is, append_assoc, of_high, of_low, ← two.item) made
