-- Commands: what is read is written so, and what can be written is read again.
use Rattle.std.proofs.Common.{◌≡◌, ℕ, ◌+◌, arith, Bool, true, false, leb, ◌≤◌, List, [], ◌∷◌, ◌++◌}
use Rattle.std.proofs.Common.{length, cond, Option, Some, None, ◌⊎◌, inl, inr, refl, sym, ap, subst}
use Rattle.std.proofs.Common.{◌∙◌, append_assoc, append-nil, not}
use Rattle.std.specs.Prelude.{map, IsSomeAnd, IfOk, IfSome, OnErr, MatchOption, Result, Ok, Err}
use Rattle.std.specs.List.{join_with_byte, list_all, AllByRecursion}
use Rattle.std.specs.Option.{option_map}
use Rattle.std.proofs.lemmas.Bool.{cases_Bool, leb-true, le-leb, cond-false, cond-true}
use Rattle.std.proofs.lemmas.List.Splits.{join_with_byte-slice_split, slice_split_none}
use Rattle.std.proofs.lemmas.List.Splits.{length-slice_split}
use Rattle.std.proofs.lemmas.Option.{none-some, same_Some}
use Rattle.arc_forms.specs.Commands.{ByteCmd}
use Rattle.arc_commands.specs.declared.command.Cmd.TheVariants as command
use Rattle.arc_forms.specs.Text.{space, longest_line, words_of, form, Operand, Number, Byte, Items}
use Rattle.arc_forms.specs.Text.{operand_word, IsWritable, IsSayable, Says, IsBad}
use Rattle.arc_forms.specs.Reading.{◌>>=◌, is_space, words_of_line, Sort, ANumber, AByte, SomeItems}
use Rattle.arc_forms.specs.Reading.{number_of, byte_of, items_of, operand_of, operands_of, Value}
use Rattle.arc_forms.specs.Reading.{Makes, made, reads, verbs, named, read_form, read_as}
use Rattle.arc_forms.specs.Reading.{command_of, BringsItems}
use Rattle.arc_forms.specs.declared.parse.Verb.{Verb}
use Rattle.std.specs.Str.{bytes_eq}
use Rattle.std.proofs.lemmas.Slice.Eq.{bytes_eq-Decides}
use Rattle.arc_forms.proofs.Words.{number_is, number_again, byte_is, byte_again, items_is}
use Rattle.arc_forms.proofs.Words.{items_again, items_fit, items_are_bytes, NoSpace, no_space_text}
use Rattle.arc_forms.proofs.Words.{no_space_number, no_space_byte, no_space_items, words-join}

-- what holds whatever is answered
pub on_err : {T E P : Type 0} (r : Result T E) → P → OnErr r P
on_err (Ok x) p = tt
on_err (Err e) p = p

-- ---- operands

abbrev pub sort_of : Operand → Sort
sort_of (Number n) = ANumber
sort_of (Byte x) = AByte
sort_of (Items xs) = SomeItems

-- how an operand that was read stands in the words
pub record Stands (sort : Sort) (word : List ℕ) (o : Operand) : Type 0 where
  pub fits : sort ≡ sort_of o
  pub are : word ≡ operand_word o
  pub writable : IsWritable o

operand_is : (sort : Sort) (word : List ℕ) (o : Operand) → operand_of sort word ≡ Some o
    → Stands sort word o
operand_is ANumber word o e = at (number_of word) refl e
  where
    at : (read : Option ℕ) → number_of word ≡ read → option_map Number read ≡ Some o
        → Stands ANumber word o
    at None seen e = absurd (none-some o e)
    at (Some n) seen e = let found = number_is word n seen in
        subst (Stands ANumber word) (same_Some _ _ e)
        (record { fits = refl; are = found.0; writable = found.1 })
operand_is AByte word o e = at (byte_of word) refl e
  where
    at : (read : Option ℕ) → byte_of word ≡ read → option_map Byte read ≡ Some o
        → Stands AByte word o
    at None seen e = absurd (none-some o e)
    at (Some x) seen e = let found = byte_is word x seen in
        subst (Stands AByte word) (same_Some _ _ e)
        (record { fits = refl; are = found.0; writable = found.1 })
operand_is SomeItems word o e = at (items_of word) refl e
  where
    at : (read : Option (List ℕ)) → items_of word ≡ read → option_map Items read ≡ Some o
        → Stands SomeItems word o
    at None seen e = absurd (none-some o e)
    at (Some xs) seen e = let found = items_is word xs seen in
        subst (Stands SomeItems word) (same_Some _ _ e)
        (record { fits = refl; are = found.0; writable = items_are_bytes xs found.1 })

operand_again : (o : Operand) → IsWritable o → operand_of (sort_of o) (operand_word o) ≡ Some o
operand_again (Number n) short = ap (option_map Number) (number_again n short)
operand_again (Byte x) byte = ap (option_map Byte) (byte_again x byte)
operand_again (Items xs) bytes = ap (option_map Items) (items_again xs (items_fit xs bytes))

no_space_operand : (o : Operand) → IsWritable o → NoSpace (operand_word o)
no_space_operand (Number n) short = no_space_number n short
no_space_operand (Byte x) byte = no_space_byte x byte
no_space_operand (Items xs) bytes = no_space_items xs (items_fit xs bytes)

-- what is behind a step of reading that answered something
then_some : {X Y : Type 0} (o : Option X) (then : X → Option Y) (y : Y) → (o >>= then) ≡ Some y
    → (x : X) × (o ≡ Some x) × (then x ≡ Some y)
then_some None then y e = absurd (none-some y e)
then_some (Some x) then y e = (x, refl, e)

-- how operands that were read stand in the words
pub record AllStand (sorts : List Sort) (words : List (List ℕ)) (os : List Operand) : Type 0 where
  pub fit : sorts ≡ map sort_of os
  pub are : words ≡ map operand_word os
  pub writable : AllByRecursion IsWritable os

operands_are : (sorts : List Sort) (words : List (List ℕ)) (os : List Operand)
    → operands_of sorts words ≡ Some os → AllStand sorts words os
unfolding operands_of
operands_are [] [] os e =
    subst (AllStand [] []) (same_Some _ _ e) (record { fit = refl; are = refl; writable = tt })
operands_are [] (word ∷ words) os e = absurd (none-some os e)
operands_are (sort ∷ sorts) [] os e = absurd (none-some os e)
operands_are (sort ∷ sorts) (word ∷ words) os e =
    let taken = then_some (operand_of sort word >>= λ o. Some (o, words))
    (λ first. operands_of sorts first.1 >>= λ others. Some (first.0 ∷ others)) os e in
    let first = then_some (operand_of sort word) (λ o. Some (o, words)) taken.0 taken.1 in
    let same : (first.0, words) ≡ taken.0 = same_Some _ _ first.2 in
    let behind : (operands_of sorts words >>= λ others. Some (first.0 ∷ others)) ≡ Some os = rw
    (sym same) at taken.2 in
    let others = then_some (operands_of sorts words) (λ others. Some (first.0 ∷ others)) os behind
    in
    let front = operand_is sort word first.0 first.1 in
    let rest = operands_are sorts words others.0 others.1 in
    subst (AllStand (sort ∷ sorts) (word ∷ words)) (same_Some _ _ others.2)
    (record {
      fit = ap (λ (x : Sort). x ∷ sorts) front.fits
          ∙ ap (λ (xs : List Sort). sort_of first.0 ∷ xs) rest.fit;
      are =
          ap (λ (x : List ℕ). x ∷ words) front.are
          ∙ ap (λ (xs : List (List ℕ)). operand_word first.0 ∷ xs) rest.are;
      writable =
          (front.writable, rest.writable);
    })

operands_again : (os : List Operand) → AllByRecursion IsWritable os
    → operands_of (map sort_of os) (map operand_word os) ≡ Some os
unfolding operands_of
operands_again [] all = refl
operands_again (o ∷ os) all = rw (operand_again o all.0, operands_again os all.1) refl

no_space_operands : (os : List Operand) → AllByRecursion IsWritable os
    → AllByRecursion NoSpace (map operand_word os)
no_space_operands [] all = tt
no_space_operands (o ∷ os) all = (no_space_operand o all.0, no_space_operands os all.1)

-- The last operand stands in what is left of a line as it is, since no operand has a space.
pub last_operand : (sort : Sort) (line : List ℕ)
    → operands_of (sort ∷ []) (words_of_line line) ≡ option_map (λ o. o ∷ []) (operand_of sort line)
unfolding operands_of
last_operand sort line = at (operand_of sort line) refl
  where
    -- where what is left is no operand, one word is none, and more words are too many
    none : operand_of sort line ≡ None → (words : List (List ℕ)) → line ≡ join_with_byte space words
        → operands_of (sort ∷ []) words ≡ None
    none other [] e = refl
    none other (word ∷ []) e = rw (sym (ap (operand_of sort) e) ∙ other) refl
    none other (word ∷ next ∷ words) e = many (operand_of sort word) next words
      where
        many : (o : Option Operand) (next : List ℕ) (words : List (List ℕ))
            → (◌>>=◌ {A = Operand × List (List ℕ)} (o >>= λ x. Some (x, next ∷ words))
            (λ first. operands_of [] first.1 >>= λ others. Some (first.0 ∷ others))) ≡ None
        many None next words = refl
        many (Some x) next words = refl

    at : (o : Option Operand) → operand_of sort line ≡ o
        → operands_of (sort ∷ []) (words_of_line line) ≡ option_map (λ o. o ∷ []) o
    at None seen = none seen (words_of_line line) (sym (join_with_byte-slice_split space line))
    at (Some o) seen =
        let is = operand_is sort line o seen in
        let free : NoSpace line = subst NoSpace (sym is.are) (no_space_operand o is.writable) in
        rw (slice_split_none is_space line free, seen) refl

pub none_left : (sort : Sort) → operands_of (sort ∷ []) [] ≡ None
unfolding operands_of
none_left sort = refl

-- no words are nothing, and what is left of a line is a word
pub nothing_is_left : operands_of [] [] ≡ Some []
unfolding operands_of
nothing_is_left = refl

pub word_is_left : (line : List ℕ) → operands_of [] (words_of_line line) ≡ None
unfolding operands_of
word_is_left line = at (words_of_line line) _ (length-slice_split is_space line)
  where
    at : (words : List (List ℕ)) (n : ℕ) → length words ≡ n + 1 → operands_of [] words ≡ None
    at [] n e = absurd (omega (arith, e))
    at (word ∷ words) n e = refl

-- ---- the forms by their first words

abbrev pub operand : (sort : Sort) → Value sort → Operand
operand ANumber n = Number n
operand AByte x = Byte x
operand SomeItems xs = Items xs

-- what is made of operands is written by this word, the operands before, and these, and has a line
abbrev pub IsWritten : List ℕ → List Operand → (sorts : List Sort) → Makes sorts → Type 0
IsWritten word before [] make = (form make ≡ (word, before)) × IsSayable make
IsWritten word before (sort ∷ sorts) make =
    (x : Value sort) → IsWritten word (before ++ operand sort x ∷ []) sorts (make x)

-- a line of the table is written as it is read
abbrev pub LineWritten : List ℕ × Verb → Type 0
LineWritten line = IsWritten line.0 [] (reads line.1).sorts (reads line.1).make

all_written : AllByRecursion LineWritten verbs
all_written = search depth 200

named_written : (word : List ℕ) (table : List (List ℕ × Verb)) (v : Verb)
    → AllByRecursion LineWritten table → named word table ≡ Some v → LineWritten (word, v)
named_written word [] v all e = absurd (none-some v e)
named_written word (line ∷ table) v all e =
    elim (cases_Bool (bytes_eq line.0 word)) [
      | inl is ↦ subst (λ (l : List ℕ × Verb). LineWritten l)
          (cc (
            (bytes_eq-Decides line.0 word).0 is,
            same_Some line.1 v
                (sym (cond-true _ (Some line.1) (named word table) is) ∙ e),
          )) all.0
      | inr other ↦ named_written word table v all.1
          (sym (cond-false _ (Some line.1) (named word table) other) ∙ e)
    ]

made_written : (word : List ℕ) (before : List Operand) (sorts : List Sort) (make : Makes sorts)
    (os : List Operand) (c : ByteCmd)
    → IsWritten word before sorts make → made sorts make os ≡ Some c
    → (form c ≡ (word, before ++ os)) × IsSayable c
made_written word before [] make [] c written e = (
  rw append-nil (subst (λ (d : ByteCmd). form d ≡ (word, before)) (same_Some _ _ e) written.0),
  subst IsSayable (same_Some _ _ e) written.1,
)
made_written word before [] make (o ∷ os) c written e = absurd (none-some c e)
made_written word before (sort ∷ sorts) make [] c written e = absurd (none-some c e)
made_written word before (ANumber ∷ sorts) make (Number n ∷ os) c written e =
    let is = made_written word (before ++ Number n ∷ []) sorts (make n) os c (written n) e in
    (is.0 ∙ ap (λ (all : List Operand). (word, all)) (append_assoc before (Number n ∷ []) os), is.1)
made_written word before (AByte ∷ sorts) make (Byte x ∷ os) c written e =
    let is = made_written word (before ++ Byte x ∷ []) sorts (make x) os c (written x) e in
    (is.0 ∙ ap (λ (all : List Operand). (word, all)) (append_assoc before (Byte x ∷ []) os), is.1)
made_written word before (SomeItems ∷ sorts) make (Items xs ∷ os) c written e =
    let is = made_written word (before ++ Items xs ∷ []) sorts (make xs) os c (written xs) e in
    (is.0 ∙ ap (λ (all : List Operand). (word, all)) (append_assoc before (Items xs ∷ []) os), is.1)
made_written word before (sort ∷ sorts) make (other ∷ os) c written e = absurd (none-some c e)

abbrev pub sorts_of : List ℕ → Option (List Sort)
sorts_of word = option_map (λ v. (reads v).sorts) (named word verbs)

-- each command's form is in the table
sorts_again : (c : ByteCmd) → sorts_of (form c).0 ≡ Some (map sort_of (form c).1)
sorts_again (command.Slice xs) = refl
sorts_again (command.MSlice xs) = refl
sorts_again (command.Small xs) = refl
sorts_again (command.Vec xs) = refl
sorts_again (command.Raw xs) = refl
sorts_again (command.Buf xs metadata) = refl
sorts_again (command.MBuf xs metadata) = refl
sorts_again (command.Ext i xs) = refl
sorts_again other = refl

made_again : (c : ByteCmd) → IsSayable c
    → (named (form c).0 verbs >>= λ v. made (reads v).sorts (reads v).make (form c).1) ≡ Some c
made_again (command.Slice xs) sayable = refl
made_again (command.MSlice xs) sayable = refl
made_again (command.Small xs) sayable = refl
made_again (command.Vec xs) sayable = refl
made_again (command.Raw xs) sayable = refl
made_again (command.Buf xs metadata) sayable = refl
made_again (command.MBuf xs metadata) sayable = refl
made_again (command.Ext i xs) sayable = refl
made_again (command.Static xs) sayable =
    ap (λ (items : List ℕ). Some (command.Static items)) (sym sayable)
made_again other sayable = refl

no_space_form : (c : ByteCmd) → list_all (λ byte. not (is_space byte)) (form c).0 ≡ true
no_space_form (command.Slice xs) = refl
no_space_form (command.MSlice xs) = refl
no_space_form (command.Small xs) = refl
no_space_form (command.Vec xs) = refl
no_space_form (command.Raw xs) = refl
no_space_form (command.Buf xs metadata) = refl
no_space_form (command.MBuf xs metadata) = refl
no_space_form (command.Ext i xs) = refl
no_space_form other = refl

-- ---- the command that words say

-- these words say the command: it can be written, and is written so
pub record SaidBy (words : List (List ℕ)) (c : ByteCmd) : Type 0 where
  pub sayable : IsSayable c
  pub writable : AllByRecursion IsWritable (form c).1
  pub are : words ≡ words_of c

-- words that are read as a command say it
pub command_said : (words : List (List ℕ)) (c : ByteCmd) → command_of words ≡ Some c
    → SaidBy words c
unfolding command_of
command_said [] c e = absurd (none-some c e)
command_said (word ∷ words) c e =
    let one = then_some (named word verbs) (λ v. read_form words (reads v)) c e in
    let v : Verb = one.0 in
    let read = then_some (operands_of (reads v).sorts words)
    (λ os. made (reads v).sorts (reads v).make os) c one.2 in
    let stand = operands_are (reads v).sorts words read.0 read.1 in
    let written = made_written word [] (reads v).sorts (reads v).make read.0 c
    (named_written word verbs v all_written one.1) read.2 in
    let is : form c ≡ (word, read.0) = written.0 in
    record {
      sayable = written.1;
      writable =
          subst (λ (all : List ℕ × List Operand). AllByRecursion IsWritable all.1) (sym is)
          stand.writable;
      are = rw is (ap (λ (ws : List (List ℕ)). word ∷ ws) stand.are);
    }

-- a command that can be written is read from its words again
pub command_again : (c : ByteCmd) → IsSayable c → AllByRecursion IsWritable (form c).1
    → command_of (words_of c) ≡ Some c
unfolding command_of
command_again c sayable writable =
    at (named (form c).0 verbs) (sorts_again c) (made_again c sayable)
  where
    at : (o : Option Verb) → option_map (λ v. (reads v).sorts) o ≡ Some (map sort_of (form c).1)
        → (o >>= λ v. made (reads v).sorts (reads v).make (form c).1) ≡ Some c
        → (o >>= λ v. read_form (map operand_word (form c).1) (reads v)) ≡ Some c
    at None sorts make = absurd (none-some _ sorts)
    at (Some v) sorts make =
        let read : operands_of (reads v).sorts (map operand_word (form c).1) ≡ Some (form c).1 = rw
        (same_Some _ _ sorts) (operands_again (form c).1 writable) in
        rw read make

-- what a first word and the words behind it say, by the form whose first word it is
pub verb_read : (words : List (List ℕ)) (word : List ℕ) (behind : List (List ℕ)) (v : Verb)
    → words ≡ word ∷ behind → named word verbs ≡ Some v → read_as behind v ≡ command_of words
unfolding command_of read_as
verb_read words word behind v are is = rw (are, is) refl

pub no_verb : (words : List (List ℕ)) (word : List ℕ) (behind : List (List ℕ))
    → words ≡ word ∷ behind → named word verbs ≡ None → None ≡ command_of words
unfolding command_of
no_verb words word behind are is = rw (are, is) refl

-- ---- lines

-- the words of a command part at the spaces
words_apart : (c : ByteCmd) → AllByRecursion IsWritable (form c).1
    → words_of_line (join_with_byte space (words_of c)) ≡ words_of c
words_apart c writable = words-join (form c).0 (map operand_word (form c).1)
    (no_space_text (form c).0 (no_space_form c), no_space_operands (form c).1 writable)

pub line_says : (line : List ℕ) (c : ByteCmd) → length line ≤ longest_line
    → command_of (words_of_line line) ≡ Some c → Says line c
line_says line c fits e =
    let said = command_said (words_of_line line) c e in
    record {
      fits = fits;
      sayable = said.sayable;
      writable = said.writable;
      words =
          sym (join_with_byte-slice_split space line) ∙ ap (join_with_byte space) said.are;
    }

pub says_read : (line : List ℕ) (c : ByteCmd) → Says line c → command_of (words_of_line line) ≡ Some
    c
says_read line c says =
    rw (says.words, words_apart c says.writable) (command_again c says.sayable says.writable)

pub unread_is_bad : (line : List ℕ) → command_of (words_of_line line) ≡ None → IsBad line
unread_is_bad line none c says = none-some c (sym none ∙ says_read line c says)

cond_option : {X : Type 0} (b : Bool) (o : Option X) (x : X) → cond b o None ≡ Some x → (b ≡ true)
    × (o ≡ Some x)
cond_option true o x e = (refl, e)
cond_option false o x e = absurd (none-some x e)

-- what a line says, if it says a command
abbrev pub reading : List ℕ → Option (ByteCmd)
reading line = cond (leb (length line) longest_line) (command_of (words_of_line line)) None

pub reading_says : (line : List ℕ) (c : ByteCmd) → reading line ≡ Some c → Says line c
reading_says line c e =
    let found = cond_option (leb (length line) longest_line) (command_of (words_of_line line)) c e
    in
    line_says line c (leb-true _ _ found.0) found.1

pub unread_is_none : (line : List ℕ) → reading line ≡ None → IsBad line
unread_is_none line none c says =
    none-some c (sym none ∙ rw (le-leb _ _ says.fits) (says_read line c says))

-- each line says a command, or is bad
pub says_or_bad : (line : List ℕ) → ((c : ByteCmd) × Says line c) ⊎ IsBad line
says_or_bad line = at (reading line) refl
  where
    at : (o : Option (ByteCmd)) → reading line ≡ o → ((c : ByteCmd) × Says line c) ⊎ IsBad line
    at None seen = inr (unread_is_none line seen)
    at (Some c) seen = inl (c, reading_says line c seen)

-- no line says two
pub says_one : (line : List ℕ) (c d : ByteCmd) → Says line c → Says line d → c ≡ d
says_one line c d one other = same_Some c d (sym (says_read line c one) ∙ says_read line d other)

some_and : {X : Type 0} (P : X → Type 0) (o : Option X) → IsSomeAnd o P → (x : X) × (o ≡ Some x)
    × P x
some_and P None found = absurd found
some_and P (Some x) found = (x, refl, found)

-- the same, of what a command has beside
pub line_says_and : (P : ByteCmd → Type 0) (line : List ℕ) → length line ≤ longest_line
    → IsSomeAnd (command_of (words_of_line line)) P → (c : ByteCmd) × Says line c × P c
line_says_and P line fits found = let read = some_and P (command_of (words_of_line line)) found in
    (read.0, line_says line read.0 fits read.1, read.2)

-- what `parse` answers, by what was read of the words
pub read_ok : {V E : Type 0} (see : V → ByteCmd) (line : List ℕ) (r : Result (Option V) E)
    → length line ≤ longest_line
    → IfOk r (λ said. option_map see said ≡ command_of (words_of_line line))
    → IfOk r (λ said. MatchOption said (IsBad line) (λ c. Says line (see c)))
read_ok see line (Ok None) fits e = unread_is_bad line (sym e)
read_ok see line (Ok (Some c)) fits e = line_says line (see c) fits (sym e)
read_ok see line (Err error) fits e = e

-- the same of what is answered for some lines alone
pub read_some : {V : Type 0} (see : V → ByteCmd) (line : List ℕ) (o : Option V)
    → length line ≤ longest_line
    → option_map see o ≡ command_of (words_of_line line) → IfSome o (λ c. Says line (see c))
read_some see line None fits e = tt
read_some see line (Some c) fits e = line_says line (see c) fits (sym e)

pub read_ok_some : {V E : Type 0} (see : V → ByteCmd) (line : List ℕ) (r : Result (Option V) E)
    → length line ≤ longest_line
    → IfOk r (λ said. option_map see said ≡ command_of (words_of_line line))
    → IfOk r (λ said. IfSome said (λ c. Says line (see c)))
read_ok_some see line (Ok said) fits e = read_some see line said fits e
read_ok_some see line (Err error) fits e = e

pub read_err : {V E : Type 0} (line : List ℕ) (r : Result V E) → length line ≤ longest_line
    → OnErr r (IsSomeAnd (command_of (words_of_line line)) BringsItems)
    → OnErr r ((c : ByteCmd) × Says line c × BringsItems c)
read_err line (Ok v) fits e = e
read_err line (Err error) fits e = line_says_and BringsItems line fits e

pub read_if_some : {V : Type 0} (see : V → ByteCmd) (line : List ℕ) (o : Option V)
    → length line ≤ longest_line
    → IfSome o (λ c. Some (see c) ≡ command_of (words_of_line line))
    → IfSome o (λ c. Says line (see c))
read_if_some see line None fits e = tt
read_if_some see line (Some c) fits e = line_says line (see c) fits (sym e)
