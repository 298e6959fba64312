-- Reading a line: its words, and the command that they say.
use Rattle.std.specs.Prelude.{ℕ, ◌+◌, ◌*◌, ◌^◌, Bool, ◌==◌, ◌&&◌, ◌||◌, nat_lt, if◌then◌else◌}
use Rattle.std.specs.Prelude.{List, [], ◌∷◌, ◌++◌, Option, Some, None}
use Rattle.std.specs.Prelude.{decimal, codes, map, true, false, IsTrue}
use Rattle.std.specs.Borrow.{Bor}
use Rattle.std.specs.Char.{digit_value}
use Rattle.std.specs.Int.{is_in_range}
use Rattle.std.specs.List.{list_all, list_any, slice_split}
use Rattle.std.specs.Option.{option_map}
use Rattle.std.specs.Str.{bytes_eq}
use Rattle.std.specs.Str.Parse.{digits_value}
use Rattle.arc_forms.specs.Text.{space, items_word, static_bytes, form}
use Rattle.arc_forms.specs.Text.{Operand, Number, Byte, Items}
use Rattle.arc_forms.specs.Commands.{ByteCmd}
use Rattle.arc_commands.specs.declared.command.Cmd.TheVariants as command
use Rattle.arc_forms.specs.declared.parse.Verb.{Verb}
use Rattle.arc_forms.specs.declared.parse.Verb.TheVariants as verb
use Rattle.arc_forms.specs.declared.parse.Bare.{Bare}
use Rattle.arc_forms.specs.declared.parse.Bare.TheVariants as bare
use Rattle.arc_forms.specs.declared.parse.OneNumber.{OneNumber}
use Rattle.arc_forms.specs.declared.parse.OneNumber.TheVariants as one
use Rattle.arc_forms.specs.declared.parse.TwoNumbers.{TwoNumbers}
use Rattle.arc_forms.specs.declared.parse.TwoNumbers.TheVariants as two
use Rattle.arc_forms.specs.declared.parse.JustItems.{JustItems}
use Rattle.arc_forms.specs.declared.parse.JustItems.TheVariants as items
use Rattle.arc_forms.specs.declared.parse.ItemsAndNumber.{ItemsAndNumber}
use Rattle.arc_forms.specs.declared.parse.ItemsAndNumber.TheVariants as both

infixl 10 ◌>>=◌
abbrev pub ◌>>=◌ : {A B : Type 0} → Option A → (A → Option B) → Option B
(Some x) >>= f = f x
None >>= f = None

abbrev pub is_space : ℕ → Bool
is_space byte = byte == space

-- the words of a line, and of what is left of one, if a word is left
abbrev pub words_of_line : List ℕ → List (List ℕ)
words_of_line line = slice_split is_space line

abbrev pub words_in : Option (Bor (List ℕ)) → List (List ℕ)
words_in None = []
words_in (Some line) = words_of_line line.now

-- The value that a word says: the guess at it, if that is a value that can be written and is
-- written so.
abbrev pub checked : {X : Type 0} → (List ℕ → X) → (X → List ℕ) → (X → Bool) → List ℕ → Option X
checked guess write fits word =
    if bytes_eq word (write (guess word)) && fits (guess word) then Some (guess word) else None

abbrev pub number_of : List ℕ → Option ℕ
number_of word = checked (digits_value 10) decimal (λ n. nat_lt n (10 ^ 18)) word

-- two digits make an item
abbrev pub pairs : List ℕ → List ℕ
pairs [] = []
pairs (high ∷ []) = []
pairs (high ∷ low ∷ digits) = (16 * digit_value high + digit_value low) ∷ pairs digits

abbrev pub is_hex_digit : ℕ → Bool
is_hex_digit byte = is_in_range 48 57 byte || is_in_range 97 102 byte

abbrev pub items_of : List ℕ → Option (List ℕ)
items_of word = checked pairs items_word (list_all (λ item. nat_lt item 256)) word

-- a byte is an item that stands alone
abbrev pub only : List ℕ → Option ℕ
only (item ∷ []) = Some item
only other = None

abbrev pub byte_of : List ℕ → Option ℕ
byte_of word = items_of word >>= only

-- the value of the first word, and the words behind it
abbrev pub first_by : {X : Type 0} → (List ℕ → Option X) → List (List ℕ)
    → Option (X × List (List ℕ))
first_by read [] = None
first_by read (word ∷ words) = read word >>= λ x. Some (x, words)

-- what stands where an operand is wanted
pub data Sort : Type 0 where
  ANumber : Sort
  AByte : Sort
  SomeItems : Sort

abbrev pub operand_of : Sort → List ℕ → Option Operand
operand_of ANumber word = option_map Number (number_of word)
operand_of AByte word = option_map Byte (byte_of word)
operand_of SomeItems word = option_map Items (items_of word)

-- the operands that words say, one of each of these sorts in turn
unfoldable pub operands_of : List Sort → List (List ℕ) → Option (List Operand)
operands_of [] [] = Some []
operands_of [] (word ∷ words) = None
operands_of (sort ∷ sorts) words = do
  first ← first_by (operand_of sort) words
  others ← operands_of sorts first.1
  Some (first.0 ∷ others)

-- what such an operand says, and a command that is made of these operands
abbrev pub Value : Sort → Type 0
Value ANumber = ℕ
Value AByte = ℕ
Value SomeItems = List ℕ

abbrev pub Makes : List Sort → Type 0
Makes [] = ByteCmd
Makes (sort ∷ sorts) = Value sort → Makes sorts

abbrev pub made : (sorts : List Sort) → Makes sorts → List Operand
    → Option (ByteCmd)
made [] make [] = Some make
made [] make (o ∷ os) = None
made (sort ∷ sorts) make [] = None
made (ANumber ∷ sorts) make (Number n ∷ os) = made sorts (make n) os
made (AByte ∷ sorts) make (Byte x ∷ os) = made sorts (make x) os
made (SomeItems ∷ sorts) make (Items xs ∷ os) = made sorts (make xs) os
made (sort ∷ sorts) make (other ∷ os) = None

-- a form from the reader's side: its first word, what it wants behind that, and what it makes
pub record Form : Type 0 where
  pub word : List ℕ
  pub sorts : List Sort
  pub make : Makes sorts

-- The table of forms from the reader's side, a line each, by what they want behind their first
-- word: that word, and the command that they make. What is read by it is what `form` says: that is
-- proved of the whole table.
abbrev pub Line : List Sort → Type 0
Line sorts = List ℕ × Makes sorts

-- nothing
abbrev pub bare_form : Bare → Line []
bare_form bare.New = (codes "new", command.New)
bare_form bare.Static = (codes "static", command.Static static_bytes)

-- a number
abbrev pub number_form : OneNumber → Line (ANumber ∷ [])
number_form one.Cap = (codes "cap", command.Cap)
number_form one.Zero = (codes "zero", command.Zero)
number_form one.Clone = (codes "clone", command.Clone)
number_form one.Uniq = (codes "uniq", command.Uniq)
number_form one.Show = (codes "show", command.Show)
number_form one.Len = (codes "len", command.Len)
number_form one.Room = (codes "room", command.Room)
number_form one.Freeze = (codes "freeze", command.Freeze)
number_form one.Mut = (codes "mut", command.Mut)
number_form one.Share = (codes "share", command.Share)
number_form one.Unique = (codes "unique", command.Unique)
number_form one.Drop = (codes "drop", command.Drop)
number_form one.Meta = (codes "meta", command.Meta)
number_form one.Take = (codes "take", command.Take)
number_form one.TakeBox = (codes "takebox", command.TakeBox)
number_form one.TakeBuf = (codes "takebuf", command.TakeBuf)
number_form one.TakeRaw = (codes "takeraw", command.TakeRaw)
number_form one.TakeStatic = (codes "takestatic", command.TakeStatic)

-- two numbers
abbrev pub numbers_form : TwoNumbers → Line (ANumber ∷ ANumber ∷ [])
numbers_form two.Off = (codes "off", command.Off)
numbers_form two.To = (codes "to", command.To)
numbers_form two.Res = (codes "res", command.Res)
numbers_form two.Rec = (codes "rec", command.Rec)
numbers_form two.Adv = (codes "adv", command.Adv)
numbers_form two.Trunc = (codes "trunc", command.Trunc)
numbers_form two.Join = (codes "join", command.Join)

-- items
abbrev pub items_form : JustItems → Line (SomeItems ∷ [])
items_form items.Slice = (codes "slice", command.Slice)
items_form items.MSlice = (codes "mslice", command.MSlice)
items_form items.Small = (codes "small", command.Small)
items_form items.Vec = (codes "vec", command.Vec)
items_form items.Raw = (codes "raw", command.Raw)

-- items and a number
abbrev pub items_number_form : ItemsAndNumber → Line (SomeItems ∷ ANumber ∷ [])
items_number_form both.Buf = (codes "buf", command.Buf)
items_number_form both.MBuf = (codes "mbuf", command.MBuf)

-- the forms of each group, and those that stand alone
abbrev pub entry : (sorts : List Sort) → Line sorts → Form
entry sorts line = record { word = line.0; sorts = sorts; make = line.1 }

abbrev pub reads : Verb → Form
reads (verb.Bare v) = entry [] (bare_form v)
reads (verb.Number v) = entry (ANumber ∷ []) (number_form v)
reads (verb.Numbers v) = entry (ANumber ∷ ANumber ∷ []) (numbers_form v)
reads verb.Sub = entry (ANumber ∷ ANumber ∷ ANumber ∷ []) (codes "sub", command.Sub)
reads verb.Push = entry (ANumber ∷ AByte ∷ []) (codes "push", command.Push)
reads (verb.Items v) = entry (SomeItems ∷ []) (items_form v)
reads verb.Ext = entry (ANumber ∷ SomeItems ∷ []) (codes "ext", command.Ext)
reads (verb.ItemsNumber v) = entry (SomeItems ∷ ANumber ∷ []) (items_number_form v)

-- forms by their first words
abbrev pub by_word : List Verb → List (List ℕ × Verb)
by_word vs = map (λ v. ((reads v).word, v)) vs

-- all forms, in six groups: those of windows that most lines are about, cuts and lengths, what
-- makes windows, buffers and what is taken back, windows that turn and are joined, and the others
abbrev pub usual_verbs : List (List ℕ × Verb)
usual_verbs = by_word (
    verb.Number one.Show ∷ verb.Number one.Drop ∷ verb.Items items.Slice ∷ verb.Number one.Clone ∷
    verb.Sub ∷ verb.Push ∷ verb.Items items.Small ∷ [])

abbrev pub cut_verbs : List (List ℕ × Verb)
cut_verbs = by_word (
    verb.Ext ∷ verb.Numbers two.Off ∷ verb.Numbers two.To ∷ verb.Number one.Len ∷
    verb.Numbers two.Adv ∷ verb.Numbers two.Trunc ∷ [])

abbrev pub making_verbs : List (List ℕ × Verb)
making_verbs = by_word (
    verb.Items items.MSlice ∷ verb.Bare bare.New ∷ verb.Number one.Cap ∷ verb.Number one.Zero ∷
    verb.Bare bare.Static ∷ verb.Items items.Vec ∷ verb.Items items.Raw ∷ [])

abbrev pub buffer_verbs : List (List ℕ × Verb)
buffer_verbs = by_word (
    verb.ItemsNumber both.Buf ∷ verb.ItemsNumber both.MBuf ∷ verb.Number one.Meta ∷
    verb.Number one.Take ∷ verb.Number one.TakeBox ∷ verb.Number one.TakeBuf ∷
    verb.Number one.TakeRaw ∷ [])

abbrev pub other_verbs : List (List ℕ × Verb)
other_verbs = by_word (
    verb.Number one.Uniq ∷ verb.Numbers two.Res ∷ verb.Numbers two.Rec ∷ verb.Number one.Room ∷
    verb.Number one.TakeStatic ∷ [])

abbrev pub turning_verbs : List (List ℕ × Verb)
turning_verbs = by_word (
    verb.Number one.Freeze ∷ verb.Number one.Mut ∷ verb.Number one.Share ∷
    verb.Number one.Unique ∷ verb.Numbers two.Join ∷ [])

-- the last of those that few lines have, and all of them
abbrev pub last_verbs : List (List ℕ × Verb)
last_verbs = other_verbs ++ turning_verbs

abbrev pub rare_verbs : List (List ℕ × Verb)
rare_verbs = making_verbs ++ (buffer_verbs ++ last_verbs)

abbrev pub verbs : List (List ℕ × Verb)
verbs = usual_verbs ++ (cut_verbs ++ rare_verbs)

-- the form whose first word this is, among these
abbrev pub named : List ℕ → List (List ℕ × Verb) → Option Verb
named word [] = None
named word (line ∷ table) = if bytes_eq line.0 word then Some line.1 else named word table

-- the command that words say behind the first word of a form
abbrev pub read_form : List (List ℕ) → Form → Option (ByteCmd)
read_form words f = operands_of f.sorts words >>= λ os. made f.sorts f.make os

-- the same of a form as the parser names it, and of a form and what is left of a line behind its
-- first word
unfoldable pub read_as : List (List ℕ) → Verb → Option (ByteCmd)
read_as words v = read_form words (reads v)

abbrev pub read_behind : Option (Verb × Option (Bor (List ℕ))) → Option (ByteCmd)
read_behind None = None
read_behind (Some x) = read_as (words_in x.1) x.0

-- the command that words say
unfoldable pub command_of : List (List ℕ) → Option (ByteCmd)
command_of [] = None
command_of (word ∷ words) = named word verbs >>= λ v. read_form words (reads v)

-- the commands that bring items, which need memory
abbrev pub is_items : Operand → Bool
is_items (Number n) = false
is_items (Byte x) = false
is_items (Items xs) = true

abbrev pub BringsItems : ByteCmd → Type 0
BringsItems c = IsTrue (list_any is_items (form c).1)
