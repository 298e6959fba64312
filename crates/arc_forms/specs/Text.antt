-- The texts of a script: how items, commands and replies are written.
use Rattle.std.specs.Prelude.{◌≡◌, ℕ, ◌+◌, ◌/◌, ◌%◌, ◌<◌, ◌≤◌, ◌^◌, nat_lt, if◌then◌else◌, List, []}
use Rattle.std.specs.Prelude.{◌∷◌, ◌++◌, length, map, flat_map, decimal, codes, Option, Some, None}
use Rattle.std.specs.List.{AllByRecursion, join_with_byte}
use Rattle.arc_owners.specs.declared.error.RangeError.{RangeError}
use Rattle.arc_owners.specs.declared.error.RangeError.TheVariants.{OutOfRange, InvalidRange}
use Rattle.arc_owners.specs.declared.error.RangeError.TheVariants.{NotBoundary}
use Rattle.arc_owners.specs.declared.error.OwnerError.{OwnerError}
use Rattle.arc_owners.specs.declared.error.OwnerError.TheVariants as owner
use Rattle.arc_owners.specs.declared.error.TryReserveError.{TryReserveError}
use Rattle.arc_owners.specs.declared.error.TryReserveError.TheVariants as reserve
use Rattle.arc_forms.specs.Commands.{ByteCmd, ByteReply}
use Rattle.arc_commands.specs.declared.command.Cmd.TheVariants as command
use Rattle.arc_commands.specs.declared.command.Reply.TheVariants as reply

-- the byte that parts words, and the one that ends lines
abbrev pub space : ℕ
space = 32

abbrev pub line_feed : ℕ
line_feed = 10

-- the longest line, in bytes and without its line feed
abbrev pub longest_line : ℕ
longest_line = 65536

-- a number below 16 as a digit: 0 to 9, then a to f
abbrev pub hex_digit : ℕ → ℕ
hex_digit n = if nat_lt n 10 then 48 + n else 87 + n

-- two digits a byte
abbrev pub hex : List ℕ → List ℕ
hex items = flat_map (λ item. hex_digit (item / 16) ∷ hex_digit (item % 16) ∷ []) items

-- items as a word: a dash for none
abbrev pub items_word : List ℕ → List ℕ
items_word [] = codes "-"
items_word (item ∷ items) = hex (item ∷ items)

-- what stands behind the first word of a command
pub data Operand : Type 0 where
  Number : ℕ → Operand
  Byte : ℕ → Operand
  Items : List ℕ → Operand

-- the bytes of the static slice over which `static` makes a window
abbrev pub static_bytes : List ℕ
static_bytes = codes "abcd"

-- The table of forms, a line each: the first word of a command, and its operands.
abbrev pub form : ByteCmd → List ℕ × List Operand
form (command.Slice xs) = (codes "slice", Items xs ∷ [])
form (command.MSlice xs) = (codes "mslice", Items xs ∷ [])
form (command.Small xs) = (codes "small", Items xs ∷ [])
form (command.Vec xs) = (codes "vec", Items xs ∷ [])
form (command.Raw xs) = (codes "raw", Items xs ∷ [])
form (command.Buf xs metadata) = (codes "buf", Items xs ∷ Number metadata ∷ [])
form (command.MBuf xs metadata) = (codes "mbuf", Items xs ∷ Number metadata ∷ [])
form command.New = (codes "new", [])
form (command.Cap places) = (codes "cap", Number places ∷ [])
form (command.Zero count) = (codes "zero", Number count ∷ [])
form (command.Static items) = (codes "static", [])
form (command.Clone i) = (codes "clone", Number i ∷ [])
form (command.Sub i start end) = (codes "sub", Number i ∷ Number start ∷ Number end ∷ [])
form (command.Uniq i) = (codes "uniq", Number i ∷ [])
form (command.Show i) = (codes "show", Number i ∷ [])
form (command.Off i at) = (codes "off", Number i ∷ Number at ∷ [])
form (command.To i at) = (codes "to", Number i ∷ Number at ∷ [])
form (command.Len i) = (codes "len", Number i ∷ [])
form (command.Room i) = (codes "room", Number i ∷ [])
form (command.Res i additional) = (codes "res", Number i ∷ Number additional ∷ [])
form (command.Push i item) = (codes "push", Number i ∷ Byte item ∷ [])
form (command.Ext i xs) = (codes "ext", Number i ∷ Items xs ∷ [])
form (command.Rec i additional) = (codes "rec", Number i ∷ Number additional ∷ [])
form (command.Freeze i) = (codes "freeze", Number i ∷ [])
form (command.Mut i) = (codes "mut", Number i ∷ [])
form (command.Share i) = (codes "share", Number i ∷ [])
form (command.Unique i) = (codes "unique", Number i ∷ [])
form (command.Join i j) = (codes "join", Number i ∷ Number j ∷ [])
form (command.Adv i by) = (codes "adv", Number i ∷ Number by ∷ [])
form (command.Trunc i len) = (codes "trunc", Number i ∷ Number len ∷ [])
form (command.Drop i) = (codes "drop", Number i ∷ [])
form (command.Meta i) = (codes "meta", Number i ∷ [])
form (command.Take i) = (codes "take", Number i ∷ [])
form (command.TakeBox i) = (codes "takebox", Number i ∷ [])
form (command.TakeBuf i) = (codes "takebuf", Number i ∷ [])
form (command.TakeRaw i) = (codes "takeraw", Number i ∷ [])
form (command.TakeStatic i) = (codes "takestatic", Number i ∷ [])

-- an operand as a word
abbrev pub operand_word : Operand → List ℕ
operand_word (Number n) = decimal n
operand_word (Byte x) = items_word (x ∷ [])
operand_word (Items xs) = items_word xs

-- what can be written: bytes, and numbers of at most 18 digits
abbrev pub IsByte : ℕ → Type 0
IsByte item = item < 256

abbrev pub IsShort : ℕ → Type 0
IsShort n = n < 10 ^ 18

abbrev pub IsWritable : Operand → Type 0
IsWritable (Number n) = IsShort n
IsWritable (Byte x) = IsByte x
IsWritable (Items xs) = AllByRecursion IsByte xs

-- which commands have a line: of those over static slices the one over these bytes
abbrev pub IsSayable : ByteCmd → Type 0
IsSayable (command.Static items) = items ≡ static_bytes
IsSayable other = Unit {0}

-- a command as words
abbrev pub words_of : ByteCmd → List (List ℕ)
words_of c = (form c).0 ∷ map operand_word (form c).1

-- the line says the command: its words, parted by one space each
pub record Says (line : List ℕ) (c : ByteCmd) : Type 0 where
  pub fits : length line ≤ longest_line
  pub sayable : IsSayable c
  pub writable : AllByRecursion IsWritable (form c).1
  pub words : line ≡ join_with_byte space (words_of c)

abbrev pub range_text : RangeError → List ℕ
range_text OutOfRange = codes "out of range"
range_text InvalidRange = codes "invalid range"
range_text NotBoundary = codes "not a char boundary"

abbrev pub owner_text : OwnerError → List ℕ
owner_text owner.AllocError = codes "allocation error"
owner_text owner.CountFull = codes "count full"

abbrev pub reserve_text : TryReserveError → List ℕ
reserve_text reserve.NotUnique = codes "not unique"
reserve_text reserve.Unsupported = codes "unsupported"
reserve_text reserve.AllocError = codes "allocation error"
reserve_text reserve.CapacityOverflow = codes "capacity overflow"

-- a reply as a text
abbrev pub reply_text : ByteReply → List ℕ
reply_text (reply.New number) = codes "h" ++ decimal number
reply_text reply.Ok = codes "ok"
reply_text reply.Yes = codes "yes"
reply_text reply.No = codes "no"
reply_text (reply.Items items) = items_word items
reply_text (reply.Vec items) = items_word items
reply_text (reply.Boxed items) = items_word items
reply_text (reply.Buffer items) = items_word items
reply_text (reply.Raw items) = items_word items
reply_text (reply.Static items) = items_word items
reply_text (reply.Number n) = decimal n
reply_text (reply.Meta metadata) = decimal metadata
reply_text reply.None = codes "none"
reply_text reply.NoWindow = codes "no window"
reply_text reply.Kind = codes "kind"
reply_text reply.Refused = codes "refused"
reply_text (reply.Range e) = range_text e
reply_text (reply.Owner e) = owner_text e
reply_text (reply.Reserve e) = reserve_text e
reply_text reply.Alloc = codes "allocation error"

-- the line says no command
abbrev pub IsBad : List ℕ → Type 0
IsBad line = (c : ByteCmd) → ¬ Says line c

-- what is written for a line: its reply, or that it says no command
abbrev pub answer_text : Option ByteReply → List ℕ
answer_text (Some reply) = reply_text reply
answer_text None = codes "bad line"
