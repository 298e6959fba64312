-- Scripts: the lines of an input, what each is answered, and what is written.
use Rattle.std.specs.Prelude.{◌≡◌, ◌≢◌, ℕ, ◌≤◌, ◌+◌, ◌==◌, Bool, true, false, List, [], ◌∷◌, ◌++◌}
use Rattle.std.specs.Prelude.{Option, Some, None, map, length, count_by, flat_map, Contains}
use Rattle.std.specs.List.{AllByRecursion}
use Rattle.arc_block.specs.Block.{Sort}
use Rattle.arc_block.specs.Layouts.{LayoutFacts, always, clones_want, never, where_full}
use Rattle.arc_block.specs.Table.{Table, empty_table}
use Rattle.arc_commands.specs.RunOf.{RunOf}
use Rattle.arc_commands.specs.Changes.{Setting, setting_of}
use Rattle.arc_commands.specs.Kinds.{calls_of, plain_kind}
use Rattle.arc_commands.specs.Step.{Step}
use Rattle.arc_commands.specs.declared.command.Cmd.TheVariants.{Show}
use Rattle.arc_commands.specs.declared.command.Reply.TheVariants as reply
use Rattle.arc_forms.specs.Text.{line_feed, Says, IsBad, answer_text}
use Rattle.arc_forms.specs.Commands.{ByteCmd, ByteReply}
use Rattle.arc_script.specs.declared.layout.ScriptLayout.{ScriptLayout}
use Rattle.arc_script.specs.declared.layout.ScriptLayout.TheVariants as under
use Rattle.arc_script.specs.declared.script.ScriptError.{ScriptError}
use Rattle.arc_script.specs.declared.script.ScriptError.TheVariants.{Read, Write, Alloc}

-- each line with its line feed
abbrev pub ended : List (List ℕ) → List ℕ
ended lines = flat_map (λ line. line ++ line_feed ∷ []) lines

abbrev pub HasNoFeed : List ℕ → Type 0
HasNoFeed line = ¬ Contains line line_feed

-- how many lines have ended in these bytes: how many line feeds they have
abbrev pub feeds : List ℕ → ℕ
feeds bytes = count_by (λ byte. byte == line_feed) bytes

-- what stands behind the last line feed is a line unless it is empty
abbrev pub last_line : List ℕ → List (List ℕ)
last_line [] = []
last_line (byte ∷ bytes) = (byte ∷ bytes) ∷ []

-- the lines of an input: it is cut at its line feeds
pub record AreLines (input : List ℕ) (lines : List (List ℕ)) : Type 0 where
  pub whole : List (List ℕ)
  pub rest : List ℕ
  pub cut : input ≡ ended whole ++ rest
  pub each : AllByRecursion HasNoFeed whole
  pub last : HasNoFeed rest
  pub are : lines ≡ whole ++ last_line rest

-- The setting of byte windows: they may be cut anywhere, an item is one byte and has a zero, the
-- calls are those of plain data, and a small window may have a few items in itself.
abbrev pub byte_setting : LayoutFacts → (writes_any : Bool) → (clone_wants : Sort → Bool)
    → Setting ℕ
byte_setting layout writes_any clone_wants =
    setting_of layout writes_any clone_wants false (λ items at. true) 1 (Some 0)
    (calls_of plain_kind true)

-- The text fits the whole lines of an input, those that end by a line feed. What is behind the last
-- line feed is left out.
pub record OfWholeLines (fits : List ℕ → List ℕ → Type 0) (input text : List ℕ) : Type 0 where
  pub whole : List (List ℕ)
  pub rest : List ℕ
  pub cut : input ≡ ended whole ++ rest
  pub last : HasNoFeed rest
  pub fit : fits (ended whole) text

-- layouts with static data, and with blocks of a caller's making
abbrev pub of_any : (by_itself : Bool) → (lone : ℕ → ℕ → Bool) → LayoutFacts
of_any by_itself lone = record {
  has_static = true;
  has_any = true;
  by_itself = by_itself;
  lone = lone;
}

-- The setting of a script's tables, by its layout. Each has static data, and blocks may be of a
-- caller's making, for readers and writers. Which clones may be refused for memory is what the
-- layouts say: on vectors, on an `Arc` that is a block by itself, or none.
abbrev pub script_setting : ScriptLayout → Setting ℕ
script_setting under.Arc = byte_setting (of_any false never) true (λ sort. false)
script_setting under.Boxed =
    byte_setting (of_any false where_full) true (clones_want true false)
script_setting under.Vec = byte_setting (of_any false always) true (clones_want true false)
script_setting under.Raw = byte_setting (of_any true never) true (clones_want false true)

-- the script's tables: metadata is a number
abbrev pub ByteTable : Type 0
ByteTable = Table ℕ ℕ

-- whether a command only lends what stands in a window, and so asks for no memory
abbrev pub lends : ByteCmd → Bool
lends (Show i) = true
lends c = false

-- where a command asks for no memory, none is refused it
abbrev pub FitsNeed : ByteCmd → ByteReply → Type 0
FitsNeed c answer = lends c ≡ true → answer ≢ reply.Alloc

-- what a line is answered: one step of the command that it says, or None where it says none and
-- nothing changes
abbrev pub AnswersBy : {S : Type 0}
    → (S → ByteCmd → ByteReply → S → Type 0) → S → List ℕ
    → Option ByteReply → S → Type 0
AnswersBy step old line (Some answer) new = (c : ByteCmd) × Says line c
    × step old c answer new × FitsNeed c answer
AnswersBy step old line None new = IsBad line × (new ≡ old)

-- What a fault may lack of the replies to the lines that were carried out: these that aren't
-- written whole, of which this part is written. Where a read failed there are none. Where memory
-- was refused there is one at most, which it may have been refused for, and nothing of it is
-- written. Where a write failed the part is a beginning of them.
abbrev pub MayLack : ScriptError → List (Option ByteReply) → List ℕ → Type 0
MayLack Read others part = (others ≡ []) × (part ≡ [])
MayLack Alloc others part = (length others ≤ 1) × (part ≡ [])
MayLack Write others part = (rest : List ℕ) × (part ++ rest ≡ ended (map answer_text others))

-- A run by these steps that a fault broke off. It carried out some first lines of the input. Some
-- first replies are written whole: at least one for each line that had ended before the reader's
-- last call, which gave the last bytes. The others are those that the fault may lack.
pub record IsBroken {S : Type 0} (step : S → List ℕ → Option ByteReply → S → Type 0) (old new : S)
    (fault : ScriptError) (last input text : List ℕ) : Type 0 where
  pub lines : List (List ℕ)
  pub left : List (List ℕ)
  pub whole : List (Option ByteReply)
  pub others : List (Option ByteReply)
  pub part : List ℕ
  pub cut : AreLines input (lines ++ left)
  pub run : RunOf step old lines (whole ++ others) new
  pub written : text ≡ ended (map answer_text whole) ++ part
  pub lacks : MayLack fault others part
  pub early : feeds input ≤ length whole + feeds last

-- under this layout
module _ (layout : ScriptLayout) where
  -- of a table
  abbrev pub Answers : ByteTable → List ℕ → Option ByteReply → ByteTable → Type 0
  Answers old line answer new = AnswersBy (Step (script_setting layout)) old line answer new

  -- what is written for an input: the replies of a run over its lines from the empty table, each
  -- with a line feed
  pub record IsReplyText (input text : List ℕ) : Type 0 where
    pub lines : List (List ℕ)
    pub replies : List (Option ByteReply)
    pub after : ByteTable
    pub cut : AreLines input lines
    pub run : RunOf Answers empty_table lines replies after
    pub written : text ≡ ended (map answer_text replies)

  -- what is written for the whole lines of an input
  abbrev pub AnswersWhole : List ℕ → List ℕ → Type 0
  AnswersWhole = OfWholeLines IsReplyText

  -- a beginning of what is written for an input
  pub record BeginsReplyText (input text : List ℕ) : Type 0 where
    pub rest : List ℕ
    pub whole : IsReplyText input (text ++ rest)

  -- what is written for an input when a fault came behind a call that gave its last bytes: the
  -- replies to first lines, at least to those that had ended before that call, but for what the
  -- fault may lack
  abbrev pub BreaksOff : ScriptError → (last input text : List ℕ) → Type 0
  BreaksOff fault last input text =
      (after : ByteTable) × IsBroken Answers empty_table after fault last input text
