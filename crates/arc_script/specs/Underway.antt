-- A script that is being run: what was read and written so far, what is still held, and what the
-- commands did to the windows and to the histories of their blocks.
use Rattle.std.specs.Prelude.{◌≡◌, ℕ, ◌<◌, ◌≤◌, Bool, true, false, List, [], ◌∷◌, ◌++◌, map}
use Rattle.std.specs.Prelude.{length}
use Rattle.std.specs.Prelude.{Option, ◌⊎◌}
use Rattle.std.specs.List.{AllByRecursion}
use Rattle.arc_owners.specs.declared.count.tokens.Pass.{Pass}
use Rattle.arc_owners.specs.declared.mark.Whole.{Whole}
use Rattle.arc_commands.specs.RunOf.{RunOf}
use Rattle.arc_commands.specs.State.{empty_state, EndsWith}
use Rattle.arc_script.specs.State.{AnswersLine, ByteState, CarriesOutSaid}
use Rattle.arc_forms.specs.Text.{longest_line, line_feed, answer_text}
use Rattle.arc_script.specs.Script.{AreLines, HasNoFeed, IsBroken, MayLack, script_setting, ended}
use Rattle.arc_script.specs.Traffic.{Traffic}
use Rattle.arc_forms.specs.Commands.{ByteCmd, ByteReply}
use Rattle.arc_script.specs.declared.script.ScriptError.{ScriptError}
use Rattle.arc_script.specs.declared.layout.ScriptLayout.{ScriptLayout}

-- what is held of the line that is being read: all of it, or only that it is too long
abbrev pub Holds : List ℕ → Bool → List ℕ → Type 0
Holds held false line = held ≡ line
Holds held true line = longest_line < length line

-- so many of these replies, or more, stand whole at the front of the text
pub record StandFirst (early : ℕ) (replies : List (Option ByteReply)) (text : List ℕ) : Type 0 where
  pub first : List (Option ByteReply)
  pub others : List (Option ByteReply)
  pub part : List ℕ
  pub parts : replies ≡ first ++ others
  pub many : early ≤ length first
  pub front : text ≡ ended (map answer_text first) ++ part

-- under this layout
module _ (layout : ScriptLayout) where
  -- From no window on, a run over the lines of the input led to this state. Its replies are the
  -- text and what is unwritten.
  pub record HasRun (state : ByteState) (input text unwritten : List ℕ) : Type 0 where
    pub lines : List (List ℕ)
    pub replies : List (Option ByteReply)
    pub cut : AreLines input lines
    pub run : RunOf (AnswersLine layout) empty_state lines replies state
    pub written : text ++ unwritten ≡ ended (map answer_text replies)

  -- the run went to its end, and all was written
  abbrev pub IsThrough : ByteState → List ℕ → List ℕ → Type 0
  IsThrough state input text = HasRun state input text []

  -- from no window on, a run led to this state when it was broken off by this fault, behind a call
  -- that gave the last bytes
  abbrev pub IsBrokenOff : ScriptError → (last : List ℕ) → ByteState → List ℕ → List ℕ → Type 0
  IsBrokenOff fault last state input text =
      IsBroken (AnswersLine layout) empty_state state fault last input text

  -- after such a run every window that was left ended, and these are the passes of the blocks
  abbrev pub ThenEnds : (ByteState → List ℕ → List ℕ → Type 0) → List (Pass Whole) → List ℕ → List ℕ
      → Type 0
  ThenEnds ran passes input text = (state : ByteState) × ran state input text
      × EndsWith (script_setting layout) state passes

  -- Since the writer had taken start, this input was read. Each of its whole lines is answered: the
  -- replies were taken, but for those in out; so many first ones were taken in any case. Behind the
  -- whole lines stands what came of the next.
  pub record IsUnderway (early : ℕ) (start input : List ℕ) (writer : Traffic) (out : List ℕ)
      (state : ByteState) (held : List ℕ) (too_long : Bool) : Type 0 where
    pub text : List ℕ
    pub whole : List (List ℕ)
    pub line : List ℕ
    pub replies : List (Option ByteReply)
    pub taken : writer.bytes ≡ start ++ text
    pub cut : input ≡ ended whole ++ line
    pub each : AllByRecursion HasNoFeed whole
    pub last : HasNoFeed line
    pub holds : Holds held too_long line
    pub run : RunOf (AnswersLine layout) empty_state whole replies state
    pub written : text ++ out ≡ ended (map answer_text replies)
    pub settled : StandFirst early replies text

  -- Since the writer had taken start, this input was read to its end, and all lines are answered:
  -- the replies were taken, but for those in out; so many first ones were taken in any case.
  pub record IsAnswered (early : ℕ) (start input : List ℕ) (writer : Traffic) (out : List ℕ)
      (state : ByteState) : Type 0 where
    pub text : List ℕ
    pub taken : writer.bytes ≡ start ++ text
    pub all : HasRun state input text out
    pub settled : StandFirst early all.replies text

  -- Since the writer had taken start, this input was read, and some first lines were carried out,
  -- when this fault came. With those in out the replies were taken, but for what the fault may
  -- lack; so many first ones were taken in any case.
  pub record IsBegun (fault : ScriptError) (early : ℕ) (start input : List ℕ) (writer : Traffic)
      (out : List ℕ) (state : ByteState) : Type 0 where
    pub text : List ℕ
    pub lines : List (List ℕ)
    pub left : List (List ℕ)
    pub whole : List (Option ByteReply)
    pub others : List (Option ByteReply)
    pub part : List ℕ
    pub taken : writer.bytes ≡ start ++ text
    pub cut : AreLines input (lines ++ left)
    pub run : RunOf (AnswersLine layout) empty_state lines (whole ++ others) state
    pub written : text ++ out ≡ ended (map answer_text whole) ++ part
    pub lacks : MayLack fault others part
    pub settled : StandFirst early whole text

  -- this is the answer to whatever line was held
  abbrev pub AnswersHeld : List ℕ → Bool → ByteState → Option ByteReply → ByteState
      → Type 0
  AnswersHeld held too_long old answer new =
      (line : List ℕ) → Holds held too_long line → AnswersLine layout old line answer new

  -- The command that a line was read as is carried out, and its reply is in out too.
  pub record AnswersInto (said : Option (ByteCmd)) (old new : ByteState)
      (out out' : List ℕ) : Type 0 where
    pub answer : Option ByteReply
    pub does : CarriesOutSaid layout old said answer new
    pub appended : out' ≡ out ++ (answer_text answer ++ line_feed ∷ [])

  -- The line that was held is answered, and the reply is in out too.
  pub record Ends (held : List ℕ) (too_long : Bool) (old new : ByteState)
      (out out' : List ℕ) : Type 0 where
    pub answer : Option ByteReply
    pub answered : AnswersHeld held too_long old answer new
    pub appended : out' ≡ out ++ (answer_text answer ++ line_feed ∷ [])

  -- The line that was held isn't answered, or it is and the reply isn't in out.
  abbrev pub MayEnd : List ℕ → Bool → ByteState → ByteState → Type 0
  MayEnd held too_long old new =
      (new ≡ old) ⊎ ((answer : Option ByteReply)
      × AnswersHeld held too_long old answer new)
