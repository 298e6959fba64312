-- What the program does with its words.
use Rattle.std.specs.Prelude.{◌≡◌, ◌+◌, ℕ, List, [], ◌∷◌, map, Result, Ok, Err, MatchResult, String}
use Rattle.std.specs.Prelude.{string_bytes, codes, ◌⊎◌, ◌++◌}
use Rattle.std.specs.declared.alloc.Global.{Global}
use Rattle.arc_script.specs.Arguments.{Answer, AreWords}
use Rattle.arc_script.specs.Script.{IsReplyText, BeginsReplyText, BreaksOff, AnswersWhole}
use Rattle.arc_forms.specs.Text.{line_feed}
use Rattle.arc_script.specs.Traffic.{Traffic, Exchanges, NoFault, Tells}
use Rattle.arc_script.specs.Faults.{IsCause, fault_text}
use Rattle.arc_script.specs.Storms.{AsksForStorm, IsStorm}
use Rattle.arc_script.specs.declared.script.ScriptError.{ScriptError}
use Rattle.arc_script.specs.declared.layout.ScriptLayout.{ScriptLayout}
use Rattle.arc_script.specs.declared.layout.ScriptLayout.TheVariants as under
use Rattle.arc_script.specs.declared.script.ScriptError.TheVariants.{Read, Write, Alloc}

-- the word for a layout
abbrev pub layout_word : ScriptLayout → List ℕ
layout_word under.Arc = codes "arc"
layout_word under.Boxed = codes "boxed"
layout_word under.Vec = codes "vec"
layout_word under.Raw = codes "raw"

-- the words ask for a script under this layout: they are the one word for it
abbrev pub AsksFor : ScriptLayout → List (String Global) → Type 0
AsksFor layout words = map string_bytes words ≡ layout_word layout ∷ []

-- they ask neither for a script nor for a storm
pub record AsksForNone (words : List (String Global)) : Type 0 where
  pub script : (layout : ScriptLayout) → ¬ AsksFor layout words
  pub storm : (workers : ℕ) → ¬ AsksForStorm workers words

-- the status of a run
abbrev pub status_of : Result (Unit {0}) ScriptError → ℕ
status_of (Ok done) = 0
status_of (Err Alloc) = 1
status_of (Err Read) = 3
status_of (Err Write) = 4

-- the line that says how the program is called
abbrev pub usage_text : List ℕ
usage_text = codes "usage: arcs arc|boxed|vec|raw|storm N" ++ line_feed ∷ []

-- under this layout
module _ (layout : ScriptLayout) where
  -- a run to the end of the input
  pub record IsWhole (reader reader' writer writer' : Traffic) : Type 0 where
    pub text : Exchanges (IsReplyText layout) reader reader' writer writer'
    pub end : reader'.empties ≡ reader.empties + 1
    pub failures : reader'.failures ≡ reader.failures
    pub clean : NoFault writer writer'

  -- A run that ended by a fault. Where a read failed, each line whose line feed was read is
  -- answered.
  pub record IsCut (reader reader' writer writer' : Traffic) (error : ScriptError) : Type 0 where
    pub text : Exchanges (BeginsReplyText layout) reader reader' writer writer'
    pub broken : Exchanges (BreaksOff layout error reader'.last) reader reader' writer writer'
    pub answered : error ≡ Read
        → Exchanges (AnswersWhole layout) reader reader' writer writer'
    pub cause : IsCause reader reader' writer writer' error

  -- a run of the script, its status, and what it wrote to standard error: nothing, or the line of
  -- its fault
  pub record IsRun (reader reader' writer writer' faults faults' : Traffic) (status : ℕ)
      : Type 0 where
    pub outcome : Result (Unit {0}) ScriptError
    pub told : status ≡ status_of outcome
    pub run : MatchResult outcome
        (λ done. IsWhole reader reader' writer writer') (IsCut reader reader' writer writer')
    pub line : MatchResult outcome
        (λ done. faults' ≡ faults) (λ error. Tells (fault_text error) faults faults')

-- what the program does for these words
pub record Runs (words : List (String Global)) (reader reader' writer writer' : Traffic)
    (faults faults' : Traffic) (status : ℕ) : Type 0 where
  pub script : (layout : ScriptLayout) → AsksFor layout words
      → IsRun layout reader reader' writer writer' faults faults' status
  pub storm : (workers : ℕ) → AsksForStorm workers words
      → (reader' ≡ reader) × IsStorm writer writer' faults faults' status
  pub usage : AsksForNone words → (status ≡ 2) × (reader' ≡ reader) × (writer' ≡ writer)
      × Tells usage_text faults faults'

-- The program does so for the words that it was started with. Or memory was refused for these
-- before anything was read or written, and that is the line on standard error.
abbrev pub RunsGiven : (ℕ → Answer → Type 0) → Traffic → Traffic → Traffic → Traffic → Traffic
    → Traffic → ℕ → Type 0
RunsGiven answers reader reader' writer writer' faults faults' status =
    ((words : List (String Global)) × AreWords answers (map string_bytes words)
    × Runs words reader reader' writer writer' faults faults' status)
    ⊎ ((status ≡ 1) × (reader' ≡ reader) × (writer' ≡ writer)
    × Tells (fault_text Alloc) faults faults')
