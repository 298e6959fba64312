-- What a line does to a table of byte windows.
use Rattle.std.specs.Prelude.{◌≡◌, ℕ, List, Option, Some, None}
use Rattle.arc_commands.specs.State.{State, CarriesOut}
use Rattle.arc_script.specs.Script.{script_setting, AnswersBy, FitsNeed}
use Rattle.arc_forms.specs.Commands.{ByteCmd, ByteReply}
use Rattle.arc_script.specs.declared.layout.ScriptLayout.{ScriptLayout}

-- the windows of a script: a table of bytes, with its histories
abbrev pub ByteState : Type 0
ByteState = State ℕ ℕ

-- under this layout
module _ (layout : ScriptLayout) where
  -- the command that a line says is carried out; where it says none, nothing changes
  abbrev pub CarriesOutSaid : ByteState → Option (ByteCmd)
      → Option ByteReply → ByteState → Type 0
  CarriesOutSaid old (Some c) (Some reply) new =
      CarriesOut (script_setting layout) old c reply new × FitsNeed c reply
  CarriesOutSaid old None None new = new ≡ old
  CarriesOutSaid old said answer new = ⊥

  -- the answer to a line, where the command that it says is carried out
  abbrev pub AnswersLine : ByteState → List ℕ → Option ByteReply → ByteState
      → Type 0
  AnswersLine old line answer new =
      AnswersBy (CarriesOut (script_setting layout)) old line answer new
