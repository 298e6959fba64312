-- What the engine's calls do to a script that is being run.
use Rattle.std.specs.Prelude.{◌≡◌, ℕ, List, [], ◌++◌}
use Rattle.arc_script.specs.Traffic.{Traffic, NoFault}
use Rattle.arc_script.specs.Script.{feeds}
use Rattle.arc_script.specs.Underway.{IsUnderway, IsBegun}
use Rattle.arc_script.specs.declared.script.Engine.{Engine}
use Rattle.arc_script.specs.declared.script.ScriptError.{ScriptError}
use Rattle.arc_script.specs.declared.layout.NamedLayout as Named
use Rattle.arc_block.specs.declared.layout.Layout as Layout
use Rattle.arc_script.specs.declared.layout.ScriptLayout.{ScriptLayout}

-- under this layout
module _ (layout : ScriptLayout) {L A W : Type 0} {N : Named.Ghosts L W}
    {G : Layout.Ghosts L W} {K : Layout.Ghosts W W} where
  -- Since the writer had taken start, the engine has read this input. So many first replies were
  -- taken.
  abbrev pub HasRead : ℕ → List ℕ → List ℕ → Traffic → Engine L A W N G K → Type 0
  HasRead early start input writer engine = IsUnderway layout early start input writer
      engine.out.items engine.table engine.line.items engine.too_long

  -- the engine has read these bytes more
  abbrev pub Reads : List ℕ → Traffic → Traffic → (old new : Engine L A W N G K) → Type 0
  Reads bytes writer writer' old new = (early : ℕ) (start input : List ℕ)
      → HasRead early start input writer old → HasRead early start (input ++ bytes) writer' new

  -- The engine stopped within these bytes by this fault. Whatever follows them, some first lines
  -- are answered, and what is written and what is held are a beginning of the replies.
  abbrev pub Stops : List ℕ → Traffic → Traffic → (old new : Engine L A W N G K) → ScriptError
      → Type 0
  Stops bytes writer writer' old new fault = (early : ℕ) (start input more : List ℕ)
      → HasRead early start input writer old
      → IsBegun layout fault early start (input ++ (bytes ++ more)) writer' new.out.items new.table

  -- Between two moments of a run, with no piece of the input underway at either, the engine has
  -- read all that the reader gave, it holds no replies, those to all lines that have ended were
  -- taken, and no call went wrong.
  pub record IsRunning (reader reader' writer writer' : Traffic)
      (engine : Engine L A W N G K) : Type 0 where
    pub input : List ℕ
    pub given : reader'.bytes ≡ reader.bytes ++ input
    pub read : HasRead (feeds input) writer.bytes input writer' engine
    pub none_held : engine.out.items ≡ []
    pub failures : reader'.failures ≡ reader.failures
    pub clean : NoFault writer writer'
