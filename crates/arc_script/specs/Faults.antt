-- Why a run ended by a fault.
use Rattle.std.specs.Prelude.{◌≡◌, ◌<◌, ◌+◌, ℕ, List, [], ◌∷◌, ◌++◌, codes}
use Rattle.arc_forms.specs.Text.{line_feed}
use Rattle.arc_script.specs.Traffic.{Traffic, NoFault, faults}
use Rattle.arc_script.specs.declared.script.ScriptError.{ScriptError}
use Rattle.arc_script.specs.declared.script.ScriptError.TheVariants.{Read, Write, Alloc}

-- why no more was written: one call of the writer failed or took nothing; or memory was refused,
-- and no call did
abbrev pub IsWhy : Traffic → Traffic → ScriptError → Type 0
IsWhy writer writer' Read = ⊥
IsWhy writer writer' Write = faults writer' ≡ faults writer + 1
IsWhy writer writer' Alloc = NoFault writer writer'

-- The cause of a run's fault: one read failed, or one write failed or took nothing, or memory was
-- refused. No other call failed.
abbrev pub IsCause : Traffic → Traffic → Traffic → Traffic → ScriptError → Type 0
IsCause reader reader' writer writer' Read = (reader'.failures ≡ reader.failures + 1)
    × NoFault writer writer'
IsCause reader reader' writer writer' Write = (reader'.failures ≡ reader.failures)
    × (faults writer' ≡ faults writer + 1)
IsCause reader reader' writer writer' Alloc = (reader'.failures ≡ reader.failures)
    × NoFault writer writer'

-- the line on standard error for a fault
abbrev pub fault_text : ScriptError → List ℕ
fault_text Alloc = codes "allocation error" ++ line_feed ∷ []
fault_text Read = codes "read failed" ++ line_feed ∷ []
fault_text Write = codes "write failed" ++ line_feed ∷ []
