-- What the program does with its word for a storm of clones.
use Rattle.std.specs.Prelude.{◌≡◌, ◌≤◌, ◌+◌, ℕ, List, [], ◌∷◌, ◌++◌, map, String, string_bytes}
use Rattle.std.specs.Prelude.{codes, decimal}
use Rattle.std.specs.declared.alloc.Global.{Global}
use Rattle.arc_owners.specs.declared.error.OwnerError.TheVariants.{AllocError, CountFull}
use Rattle.arc_forms.specs.Text.{hex, line_feed}
use Rattle.arc_script.specs.Faults.{fault_text}
use Rattle.arc_script.specs.Traffic.{Traffic, NoFault, TakesFront, Tells, faults}
use Rattle.arc_script.specs.declared.script.ScriptError.TheVariants.{Write}
use Rattle.arc_script.specs.declared.storm.StormError.{StormError}
use Rattle.arc_script.specs.declared.storm.StormError.TheVariants.{Owner, Thread, Taken}

-- the words ask for a storm of so many workers, from 1 to 64: the word for it, and their number
pub record AsksForStorm (workers : ℕ) (words : List (String Global)) : Type 0 where
  pub said : map string_bytes words ≡ codes "storm" ∷ decimal workers ∷ []
  pub some : 1 ≤ workers
  pub most : workers ≤ 64

-- how a storm ends: the vector was written, something was refused, or the write failed
pub data StormEnd : Type 0 where
  written : StormEnd
  refused : StormError → StormEnd
  unwritten : StormEnd

abbrev pub storm_status : StormEnd → ℕ
storm_status written = 0
storm_status (refused error) = 1
storm_status unwritten = 4

-- what is written: the vector [42]
abbrev pub storm_text : List ℕ
storm_text = hex (42 ∷ []) ++ line_feed ∷ []

-- the line on standard error for a refusal
abbrev pub storm_fault_text : StormError → List ℕ
storm_fault_text (Owner AllocError) = codes "allocation error" ++ line_feed ∷ []
storm_fault_text (Owner CountFull) = codes "count full" ++ line_feed ∷ []
storm_fault_text Thread = codes "no thread" ++ line_feed ∷ []
storm_fault_text Taken = codes "not alone" ++ line_feed ∷ []

-- what the writer took
abbrev pub StormWrites : StormEnd → (writer writer' : Traffic) → Type 0
StormWrites written writer writer' =
    (writer'.bytes ≡ writer.bytes ++ storm_text) × NoFault writer writer'
StormWrites (refused error) writer writer' = writer' ≡ writer
StormWrites unwritten writer writer' =
    TakesFront storm_text writer writer' × (faults writer' ≡ faults writer + 1)

-- what it wrote to standard error: nothing, or the line of its fault
abbrev pub StormTells : StormEnd → (told told' : Traffic) → Type 0
StormTells written told told' = told' ≡ told
StormTells (refused error) told told' = Tells (storm_fault_text error) told told'
StormTells unwritten told told' = Tells (fault_text Write) told told'

-- a storm, its status, and what it wrote to the writer and to standard error
pub record IsStorm (writer writer' told told' : Traffic) (status : ℕ) : Type 0 where
  pub end : StormEnd
  pub answered : status ≡ storm_status end
  pub took : StormWrites end writer writer'
  pub line : StormTells end told told'
