-- What the calls of a reader or a writer give or take.
use Rattle.std.specs.Prelude.{◌≡◌, ℕ, ◌+◌, ◌==◌, ◌&&◌, nat_lt, if◌then◌else◌, List, [], ◌++◌}
use Rattle.std.specs.Prelude.{length, take, Option, Some, None, IfSome, ◌⊎◌}
use Rattle.std.specs.Io.KnownBytes.{Appends, Consumes}

-- the bytes that passed in all calls, and those of the last call; how many calls failed; and how
-- many, over a slice that isn't empty, passed nothing
pub record Traffic : Type 0 where
  pub bytes : List ℕ
  pub last : List ℕ
  pub failures : ℕ
  pub empties : ℕ

-- before any call
abbrev pub no_traffic : Traffic
no_traffic = record { bytes = []; last = []; failures = 0; empties = 0 }

-- a reader or writer, and its calls up to here
pub record WithTraffic (D : Type 0) : Type 0 where
  pub device : D
  pub traffic : Traffic

-- after a call over a slice that gave or took so many of its first bytes, or failed
abbrev pub after_call : Traffic → List ℕ → Option ℕ → Traffic
after_call t slice (Some n) = record {
  bytes = t.bytes ++ take n slice;
  last = take n slice;
  failures = t.failures;
  empties = if n == 0 && nat_lt 0 (length slice) then t.empties + 1 else t.empties;
}
after_call t slice None = record t { last = []; failures = t.failures + 1 }

-- from one moment to the next a reader gave some input and a writer took some text, and the text
-- fits the input
pub record Exchanges (fits : List ℕ → List ℕ
    → Type 0) (reader reader' writer writer' : Traffic) : Type 0 where
  pub input : List ℕ
  pub text : List ℕ
  pub given : reader'.bytes ≡ reader.bytes ++ input
  pub taken : writer'.bytes ≡ writer.bytes ++ text
  pub fit : fits input text

-- what a reader gave from one moment to the next is what its device lost, where it is known what
-- that has left
pub record Gives (old new : Traffic) (left left' : Option (List ℕ)) : Type 0 where
  pub input : List ℕ
  pub given : new.bytes ≡ old.bytes ++ input
  pub consumed : Consumes left left' input

-- what a writer took from one moment to the next is what its device got, where it is known what
-- that holds
pub record Takes (old new : Traffic) (held held' : Option (List ℕ)) : Type 0 where
  pub text : List ℕ
  pub taken : new.bytes ≡ old.bytes ++ text
  pub appended : Appends held held' text

-- a reader gave all that its device had left, where that is known
abbrev pub GivesAll : Traffic → Traffic → Option (List ℕ) → Type 0
GivesAll old new left = IfSome left (λ input. new.bytes ≡ old.bytes ++ input)

-- how many of a writer's calls failed or took nothing
abbrev pub faults : Traffic → ℕ
faults t = t.failures + t.empties

-- no call of a writer failed or took nothing from one moment to the next
abbrev pub NoFault : Traffic → Traffic → Type 0
NoFault old new = (new.failures ≡ old.failures) × (new.empties ≡ old.empties)

-- a writer took some of the bytes from their front, and nothing else
pub record TakesFront (bytes : List ℕ) (old new : Traffic) : Type 0 where
  pub sent : List ℕ
  pub rest : List ℕ
  pub parts : bytes ≡ sent ++ rest
  pub taken : new.bytes ≡ old.bytes ++ sent

-- a writer took all of the bytes, or a front of them before a call that failed or took nothing
abbrev pub Tells : List ℕ → Traffic → Traffic → Type 0
Tells bytes old new = ((new.bytes ≡ old.bytes ++ bytes) × NoFault old new)
    ⊎ (TakesFront bytes old new × (faults new ≡ faults old + 1))
