-- The operations of an owner on a block's count: how a step changes the word's number, which entry
-- it adds to the history, and what the owner has then. `Moves` says what each does to the
-- invariant, `Places` and `Stakes` what the machine's step asks.
use Rattle.std.proofs.Common.{◌≡◌, ℕ, ◌+◌, ◌-◌, ◌%◌, ◌^◌, Bool, true, false, eqb, List, [], ◌∷◌}
use Rattle.std.proofs.Common.{◌++◌, refl}
use mathlib.Core.Option.{Option, none, some}
use base.Share.{quarter}
use base.Fml.{Share, Fml, ftrue, fsep, fex}
use prog.Atomic.{either}
use Rattle.arc_owners.specs.declared.history.entry.Entry.{Entry}
use Rattle.arc_owners.specs.declared.history.entry.Entry.TheVariants.{Up, Full, Down, Alone}
use Rattle.arc_owners.specs.count.Invariant.{BlockId, Line, Lease, told, right, stake, Adds}
use Rattle.arc_owners.specs.count.Invariant.{next_owner, how_many_live, end_tokens, claim_gain}
use Rattle.arc_owners.specs.count.Invariant.{Filled, MadeOne}

-- what becomes of the word's number, the entry behind a history, if there is one, and what the
-- owner has then
pub record Operation : Type 1 where
  pub next : ℕ → ℕ
  pub entry : ℕ → List Line → Option Entry
  pub gain : ℕ → List Line → Fml

-- a history with this entry by the pass p behind it
abbrev pub with_entry : ℕ → List Line → Option Entry → List Line
with_entry p before none = before
with_entry p before (some e) = before ++ (p, e) ∷ []

-- the pass p, which had seen these lines, added the entry to the history before it, in which n
-- owners lived; or it has seen no more than that
abbrev pub Follows : BlockId → ℕ → List Line → ℕ → List Line → Option Entry → Type 0
Follows t p seen n before none = before ≡ seen
Follows t p seen n before (some e) = Adds t p seen before e × (n ≡ how_many_live before)

-- what a step that finds the number n leaves: the pass, by what it has seen now, and what the
-- owner has
abbrev pub left_by : BlockId → ℕ → List Line → (List Line → Fml) → ℕ
    → (List Line → Option Entry) → (List Line → Fml) → List Line → Fml
left_by t p seen pass n entry gain before =
    fsep (told (Follows t p seen n before (entry before)))
    (fsep (pass (with_entry p before (entry before))) (gain before))

abbrev pub left : BlockId → ℕ → List Line → (List Line → Fml) → ℕ
    → (List Line → Option Entry) → (List Line → Fml) → Fml
left t p seen pass n entry gain = fex (List Line) (left_by t p seen pass n entry gain)

-- the number is read, which tells whether the owner is alone
abbrev pub load : BlockId → ℕ → Lease → Share → Operation
load t o l q = record {
  next = λ n. n;
  entry = λ n _. some (Alone o (eqb n 1));
  gain = λ _ _. right t o l q;
}

abbrev pub full_if : ℕ → Bool → Option Entry
full_if o true = some (Full o)
full_if o false = none

-- the number is read, which is an entry where it is the greatest
abbrev pub load_for_raise : BlockId → ℕ → Lease → Share → Operation
load_for_raise t o l q = record {
  next = λ n. n;
  entry = λ n _. full_if o (eqb n t.most);
  gain = λ _ _. right t o l q;
}

abbrev pub up_if : ℕ → Bool → List Line → Option Entry
up_if o true before = some (Up o (next_owner before))
up_if o false before = none

-- the right of a new owner, and its stake
abbrev pub made_if : BlockId → Lease → Bool → ℕ → Fml
made_if t l true new = fsep (right t new l quarter) (stake l)
made_if t l false new = ftrue

-- the number becomes `new` where it is `old`, which makes an owner
abbrev pub compare_exchange : BlockId → ℕ → Lease → Share → ℕ → ℕ → Operation
compare_exchange t o l q old new = record {
  next = λ n. either (eqb n old) new n;
  entry = λ n before. up_if o (eqb n old) before;
  gain = λ n before. fsep (right t o l q) (made_if t l (eqb n old) (next_owner before));
}

-- what a subtraction of one makes of a word
abbrev pub less : ℕ → ℕ
less n = (n + (2 ^ 64 - 1)) % 2 ^ 64

-- the owner ends
abbrev pub subtract : ℕ → Lease → Operation
subtract o l = record {
  next = less;
  entry = λ _ _. some (Down o);
  gain = λ n _. end_tokens l (eqb n 1);
}

-- the number is read by an owner who asks for the block back
abbrev pub claim : BlockId → ℕ → Lease → Operation
claim t o l = record {
  next = λ n. n;
  entry = λ n _. some (Alone o (eqb n 1));
  gain = λ n _. claim_gain t o l (eqb n 1);
}

-- what a load for a raise found, and an exchange made, as the contracts say it
pub filled : (t : BlockId) (p : ℕ) (seen : List Line) (o n : ℕ) (before : List Line) (b : Bool)
    → Follows t p seen n before (full_if o b)
    → Filled t p seen o b (with_entry p before (full_if o b))
filled t p seen o n before true so = (before, (so.0, refl))
filled t p seen o n before false so = so

pub made_one : (t : BlockId) (p : ℕ) (seen : List Line) (o n : ℕ) (before : List Line) (b : Bool)
    → Follows t p seen n before (up_if o b before)
    → MadeOne t p seen o b (with_entry p before (up_if o b before)) (b, next_owner before)
made_one t p seen o n before true so = (before, (so.0, refl), refl, refl)
made_one t p seen o n before false so = (so, refl)
