-- How the engine's calls follow one another.
use Rattle.std.proofs.Common.{◌≡◌, ℕ, ◌≤◌, ◌+◌, Bool, false, List, [], ◌∷◌, ◌++◌, Result, Ok, Err}
use Rattle.std.proofs.Common.{OnErr, OnOk, IfErr, IsErrAnd, length, refl, sym, ap, ◌∙◌, subst}
use Rattle.std.proofs.Common.{append_assoc, arith}
use Rattle.std.proofs.lemmas.List.{append-nil}
use Rattle.arc_commands.specs.State.{empty_state}
use Rattle.arc_script.specs.declared.layout.NamedLayout as Named
use Rattle.arc_block.specs.declared.layout.Layout as Layout
use Rattle.arc_script.specs.declared.layout.ScriptLayout.{ScriptLayout}
use Rattle.arc_script.specs.State.{ByteState}
use Rattle.arc_forms.specs.Text.{line_feed}
use Rattle.arc_script.specs.Script.{HasNoFeed, OfWholeLines, feeds}
use Rattle.arc_script.specs.Traffic.{Traffic, Exchanges, NoFault, TakesFront}
use Rattle.arc_script.specs.Underway.{Holds, Ends, MayEnd, IsUnderway, IsAnswered, IsBegun}
use Rattle.arc_script.specs.Underway.{IsThrough, IsBrokenOff}
use Rattle.arc_script.specs.Engine.{HasRead, IsRunning, Reads, Stops}
use Rattle.arc_script.specs.Faults.{IsWhy, IsCause}
use Rattle.arc_script.specs.declared.script.Engine.{Engine}
use Rattle.arc_script.specs.declared.script.ScriptError.{ScriptError}
use Rattle.arc_script.specs.declared.script.ScriptError.TheVariants.{Read, Write, Alloc}
use Rattle.arc_script.proofs.Underway.{nothing_read, more_held, line_ended, went_out, begun_out}
use Rattle.arc_script.proofs.Underway.{begun_front, answered_begun, still_begun, line_broken}
use Rattle.arc_script.proofs.Underway.{all_settled, begun_cut, begun_nothing, stand_many}
use Rattle.arc_script.proofs.Underway.{whole_answered}
use Rattle.arc_script.proofs.Splits.{feeds-append}

-- what holds whatever is answered
pub on_ok : {T E P : Type 0} (r : Result T E) → P → OnOk r P
on_ok (Ok x) p = p
on_ok (Err e) p = tt

-- a line that stands whole in some bytes is like one that is held
in_place : (held bytes line : List ℕ) (too_long : Bool) → (held ≡ []) × (too_long ≡ false)
    → Holds held too_long line → Holds bytes false (line ++ bytes)
in_place held bytes line too_long none holds =
    ap (λ xs. xs ++ bytes) (sym none.0 ∙ subst (λ f. Holds held f line) none.1 holds)

module _ {layout : ScriptLayout} {L A W : Type 0} {N : Named.Ghosts L W}
    {G : Layout.Ghosts L W} {K : Layout.Ghosts W W} where
  -- the same windows, out, line and flag make the same state
  pub same_state : (early : ℕ) (start input : List ℕ) (w : Traffic) (e : Engine L A W N G K)
      (out held : List ℕ) (state : ByteState) (too_long : Bool) → e.out.items ≡ out
      → e.table ≡ state → e.line.items ≡ held → e.too_long ≡ too_long
      → IsUnderway layout early start input w out state held too_long
      → HasRead layout early start input w e
  same_state early start input w e out held state too_long same_out same_windows same_line
      same_flag u =
      subst
      (λ f. IsUnderway layout early start input w e.out.items e.table e.line.items f)
      (sym same_flag)
      (subst (λ l. IsUnderway layout early start input w e.out.items e.table l too_long)
      (sym same_line)
      (subst (λ s. IsUnderway layout early start input w e.out.items s held too_long)
      (sym same_windows)
      (subst (λ o. IsUnderway layout early start input w o state held too_long) (sym same_out) u)))

  -- the same windows and out make the same beginning
  same_begun : (fault : ScriptError) (early : ℕ) (start input : List ℕ) (w : Traffic)
      (e : Engine L A W N G K) (out : List ℕ) (state : ByteState) → e.out.items ≡ out
      → e.table ≡ state → IsBegun layout fault early start input w out state
      → IsBegun layout fault early start input w e.out.items e.table
  same_begun fault early start input w e out state same_out same_windows b =
      subst (λ o. IsBegun layout fault early start input w o e.table) (sym same_out)
      (subst (λ s. IsBegun layout fault early start input w out s) (sym same_windows) b)

  -- it stops before it has written more
  pub stops_now : (fault : ScriptError) (bytes : List ℕ) (w : Traffic) (e e1 : Engine L A W N G K)
      → e1.table ≡ e.table → e1.out.items ≡ e.out.items → Stops layout bytes w w e e1 fault
  stops_now fault bytes w e e1 same_windows same_out early start input more read =
      same_begun fault early start (input ++ (bytes ++ more)) w e1 e.out.items e.table same_out
      same_windows (still_begun read fault (bytes ++ more))

  -- it stops while its replies go out
  pub stops_out : (bytes : List ℕ) (w w' : Traffic) (e e1 : Engine L A W N G K)
      → TakesFront e.out.items w w' → e1.out.items ≡ [] → e1.table ≡ e.table
      → Stops layout bytes w w' e e1 Write
  stops_out bytes w w' e e1 front none same early start input more read =
      same_begun Write early start (input ++ (bytes ++ more)) w' e1 [] e.table none same
      (begun_front (still_begun read Write (bytes ++ more)) w' front)

  -- it stops at a line feed
  pub stops_at_line : (w : Traffic) (e e1 : Engine L A W N G K)
      → MayEnd layout e.line.items e.too_long e.table e1.table → e1.out.items ≡ e.out.items
      → Stops layout (line_feed ∷ []) w w e e1 Alloc
  stops_at_line w e e1 may same_out early start input more read =
      subst (λ o. IsBegun layout Alloc early start (input ++ (line_feed ∷ [] ++ more)) w o e1.table)
      (sym same_out) (line_broken read e1.table more may)

  -- it stops, and what it holds goes out
  pub stops_and_out : (fault : ScriptError) (bytes : List ℕ) (w w1 w' : Traffic)
      (e e1 e2 : Engine L A W N G K) → Stops layout bytes w w1 e e1 fault
      → w'.bytes ≡ w1.bytes ++ e1.out.items
      → e2.out.items ≡ [] → e2.table ≡ e1.table → Stops layout bytes w w' e e2 fault
  stops_and_out fault bytes w w1 w' e e1 e2 stops out none same early start input more read =
      same_begun fault early start (input ++ (bytes ++ more)) w' e2 [] e1.table none same
      (begun_out (stops early start input more read) w' out)

  -- or a front of it
  pub stops_and_front : (fault : ScriptError) (bytes : List ℕ) (w w1 w' : Traffic)
      (e e1 e2 : Engine L A W N G K) → Stops layout bytes w w1 e e1 fault
      → TakesFront e1.out.items w1 w'
      → e2.out.items ≡ [] → e2.table ≡ e1.table → Stops layout bytes w w' e e2 Write
  stops_and_front fault bytes w w1 w' e e1 e2 stops front none same early start input more read =
      same_begun Write early start (input ++ (bytes ++ more)) w' e2 [] e1.table none same
      (begun_front (stops early start input more read) w' front)

  -- it has read some bytes, and stops within others
  pub stops_later : (fault : ScriptError) (piece front rest : List ℕ) (w w1 w2 : Traffic)
      (e e1 e2 : Engine L A W N G K) → piece ≡ front ++ rest → Reads layout front w w1 e e1
      → Stops layout rest w1 w2 e1 e2 fault → Stops layout piece w w2 e e2 fault
  stops_later fault piece front rest w w1 w2 e e1 e2 parts reads stops early start input more read =
      subst (λ xs. IsBegun layout fault early start xs w2 e2.out.items e2.table)
      (append_assoc input front (rest ++ more) ∙ ap (λ xs. input ++ xs)
      (sym (append_assoc front rest more) ∙ ap (λ xs. xs ++ more) (sym parts)))
      (stops early start (input ++ front) more (reads early start input read))

  -- it stops within the front of some bytes
  pub stops_longer : (fault : ScriptError) (piece front rest : List ℕ) (w w' : Traffic)
      (e e1 : Engine L A W N G K) → piece ≡ front ++ rest → Stops layout front w w' e e1 fault
      → Stops layout piece w w' e e1 fault
  stops_longer fault piece front rest w w' e e1 parts stops early start input more read =
      subst (λ xs. IsBegun layout fault early start (input ++ xs) w' e1.out.items e1.table)
      (sym (append_assoc front rest more) ∙ ap (λ xs. xs ++ more) (sym parts))
      (stops early start input (rest ++ more) read)

  -- it has read some bytes, and then others
  pub reads_on : (front more : List ℕ) (w w1 w2 : Traffic) (e e1 e2 : Engine L A W N G K)
      → Reads layout front w w1 e e1 → Reads layout more w1 w2 e1 e2
      → Reads layout (front ++ more) w w2 e e2
  reads_on front more w w1 w2 e e1 e2 one other early start input read =
      subst (λ xs. HasRead layout early start xs w2 e2) (append_assoc input front more)
      (other early start (input ++ front) (one early start input read))

  -- it holds more of a line
  pub reads_held : (w : Traffic) (e e1 : Engine L A W N G K) (bytes : List ℕ) → HasNoFeed bytes
      → ((line : List ℕ) → Holds e.line.items e.too_long line
      → Holds e1.line.items e1.too_long (line ++ bytes))
      → e1.table ≡ e.table → e1.out.items ≡ e.out.items
      → Reads layout bytes w w e e1
  reads_held w e e1 bytes plain holds same_windows same_out early start input read =
      same_state early start (input ++ bytes) w e1 _ _ _ _ same_out same_windows refl refl
      (more_held read e1.line.items e1.too_long bytes plain holds)

  -- it answers the line
  pub reads_feed : (w : Traffic) (e e1 : Engine L A W N G K)
      → Ends layout e.line.items e.too_long e.table e1.table e.out.items
      e1.out.items
      → (e1.line.items ≡ []) × (e1.too_long ≡ false) → Reads layout (line_feed ∷ []) w w e e1
  reads_feed w e e1 ends empty early start input read =
      same_state early start (input ++ line_feed ∷ []) w e1 _ _ _ _ refl refl empty.0 empty.1
      (line_ended read e1.table e1.out.items ends)

  -- its replies have gone out
  pub reads_out : (w w' : Traffic) (e e1 : Engine L A W N G K)
      → (w'.bytes ≡ w.bytes ++ e.out.items) × (e1.out.items ≡ [])
      → e1.table ≡ e.table
      → (e1.line.items ≡ e.line.items) × (e1.too_long ≡ e.too_long) → Reads layout [] w w' e e1
  reads_out w w' e e1 out same_windows same_line early start input read =
      subst (λ xs. HasRead layout early start xs w' e1) (sym (append-nil input))
      (same_state early start input w' e1 _ _ _ _ out.1 same_windows same_line.0 same_line.1
      (went_out read w' out.0))

  -- it holds the end of a line, and answers it
  pub reads_line : (w : Traffic) (e e1 e2 : Engine L A W N G K) (bytes : List ℕ)
      → Reads layout bytes w w e e1
      → Ends layout e1.line.items e1.too_long e1.table e2.table e1.out.items
      e2.out.items
      → (e2.line.items ≡ []) × (e2.too_long ≡ false)
      → Reads layout (bytes ++ line_feed ∷ []) w w e e2
  reads_line w e e1 e2 bytes held ends empty =
      reads_on bytes (line_feed ∷ []) w w w e e1 e2 held (reads_feed w e1 e2 ends empty)

  -- it answers such a line where it stands
  pub reads_in_place : (w : Traffic) (e e1 : Engine L A W N G K) (bytes : List ℕ) → HasNoFeed bytes
      → (e.line.items ≡ []) × (e.too_long ≡ false)
      → Ends layout bytes false e.table e1.table e.out.items e1.out.items
      → (e1.line.items ≡ e.line.items) × (e1.too_long ≡ e.too_long)
      → Reads layout (bytes ++ line_feed ∷ []) w w e e1
  reads_in_place w e e1 bytes plain none ends same early start input read =
      let held =
      more_held read bytes false bytes plain
      (λ line. in_place e.line.items bytes line e.too_long none) in
      subst (λ xs. HasRead layout early start xs w e1) (append_assoc input bytes (line_feed ∷ []))
      (same_state early start ((input ++ bytes) ++ line_feed ∷ []) w e1 _ _ _ _ refl refl
      (same.0 ∙ none.0) (same.1 ∙ none.1) (line_ended held e1.table e1.out.items ends))

  -- or stops there
  pub stops_in_place : (w : Traffic) (e e1 : Engine L A W N G K) (bytes : List ℕ) → HasNoFeed bytes
      → (e.line.items ≡ []) × (e.too_long ≡ false) → MayEnd layout bytes false e.table e1.table
      → e1.out.items ≡ e.out.items → Stops layout (bytes ++ line_feed ∷ []) w w e e1 Alloc
  stops_in_place w e e1 bytes plain none may same_out early start input more read =
      let held =
      more_held read bytes false bytes plain
      (λ line. in_place e.line.items bytes line e.too_long none) in
      subst (λ xs. IsBegun layout Alloc early start xs w e1.out.items e1.table)
      (append_assoc input bytes (line_feed ∷ more)
      ∙ ap (λ xs. input ++ xs) (sym (append_assoc bytes (line_feed ∷ []) more)))
      (subst
      (λ o. IsBegun layout Alloc early start ((input ++ bytes) ++ (line_feed ∷ [] ++ more)) w o
      e1.table)
      (sym same_out) (line_broken held e1.table more may))

  -- and then its replies go out, or a front of them
  pub reads_and_out : (bytes : List ℕ) (w w1 w' : Traffic) (e e1 e2 : Engine L A W N G K)
      → Reads layout bytes w w1 e e1 → (w'.bytes ≡ w1.bytes ++ e1.out.items) × (e2.out.items ≡ [])
      → e2.table ≡ e1.table
      → (e2.line.items ≡ e1.line.items) × (e2.too_long ≡ e1.too_long) → Reads layout bytes w w' e e2
  reads_and_out bytes w w1 w' e e1 e2 reads out same_windows same_line =
      subst (λ xs. Reads layout xs w w' e e2) (append-nil bytes)
      (reads_on bytes [] w w1 w' e e1 e2 reads (reads_out w1 w' e1 e2 out same_windows same_line))

  pub reads_then_stops : (bytes : List ℕ) (w w1 w' : Traffic) (e e1 e2 : Engine L A W N G K)
      → Reads layout bytes w w1 e e1 → TakesFront e1.out.items w1 w' → e2.out.items ≡ []
      → e2.table ≡ e1.table → Stops layout bytes w w' e e2 Write
  reads_then_stops bytes w w1 w' e e1 e2 reads front none same =
      stops_later Write bytes bytes [] w w1 w' e e1 e2 (sym (append-nil bytes)) reads
      (stops_out [] w1 w' e1 e2 front none same)

  -- whatever has come of some bytes, it stops where a write fails then
  pub fed_then_stops : {T : Type 0} (fed : Result T ScriptError) (bytes : List ℕ)
      (w w1 w' : Traffic) (e e1 e2 : Engine L A W N G K) → OnOk fed (Reads layout bytes w w1 e e1)
      → IfErr fed (Stops layout bytes w w1 e e1) → TakesFront e1.out.items w1 w' → e2.out.items ≡ []
      → e2.table ≡ e1.table → Stops layout bytes w w' e e2 Write
  fed_then_stops (Ok done) bytes w w1 w' e e1 e2 reads stops front none same =
      reads_then_stops bytes w w1 w' e e1 e2 reads front none same
  fed_then_stops (Err fault) bytes w w1 w' e e1 e2 reads stops front none same =
      stops_and_front fault bytes w w1 w' e e1 e2 stops front none same

  -- it stops at the end, before it has written more
  pub begun_at_end : (fault : ScriptError) (w : Traffic) (e : Engine L A W N G K)
      (early : ℕ) (start input : List ℕ) → HasRead layout early start input w e
      → IsBegun layout fault early start input w e.out.items e.table
  begun_at_end fault w e early start input read =
      subst (λ xs. IsBegun layout fault early start xs w e.out.items e.table) (append-nil input)
      (still_begun read fault [])

  -- it has read a piece in two parts
  pub reads_whole : (piece front rest : List ℕ) (w w1 w2 : Traffic) (e e1 e2 : Engine L A W N G K)
      → piece ≡ front ++ rest → Reads layout front w w1 e e1 → Reads layout rest w1 w2 e1 e2
      → Reads layout piece w w2 e e2
  reads_whole piece front rest w w1 w2 e e1 e2 parts one other =
      subst (λ xs. Reads layout xs w w2 e e2) (sym parts)
      (reads_on front rest w w1 w2 e e1 e2 one other)

-- a line, its line feed, and what stands behind them
pub line_parts : (line behind rest : List ℕ) → rest ≡ line ++ line_feed ∷ behind
    → rest ≡ (line ++ line_feed ∷ []) ++ behind
line_parts line behind rest cut = cut ∙ sym (append_assoc line (line_feed ∷ []) behind)

pub more_parts : (piece front rest line behind : List ℕ) → piece ≡ front ++ rest
    → rest ≡ line ++ line_feed ∷ behind → piece ≡ (front ++ (line ++ line_feed ∷ [])) ++ behind
more_parts piece front rest line behind parts cut =
    parts ∙ ap (λ xs. front ++ xs) (line_parts line behind rest cut)
    ∙ sym (append_assoc front (line ++ line_feed ∷ []) behind)

-- more than so many are at least so many
pub no_fewer : (some more : ℕ) → some ≤ some + more
no_fewer some more = omega arith

raised : (all early whole last : ℕ) → all ≤ early + last → early ≤ whole → all ≤ whole + last
raised all early whole last enough many = omega (arith, enough, many)

summed : (all first here there : ℕ) → all ≡ first + here → there ≡ here → all ≤ first + there
summed all first here there sum same = omega (arith, sum, same)

-- What was read and what was written go together, where so many first replies were taken: at least
-- one for each line that had ended before the reader's last call.
pub exchange_begun : {layout : ScriptLayout} {early : ℕ} (fault : ScriptError)
    (r r' w w' : Traffic) (state : ByteState) (input : List ℕ) → r'.bytes ≡ r.bytes ++ input
    → IsBegun layout fault early w.bytes input w' [] state → feeds input ≤ early + feeds r'.last
    → Exchanges (IsBrokenOff layout fault r'.last state) r r' w w'
exchange_begun {early = early} fault r r' w w' state input given b enough = record {
  input = input;
  text = b.text;
  given = given;
  taken = b.taken;
  fit = record {
    lines = b.lines;
    left = b.left;
    whole = b.whole;
    others = b.others;
    part = b.part;
    cut = b.cut;
    run = b.run;
    written = sym (append-nil b.text) ∙ b.written;
    lacks = b.lacks;
    early = raised (feeds input) early (length b.whole) (feeds r'.last) enough
        (stand_many b.settled);
  };
}

-- lines end in what was read before, or in the last call
ends_in : (input bytes last : List ℕ) → last ≡ bytes
    → feeds (input ++ bytes) ≤ feeds input + feeds last
ends_in input bytes last is =
    summed (feeds (input ++ bytes)) (feeds input) (feeds bytes) (feeds last)
    (feeds-append input bytes) (ap (λ (xs : List ℕ). feeds xs) is)

-- where a write failed, what is held then is lacking too
unwritten : {layout : ScriptLayout} {early : ℕ} (start input : List ℕ) (w : Traffic)
    (out : List ℕ) (state : ByteState) → IsBegun layout Write early start input w out state
    → IsBegun layout Write early start input w [] state
unwritten start input w out state b = begun_cut b w [] out refl (sym (append-nil w.bytes))

module _ {layout : ScriptLayout} {L A W : Type 0} {N : Named.Ghosts L W}
    {G : Layout.Ghosts L W} {K : Layout.Ghosts W W} where
  -- a run that stops without reading more
  pub run_stops_now : (fault : ScriptError) (r r1 r2 w w1 : Traffic) (e : Engine L A W N G K)
      → IsRunning layout r r1 w w1 e → r2.bytes ≡ r1.bytes
      → Exchanges (IsBrokenOff layout fault r2.last e.table) r r2 w w1
  run_stops_now fault r r1 r2 w w1 e run same =
      exchange_begun fault r r2 w w1 e.table run.input (same ∙ run.given)
      (subst (λ o. IsBegun layout fault (feeds run.input) w.bytes run.input w1 o e.table)
      run.none_held (begun_at_end fault w1 e (feeds run.input) w.bytes run.input run.read))
      (no_fewer (feeds run.input) (feeds r2.last))

  -- then each whole line is answered
  pub run_answered : (r r1 r2 w w1 : Traffic) (e : Engine L A W N G K)
      → IsRunning layout r r1 w w1 e
      → r2.bytes ≡ r1.bytes → Exchanges (OfWholeLines (IsThrough layout e.table)) r r2 w w1
  run_answered r r1 r2 w w1 e run same = record {
    input = run.input;
    text = run.read.text;
    given = same ∙ run.given;
    taken = run.read.taken;
    fit = whole_answered run.read run.none_held;
  }

  -- a run that stops within the bytes that it has read
  pub run_stops : (fault : ScriptError) (r r1 r2 w w1 w2 : Traffic) (e e1 : Engine L A W N G K)
      (bytes : List ℕ) → IsRunning layout r r1 w w1 e → r2.bytes ≡ r1.bytes ++ bytes
      → r2.last ≡ bytes → Stops layout bytes w1 w2 e e1 fault → e1.out.items ≡ []
      → Exchanges (IsBrokenOff layout fault r2.last e1.table) r r2 w w2
  run_stops fault r r1 r2 w w1 w2 e e1 bytes run more last stops none =
      let early = feeds run.input in
      exchange_begun fault r r2 w w2 e1.table (run.input ++ bytes)
      (more ∙ ap (λ xs. xs ++ bytes) run.given ∙ append_assoc r.bytes run.input bytes)
      (subst (λ o. IsBegun layout fault early w.bytes (run.input ++ bytes) w2 o e1.table) none
      (subst (λ xs. IsBegun layout fault early w.bytes (run.input ++ xs) w2 e1.out.items e1.table)
      (append-nil bytes) (stops early w.bytes run.input [] run.read)))
      (ends_in run.input bytes r2.last last)

  -- a run that stops there because a write failed, whatever is held
  pub run_stops_writing : (r r1 r2 w w1 w2 : Traffic) (e e1 : Engine L A W N G K)
      (bytes : List ℕ) (fault : ScriptError) → IsRunning layout r r1 w w1 e
      → r2.bytes ≡ r1.bytes ++ bytes → r2.last ≡ bytes → fault ≡ Write
      → Stops layout bytes w1 w2 e e1 fault
      → Exchanges (IsBrokenOff layout Write r2.last e1.table) r r2 w w2
  run_stops_writing r r1 r2 w w1 w2 e e1 bytes fault run more last is stops =
      let early = feeds run.input in
      let lost = subst (Stops layout bytes w1 w2 e e1) is stops in
      exchange_begun Write r r2 w w2 e1.table (run.input ++ bytes)
      (more ∙ ap (λ xs. xs ++ bytes) run.given ∙ append_assoc r.bytes run.input bytes)
      (unwritten w.bytes (run.input ++ bytes) w2 e1.out.items e1.table
      (subst (λ xs. IsBegun layout Write early w.bytes (run.input ++ xs) w2 e1.out.items e1.table)
      (append-nil bytes) (lost early w.bytes run.input [] run.read)))
      (ends_in run.input bytes r2.last last)

  -- a run that goes on
  pub run_goes_on : (r r1 r2 w w1 w2 : Traffic) (e e1 : Engine L A W N G K) (bytes : List ℕ)
      → IsRunning layout r r1 w w1 e → r2.bytes ≡ r1.bytes ++ bytes → r2.failures ≡ r1.failures
      → NoFault w1 w2 → Reads layout bytes w1 w2 e e1 → e1.out.items ≡ []
      → IsRunning layout r r2 w w2 e1
  run_goes_on r r1 r2 w w1 w2 e e1 bytes run more failures clean reads none = record {
    input = run.input ++ bytes;
    given = more ∙ ap (λ xs. xs ++ bytes) run.given ∙ append_assoc r.bytes run.input bytes;
    read = all_settled (reads (feeds run.input) w.bytes run.input run.read) none;
    none_held = none;
    failures = failures ∙ run.failures;
    clean = (clean.0 ∙ run.clean.0, clean.1 ∙ run.clean.1);
  }

  -- a run begins with an engine that has read nothing
  pub run_begins : (r w : Traffic) (e : Engine L A W N G K) → e.table ≡ empty_state
      → (e.line.items ≡ []) × (e.too_long ≡ false) → e.out.items ≡ [] → IsRunning layout r r w w e
  run_begins r w e none_made none_held none_out = record {
    input = [];
    given = sym (append-nil r.bytes);
    read =
        same_state (feeds []) w.bytes [] w e [] [] e.table false none_out refl none_held.0
        none_held.1 (nothing_read w e.table none_made);
    none_held = none_out;
    failures = refl;
    clean = (refl, refl);
  }

  -- whatever has come of the last line, a write fails then
  pub rest_then_stops : {T F : Type 0} (rest : Result T F) (early : ℕ) (start input : List ℕ)
      (w w' : Traffic) (e e1 : Engine L A W N G K)
      → OnOk rest ((early : ℕ) (start input : List ℕ) (w : Traffic)
      → HasRead layout early start input w e
      → IsAnswered layout early start input w e1.out.items e1.table)
      → OnErr rest ((early : ℕ) (start input : List ℕ) (w : Traffic)
      → HasRead layout early start input w e
      → IsBegun layout Alloc early start input w e1.out.items e1.table)
      → HasRead layout early start input w e → TakesFront e1.out.items w w'
      → IsBegun layout Write early start input w' [] e1.table
  rest_then_stops (Ok done) early start input w w' e e1 answered begun read front =
      begun_front (answered_begun Write (answered early start input w read)) w' front
  rest_then_stops (Err fault) early start input w w' e e1 answered begun read front =
      begun_front (begun early start input w read) w' front

-- nothing was read and nothing written
pub nothing_exchanged : (layout : ScriptLayout) (fault : ScriptError) (r w : Traffic)
    (state : ByteState)
    → state ≡ empty_state → Exchanges (IsBrokenOff layout fault r.last state) r r w w
nothing_exchanged layout fault r w state empty =
    exchange_begun fault r r w w state [] (sym (append-nil r.bytes))
    (begun_nothing fault w state empty) (no_fewer 0 (feeds r.last))

-- a run that has answered all
pub exchange_answered : {layout : ScriptLayout} {early : ℕ} (r r' w w' : Traffic)
    (state : ByteState) (input : List ℕ)
    → r'.bytes ≡ r.bytes ++ input → IsAnswered layout early w.bytes input w' [] state
    → Exchanges (IsThrough layout state) r r' w w'
exchange_answered r r' w w' state input given a =
    record { input = input; text = a.text; given = given; taken = a.taken; fit = a.all }

-- what follows from what holds at an end
pub on_ok_then : {T E P Q : Type 0} (r : Result T E) → OnOk r P → (P → Q) → OnOk r Q
on_ok_then (Ok x) p f = f p
on_ok_then (Err e) p f = tt

pub on_err_then : {T E P Q : Type 0} (r : Result T E) → OnErr r P → (P → Q) → OnErr r Q
on_err_then (Ok x) p f = tt
on_err_then (Err e) p f = f p

-- what holds of the fault that is answered
pub if_err_is : {T E : Type 0} (P : E → Type 0) (r : Result T E) (e : E)
    → IsErrAnd r (λ x. x ≡ e) → P e → IfErr r P
if_err_is P (Ok x) e is p = tt
if_err_is P (Err x) e is p = subst P (sym is) p

pub if_err_as : {T E : Type 0} (P : E → Type 0) (r : Result T E) (e other : E)
    → IsErrAnd r (λ x. x ≡ e) → e ≡ other → P other → IfErr r P
if_err_as P r e other is same p = if_err_is P r e is (subst P (sym same) p)

pub if_err_then : {T E : Type 0} {P Q : E → Type 0} (r : Result T E) → IfErr r P
    → ((e : E) → P e → Q e) → IfErr r Q
if_err_then (Ok x) p f = tt
if_err_then (Err e) p f = f e p

-- the engine doesn't stop because a read failed
pub why_no_read : {P : Type 0} (w w' : Traffic) (e : ScriptError) → IsWhy w w' e → e ≡ Read → P
why_no_read w w' Read why is = absurd why
why_no_read w w' Write why is = absurd cc
why_no_read w w' Alloc why is = absurd cc

-- why the engine stopped is the cause of the run's fault
pub why_is_cause : (r r' w w1 w2 : Traffic) → r'.failures ≡ r.failures → NoFault w w1
    → (e : ScriptError) → IsWhy w1 w2 e → IsCause r r' w w2 e
why_is_cause r r' w w1 w2 same clean Read why = absurd why
why_is_cause r r' w w1 w2 same clean Write why = (same, omega (arith, why, clean.0, clean.1))
why_is_cause r r' w w1 w2 same clean Alloc why = (same, (why.0 ∙ clean.0, why.1 ∙ clean.1))
