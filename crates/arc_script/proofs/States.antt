-- What commands do to the windows as a whole, and what of it the table and the texts see.
use Rattle.std.proofs.Common.{◌≡◌, ◌≢◌, ℕ, Bool, List, ◌++◌, Option, Some, None}
use Rattle.std.proofs.Common.{true, false, refl, ap, sym, ◌∙◌, subst, inr}
use Rattle.std.proofs.lemmas.List.{append-nil}
use Rattle.std.specs.Option.{option_map}
use Rattle.arc_commands.specs.Changes.{Setting, no_shortage, of_table}
use Rattle.arc_commands.specs.Step.{shortage}
use Rattle.arc_commands.specs.RunOf.{RunOf}
use Rattle.arc_script.specs.declared.layout.ScriptLayout.{ScriptLayout}
use Rattle.arc_script.specs.Script.{AreLines, Answers, IsReplyText, BeginsReplyText}
use Rattle.arc_script.specs.Script.{BreaksOff, FitsNeed, OfWholeLines, ended, lends}
use Rattle.arc_script.specs.Script.{script_setting}
use Rattle.arc_forms.specs.Seen.{IsReadAs}
use Rattle.arc_forms.specs.Seen.{line_command}
use Rattle.arc_commands.specs.State.{CarriesOut, empty_state}
use Rattle.arc_commands.specs.declared.command.Cmd.TheVariants.{Show}
use Rattle.arc_commands.specs.declared.command.Reply.TheVariants as reply
use Rattle.arc_script.specs.State.{ByteState}
use Rattle.arc_script.specs.State.{CarriesOutSaid, AnswersLine}
use Rattle.arc_script.specs.Traffic.{Traffic, Exchanges}
use Rattle.arc_script.specs.Underway.{IsThrough, IsBrokenOff, Holds, Ends, MayEnd, AnswersInto}
use Rattle.arc_forms.specs.Commands.{LineCmd}
use Rattle.arc_forms.specs.Commands.{ByteCmd, ByteReply}
use Rattle.arc_script.specs.declared.script.ScriptError.{ScriptError}
use Rattle.arc_script.proofs.Lines.{all_would_be, begins, lacks_rest}
use Rattle.arc_commands.proofs.Runs.{run_seen}

-- a line that was read is answered
pub line_carried_out : (layout : ScriptLayout) {C A : Type 0} (old : ByteState)
    (said : Option (LineCmd C A))
    (answer : Option ByteReply) (new : ByteState)
    → CarriesOutSaid layout old (option_map line_command said) answer new
    → (line : List ℕ) → IsReadAs line said → AnswersLine layout old line answer new
line_carried_out layout old None None new same line bad = (bad, same)
line_carried_out layout old (Some c) (Some answer) new does line says =
    (line_command c, says, does.0, does.1)
line_carried_out layout old None (Some answer) new does line read = absurd does
line_carried_out layout old (Some c) None new does line read = absurd does

-- so the line that was held is answered, whichever it was
pub line_ends : (layout : ScriptLayout) {C A : Type 0} (held : List ℕ) (too_long : Bool)
    (old new : ByteState)
    (said : Option (LineCmd C A)) (out out' : List ℕ)
    → ((line : List ℕ) → Holds held too_long line → IsReadAs line said)
    → AnswersInto layout (option_map line_command said) old new out out'
    → Ends layout held too_long old new out out'
line_ends layout held too_long old new said out out' read into = record {
  answer = into.answer;
  answered = λ line holds.
      line_carried_out layout old said into.answer new into.does line (read line holds);
  appended = into.appended;
}

-- or it is answered, but not in out
pub line_may_end : (layout : ScriptLayout) {C A : Type 0} (held : List ℕ) (too_long : Bool)
    (old new : ByteState)
    (said : Option (LineCmd C A))
    → ((line : List ℕ) → Holds held too_long line → IsReadAs line said)
    → (answer : Option ByteReply)
    × CarriesOutSaid layout old (option_map line_command said) answer new
    → MayEnd layout held too_long old new
line_may_end layout held too_long old new said read does = inr (
  does.0,
  λ line holds. line_carried_out layout old said does.0 new does.1 line (read line holds),
)

-- the tables answer it so, too
table_answers : (layout : ScriptLayout) (old : ByteState) (line : List ℕ)
    (answer : Option ByteReply) (new : ByteState)
    → AnswersLine layout old line answer new → Answers layout old.table line answer new.table
table_answers layout old line (Some answer) new does = (does.0, does.1, does.2.rows, does.3)
table_answers layout old line None new bad = (bad.0, ap (λ (s : ByteState). s.table) bad.1)

table_run : (layout : ScriptLayout) (old : ByteState) (lines : List (List ℕ))
    (replies : List (Option ByteReply))
    (new : ByteState) → RunOf (AnswersLine layout) old lines replies new
    → RunOf (Answers layout) old.table lines replies new.table
table_run layout = run_seen (AnswersLine layout) (Answers layout) (λ (s : ByteState). s.table)
    (table_answers layout)

-- what a run that went through has written is a reply text
pub through_text : {layout : ScriptLayout} (state : ByteState) (input text : List ℕ)
    → IsThrough layout state input text → IsReplyText layout input text
through_text {layout} state input text h = record {
  lines = h.lines;
  replies = h.replies;
  after = state.table;
  cut = h.cut;
  run = table_run layout empty_state h.lines h.replies state h.run;
  written = sym (append-nil text) ∙ h.written;
}

-- and of one that was broken off, a beginning of one
pub broken_text : {layout : ScriptLayout} (fault : ScriptError) (last : List ℕ) (state : ByteState)
    (input text : List ℕ)
    → IsBrokenOff layout fault last state input text → BeginsReplyText layout input text
broken_text {layout} fault last state input text h =
    let more = lacks_rest fault h.others h.part h.lacks in
    begins layout input text more.0 h.lines h.left (h.whole ++ h.others) state.table h.cut
    (table_run layout empty_state h.lines (h.whole ++ h.others) state h.run)
    (all_would_be text h.part more.0 h.whole h.others h.written more.1)

-- it is the replies to some first lines, but for what the fault may have left unwritten
pub breaks_text : (layout : ScriptLayout) (fault : ScriptError) (last : List ℕ)
    (state : ByteState) (input text : List ℕ)
    → IsBrokenOff layout fault last state input text → BreaksOff layout fault last input text
breaks_text layout fault last state input text h = (
  state.table,
  record {
    lines = h.lines;
    left = h.left;
    whole = h.whole;
    others = h.others;
    part = h.part;
    cut = h.cut;
    run = table_run layout empty_state h.lines (h.whole ++ h.others) state h.run;
    written = h.written;
    lacks = h.lacks;
    early = h.early;
  },
)

-- what goes together, goes together in another way
pub exchange_as : (P Q : List ℕ → List ℕ → Type 0) (r r' w w' : Traffic)
    → ((input text : List ℕ) → P input text → Q input text)
    → Exchanges P r r' w w' → Exchanges Q r r' w w'
exchange_as P Q r r' w w' fit e = record {
  input = e.input;
  text = e.text;
  given = e.given;
  taken = e.taken;
  fit = fit e.input e.text e.fit;
}

-- and so with the whole lines of an input
pub exchange_whole_as : (P Q : List ℕ → List ℕ → Type 0) (r r' w w' : Traffic)
    → ((input text : List ℕ) → P input text → Q input text)
    → Exchanges (OfWholeLines P) r r' w w' → Exchanges (OfWholeLines Q) r r' w w'
exchange_whole_as P Q r r' w w' fit = exchange_as (OfWholeLines P) (OfWholeLines Q) r r' w w'
    (λ input text h. record {
      whole = h.whole;
      rest = h.rest;
      cut = h.cut;
      last = h.last;
      fit = fit (ended h.whole) text h.fit;
    })

-- what may ask for memory may be refused it
pub may_need : (c : ByteCmd) (answer : ByteReply) → lends c ≡ false → FitsNeed c answer
may_need c answer asks only_lends = absurd (both (sym asks ∙ only_lends))
  where
    both : false ≡ true → ⊥
    both e = cc

-- a command in memory that isn't a show may ask for memory
pub not_lends : {C A : Type 0} (c : LineCmd C A) → ((window : ℕ) → c ≡ Show window → ⊥)
    → lends (line_command c) ≡ false
not_lends (Show i) other = absurd (other i refl)
not_lends c other = refl

-- an answer that tells of no want of memory is no refusal
not_refused : (i : ℕ) (answer : ByteReply) → shortage answer (Show i) ≡ no_shortage
    → answer ≢ reply.Alloc
not_refused i answer none is =
    asked (subst (λ answer. shortage answer (Show i) ≡ no_shortage) is none)
  where
    asked : of_table ≡ no_shortage → ⊥
    asked e = cc

-- what was shown in place is what a line said that was read as this
module _ {C A : Type 0} (layout : ScriptLayout) {s : Setting ℕ} {table : ByteState}
    {answer : ByteReply} {said : Option (LineCmd C A)} {window i : ℕ} where
  pub shown_said : s ≡ script_setting layout → said ≡ Some (Show i) → window ≡ i
      → CarriesOut s table (Show window) answer table
      → shortage answer (Show window) ≡ no_shortage
      → CarriesOutSaid layout table (option_map line_command said) (Some answer) table
  shown_said is says its does lent =
      subst (λ said. CarriesOutSaid layout table (option_map line_command said) (Some answer) table)
      (sym says) (
        subst (λ i. CarriesOut (script_setting layout) table (Show i) answer table) its
            (subst (λ s. CarriesOut s table (Show window) answer table) is does),
        (λ lends. not_refused window answer lent),
      )
