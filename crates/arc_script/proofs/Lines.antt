-- Each line has an answer, and each list of lines a run.
use Rattle.std.proofs.Common.{◌≡◌, ◌≢◌, ℕ, Bool, not, eqb, true, List, [], ◌∷◌, ◌++◌, Option, Some}
use Rattle.std.proofs.Common.{None, false, refl, sym, ap, ◌∙◌, append_assoc, arith}
use Rattle.std.specs.Prelude.{map, if◌then◌else◌}
use Rattle.std.specs.Option.{option_map_or}
use Rattle.std.specs.List.{list_all, AllByRecursion}
use Rattle.std.proofs.lemmas.Bool.{eqb-false, not-true}
use Rattle.std.proofs.lemmas.List.{map-append}
use Rattle.std.proofs.lemmas.List.Concat.{flat_map-append}
use Rattle.std.proofs.lemmas.List.Elements.{All-contains, recursion_from_All}
use Rattle.arc_block.specs.Table.{Row, empty_table, row_at}
use Rattle.arc_forms.specs.Commands.{ByteCmd, ByteReply}
use Rattle.arc_commands.specs.RunOf.{RunOf}
use Rattle.arc_commands.specs.Changes.{Setting, is_now, no_shortage}
use Rattle.arc_commands.specs.Step.{answer, answer_any, answer_row, around_of, changed}
use Rattle.arc_commands.specs.Step.{count_brought, is_allowed}
use Rattle.arc_commands.specs.declared.command.Cmd.TheVariants.{Show}
use Rattle.arc_commands.specs.declared.command.Reply.TheVariants as reply
use Rattle.arc_forms.specs.Text.{line_feed, answer_text}
use Rattle.arc_script.specs.declared.layout.ScriptLayout.{ScriptLayout}
use Rattle.arc_script.specs.declared.script.ScriptError.{ScriptError}
use Rattle.arc_script.specs.declared.script.ScriptError.TheVariants.{Read, Write, Alloc}
use Rattle.arc_script.specs.Script.{ended, HasNoFeed, AreLines, script_setting, ByteTable, Answers}
use Rattle.arc_script.specs.Script.{BeginsReplyText, FitsNeed, MayLack}
use Rattle.arc_forms.proofs.Forms.{reading, reading_says, unread_is_none}
use Rattle.arc_commands.proofs.Answers.{answer_step}
use Rattle.arc_commands.proofs.Runs.{run_append}
use Rattle.arc_forms.proofs.Words.{all_by}

-- ---- each line, and each list of lines

-- these are no refusals of memory
of_items : (answer : ByteReply) (items : List ℕ) → answer ≡ reply.Items items → answer ≢ reply.Alloc
of_items answer items e is = cc

of_kind : (answer : ByteReply) → answer ≡ reply.Kind → answer ≢ reply.Alloc
of_kind answer e is = cc

of_none : (answer : ByteReply) → answer ≡ reply.NoWindow → answer ≢ reply.Alloc
of_none answer e is = cc

-- Where nothing is short, no memory is refused to a command that asks for none.
module _ (s : Setting ℕ) (t : ByteTable) (i : ℕ) where
  shown : (row : Row ℕ ℕ) (allowed : Bool)
      → (if allowed then answer_row s no_shortage (around_of 0 t row) (Show i) row else
      is_now reply.Kind row).reply ≢ reply.Alloc
  shown row true is = of_items _ row.items refl is
  shown row false is = of_kind _ refl is

  shown_at : (found : Option (Row ℕ ℕ))
      → (option_map_or (λ row. changed t i (answer_any s no_shortage (around_of 0 t row) (Show i)
      row)) found (reply.NoWindow, t)).0 ≢ reply.Alloc
  shown_at None is = of_none _ refl is
  shown_at (Some row) is = shown row (is_allowed {T = ℕ} {M = ℕ} s.calls (Show i) row.role) is

asks : false ≡ true → ⊥
asks e = cc

fits_need : (s : Setting ℕ) (old : ByteTable) (c : ByteCmd)
    → FitsNeed c (answer s no_shortage (count_brought c) old c).0
fits_need s old (Show i) only_lends is = shown_at s old i (row_at old i) is
fits_need s old c only_lends is = absurd (asks only_lends)

module _ (layout : ScriptLayout) where
  -- what a line is answered where nothing is short, by what it says
  abbrev pub answered : ByteTable → Option (ByteCmd) → Option ByteReply × ByteTable
  answered old None = (None, old)
  answered old (Some c) = (
    Some (answer (script_setting layout) no_shortage (count_brought c) old c).0,
    (answer (script_setting layout) no_shortage (count_brought c) old c).1,
  )

  answered_is : (old : ByteTable) (line : List ℕ) (said : Option (ByteCmd)) → reading line ≡ said
      → Answers layout old line (answered old said).0 (answered old said).1
  answered_is old line None e = (unread_is_none line e, refl)
  answered_is old line (Some c) e = (
    c,
    reading_says line c e,
    answer_step (script_setting layout) (count_brought c) old c
        (omega arith),
    fits_need (script_setting layout) old c,
  )

  pub line_answered : (old : ByteTable) (line : List ℕ)
      → Answers layout old line (answered old (reading line)).0 (answered old (reading line)).1
  line_answered old line = answered_is old line (reading line) refl

  pub answers_exist : (old : ByteTable) (line : List ℕ) → (a : Option ByteReply) × (new : ByteTable)
      × Answers layout old line a new
  answers_exist old line =
      ((answered old (reading line)).0, (answered old (reading line)).1, line_answered old line)

  -- the replies to lines where nothing is short, and the table after them
  abbrev pub script : ByteTable → List (List ℕ) → List (Option ByteReply) × ByteTable
  script old [] = ([], old)
  script old (line ∷ lines) =
      let first = answered old (reading line) in
      let rest = script first.1 lines in
      (first.0 ∷ rest.0, rest.1)

  pub script_runs : (old : ByteTable) (lines : List (List ℕ)) → RunOf (Answers layout) old lines
      (script old lines).0 (script old lines).1
  script_runs old [] = refl
  script_runs old (line ∷ lines) =
      (_, line_answered old line, script_runs (answered old (reading line)).1 lines)

  pub run_exists : (old : ByteTable) (lines : List (List ℕ)) → (replies : List (Option ByteReply))
      × (new : ByteTable) × RunOf (Answers layout) old lines replies new
  run_exists old lines = ((script old lines).0, (script old lines).1, script_runs old lines)

-- ---- no line feed

abbrev pub is_line : List ℕ → Bool
is_line line = list_all (λ byte. not (eqb byte line_feed)) line

pub no_feed : (line : List ℕ) → is_line line ≡ true → HasNoFeed line
no_feed line pass has = All-contains (λ byte. byte ≢ line_feed) line line_feed
    (all_by (λ byte. not (eqb byte line_feed)) (λ byte. byte ≢ line_feed)
    (λ byte e. eqb-false _ _ (not-true _ e)) line pass) has refl

pub no_feeds : (lines : List (List ℕ)) → list_all is_line lines ≡ true
    → AllByRecursion HasNoFeed lines
no_feeds lines pass =
    recursion_from_All HasNoFeed lines (all_by is_line HasNoFeed no_feed lines pass)

-- ---- a text that goes on

pub ended_append : (xs ys : List (Option ByteReply)) → ended (map answer_text (xs ++ ys)) ≡ ended
    (map answer_text xs) ++ ended (map answer_text ys)
ended_append xs ys = ap ended (map-append answer_text xs ys)
    ∙ flat_map-append (λ (line : List ℕ). line ++ line_feed ∷ []) (map answer_text xs)
    (map answer_text ys)

-- whatever a fault lacks, behind the part that is written of them the others would be whole
pub lacks_rest : (fault : ScriptError) (others : List (Option ByteReply)) (part : List ℕ)
    → MayLack fault others part
    → (rest : List ℕ) × (part ++ rest ≡ ended (map answer_text others))
lacks_rest Read others part lacks =
    (ended (map answer_text others), ap (λ xs. xs ++ ended (map answer_text others)) lacks.1)
lacks_rest Alloc others part lacks =
    (ended (map answer_text others), ap (λ xs. xs ++ ended (map answer_text others)) lacks.1)
lacks_rest Write others part lacks = lacks

-- so it would be behind a text of whole replies and that part
pub all_would_be : (text part rest : List ℕ) (whole others : List (Option ByteReply))
    → text ≡ ended (map answer_text whole) ++ part → part ++ rest ≡ ended (map answer_text others)
    → text ++ rest ≡ ended (map answer_text (whole ++ others))
all_would_be text part rest whole others written more =
    ap (λ xs. xs ++ rest) written ∙ append_assoc (ended (map answer_text whole)) part rest
    ∙ ap (λ xs. ended (map answer_text whole) ++ xs) more ∙ sym (ended_append whole others)

-- What is written before the replies to some first lines are all written begins what is written for
-- the input.
pub begins : (layout : ScriptLayout) (input text more : List ℕ) (lines rest : List (List ℕ))
    (replies : List (Option ByteReply)) (mid : ByteTable)
    → AreLines input (lines ++ rest) → RunOf (Answers layout) empty_table lines replies mid
    → text ++ more ≡ ended (map answer_text replies) → BeginsReplyText layout input text
begins layout input text more lines rest replies mid cut run written =
    let others = (script layout mid rest).0 in
    let all = replies ++ others in
    record {
      rest = more ++ ended (map answer_text others);
      whole = record {
        lines = lines ++ rest;
        replies = all;
        after = (script layout mid rest).1;
        cut = cut;
        run = run_append (Answers layout) empty_table lines replies mid rest others
            (script layout mid rest).1 run (script_runs layout mid rest);
        written = sym (append_assoc text more (ended (map answer_text others)))
            ∙ ap (λ (front : List ℕ). front ++ ended (map answer_text others)) written
            ∙ sym (ended_append replies others);
      };
    }
