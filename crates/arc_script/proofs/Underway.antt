-- How a script that is being run goes on.
use Rattle.std.proofs.Common.{◌≡◌, ◌≤◌, ℕ, suc, Bool, true, false, List, [], ◌∷◌, ◌++◌, map, Option}
use Rattle.std.proofs.Common.{length, refl, sym, ap, ◌∙◌, subst, append_assoc, arith, inl, inr}
use Rattle.std.proofs.lemmas.List.{append_cancel_left, append-nil, length-append, map-append}
use Rattle.std.proofs.lemmas.Grind.{flat_map-append}
use Rattle.std.specs.List.{AllByRecursion}
use Rattle.arc_block.specs.Table.{empty_table}
use Rattle.arc_commands.specs.RunOf.{RunOf}
use Rattle.arc_commands.specs.State.{empty_state}
use Rattle.arc_script.specs.declared.layout.ScriptLayout.{ScriptLayout}
use Rattle.arc_script.specs.State.{AnswersLine, ByteState}
use Rattle.arc_forms.specs.Text.{line_feed, answer_text}
use Rattle.arc_script.specs.Script.{HasNoFeed, AreLines, ended, feeds, last_line, IsReplyText}
use Rattle.arc_script.specs.Script.{OfWholeLines, MayLack}
use Rattle.arc_script.specs.Traffic.{Traffic, TakesFront}
use Rattle.arc_script.specs.Underway.{AnswersHeld, Holds, IsUnderway, IsAnswered}
use Rattle.arc_script.specs.Underway.{IsBegun, IsThrough, Ends, MayEnd, StandFirst}
use Rattle.arc_script.specs.declared.script.ScriptError.{ScriptError}
use Rattle.arc_script.specs.declared.script.ScriptError.TheVariants.{Read, Write, Alloc}
use Rattle.arc_forms.specs.Commands.{ByteReply}
use Rattle.arc_commands.proofs.Runs.{run_push}
use Rattle.arc_script.proofs.Lines.{ended_append as texts_append, lacks_rest, run_exists}
use Rattle.arc_script.proofs.Splits.{split_exists, empty_has_no_feed, no_feed-append, all-append}
use Rattle.arc_script.proofs.Splits.{feeds_cut}

-- lines with their line feeds, joined
ended-append : (xs ys : List (List ℕ)) → ended (xs ++ ys) ≡ ended xs ++ ended ys
ended-append = flat_map-append (λ line. line ++ line_feed ∷ [])

-- the texts of one answer more stand behind those so far
texts-push : (xs : List (Option ByteReply)) (x : Option ByteReply)
    → ended (map answer_text (xs ++ x ∷ []))
    ≡ ended (map answer_text xs) ++ (answer_text x ++ line_feed ∷ [])
texts-push xs x =
    ap ended (map-append answer_text xs (x ∷ []))
    ∙ ended-append (map answer_text xs) (answer_text x ∷ [])
    ∙ ap (λ zs. ended (map answer_text xs) ++ zs) (append-nil (answer_text x ++ line_feed ∷ []))

-- one line more
ended-push : (xs : List (List ℕ)) (x : List ℕ)
    → ended (xs ++ x ∷ []) ≡ ended xs ++ (x ++ line_feed ∷ [])
ended-push xs x =
    ended-append xs (x ∷ []) ∙ ap (λ zs. ended xs ++ zs) (append-nil (x ++ line_feed ∷ []))

-- whatever stands behind whole lines, they are the first ones
cut_behind : (whole : List (List ℕ)) (line more input : List ℕ) → AllByRecursion HasNoFeed whole
    → input ≡ ended whole ++ line
    → (left : List (List ℕ)) × AreLines (input ++ more) (whole ++ left)
cut_behind whole line more input each cut =
    let s = split_exists (line ++ more) in (
      s.whole ++ last_line s.rest,
      record {
        whole = whole ++ s.whole;
        rest = s.rest;
        cut =
            ap (λ xs. xs ++ more) cut ∙ append_assoc (ended whole) line more
            ∙ ap (λ xs. ended whole ++ xs) s.cut
            ∙ sym (append_assoc (ended whole) (ended s.whole) s.rest)
            ∙ ap (λ xs. xs ++ s.rest) (sym (ended-append whole s.whole));
        each = all-append HasNoFeed whole s.whole each s.each;
        last = s.last;
        are = sym (append_assoc whole s.whole (last_line s.rest));
      },
    )

-- an input that ends with a line feed has whole lines alone
whole_lines : (whole : List (List ℕ)) (input : List ℕ) → AllByRecursion HasNoFeed whole
    → input ≡ ended whole ++ [] → AreLines input whole
whole_lines whole input each cut = record {
  whole = whole;
  rest = [];
  cut = cut;
  each = each;
  last = empty_has_no_feed;
  are = sym (append-nil whole);
}

-- a line of which something is held isn't empty
held_is_line : (held line : List ℕ) (too_long : Bool) → (held ≡ [] → too_long ≡ false → ⊥)
    → Holds held too_long line → last_line line ≡ line ∷ []
held_is_line held [] false some holds = absurd (some holds refl)
held_is_line held [] true some holds = absurd (omega arith)
held_is_line held (byte ∷ bytes) too_long some holds = refl

-- a fault need lack nothing
none_lacks : (fault : ScriptError) → MayLack fault [] []
none_lacks Read = (refl, refl)
none_lacks Write = ([], refl)
none_lacks Alloc = (omega arith, refl)

-- as many steps as answers
run_length : {S A B : Type 0} (step : S → A → B → S → Type 0) (old : S) (xs : List A) (us : List B)
    (new : S) → RunOf step old xs us new → length xs ≡ length us
run_length step old [] [] new run = refl
run_length step old (x ∷ xs) (u ∷ us) new run =
    ap (λ n. suc n) (run_length step run.0 xs us new run.2)
run_length step old [] (u ∷ us) new run = absurd run
run_length step old (x ∷ xs) [] new run = absurd run

-- what stands first
module _ {early : ℕ} {replies : List (Option ByteReply)} {text : List ℕ}
    (s : StandFirst early replies text) where
  -- also does where more is written
  stand_longer : (more : List ℕ) → StandFirst early replies (text ++ more)
  stand_longer more = record {
    first = s.first;
    others = s.others;
    part = s.part ++ more;
    parts = s.parts;
    many = s.many;
    front =
        ap (λ xs. xs ++ more) s.front
        ∙ append_assoc (ended (map answer_text s.first)) s.part more;
  }

  -- or where there is a reply more
  stand_more : (answer : Option ByteReply) → StandFirst early (replies ++ answer ∷ []) text
  stand_more answer = record {
    first = s.first;
    others = s.others ++ answer ∷ [];
    part = s.part;
    parts =
        ap (λ xs. xs ++ answer ∷ []) s.parts ∙ append_assoc s.first s.others (answer ∷ []);
    many = s.many;
    front = s.front;
  }

  -- alone
  stand_alone : StandFirst early s.first text
  stand_alone = record {
    first = s.first;
    others = [];
    part = s.part;
    parts = sym (append-nil s.first);
    many = s.many;
    front = s.front;
  }

  -- so many replies there are
  pub stand_many : early ≤ length replies
  stand_many =
      omega (
        arith,
        s.many,
        ap (λ (xs : List (Option ByteReply)). length xs) s.parts,
        length-append s.first s.others,
      )

-- all stand where all are written
stand_all : (replies : List (Option ByteReply)) (text : List ℕ) (early : ℕ)
    → early ≡ length replies → text ≡ ended (map answer_text replies)
    → StandFirst early replies text
stand_all replies text early many written = record {
  first = replies;
  others = [];
  part = [];
  parts = sym (append-nil replies);
  many = omega (arith, many);
  front = written ∙ sym (append-nil (ended (map answer_text replies)));
}

module _ {layout : ScriptLayout} {fault : ScriptError} {early : ℕ} {start input out : List ℕ}
    {writer : Traffic} {state : ByteState}
    (b : IsBegun layout fault early start input writer out state) where
  -- after a fault what is held goes out
  pub begun_out : (writer' : Traffic) → writer'.bytes ≡ writer.bytes ++ out
      → IsBegun layout fault early start input writer' [] state
  begun_out writer' taken = record {
    text = b.text ++ out;
    lines = b.lines;
    left = b.left;
    whole = b.whole;
    others = b.others;
    part = b.part;
    taken = taken ∙ ap (λ xs. xs ++ out) b.taken ∙ append_assoc start b.text out;
    cut = b.cut;
    run = b.run;
    written = append-nil (b.text ++ out) ∙ b.written;
    lacks = b.lacks;
    settled = stand_longer b.settled out;
  }

  -- what is held completes the first replies that don't stand yet, and the part of the others
  held_completes : b.settled.part ++ out
      ≡ ended (map answer_text b.settled.others) ++ b.part
  held_completes =
      append_cancel_left (ended (map answer_text b.settled.first)) (b.settled.part ++ out)
      (ended (map answer_text b.settled.others) ++ b.part)
      (sym (append_assoc (ended (map answer_text b.settled.first)) b.settled.part out)
      ∙ ap (λ xs. xs ++ out) (sym b.settled.front) ∙ b.written
      ∙ ap (λ xs. xs ++ b.part)
      (ap (λ (rs : List (Option ByteReply)). ended (map answer_text rs)) b.settled.parts
      ∙ texts_append b.settled.first b.settled.others)
      ∙ append_assoc (ended (map answer_text b.settled.first))
      (ended (map answer_text b.settled.others)) b.part)

  -- or some front of it goes out, and a write fails then
  pub begun_cut : (writer' : Traffic) (sent rest : List ℕ) → out ≡ sent ++ rest
      → writer'.bytes ≡ writer.bytes ++ sent
      → IsBegun layout Write early start input writer' [] state
  begun_cut writer' sent rest parts taken =
      let s = b.settled in
      let more = lacks_rest fault b.others b.part b.lacks in
      record {
        text = b.text ++ sent;
        lines = b.lines;
        left = b.left;
        whole = s.first;
        others = s.others ++ b.others;
        part = s.part ++ sent;
        taken = taken ∙ ap (λ xs. xs ++ sent) b.taken ∙ append_assoc start b.text sent;
        cut = b.cut;
        run =
            subst (λ replies. RunOf (AnswersLine layout) empty_state b.lines replies state)
            (ap (λ xs. xs ++ b.others) s.parts ∙ append_assoc s.first s.others b.others) b.run;
        written =
            append-nil (b.text ++ sent) ∙ ap (λ xs. xs ++ sent) s.front
            ∙ append_assoc (ended (map answer_text s.first)) s.part sent;
        lacks = (
          rest ++ more.0,
          append_assoc s.part sent (rest ++ more.0)
              ∙ ap (λ xs. s.part ++ xs) (sym (append_assoc sent rest more.0)
              ∙ ap (λ xs. xs ++ more.0) (sym parts))
              ∙ sym (append_assoc s.part out more.0) ∙ ap (λ xs. xs ++ more.0) held_completes
              ∙ append_assoc (ended (map answer_text s.others)) b.part more.0
              ∙ ap (λ xs. ended (map answer_text s.others) ++ xs) more.1
              ∙ sym (texts_append s.others b.others),
        );
        settled = stand_longer (stand_alone s) sent;
      }

  pub begun_front : (writer' : Traffic) → TakesFront out writer writer'
      → IsBegun layout Write early start input writer' [] state
  begun_front writer' front = begun_cut writer' front.sent front.rest front.parts front.taken

-- before the first byte
pub nothing_read : {layout : ScriptLayout} (writer : Traffic) (state : ByteState)
    → state ≡ empty_state
    → IsUnderway layout 0 writer.bytes [] writer [] state [] false
nothing_read writer state empty = record {
  text = [];
  whole = [];
  line = [];
  replies = [];
  taken = sym (append-nil writer.bytes);
  cut = refl;
  each = tt;
  last = empty_has_no_feed;
  holds = refl;
  run = empty;
  written = refl;
  settled = stand_all [] [] 0 refl refl;
}

module _ {layout : ScriptLayout} {early : ℕ} {start input out held : List ℕ} {writer : Traffic}
    {state : ByteState} {too_long : Bool}
    (u : IsUnderway layout early start input writer out state held too_long) where
  -- more of a line has come
  pub more_held : (held' : List ℕ) (too_long' : Bool) (bytes : List ℕ) → HasNoFeed bytes
      → ((line : List ℕ) → Holds held too_long line → Holds held' too_long' (line ++ bytes))
      → IsUnderway layout early start (input ++ bytes) writer out state held' too_long'
  more_held held' too_long' bytes plain holds = record {
    text = u.text;
    whole = u.whole;
    line = u.line ++ bytes;
    replies = u.replies;
    taken = u.taken;
    cut = ap (λ xs. xs ++ bytes) u.cut ∙ append_assoc (ended u.whole) u.line bytes;
    each = u.each;
    last = no_feed-append u.line bytes u.last plain;
    holds = holds u.line u.holds;
    run = u.run;
    written = u.written;
    settled = u.settled;
  }

  -- the whole lines and one more stand before a line feed
  one_ended : input ++ line_feed ∷ [] ≡ ended (u.whole ++ u.line ∷ [])
  one_ended =
      ap (λ xs. xs ++ line_feed ∷ []) u.cut
      ∙ append_assoc (ended u.whole) u.line (line_feed ∷ []) ∙ sym (ended-push u.whole u.line)

  all_ended : AllByRecursion HasNoFeed (u.whole ++ u.line ∷ [])
  all_ended = all-append HasNoFeed u.whole (u.line ∷ []) u.each (u.last, tt)

  -- the replies with one more
  one_answered : (answer : Option ByteReply)
      → u.text ++ (out ++ (answer_text answer ++ line_feed ∷ []))
      ≡ ended (map answer_text (u.replies ++ answer ∷ []))
  one_answered answer =
      sym (append_assoc u.text out (answer_text answer ++ line_feed ∷ []))
      ∙ ap (λ xs. xs ++ (answer_text answer ++ line_feed ∷ [])) u.written
      ∙ sym (texts-push u.replies answer)

  run_on : (answer : Option ByteReply) (state' : ByteState)
      → AnswersHeld layout held too_long state answer state'
      → RunOf (AnswersLine layout) empty_state (u.whole ++ u.line ∷ []) (u.replies ++ answer ∷ [])
      state'
  run_on answer state' answered =
      run_push (AnswersLine layout) empty_state u.whole u.replies state u.line answer state' u.run
      (answered u.line u.holds)

  -- the line has ended, and is answered
  pub line_ended : (state' : ByteState) (out' : List ℕ) → Ends layout held too_long state state' out
      out'
      → IsUnderway layout early start (input ++ line_feed ∷ []) writer out' state' [] false
  line_ended state' out' ends = record {
    text = u.text;
    whole = u.whole ++ u.line ∷ [];
    line = [];
    replies = u.replies ++ ends.answer ∷ [];
    taken = u.taken;
    cut = one_ended ∙ sym (append-nil (ended (u.whole ++ u.line ∷ [])));
    each = all_ended;
    last = empty_has_no_feed;
    holds = refl;
    run = run_on ends.answer state' ends.answered;
    written = ap (λ xs. u.text ++ xs) ends.appended ∙ one_answered ends.answer;
    settled = stand_more u.settled ends.answer;
  }

  -- the replies have gone out
  pub went_out : (writer' : Traffic) → writer'.bytes ≡ writer.bytes ++ out
      → IsUnderway layout early start input writer' [] state held too_long
  went_out writer' taken = record {
    text = u.text ++ out;
    whole = u.whole;
    line = u.line;
    replies = u.replies;
    taken = taken ∙ ap (λ xs. xs ++ out) u.taken ∙ append_assoc start u.text out;
    cut = u.cut;
    each = u.each;
    last = u.last;
    holds = u.holds;
    run = u.run;
    written = append-nil (u.text ++ out) ∙ u.written;
    settled = stand_longer u.settled out;
  }

  -- where no replies are held, those to all lines that have ended were taken
  pub all_settled : out ≡ []
      → IsUnderway layout (feeds input) start input writer out state held too_long
  all_settled none = record {
    text = u.text;
    whole = u.whole;
    line = u.line;
    replies = u.replies;
    taken = u.taken;
    cut = u.cut;
    each = u.each;
    last = u.last;
    holds = u.holds;
    run = u.run;
    written = u.written;
    settled =
        stand_all u.replies u.text (feeds input)
        (feeds_cut input u.whole u.line u.cut u.each u.last
        ∙ run_length (AnswersLine layout) empty_state u.whole u.replies state u.run)
        (sym (append-nil u.text) ∙ ap (λ xs. u.text ++ xs) (sym none) ∙ u.written);
  }

  -- and the whole lines are answered
  pub whole_answered : out ≡ [] → OfWholeLines (IsThrough layout state) input u.text
  whole_answered none = record {
    whole = u.whole;
    rest = u.line;
    cut = u.cut;
    last = u.last;
    fit = record {
      lines = u.whole;
      replies = u.replies;
      cut = whole_lines u.whole (ended u.whole) u.each (sym (append-nil (ended u.whole)));
      run = u.run;
      written = ap (λ xs. u.text ++ xs) (sym none) ∙ u.written;
    };
  }

  -- where nothing is held of a line, all lines are answered
  pub none_behind : held ≡ [] → too_long ≡ false
      → IsAnswered layout early start input writer out state
  none_behind none short =
      let same : held ≡ u.line = subst (λ f. Holds held f u.line) short u.holds in
      record {
        text = u.text;
        taken = u.taken;
        all = record {
          lines = u.whole;
          replies = u.replies;
          cut =
              whole_lines u.whole input u.each
              (u.cut ∙ ap (λ xs. ended u.whole ++ xs) (sym same ∙ none));
          run = u.run;
          written = u.written;
        };
        settled = u.settled;
      }

  -- whatever is read more, what was written and what is held begins the replies
  pub still_begun : (fault : ScriptError) (more : List ℕ)
      → IsBegun layout fault early start (input ++ more) writer out state
  still_begun fault more =
      let cut = cut_behind u.whole u.line more input u.each u.cut in
      record {
        text = u.text;
        lines = u.whole;
        left = cut.0;
        whole = u.replies;
        others = [];
        part = [];
        taken = u.taken;
        cut = cut.1;
        run =
            subst (λ replies. RunOf (AnswersLine layout) empty_state u.whole replies state)
            (sym (append-nil u.replies)) u.run;
        written = u.written ∙ sym (append-nil (ended (map answer_text u.replies)));
        lacks = none_lacks fault;
        settled = u.settled;
      }

  -- so also where the line was answered, and not in out
  answered_lost : (state' : ByteState) (answer : Option ByteReply)
      → AnswersHeld layout held too_long state answer state' → (input' : List ℕ)
      (left : List (List ℕ)) → AreLines input' ((u.whole ++ u.line ∷ []) ++ left)
      → IsBegun layout Alloc early start input' writer out state'
  answered_lost state' answer answered input' left cut = record {
    text = u.text;
    lines = u.whole ++ u.line ∷ [];
    left = left;
    whole = u.replies;
    others = answer ∷ [];
    part = [];
    taken = u.taken;
    cut = cut;
    run = run_on answer state' answered;
    written = u.written ∙ sym (append-nil (ended (map answer_text u.replies)));
    lacks = (omega arith, refl);
    settled = u.settled;
  }

  -- a line feed has come, and the line isn't answered, or not in out
  pub line_broken : (state' : ByteState) (more : List ℕ) → MayEnd layout held too_long state state'
      → IsBegun layout Alloc early start (input ++ (line_feed ∷ [] ++ more)) writer out state'
  line_broken state' more (inl same) =
      subst (IsBegun layout Alloc early start (input ++ (line_feed ∷ [] ++ more)) writer out)
      (sym same)
      (still_begun Alloc (line_feed ∷ [] ++ more))
  line_broken state' more (inr does) =
      let lines = u.whole ++ u.line ∷ [] in
      let cut =
      cut_behind lines [] more (input ++ line_feed ∷ []) all_ended
      (one_ended ∙ sym (append-nil (ended lines))) in
      answered_lost state' does.0 does.1 (input ++ (line_feed ∷ [] ++ more)) cut.0
      (subst (λ xs. AreLines xs (lines ++ cut.0)) (append_assoc input (line_feed ∷ []) more)
      cut.1)

  -- at the end of the input what is held of a line is the last line
  module _ (some : held ≡ [] → too_long ≡ false → ⊥) where
    last_cut : AreLines input (u.whole ++ u.line ∷ [])
    last_cut = record {
      whole = u.whole;
      rest = u.line;
      cut = u.cut;
      each = u.each;
      last = u.last;
      are = ap (λ xs. u.whole ++ xs) (sym (held_is_line held u.line too_long some u.holds));
    }

    -- it is answered
    pub last_answered : (state' : ByteState) (out' : List ℕ) → Ends layout held too_long state
        state' out out'
        → IsAnswered layout early start input writer out' state'
    last_answered state' out' ends = record {
      text = u.text;
      taken = u.taken;
      all = record {
        lines = u.whole ++ u.line ∷ [];
        replies = u.replies ++ ends.answer ∷ [];
        cut = last_cut;
        run = run_on ends.answer state' ends.answered;
        written = ap (λ xs. u.text ++ xs) ends.appended ∙ one_answered ends.answer;
      };
      settled = stand_more u.settled ends.answer;
    }

    -- or not, or not in out
    pub last_broken : (state' : ByteState) → MayEnd layout held too_long state state'
        → IsBegun layout Alloc early start input writer out state'
    last_broken state' (inl same) =
        subst (IsBegun layout Alloc early start input writer out) (sym same)
        (subst (λ xs. IsBegun layout Alloc early start xs writer out state) (append-nil input)
        (still_begun Alloc []))
    last_broken state' (inr does) =
        answered_lost state' does.0 does.1 input []
        (subst (AreLines input) (sym (append-nil (u.whole ++ u.line ∷ []))) last_cut)

-- the last replies go out, or a front of them
pub all_out : {layout : ScriptLayout} {early : ℕ} {start input out : List ℕ} {writer : Traffic}
    {state : ByteState} (writer' : Traffic)
    → IsAnswered layout early start input writer out state → writer'.bytes ≡ writer.bytes ++ out
    → IsAnswered layout early start input writer' [] state
all_out {layout} {early} {start} {input} {out} writer' a taken = record {
  text = a.text ++ out;
  taken = taken ∙ ap (λ xs. xs ++ out) a.taken ∙ append_assoc start a.text out;
  all = record {
    lines = a.all.lines;
    replies = a.all.replies;
    cut = a.all.cut;
    run = a.all.run;
    written = append-nil (a.text ++ out) ∙ a.all.written;
  };
  settled = stand_longer a.settled out;
}

-- or a fault comes before that
pub answered_begun : {layout : ScriptLayout} {early : ℕ} {start input out : List ℕ}
    {writer : Traffic} {state : ByteState}
    (fault : ScriptError) → IsAnswered layout early start input writer out state
    → IsBegun layout fault early start input writer out state
answered_begun {layout = layout} {input = input} {state = state} fault a = record {
  text = a.text;
  lines = a.all.lines;
  left = [];
  whole = a.all.replies;
  others = [];
  part = [];
  taken = a.taken;
  cut = subst (AreLines input) (sym (append-nil a.all.lines)) a.all.cut;
  run =
      subst (λ replies. RunOf (AnswersLine layout) empty_state a.all.lines replies state)
      (sym (append-nil a.all.replies)) a.all.run;
  written = a.all.written ∙ sym (append-nil (ended (map answer_text a.all.replies)));
  lacks = none_lacks fault;
  settled = a.settled;
}

-- of nothing that was read nothing was written
pub begun_nothing : {layout : ScriptLayout} (fault : ScriptError) (writer : Traffic)
    (state : ByteState)
    → state ≡ empty_state → IsBegun layout fault 0 writer.bytes [] writer [] state
begun_nothing fault writer state empty = still_begun (nothing_read writer state empty) fault []

-- each input has a reply text
pub reply_text_exists : (layout : ScriptLayout) (input : List ℕ) → (text : List ℕ)
    × IsReplyText layout input text
reply_text_exists layout input =
    let s = split_exists input in
    let lines : List (List ℕ) = s.whole ++ last_line s.rest in
    let r = run_exists layout empty_table lines in (
      ended (map answer_text r.0),
      record {
        lines = lines;
        replies = r.0;
        after = r.1;
        cut = record {
          whole = s.whole;
          rest = s.rest;
          cut = s.cut;
          each = s.each;
          last = s.last;
          are = refl;
        };
        run = r.2;
        written = refl;
      },
    )
