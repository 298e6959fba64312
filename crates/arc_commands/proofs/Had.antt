-- A command that the kind or the layout lacks is answered `Kind`, and changes nothing.
use Rattle.std.proofs.Common.{inl, inr, ◌≡◌, ◌⊎◌, ◌&&◌, ◌==◌, not, ℕ, Bool, true, false}
use Rattle.std.proofs.Common.{if◌then◌else◌, Option, Some, None}
use Rattle.std.proofs.Common.{refl, sym, ap, ◌∙◌, subst}
use Rattle.std.specs.Option.{option_map, option_map_or}
use Rattle.std.specs.Prelude.{is_some}
use Rattle.std.proofs.lemmas.Bool.{false≢true}
use Rattle.std.proofs.lemmas.Option.{none-some}
use Rattle.arc_block.specs.Table.{Role, Row, Table, row_at}
use Rattle.arc_commands.specs.Changes.{Setting, Shortage, is_now}
use Rattle.arc_commands.specs.Commands.{ListCmd, ListReply}
use Rattle.arc_commands.specs.Kinds.{is_had}
use Rattle.arc_commands.specs.Several.{join_answer}
use Rattle.arc_commands.specs.Step.{Step, answer, answer_any, answer_row, around_of, changed}
use Rattle.arc_commands.specs.Step.{founded, has_call, is_allowed, is_for, is_for_both, joined}
use Rattle.arc_commands.specs.Step.{row_by}
use Rattle.arc_commands.specs.Step.{window_of}
use Rattle.arc_commands.specs.declared.command.Cmd.TheVariants as command
use Rattle.arc_commands.specs.declared.command.Reply.TheVariants as reply
use Rattle.arc_commands.proofs.Answers.{put-back}

-- what isn't, whatever else is
pub off : (shares is : Bool) → shares ≡ false → (is && shares) ≡ false
off shares true none = none
off shares false none = refl

-- something is there exactly where it is asked for
some-if : {A : Type 0} (b : Bool) (x : A) → is_some (if b then Some x else None) ≡ b
some-if true x = refl
some-if false x = refl

-- and of each thing something
some-of : {A B : Type 0} (f : A → B) (x : Option A) → is_some (option_map f x) ≡ is_some x
some-of f None = refl
some-of f (Some x) = refl

module _ {T M : Type 0} where
  -- what is answered so
  abbrev pub IsKind : Table T M → ListReply T M × Table T M → Type 0
  IsKind t answer = ((answer.0 ≡ reply.Kind) ⊎ (answer.0 ≡ reply.NoWindow)) × (answer.1 ≡ t)

  module _ (setting : Setting T) where
    pub row-kind : (short : Shortage) (places : ℕ) (t : Table T M) (c : ListCmd T M) (i : ℕ)
        → ((role : Role) → is_allowed setting.calls c role ≡ false) → (x : Option (Row T M))
        → row_at t i ≡ x
        → IsKind t (option_map_or (λ row. changed t i
        (answer_any setting short (around_of places t row) c row)) x (reply.NoWindow, t))
    row-kind short places t c i not None at = (inr refl, refl)
    row-kind short places t c i not (Some row) at =
        subst (λ (b : Bool). IsKind t (changed t i (if b then
        answer_row setting short (around_of places t row) c row else is_now reply.Kind row)))
        (sym (not row.role)) (inl refl, put-back t i row at)

    pub pair-kind : (t : Table T M) (i j : ℕ) → setting.calls.shares ≡ false
        → (x y : Option (Row T M))
        → IsKind t (option_map_or (λ row. option_map_or (λ other.
        if is_for_both setting.calls (command.Join i j) i j row other
        then joined t i j (join_answer row other) else (reply.Kind, t)) y (reply.NoWindow, t)) x
        (reply.NoWindow, t))
    pair-kind t i j none None y = (inr refl, refl)
    pair-kind t i j none (Some row) None = (inr refl, refl)
    pair-kind t i j none (Some row) (Some other) =
        let join : ListCmd T M = command.Join i j in
        let neither : is_for_both setting.calls join i j row other ≡ false =
        ap (λ b. b && is_allowed setting.calls join other.role && not (i == j))
        (off setting.calls.shares (is_for join row.role) none) in
        subst (λ (b : Bool). IsKind t (if b then joined t i j (join_answer row other) else
        (reply.Kind, t))) (sym neither) (inl refl, refl)

    -- what brings something of which nothing is made
    brought-kind : (short : Shortage) (t : Table T M) (x : Option (Row T M)) → is_some x ≡ false
        → IsKind t (option_map_or (founded short t) x (reply.Kind, t))
    brought-kind short t None none = (inl refl, refl)
    brought-kind short t (Some row) none = absurd (false≢true (sym none))

    -- Of a command that makes a window of what it brings, one is made exactly where it is had.
    pub makes-had : (places block : ℕ) (c : ListCmd T M) → window_of c ≡ None
        → is_some (row_by setting places block c) ≡ is_had setting c
    makes-had places block (command.Slice items) is = some-if setting.calls.copies _
    makes-had places block (command.MSlice items) is = some-if setting.calls.copies _
    makes-had places block (command.Small items) is = some-if setting.calls.small _
    makes-had places block (command.Zero count) is = some-of _ setting.zero
    makes-had places block (command.Vec items) is = some-if setting.layout.has_any _
    makes-had places block (command.Static items) is = some-if setting.layout.has_static _
    makes-had places block (command.Raw given) is =
        some-if (setting.calls.any_list && setting.layout.has_any) _
    makes-had places block (command.Buf given metadata) is =
        some-if (setting.calls.any_list && setting.layout.has_any) _
    makes-had places block (command.MBuf given metadata) is =
        some-if (setting.calls.any_list && setting.writes_any) _
    makes-had places block command.New is = refl
    makes-had places block (command.Cap count) is = refl
    makes-had places block other is = absurd (none-some _ (sym is))

    module _ (short : Shortage) (places : ℕ) (t : Table T M) where
      -- of a command that makes a window, and of one on a window
      made-kind : (c : ListCmd T M) → window_of c ≡ None → is_had setting c ≡ false
          → IsKind t (option_map_or (founded short t) (row_by setting places t.blocks c)
          (reply.Kind, t))
      made-kind c makes is =
          brought-kind short t (row_by setting places t.blocks c)
          (makes-had places t.blocks c makes ∙ is)

      on-kind : (c : ListCmd T M) (i : ℕ) → has_call setting.calls c ≡ false
          → IsKind t (option_map_or (λ row. changed t i
          (answer_any setting short (around_of places t row) c row)) (row_at t i)
          (reply.NoWindow, t))
      on-kind c i lacks =
          row-kind short places t c i
          (λ role. off (has_call setting.calls c) (is_for {T = T} {M = M} c role) lacks)
          (row_at t i) refl

      had-kind : (c : ListCmd T M) → is_had setting c ≡ false
          → IsKind t (answer setting short places t c)
      had-kind (command.Slice items) is = made-kind (command.Slice items) refl is
      had-kind (command.MSlice items) is = made-kind (command.MSlice items) refl is
      had-kind (command.Small items) is = made-kind (command.Small items) refl is
      had-kind (command.Zero count) is = made-kind (command.Zero count) refl is
      had-kind (command.Vec items) is = made-kind (command.Vec items) refl is
      had-kind (command.Static items) is = made-kind (command.Static items) refl is
      had-kind (command.Raw given) is = made-kind (command.Raw given) refl is
      had-kind (command.Buf given metadata) is = made-kind (command.Buf given metadata) refl is
      had-kind (command.MBuf given metadata) is = made-kind (command.MBuf given metadata) refl is
      had-kind (command.Show i) is = on-kind (command.Show i) i is
      had-kind (command.Push i item) is = on-kind (command.Push i item) i is
      had-kind (command.Ext i items) is = on-kind (command.Ext i items) i is
      had-kind (command.Share i) is = on-kind (command.Share i) i is
      had-kind (command.Unique i) is = on-kind (command.Unique i) i is
      had-kind (command.Join i j) is = pair-kind t i j is (row_at t i) (row_at t j)
      had-kind other is = absurd (false≢true (sym is))

    pub step-had : (t : Table T M) (c : ListCmd T M) (r : ListReply T M) (new : Table T M)
        → is_had setting c ≡ false → Step setting t c r new
        → ((r ≡ reply.Kind) ⊎ (r ≡ reply.NoWindow)) × (new ≡ t)
    step-had t c r new is step =
        subst (IsKind t) step.answered (had-kind step.short step.places t c is)
