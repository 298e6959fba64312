-- What a layout holds stays there, and what it doesn't hold comes back.
use Rattle.std.proofs.Common.{◌≡◌, ℕ, ◌&&◌, Bool, true, false, not, if◌then◌else◌, Option, Some}
use Rattle.std.proofs.Common.{None, List, length, refl, sym, ap, ◌∙◌, subst}
use Rattle.std.proofs.lemmas.List.{nil_from_length}
use Rattle.std.proofs.lemmas.Bool.{false≢true}
use Rattle.arc_owners.specs.count.Calls.{Owner, IsPassOfNone}
use Rattle.arc_owners.specs.declared.count.tokens.Pass.{Pass}
use Rattle.arc_block.specs.Block.{Sort, native, vector, buffer, raw}
use Rattle.arc_block.specs.Layouts.{LayoutFacts, holds_block}
use Rattle.arc_block.specs.Moves.{IsRefused, counted_move}
use Rattle.arc_block.specs.Place.{Place, nowhere, static_data, on_block}
use Rattle.arc_block.specs.declared.layout.Move.{Move}
use Rattle.arc_block.specs.declared.layout.Move.TheVariants.{Stays, HandedBack}
use Rattle.arc_block.specs.declared.layout.Move.TheVariants.{NewCount, LeavesCount}
use Rattle.arc_parts.specs.Moves.{Moves}
use Rattle.arc_parts.specs.Steps.{IsPassAt}
use Rattle.arc_parts.specs.Window.{PartsView, IsBlockHeld}
use Rattle.arc_parts.specs.Writers.{BecomesSole, BecomesSoleAt, as_sole, sole_at}
use Rattle.arc_write.proofs.Held.{may-stays}
use Rattle.arc_write.specs.Moves.{writer_move, BecomesWriter}

raw-held : (any itself : Bool) → (any && not itself) ≡ true
    → (if itself then LeavesCount else if any then Stays else HandedBack) ≡ Stays
raw-held true true held = absurd (false≢true held)
raw-held true false held = refl
raw-held false true held = absurd (false≢true held)
raw-held false false held = absurd (false≢true held)

raw-back : (any itself : Bool) → ¬ ((any && not itself) ≡ true)
    → IsRefused (if itself then LeavesCount else if any then Stays else HandedBack)
raw-back any true none = tt
raw-back true false none = absurd (none refl)
raw-back false false none = tt

any-back : (any : Bool) → ¬ (any ≡ true) → IsRefused (if any then Stays else HandedBack)
any-back true none = absurd (none refl)
any-back false none = tt

itself-back : (itself any : Bool) → ¬ (itself ≡ true)
    → IsRefused (if itself then Stays else if any then NewCount else HandedBack)
itself-back true any none = absurd (none refl)
itself-back false true none = tt
itself-back false false none = tt

module _ (layout : LayoutFacts) where
  counted-held : (o : Owner) (sort : Sort) → holds_block layout (Some o) sort ≡ true
      → counted_move layout sort ≡ Stays
  counted-held o native held = refl
  counted-held o vector held = ap (λ b. if b then Stays else HandedBack) held
  counted-held o (buffer writable) held = ap (λ b. if b then Stays else HandedBack) held
  counted-held o raw held = raw-held layout.has_any layout.by_itself held

  counted-back : (o : Owner) (sort : Sort) → ¬ (holds_block layout (Some o) sort ≡ true)
      → IsRefused (counted_move layout sort)
  counted-back o native none = absurd (none refl)
  counted-back o vector none = any-back layout.has_any none
  counted-back o (buffer writable) none = any-back layout.has_any none
  counted-back o raw none = raw-back layout.has_any layout.by_itself none

  held-stays : {M : Type 0} (place : Place (Option Owner) M) → IsBlockHeld layout place
      → writer_move layout place ≡ Stays
  held-stays nowhere held = refl
  held-stays static_data held = refl
  held-stays (on_block None offset info) held =
      ap (λ b. if b then Stays else if layout.has_any then NewCount else HandedBack) held
  held-stays (on_block (Some o) offset info) held = counted-held o info.sort held

  pub back_refused : {M : Type 0} (place : Place (Option Owner) M) → ¬ IsBlockHeld layout place
      → IsRefused (writer_move layout place)
  back_refused nowhere none = absurd (none tt)
  back_refused static_data none = absurd (none tt)
  back_refused (on_block None offset info) none =
      itself-back layout.by_itself layout.has_any none
  back_refused (on_block (Some o) offset info) none = counted-back o info.sort none

  -- who may write a block stays there
  sole-stays : {M H : Type 0} (place : Place (Option Owner) M) (len : ℕ) (before after : Pass H)
      → BecomesSoleAt layout.has_any place len before after → writer_move layout place ≡ Stays
  sole-stays nowhere len before after made = refl
  sole-stays static_data len before after made = refl
  sole-stays (on_block None offset info) len before after made = absurd made
  sole-stays (on_block (Some o) offset info) len before after made =
      may-stays layout info.sort made.0

  module _ {T M H : Type 0} (drops one_pass : Bool) where
    -- a writer whose block the layout holds
    pub held_moves : (w v : PartsView T M) (before after : Pass H) → v ≡ w → after ≡ before
        → IsBlockHeld layout w.place
        → Moves (writer_move layout w.place) drops one_pass w v before after
    held_moves w v before after same kept held =
        subst (λ (m : Move). Moves m drops one_pass w v before after)
        (sym (held-stays w.place held)) (same, kept)

    pub becomes_writer : (w v : PartsView T M) (before after : Pass H) → v ≡ as_sole drops w
        → BecomesSole layout.has_any w before after
        → BecomesWriter layout drops one_pass w v before after
    becomes_writer w v before after same asked = record {
      between = after;
      asked = asked;
      moved = subst (λ (m : Move). Moves m drops one_pass (as_sole drops w) v after after)
          (sym (sole-stays w.place _ before after asked)) (same, refl);
    }

    -- and so the writer is the reader at the same place
    pub writer_is_sole : (w v : PartsView T M) (before after : Pass H)
        → BecomesWriter layout drops one_pass w v before after
        → (v ≡ as_sole drops w) × BecomesSole layout.has_any w before after
    writer_is_sole w v before after made =
        let moved : (v ≡ as_sole drops w) × (after ≡ made.between) =
        subst (λ (m : Move). Moves m drops one_pass (as_sole drops w) v made.between after)
        (sole-stays w.place _ before made.between made.asked) made.moved in
        (moved.0, subst (λ p. BecomesSole layout.has_any w before p) (sym moved.1) made.asked)

module _ {T M H : Type 0} (layout : LayoutFacts) (drops : Bool) where
  sole-pass : (items : List T) (place : Place (Option Owner) M) (len : ℕ) (before after : Pass H)
      → BecomesSoleAt layout.has_any place len before after → IsPassAt place before
      → IsPassAt (sole_at drops items place).place after
  sole-pass items nowhere len before after asked of =
      subst IsPassOfNone (sym asked.1) of
  sole-pass items static_data len before after asked of =
      subst IsPassOfNone (sym asked.1) of
  sole-pass items (on_block None offset info) len before after asked of = absurd asked
  sole-pass items (on_block (Some o) offset info) len before after asked of = asked.1.added.same.0

  -- the pass is the writer's
  pub sole_has_pass : (w v : PartsView T M) (before after : Pass H) → v ≡ as_sole drops w
      → BecomesSole layout.has_any w before after → IsPassAt w.place before
      → IsPassAt v.place after
  sole_has_pass w v before after same asked of =
      subst (λ (x : PartsView T M). IsPassAt x.place after) (sym same)
      (sole-pass w.items w.place _ before after asked of)

  -- and its items are the reader's
  sole-items : (items : List T) (place : Place (Option Owner) M) (before after : Pass H)
      → BecomesSoleAt layout.has_any place (length items) before after
      → (sole_at drops items place).items ≡ items
  sole-items items nowhere before after asked = sym (nil_from_length items asked.0)
  sole-items items static_data before after asked = sym (nil_from_length items asked.0)
  sole-items items (on_block owner offset info) before after asked = refl

  pub sole_has_items : (w v : PartsView T M) (before after : Pass H) → v ≡ as_sole drops w
      → BecomesSole layout.has_any w before after → v.items ≡ w.items
  sole_has_items w v before after same asked =
      ap (λ (x : PartsView T M). x.items) same ∙ sole-items w.items w.place before after asked
