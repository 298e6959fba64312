-- What a layout holds it also holds after making, clones and cuts.
use Rattle.std.proofs.Common.{◌≡◌, ℕ, ◌==◌, ◌&&◌, Bool, true, false, not, if◌then◌else◌, List}
use Rattle.std.proofs.Common.{length, Option, Some, None, refl, sym, ap, ◌∙◌, subst}
use Rattle.std.proofs.lemmas.Bool.{false≢true}
use Rattle.arc_owners.specs.declared.count.tokens.Pass.{Pass}
use Rattle.arc_owners.specs.count.Calls.{Owner}
use Rattle.arc_block.specs.Block.{native_facts}
use Rattle.arc_block.specs.Layouts.{LayoutFacts}
use Rattle.arc_block.specs.Place.{Place, nowhere, static_data, on_block, moved, part_place}
use Rattle.arc_parts.specs.Window.{Window, IsHeld}
use Rattle.arc_parts.specs.Steps.{Shares, Makes, MakesOverRaw}

left_true : (a b : Bool) → (a && b) ≡ true → a ≡ true
left_true true b both = refl
left_true false b both = absurd (false≢true both)

module _ (layout : LayoutFacts) where
  either_held : {O M : Type 0} (nothing : Bool) (place : Place (Option O) M)
      → (nothing ≡ true → layout.has_static ≡ true) → IsHeld layout place
      → IsHeld layout (if nothing then nowhere else place)
  either_held true place empty held = empty refl
  either_held false place empty held = held

  -- further in
  pub moved_held : {O M : Type 0} (by : ℕ) (place : Place (Option O) M) → IsHeld layout place
      → IsHeld layout (moved by place)
  moved_held by nowhere held = held
  moved_held by static_data held = held
  moved_held by (on_block block offset facts) held = held

  -- a part
  pub part_held : {T O M : Type 0} (items : List T) (start : ℕ) (place : Place (Option O) M)
      → IsHeld layout place → IsHeld layout (part_place layout.has_static items start place)
  part_held items start place held = either_held (layout.has_static && (length items == 0))
      (moved start place) (left_true layout.has_static (length items == 0))
      (moved_held start place held)

  -- what was made
  pub made_held : {T M : Type 0} (drops one_pass : Bool) (items : List T) (w : Window T M)
      → Makes layout.has_static drops one_pass items w → IsHeld layout w.place
  made_held {T} {M} drops one_pass items w makes =
      let P : Window T M → Type 0 = λ v. IsHeld layout v.place in
      let there : Place (Option Owner) M = on_block (Some makes.owner) 0
      (native_facts drops (length items)) in
      subst P (sym makes.made) (part_held items 0 there refl)

  -- another owner
  pub shared_held : {M H : Type 0} (place there : Place (Option Owner) M) (old new : Pass H)
      → Shares place old new there → IsHeld layout place → IsHeld layout there
  shared_held {M} nowhere there old new shares held =
      subst (λ (p : Place (Option Owner) M). IsHeld layout p) (sym shares.0) held
  shared_held {M} static_data there old new shares held =
      subst (λ (p : Place (Option Owner) M). IsHeld layout p) (sym shares.0) held
  shared_held {M} (on_block None offset facts) there old new shares held =
      subst (λ (p : Place (Option Owner) M). IsHeld layout p) (sym shares.0) held
  shared_held {M} (on_block (Some o) offset facts) there old new shares held =
      subst (λ (p : Place (Option Owner) M). IsHeld layout p) (sym shares.2) held

  -- an `Arc` of a caller's buffer
  over-raw : {T M : Type 0} (one_pass : Bool) (items : List T) (given : M) (w : Window T M)
      (itself : Bool)
      → layout.by_itself ≡ itself → layout.has_any ≡ true
      → MakesOverRaw layout.by_itself one_pass items given w → IsHeld layout w.place
  over-raw {T} {M} one_pass items given w true is any makes =
      subst (λ (v : Window T M). IsHeld layout v.place) (sym (makes.alone is)) is
  over-raw {T} {M} one_pass items given w false is any makes =
      subst (λ (v : Window T M). IsHeld layout v.place) (sym (makes.counted is).made)
      (ap (λ b. b && not layout.by_itself) any ∙ ap not is)

  pub raw_held : {T M : Type 0} (one_pass : Bool) (items : List T) (given : M) (w : Window T M)
      → MakesOverRaw layout.by_itself one_pass items given w → layout.has_any ≡ true
      → IsHeld layout w.place
  raw_held one_pass items given w makes any =
      over-raw one_pass items given w layout.by_itself refl any makes
