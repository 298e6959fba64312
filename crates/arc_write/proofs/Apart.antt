-- The parts of a split: their lists, how many places they have, and that they are apart, since the
-- places of the front end where those of the back begin.
use Rattle.std.proofs.Common.{◌≡◌, ℕ, ◌+◌, ◌-◌, Bool, true, false, Option, Some, None, List}
use Rattle.std.proofs.Common.{refl, sym, ap, ◌∙◌, subst, take, drop}
use Rattle.std.proofs.lemmas.Bool.{eq-eqb}
use Rattle.arc_owners.specs.count.Calls.{Owner}
use Rattle.arc_owners.specs.count.Invariant.{BlockId, Line}
use Rattle.arc_owners.specs.declared.count.tokens.Pass.{Pass}
use Rattle.arc_block.specs.Block.{Sort, native, vector, buffer, raw}
use Rattle.arc_block.specs.Place.{Place, nowhere, static_data, on_block, moved}
use Rattle.arc_block.specs.Table.{Role, one_writer_of_several}
use Rattle.arc_parts.specs.Shared.{IsSharedPlace, StandsToSplit, StandsToSplitAt}
use Rattle.arc_parts.specs.Shared.{SplitsWriterAt, ends_at}
use Rattle.arc_parts.specs.Steps.{Shares}
use Rattle.arc_parts.specs.Writers.{capacity_of, with_capacity}
use Rattle.arc_parts.specs.Window.{PartsView}
use Rattle.arc_writer_parts.specs.Roles.{HasWritersRole}

module _ {M H : Type 0} (at : ℕ) (before after : Pass H) where
  -- what was made stands behind the places that stay
  made_behind : (here there : Place (Option Owner) M) → IsSharedPlace here
      → Shares (moved at here) before after there → ends_at at here there ≡ true
  made_behind nowhere there stands shares = ap (λ p. ends_at at nowhere p) shares.0
  made_behind static_data there stands shares = absurd stands
  made_behind (on_block None offset info) there stands shares = absurd stands
  made_behind (on_block (Some o) offset info) there stands shares =
      ap (λ p. ends_at at (on_block (Some o) offset info) p) shares.2
      ∙ eq-eqb (offset + at) (offset + at) refl

  -- or in front of them
  made_in_front : (here there : Place (Option Owner) M) → IsSharedPlace here
      → Shares here before after there → ends_at at there (moved at here) ≡ true
  made_in_front nowhere there stands shares = ap (λ p. ends_at at p nowhere) shares.0
  made_in_front static_data there stands shares = absurd stands
  made_in_front (on_block None offset info) there stands shares = absurd stands
  made_in_front (on_block (Some o) offset info) there stands shares =
      ap (λ p. ends_at at p (on_block (Some o) (offset + at) info)) shares.2
      ∙ eq-eqb (offset + at) (offset + at) refl

module _ {T M H : Type 0} (real : BlockId → ℕ → List Line → Type 0) (one_pass : Bool)
    (w v : PartsView T M) (before after : Pass H) where
  -- a vector's places move to a native block first
  by_sort : (sort : Sort) → StandsToSplit H real false one_pass w v before after sort
      → IsSharedPlace w.place → IsSharedPlace v.place
  by_sort native stands there =
      subst (λ (u : PartsView T M). IsSharedPlace u.place) (sym stands.0) there
  by_sort vector stands there =
      subst (λ (u : PartsView T M). IsSharedPlace u.place) (sym stands.made) tt
  by_sort (buffer writable) stands there = absurd stands
  by_sort raw stands there = absurd stands

  stays_shared : (place : Place (Option Owner) M)
      → StandsToSplitAt H real false one_pass w v before after place
      → IsSharedPlace w.place → IsSharedPlace v.place
  stays_shared nowhere stands there =
      subst (λ (u : PartsView T M). IsSharedPlace u.place) (sym stands.0) there
  stays_shared static_data stands there = absurd stands
  stays_shared (on_block owner offset info) stands there = by_sort info.sort stands there

module _ {T M H : Type 0} (real : BlockId → ℕ → List Line → Type 0) (one_pass : Bool)
    (w v : PartsView T M) (before after : Pass H) where
  -- the items and places are the same where they stand to be split
  same_by_sort : (sort : Sort) → StandsToSplit H real false one_pass w v before after sort
      → (v.items ≡ w.items) × (v.role ≡ w.role)
  same_by_sort native stands =
      (ap (λ (u : PartsView T M). u.items) stands.0, ap (λ (u : PartsView T M). u.role) stands.0)
  same_by_sort vector stands = (
    ap (λ (u : PartsView T M). u.items) stands.made,
    ap (λ (u : PartsView T M). u.role) stands.made,
  )
  same_by_sort (buffer writable) stands = absurd stands
  same_by_sort raw stands = absurd stands

  stays_same : (place : Place (Option Owner) M)
      → StandsToSplitAt H real false one_pass w v before after place
      → (v.items ≡ w.items) × (v.role ≡ w.role)
  stays_same nowhere stands =
      (ap (λ (u : PartsView T M). u.items) stands.0, ap (λ (u : PartsView T M). u.role) stands.0)
  stays_same static_data stands = absurd stands
  stays_same (on_block owner offset info) stands = same_by_sort info.sort stands

places_given : (role : Role) (capacity places : ℕ) → role ≡ one_writer_of_several capacity
    → capacity_of (with_capacity role places) ≡ places
places_given role capacity places is = ap (λ r. capacity_of (with_capacity r places)) is

module _ {T M H : Type 0} (real : BlockId → ℕ → List Line → Type 0) (one_pass : Bool) (at : ℕ)
    (w stays made : PartsView T M) (before after : Pass H) where
  pub back_apart : SplitsWriterAt H real true false one_pass at w stays made before after
      → IsSharedPlace w.place → ends_at at stays.place made.place ≡ true
  back_apart split there =
      subst (λ (f : PartsView T M). ends_at at f.place made.place ≡ true) (sym split.stays)
      (made_behind at split.between after split.whole.place made.place
      (stays_shared real one_pass w split.whole before split.between w.place split.stands there)
      split.shares)

  pub front_apart : SplitsWriterAt H real false false one_pass at w stays made before after
      → IsSharedPlace w.place → ends_at at made.place stays.place ≡ true
  front_apart split there =
      subst (λ (b : PartsView T M). ends_at at made.place b.place ≡ true) (sym split.stays)
      (made_in_front at split.between after split.whole.place made.place
      (stays_shared real one_pass w split.whole before split.between w.place split.stands there)
      split.shares)

  pub back_lists : SplitsWriterAt H real true false one_pass at w stays made before after
      → (stays.items ≡ take at w.items) × (made.items ≡ drop at w.items)
  back_lists split =
      let same : (split.whole.items ≡ w.items) × (split.whole.role ≡ w.role) =
      stays_same real one_pass w split.whole before split.between w.place split.stands in (
        ap (λ (u : PartsView T M). u.items) split.stays ∙ ap (λ xs. take at xs) same.0,
        split.items ∙ ap (λ xs. drop at xs) same.0,
      )

  pub front_lists : SplitsWriterAt H real false false one_pass at w stays made before after
      → (made.items ≡ take at w.items) × (stays.items ≡ drop at w.items)
  front_lists split =
      let same : (split.whole.items ≡ w.items) × (split.whole.role ≡ w.role) =
      stays_same real one_pass w split.whole before split.between w.place split.stands in (
        split.items ∙ ap (λ xs. take at xs) same.0,
        ap (λ (u : PartsView T M). u.items) split.stays ∙ ap (λ xs. drop at xs) same.0,
      )

  pub back_places : SplitsWriterAt H real true false one_pass at w stays made before after
      → HasWritersRole true w.role
      → (capacity_of stays.role ≡ at) × (capacity_of made.role ≡ capacity_of w.role - at)
  back_places split is =
      let same : (split.whole.items ≡ w.items) × (split.whole.role ≡ w.role) =
      stays_same real one_pass w split.whole before split.between w.place split.stands in (
        ap (λ (u : PartsView T M). capacity_of u.role) split.stays
            ∙ places_given split.whole.role (capacity_of w.role) at (same.1 ∙ is),
        ap (λ r. capacity_of r) split.role
            ∙ places_given split.whole.role (capacity_of w.role) (capacity_of split.whole.role - at)
            (same.1 ∙ is) ∙ ap (λ r. capacity_of r - at) same.1,
      )

  pub front_places : SplitsWriterAt H real false false one_pass at w stays made before after
      → HasWritersRole true w.role
      → (capacity_of made.role ≡ at) × (capacity_of stays.role ≡ capacity_of w.role - at)
  front_places split is =
      let same : (split.whole.items ≡ w.items) × (split.whole.role ≡ w.role) =
      stays_same real one_pass w split.whole before split.between w.place split.stands in (
        ap (λ r. capacity_of r) split.role
            ∙ places_given split.whole.role (capacity_of w.role) at (same.1 ∙ is),
        ap (λ (u : PartsView T M). capacity_of u.role) split.stays
            ∙ places_given split.whole.role (capacity_of w.role) (capacity_of split.whole.role - at)
            (same.1 ∙ is) ∙ ap (λ r. capacity_of r - at) same.1,
      )
