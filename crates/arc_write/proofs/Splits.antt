-- What both parts of a split hold, of one of several writers, and that two who were joined have a
-- legal list.
use Rattle.std.proofs.Common.{◌≡◌, ℕ, Bool, true, false, List, ◌++◌, length, take, drop}
use Rattle.std.proofs.Common.{Option, Some, None, not, refl, sym, ap, ◌∙◌, subst}
use Rattle.std.proofs.Math.Logic.{∥∥₁_elim, ∥∥₁_map, ∥∥₁_prop}
use Rattle.arc_owners.specs.count.Calls.{Owner}
use Rattle.arc_owners.specs.count.Invariant.{BlockId, Line}
use Rattle.arc_owners.specs.declared.count.tokens.Pass.{Pass}
use Rattle.arc_buffer.specs.Slice.{sub, IsEdge, IsRange}
use Rattle.arc_block.specs.Block.{Sort, native, vector, buffer, raw}
use Rattle.arc_block.specs.Layouts.{LayoutFacts}
use Rattle.arc_block.specs.Place.{Place, nowhere, static_data, on_block}
use Rattle.arc_parts.specs.Shared.{CanSplit, StandsToSplit, StandsToSplitAt}
use Rattle.arc_parts.specs.Shared.{SplitsWriterAt, SplitsWriterOff, SplitsWriterTo, joined_row}
use Rattle.arc_parts.specs.Shared.{part_at}
use Rattle.arc_parts.specs.Steps.{Shares}
use Rattle.arc_parts.specs.Window.{PartsView, IsBlockHeld}
use Rattle.arc_parts.specs.Writers.{after_advance, capacity_of}
use Rattle.arc_write.proofs.Held.{advanced_held}
use Rattle.arc_write.proofs.Legal.{split_legal}
use Rattle.arc_write.proofs.Parts.{HoldsLegal}

module _ {M : Type 0} (layout : LayoutFacts) where
  -- another owner of the same block
  shares-held : {H : Type 0} (place there : Place (Option Owner) M) (before after : Pass H)
      → Shares place before after there → IsBlockHeld layout place → IsBlockHeld layout there
  shares-held nowhere there before after shares held =
      subst (IsBlockHeld layout) (sym shares.0) held
  shares-held static_data there before after shares held =
      subst (IsBlockHeld layout) (sym shares.0) held
  shares-held (on_block None offset info) there before after shares held =
      subst (IsBlockHeld layout) (sym shares.0) held
  shares-held (on_block (Some o) offset info) there before after shares held =
      subst (IsBlockHeld layout) (sym shares.2) held

module _ {T M : Type 0} (layout : LayoutFacts) where
  -- the layout holds the block on which a writer stands
  abbrev HoldsRow : PartsView T M → Type 0
  HoldsRow w = IsBlockHeld layout w.place

  same : {old new : PartsView T M} → new ≡ old → HoldsRow old → HoldsRow new
  same is held = subst HoldsRow (sym is) held

  -- where a writer stands whose places are split
  stands-by-sort : {H : Type 0} (real : BlockId → ℕ → List Line → Type 0) (one_pass : Bool)
      (w v : PartsView T M) (before after : Pass H) (sort : Sort)
      → StandsToSplit H real false one_pass w v before after sort → HoldsRow w → HoldsRow v
  stands-by-sort real one_pass w v before after native stands held = same stands.0 held
  stands-by-sort real one_pass w v before after vector stands held = same stands.made refl
  stands-by-sort real one_pass w v before after (buffer writable) stands held = absurd stands
  stands-by-sort real one_pass w v before after raw stands held = absurd stands

  stands-held : {H : Type 0} (real : BlockId → ℕ → List Line → Type 0) (one_pass : Bool)
      (w v : PartsView T M) (before after : Pass H) (place : Place (Option Owner) M)
      → StandsToSplitAt H real false one_pass w v before after place → HoldsRow w → HoldsRow v
  stands-held real one_pass w v before after nowhere stands held = same stands.0 held
  stands-held real one_pass w v before after static_data stands held = absurd stands
  stands-held real one_pass w v before after (on_block owner offset info) stands held =
      stands-by-sort real one_pass w v before after info.sort stands held

  part-held : (front : Bool) (at : ℕ) (w : PartsView T M) → HoldsRow w
      → HoldsRow (part_at front at w)
  part-held true at w held = held
  part-held false at w held = advanced_held layout at w (after_advance at w) refl held

  -- both parts of a split
  split-held : {H : Type 0} (real : BlockId → ℕ → List Line → Type 0) (one_pass front_stays : Bool)
      (at : ℕ) (w stays made : PartsView T M) (before after : Pass H)
      → SplitsWriterAt H real front_stays false one_pass at w stays made before after
      → IsBlockHeld layout w.place
      → IsBlockHeld layout stays.place × IsBlockHeld layout made.place
  split-held real one_pass front_stays at w stays made before after split held =
      let whole = stands-held real one_pass w split.whole before split.between w.place split.stands
      held in (
        same split.stays (part-held front_stays at split.whole whole),
        shares-held layout (part_at (not front_stays) at split.whole).place made.place split.between
            after split.shares
            (part-held (not front_stays) at split.whole whole),
      )

module _ {T M H : Type 0} (real : BlockId → ℕ → List Line → Type 0) (one_pass : Bool) where
  -- a writer who moved to a native block has the items that he had
  by-sort : (w v : PartsView T M) (before after : Pass H) (sort : Sort)
      → StandsToSplit H real false one_pass w v before after sort → v.items ≡ w.items
  by-sort w v before after native stands = ap (λ r. r.items) stands.0
  by-sort w v before after vector stands = ap (λ r. r.items) stands.made
  by-sort w v before after (buffer writable) stands = absurd stands
  by-sort w v before after raw stands = absurd stands

  stands-items : (w v : PartsView T M) (before after : Pass H) (place : Place (Option Owner) M)
      → StandsToSplitAt H real false one_pass w v before after place → v.items ≡ w.items
  stands-items w v before after nowhere stands = ap (λ r. r.items) stands.0
  stands-items w v before after static_data stands = absurd stands
  stands-items w v before after (on_block owner offset info) stands =
      by-sort w v before after info.sort stands

  module _ (legal : List T → Type 0) (boundary : List T → ℕ → Bool)
      (part : (xs : List T) (s e : ℕ) → legal xs → IsRange boundary xs s e → legal (sub xs s e))
      (ends : (xs : List T) → legal xs → IsEdge boundary xs 0 × IsEdge boundary xs (length xs))
      (at capacity : ℕ) (w stays made : PartsView T M) (before after : Pass H)
      (can : CanSplit boundary w.items capacity at) (l : ∥ legal w.items ∥₁) where
    parts : ∥ legal (take at w.items) ∥₁ × ∥ legal (drop at w.items) ∥₁
    parts = split_legal legal boundary part ends w.items at can.edge l

    part-legal : (front : Bool) (v : PartsView T M) → v.items ≡ w.items
        → ∥ legal (part_at front at v).items ∥₁
    part-legal true v same = subst (λ xs. ∥ legal xs ∥₁) (sym (ap (take at) same)) parts.0
    part-legal false v same = subst (λ xs. ∥ legal xs ∥₁) (sym (ap (drop at) same)) parts.1

    split-legal : (front_stays : Bool)
        → SplitsWriterAt H real front_stays false one_pass at w stays made before after
        → ∥ legal stays.items ∥₁ × ∥ legal made.items ∥₁
    split-legal front_stays split =
        let whole = stands-items w split.whole before split.between w.place split.stands in (
          subst (λ xs. ∥ legal xs ∥₁) (sym (ap (λ r. r.items) split.stays))
              (part-legal front_stays split.whole whole),
          subst (λ xs. ∥ legal xs ∥₁) (sym split.items)
              (part-legal (not front_stays) split.whole whole),
        )

module _ {T M H : Type 0} (real : BlockId → ℕ → List Line → Type 0) (one_pass : Bool) (at : ℕ)
    (w stays made : PartsView T M) (before after : Pass H) where
  -- a split by which the front stays, and one by which the back does
  pub front_stays : SplitsWriterAt H real true false one_pass at w stays made before after
      → SplitsWriterOff H real false one_pass at w stays made before after
  front_stays split = record {
    whole = split.whole;
    between = split.between;
    stands = split.stands;
    stays = split.stays;
    items = split.items;
    role = split.role;
    shares = split.shares;
  }

  pub back_stays : SplitsWriterAt H real false false one_pass at w stays made before after
      → SplitsWriterTo H real false one_pass at w made stays before after
  back_stays split = record {
    whole = split.whole;
    between = split.between;
    stands = split.stands;
    stays = split.stays;
    items = split.items;
    role = split.role;
    shares = split.shares;
  }

module _ {T M : Type 0} (legal : List T → Type 0) where
  -- two neighbours have legal lists, one behind the other
  pub joined_legal : (old other new : PartsView T M)
      → ((xs ys : List T) → legal xs → legal ys → legal (xs ++ ys))
      → new ≡ joined_row old other → ∥ legal old.items ∥₁ → ∥ legal other.items ∥₁
      → ∥ legal new.items ∥₁
  joined_legal old other new both is l m =
      subst (λ ys. ∥ legal ys ∥₁) (sym (ap (λ w. w.items) is))
      (∥∥₁_elim l ∥∥₁_prop (λ h. ∥∥₁_map m (λ k. both old.items other.items h k)))

module _ {T M H : Type 0} (layout : LayoutFacts)
    (real : BlockId → ℕ → List Line → Type 0) (one_pass : Bool) (legal : List T → Type 0)
    (boundary : List T → ℕ → Bool)
    (part : (xs : List T) (s e : ℕ) → legal xs → IsRange boundary xs s e → legal (sub xs s e))
    (ends : (xs : List T) → legal xs → IsEdge boundary xs 0 × IsEdge boundary xs (length xs))
    (at : ℕ) (old seen stays made : PartsView T M) (before after : Pass H) (is : seen ≡ old)
    (can : CanSplit boundary seen.items (capacity_of seen.role) at) where
  may : CanSplit boundary old.items (capacity_of old.role) at
  may = subst (λ (w : PartsView T M). CanSplit boundary w.items (capacity_of w.role) at) is can

  pub split_holds : (front_stays : Bool)
      → SplitsWriterAt H real front_stays false one_pass at old stays made before after
      → HoldsLegal layout legal old
      → HoldsLegal layout legal stays × HoldsLegal layout legal made
  split_holds front_stays split held =
      let places = split-held layout real one_pass front_stays at old stays made before after split
      held.0 in
      let lists = split-legal real one_pass legal boundary part ends at _ old stays made before
      after may held.1 front_stays split in ((places.0, lists.0), (places.1, lists.1))
