-- How the places of one of several writers were split in two.
use Rattle.std.proofs.Common.{◌≡◌, ℕ, ◌≤◌, Bool, true, false, List, Option, Some, None, refl}
use Rattle.std.proofs.Common.{if◌then◌else◌, sym, ap, ◌∙◌, subst, arith}
use Rattle.std.proofs.lemmas.Bool.{false≢true}
use Rattle.arc_owners.specs.declared.count.tokens.Pass.{Pass}
use Rattle.arc_owners.specs.declared.error.OwnerError.TheVariants.{AllocError}
use Rattle.arc_owners.specs.count.Invariant.{BlockId, Line}
use Rattle.arc_owners.specs.count.Calls.{Owner, IsOfBlock, Leaves}
use Rattle.arc_owners.specs.count.Calls.{pass_block, pass_number, history_of}
use Rattle.arc_memory.specs.WriterParts.{SplitsOwner}
use Rattle.arc_block.specs.Block.{Sort, native, vector, buffer, raw}
use Rattle.arc_sort_writers.specs.NativeWriters.{NativeWriter, native_row, front_writer}
use Rattle.arc_sort_writers.specs.NativeWriters.{back_writer, IsAlonePlace}
use Rattle.arc_block.specs.Place.{Place, nowhere, static_data, on_block, IsOnBlock, at_owner}
use Rattle.arc_parts.specs.Shared.{StandsToSplit, StandsToSplitAt, SplitsWriterAt, MovesToNative}
use Rattle.arc_parts.specs.Shared.{as_shared, LeavesShown, RefusesSplit, RefusesSplitAt}
use Rattle.arc_parts.specs.Shared.{is_vector, is_vector_at, IsSharedPlace}
use Rattle.arc_parts.specs.Window.{PartsView}
use Rattle.arc_parts.specs.Writers.{idle_writer}

vector-is : (sort : Sort) → is_vector sort ≡ true → sort ≡ vector
vector-is native is = absurd (false≢true is)
vector-is vector is = refl
vector-is (buffer writable) is = absurd (false≢true is)
vector-is raw is = absurd (false≢true is)

module _ {M : Type 0} where
  -- who is by himself on a block is on a vector
  pub alone_vector : (place : Place (Option Owner) M) → IsAlonePlace place → IsOnBlock place
      → is_vector_at place ≡ true
  alone_vector nowhere alone on = absurd on
  alone_vector static_data alone on = absurd alone
  alone_vector (on_block None offset info) alone on = absurd alone
  alone_vector (on_block (Some o) offset info) alone on = ap is_vector alone

  module _ {H : Type 0} where
    -- the vector's owner ended, and that pass was shown
    pub left_shown : (real : BlockId → ℕ → List Line → Type 0) (place : Place (Option Owner) M)
        (before left shown : Pass H) → shown ≡ left
        → at_owner place ⊥ (λ o. (last : Bool) × Leaves o before left last)
        → (IsOfBlock shown → real (pass_block shown) (pass_number shown) (history_of shown))
        → at_owner place ⊥ (λ o. LeavesShown H real o before)
    left_shown real nowhere before left shown same ended there = absurd ended
    left_shown real static_data before left shown same ended there = absurd ended
    left_shown real (on_block None offset info) before left shown same ended there = absurd ended
    left_shown real (on_block (Some o) offset info) before left shown same ended there = record {
      left = shown;
      last = ended.0;
      ended = subst (λ p. Leaves o before p ended.0) (sym same) ended.1;
      there = there;
    }

    -- memory was refused for the block to which a vector's writer moves
    pub vector_refused : (place : Place (Option Owner) M) (before after : Pass H)
        → IsSharedPlace place → is_vector_at place ≡ true → after ≡ before
        → RefusesSplitAt place before after AllocError
    vector_refused nowhere before after there is same = absurd (false≢true is)
    vector_refused static_data before after there is same = absurd there
    vector_refused (on_block None offset info) before after there is same = absurd there
    vector_refused (on_block (Some o) offset info) before after there is same =
        subst (λ (s : Sort). RefusesSplit s o before after AllocError)
        (sym (vector-is info.sort is)) (refl, same)

module _ {T M H : Type 0} (real : BlockId → ℕ → List Line → Type 0) (one_pass : Bool) where
  -- who stands on a native block stays there
  pub stays_to_split : (v : NativeWriter T) (w : PartsView T M) (p : Pass H) → native_row v ≡ w
      → StandsToSplitAt H real false one_pass w (native_row v) p p w.place
  stays_to_split v w p view =
      subst (λ x. StandsToSplitAt H real false one_pass x (native_row v) p p x.place) view
      (refl, refl)

  -- who has a vector moves first
  pub moves_to_split : (w v : PartsView T M) (before between : Pass H)
      (place : Place (Option Owner) M) → is_vector_at place ≡ true
      → MovesToNative H real false one_pass w v before between
      → StandsToSplitAt H real false one_pass w v before between place
  moves_to_split w v before between nowhere is moved = absurd (false≢true is)
  moves_to_split w v before between static_data is moved = absurd (false≢true is)
  moves_to_split w v before between (on_block owner offset info) is moved =
      subst (λ (s : Sort). StandsToSplit H real false one_pass w v before between s)
      (sym (vector-is info.sort is)) moved

  -- a native block's writer was split where he stood: one part stays, and the other was made
  pub parts_split : (front_stays : Bool) (at : ℕ) (v front back stays made : NativeWriter T)
      (w x y : PartsView T M) (before between after : Pass H)
      → StandsToSplitAt H real false one_pass w (native_row v) before between w.place
      → x ≡ native_row stays → y ≡ native_row made
      → stays ≡ (if front_stays then front else back)
      → made ≡ (if front_stays then back else front)
      → front ≡ record (front_writer at v) { owner = front.owner }
      → back ≡ record (back_writer at v) { owner = back.owner }
      → SplitsOwner front_stays v.owner between after front.owner back.owner
      → SplitsWriterAt H real front_stays false one_pass at w x y before after
  parts_split true at v front back stays made w x y before between after stands kept new s m f b
      owners =
      let row = new ∙ ap native_row (m ∙ b) in record {
        whole = native_row v;
        between = between;
        stands = stands;
        stays = kept ∙ ap native_row
            (s ∙ f ∙ ap (λ o. record (front_writer at v) { owner = o }) owners.stays);
        items = ap (λ z. z.items) row;
        role = ap (λ z. z.role) row;
        shares = (back.owner, owners.made, ap (λ z. z.place) row);
      }
  parts_split false at v front back stays made w x y before between after stands kept new s m f b
      owners =
      let row = new ∙ ap native_row (m ∙ f) in record {
        whole = native_row v;
        between = between;
        stands = stands;
        stays = kept ∙ ap native_row
            (s ∙ b ∙ ap (λ o. record (back_writer at v) { owner = o }) owners.stays);
        items = ap (λ z. z.items) row;
        role = ap (λ z. z.role) row;
        shares = (front.owner, owners.made, ap (λ z. z.place) row);
      }

  -- without a block both parts stand on nothing
  idle-at : (front_stays : Bool) (p : Pass H) → SplitsWriterAt {T = T} {M = M} H real front_stays
      false one_pass 0 (as_shared idle_writer) (as_shared idle_writer) (as_shared idle_writer) p p
  idle-at true p = record {
    whole = as_shared idle_writer;
    between = p;
    stands = (refl, refl);
    stays = refl;
    items = refl;
    role = refl;
    shares = (refl, refl);
  }
  idle-at false p = record {
    whole = as_shared idle_writer;
    between = p;
    stands = (refl, refl);
    stays = refl;
    items = refl;
    role = refl;
    shares = (refl, refl);
  }

  pub idle_split : (front_stays : Bool) (at : ℕ) (w x y : PartsView T M) (p : Pass H)
      → w ≡ as_shared idle_writer → x ≡ as_shared idle_writer → y ≡ as_shared idle_writer → at ≤ 0
      → SplitsWriterAt H real front_stays false one_pass at w x y p p
  idle_split front_stays at w x y p idle first second none =
      let none_at : at ≡ 0 = omega (arith, none) in
      subst (λ (z : ℕ × (PartsView T M × (PartsView T M × PartsView T M))). SplitsWriterAt H real
      front_stays false one_pass z.0 z.1.0 z.1.1.0 z.1.1.1 p p)
      (λ i. (sym none_at i, (sym idle i, (sym first i, sym second i)))) (idle-at front_stays p)
