-- What is known of each legal list, of a cut and of a split.
use Rattle.std.proofs.Common.{◌≡◌, ℕ, ◌+◌, ◌≤◌, ◌<◌, Bool, true, List, length, take, drop}
use Rattle.std.proofs.Common.{refl, sym, ap, ◌∙◌, subst, arith, slice_range, Result, Ok, Err, IfOk}
use Rattle.std.proofs.lemmas.List.{take_all}
use Rattle.arc_owners.specs.declared.count.tokens.Pass.{Pass}
use Rattle.std.proofs.Math.Logic.{∥∥₁_map, ∥∥₁_elim}
use Rattle.std.proofs.Math.Bool.{Bool-set}
use Rattle.arc_buffer.specs.Slice.{sub, IsEdge, IsRange}
use Rattle.arc_buffer.specs.Laws.{sub-slice_range}
use Rattle.arc_buffer.proofs.Sub.{sub-sub}
use Rattle.arc_block.specs.Layouts.{LayoutFacts}
use Rattle.arc_block.specs.Place.{Place, nowhere, static_data, on_block, moved}
use Rattle.arc_block.specs.Table.{reader}
use Rattle.arc_parts.specs.Window.{PartsView, Window, IsHeld}
use Rattle.arc_read.specs.Cuts.{SharesPart, SplitsOff, SplitsTo, cut_window}
use Rattle.arc_parts.proofs.Held.{moved_held}

module _ {T : Type 0} (legal : List T → Type 0) (boundary : List T → ℕ → Bool) where
  -- a range of a legal list is legal
  pub part_legal : ((xs : List T) (s e : ℕ) → legal xs → IsRange boundary xs s e
      → legal (sub xs s e))
      → (xs : List T) (start end : ℕ) → ∥ legal xs ∥₁ → (legal xs → IsRange boundary xs start end)
      → ∥ legal (sub xs start end) ∥₁
  part_legal law xs start end good range = ∥∥₁_map good (λ h. law xs start end h (range h))

  -- a part of it may be cut where it may
  pub part_cuts : ((xs : List T) (s e at : ℕ) → legal xs → IsRange boundary xs s e → s + at ≤ e
      → boundary (sub xs s e) at ≡ boundary xs (s + at))
      → (xs : List T) (start end : ℕ) → ∥ legal xs ∥₁ → IsRange boundary xs start end → (at : ℕ)
      → start + at ≤ end → boundary (sub xs start end) at ≡ boundary xs (start + at)
  part_cuts law xs start end good range at upto =
      ∥∥₁_elim {P = boundary (sub xs start end) at ≡ boundary xs (start + at)} good
      (Bool-set (boundary (sub xs start end) at) (boundary xs (start + at)))
      (λ h. law xs start end at h range upto)

  -- what holds of each legal list, and is a test
  edge_of_legal : (xs : List T) (at : ℕ) → at ≤ length xs → (legal xs → IsEdge boundary xs at)
      → ∥ legal xs ∥₁ → IsEdge boundary xs at
  edge_of_legal xs at within edge good =
      record {
        within = within;
        cuts = ∥∥₁_elim {P = boundary xs at ≡ true} good
            (Bool-set (boundary xs at) true) (λ h. (edge h).cuts);
      }

  -- it may be cut at both ends
  pub both_edges : ((xs : List T) → legal xs → IsEdge boundary xs 0
      × IsEdge boundary xs (length xs)) → (xs : List T) → ∥ legal xs ∥₁ → IsEdge boundary xs 0
      × IsEdge boundary xs (length xs)
  both_edges ends xs good = (
    edge_of_legal xs 0 (omega arith) (λ h. (ends xs h).0) good,
    edge_of_legal xs (length xs)
        (omega arith) (λ h. (ends xs h).1) good,
  )

  -- what holds of the parts of a window that is read
  abbrev pub IsRead : {M : Type 0} → LayoutFacts → PartsView T M → Type 0
  IsRead layout p = (p.role ≡ reader) × IsHeld layout p.place × ∥ legal p.items ∥₁

  -- it also holds of what is kept of them
  pub keeps : {M : Type 0} → ((xs : List T) (s e : ℕ) → legal xs → IsRange boundary xs s e
      → legal (sub xs s e))
      → (layout : LayoutFacts) (p q : PartsView T M) (start end : ℕ)
      → q ≡ record { items = sub p.items start end; place = moved start p.place; role = p.role }
      → IsRead layout p → (legal p.items → IsRange boundary p.items start end) → IsRead layout q
  keeps law layout p q start end is read range =
      subst (IsRead layout) (sym is) (
        read.0,
        moved_held layout start p.place read.1,
        part_legal law
            p.items start end read.2 range,
      )

moved-moved : {N M : Type 0} (by more : ℕ) (place : Place N M) → moved more (moved by place) ≡ moved
    (by + more) place
moved-moved by more nowhere = refl
moved-moved by more static_data = refl
moved-moved by more (on_block block offset info) =
    let same : (offset + by) + more ≡ offset + (by + more) = omega arith in
    ap (λ n. on_block block n info) same

-- the items of a window that was made, in the words of std's slices
pub slice_of : {T M E : Type 0} (made : Result (Window T M) E) (xs : List T) (start end : ℕ)
    → start ≤ end → IfOk made (λ part. part.items ≡ sub xs start end)
    → IfOk made (λ part. part.items ≡ slice_range xs start end)
slice_of (Ok part) xs start end ordered items = items ∙ sub-slice_range xs start end ordered
slice_of (Err e) xs start end ordered items = tt

-- a part of a part is a part
pub cut-cut : {T M : Type 0} (w : Window T M) (from to start end : ℕ) → from + end ≤ to
    → cut_window w (from + start) (from + end) ≡ cut_window (cut_window w from to) start end
cut-cut w from to start end upto =
    ap (λ xs. record { items = xs; place = moved (from + start) w.place })
    (sym (sub-sub w.items from to start end upto))
    ∙ ap (λ place. record { items = sub (sub w.items from to) start end; place = place })
    (sym (moved-moved from start w.place))

unmoved : {N M : Type 0} (place : Place N M) → place ≡ moved 0 place
unmoved nowhere = refl
unmoved static_data = refl
unmoved (on_block block offset info) =
    let same : offset ≡ offset + 0 = omega arith in ap (λ n. on_block block n info) same

-- a window was split in two
module _ {T M H : Type 0} (has_static : Bool) (w : Window T M) (at : ℕ) (old new : Pass H)
    (front back : Window T M) where
  all : take (length w.items) w.items ≡ w.items
  all = take_all (length w.items) w.items (omega arith)

  -- at its end the back is new
  pub split_at_end : at ≡ length w.items → front ≡ w → (made : Window T M) → back ≡ made
      → SharesPart has_static w at at old new made → SplitsTo has_static w at old new front back
  split_at_end is same made left shares =
      let part = subst (λ v. SharesPart has_static w at at old new v) (sym left) shares in
      let whole : take at w.items ≡ w.items = take_all at w.items (omega (arith, is)) in record {
        lists = (
          ap (λ (v : Window T M). v.items) same ∙ sym whole,
          part.0 ∙ ap (λ xs. drop at xs) whole,
        );
        at_end = λ there. (same, part);
        earlier = λ less. absurd (omega (arith, is, less));
      }

  -- before it the front is new
  pub split_earlier : at < length w.items
      → back ≡ record { items = drop at w.items; place = moved at w.place }
      → SharesPart has_static w 0 at old new front → SplitsTo has_static w at old new front back
  split_earlier less rest part = record {
    lists = (part.0, ap (λ (v : Window T M). v.items) rest);
    at_end = λ is. absurd (omega (arith, is, less));
    earlier = λ there. (
      rest ∙ ap (λ xs. record { items = drop at xs; place = moved at w.place }) (sym all),
      part,
    );
  }

  -- behind its start the back is new
  pub split_later : 0 < at → front ≡ record { items = take at w.items; place = w.place }
      → (len : ℕ) → len ≡ length w.items → SharesPart has_static w at len old new back
      → SplitsOff has_static w at old new front back
  split_later some kept len long shares =
      let part = subst (λ n. SharesPart has_static w at n old new back) long shares in record {
        lists = (
          ap (λ (v : Window T M). v.items) kept,
          part.0 ∙ ap (λ xs. drop at xs) all,
        );
        at_start = λ is. absurd (omega (arith, is, some));
        later = λ there. (
          kept ∙ ap (λ place. record { items = take at w.items; place = place }) (unmoved w.place),
          part,
        );
      }
