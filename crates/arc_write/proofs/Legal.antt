-- What is written stays legal.
use Rattle.std.proofs.Common.{◌≡◌, ℕ, ◌<◌, ◌≤◌, Bool, not, true, false, List, [], ◌∷◌, ◌++◌, length}
use Rattle.std.proofs.Common.{take, drop, if◌then◌else◌, Option, Result, Ok, Err, OnOk, IfErr, refl}
use Rattle.std.proofs.Common.{sym, ap, ◌∙◌, subst, arith}
use Rattle.std.specs.Prelude.{nat_lt}
use Rattle.std.proofs.Math.Logic.{∥∥₁_map}
use Rattle.std.proofs.Math.Dec.{T}
use Rattle.std.proofs.Math.Facts.{ltb_yes, ltb_no}
use Rattle.std.proofs.lemmas.Bool.{false≢true}
use Rattle.std.proofs.lemmas.List.{take_all, drop_all}
use Rattle.arc_owners.specs.declared.error.TryReserveError.{TryReserveError}
use Rattle.arc_owners.specs.declared.count.tokens.Pass.{Pass}
use Rattle.arc_parts.specs.declared.room.Room.{Room}
use Rattle.arc_parts.specs.declared.room.Room.TheVariants.{Spare, Fresh, Behind, Front}
use Rattle.arc_parts.specs.declared.room.Room.TheVariants.{Growth, Own, Refused}
use Rattle.arc_owners.specs.count.Calls.{Owner}
use Rattle.arc_buffer.specs.Slice.{sub, IsEdge, IsRange}
use Rattle.arc_block.specs.Given.{Given}
use Rattle.arc_block.specs.Place.{Place, nowhere, static_data, on_block}
use Rattle.arc_block.specs.Table.{bare}
use Rattle.arc_parts.specs.Window.{PartsView}
use Rattle.arc_parts.specs.Shared.{MakesRoomBeside, MakesRoomIf, MakesSharedRoom}
use Rattle.arc_parts.specs.Shared.{as_unique, asks_alone}
use Rattle.arc_parts.specs.Writers.{room_for, MakesRoom, Reclaims, as_sole, sole_at}
use Rattle.arc_parts.specs.Writers.{after_advance, after_truncate, with_capacity}
use Rattle.arc_parts.specs.Writers.{BecomesSole, BecomesSoleAt}
use Rattle.arc_writer_parts.specs.Roles.{AsksRoom}

yes : (b : Bool) → b ≡ true → T b
yes true e = tt
yes false e = absurd (false≢true e)

no : (b : Bool) → b ≡ false → T (not b)
no false e = tt
no true e = absurd (false≢true (sym e))

-- a list of no length has no items
no-items : {T : Type 0} → (xs : List T) → length xs ≡ 0 → xs ≡ []
no-items [] e = refl
no-items (x ∷ xs) e = absurd (omega (arith, e))

module _ {X : Type 0} (legal : List X → Type 0) where
  -- the same items are as legal
  same : {old new : List X} → new ≡ old → ∥ legal old ∥₁ → ∥ legal new ∥₁
  same e l = subst (λ xs. ∥ legal xs ∥₁) (sym e) l

  cut-legal : (boundary : List X → ℕ → Bool)
      → ((xs : List X) (s e : ℕ) → legal xs → IsRange boundary xs s e → legal (sub xs s e))
      → ((xs : List X) → legal xs → IsEdge boundary xs 0 × IsEdge boundary xs (length xs))
      → (xs : List X) (n : ℕ) → IsEdge boundary xs n → ∥ legal xs ∥₁ → ∥ legal (take n xs) ∥₁
  cut-legal boundary part ends xs n edge l = ∥∥₁_map l (λ h. part xs 0 n h (record {
    ordered = omega arith;
    within = edge.within;
    from = (ends xs h).0.cuts;
    to = edge.cuts;
  }))

  back-legal : (boundary : List X → ℕ → Bool)
      → ((xs : List X) (s e : ℕ) → legal xs → IsRange boundary xs s e → legal (sub xs s e))
      → ((xs : List X) → legal xs → IsEdge boundary xs 0 × IsEdge boundary xs (length xs))
      → (xs : List X) (n : ℕ) → IsEdge boundary xs n → ∥ legal xs ∥₁ → ∥ legal (drop n xs) ∥₁
  back-legal boundary part ends xs n edge l =
      let all : sub xs n (length xs) ≡ drop n xs = ap (drop n)
      (take_all (length xs) xs (omega arith)) in
      ∥∥₁_map l (λ h. subst legal all (part xs n (length xs) h (record {
        ordered = edge.within;
        within = omega arith;
        from = edge.cuts;
        to = (ends xs h).1.cuts;
      })))

  by_test : (boundary : List X → ℕ → Bool)
      → ((xs : List X) (s e : ℕ) → legal xs → IsRange boundary xs s e → legal (sub xs s e))
      → ((xs : List X) → legal xs → IsEdge boundary xs 0 × IsEdge boundary xs (length xs))
      → (xs : List X) (n : ℕ) → (n < length xs → IsEdge boundary xs n) → ∥ legal xs ∥₁
      → (b : Bool) → nat_lt n (length xs) ≡ b → ∥ legal (if b then take n xs else xs) ∥₁
  by_test boundary part ends xs n edge l true short =
      cut-legal boundary part ends xs n (edge (ltb_yes (yes (nat_lt n (length xs)) short))) l
  by_test boundary part ends xs n edge l false short = l

module _ {T M : Type 0} (legal : List T → Type 0) where
  -- where a sole writer is refused room, his items stay
  sole-refused : {H : Type 0} → (drops one_pass : Bool) (room : Room) (old new : PartsView T M)
      (before after : Pass H) (e : TryReserveError)
      → MakesRoom drops one_pass room old new before after (Err e) → new.items ≡ old.items
  sole-refused drops one_pass Spare old new before after e r = ap (λ w. w.items) r.1
  sole-refused drops one_pass Behind old new before after e r = ap (λ w. w.items) r.1
  sole-refused drops one_pass Front old new before after e r = ap (λ w. w.items) r.1
  sole-refused drops one_pass (Fresh places) old new before after e r = ap (λ w. w.items) r.1
  sole-refused drops one_pass (Growth places) old new before after e r = ap (λ w. w.items) r.1
  sole-refused drops one_pass (Own additional) old new before after e r = ap (λ w. w.items) r.1
  sole-refused drops one_pass (Refused refusal) old new before after e r = ap (λ w. w.items) r.1

  -- and so do those of one of several
  beside-items : {H : Type 0} → (one_pass : Bool) (room : Room) (old new : PartsView T M)
      (before after : Pass H) (e : TryReserveError)
      → MakesRoomBeside one_pass room old new before after (Err e) → new.items ≡ old.items
  beside-items one_pass room old new before after e made =
      ap (λ w. w.items) made.shared
      ∙ sole-refused false one_pass room old made.sole before after e made.makes

  if-items : {H : Type 0} → (found one_pass : Bool) (room : Room) (old new : PartsView T M)
      (before after : Pass H) (e : TryReserveError)
      → MakesRoomIf found one_pass room old new before after (Err e) → new.items ≡ old.items
  if-items true one_pass room old new before after e made =
      beside-items one_pass room (as_unique old) new before after e made
  if-items false one_pass room old new before after e made = ap (λ w. w.items) made.1

  shared-refused : {H : Type 0} → (asks one_pass : Bool) (room : Room) (old new : PartsView T M)
      (before after : Pass H) (e : TryReserveError)
      → MakesSharedRoom asks one_pass room old new before after (Err e) → new.items ≡ old.items
  shared-refused true one_pass room old new before after e made =
      if-items made.0 one_pass room old new made.1 after e made.3
  shared-refused false one_pass room old new before after e made =
      beside-items one_pass room (as_unique old) new before after e made

  -- room that is had without memory keeps a list legal
  pub reclaimed_legal : (room : Room) (old new : PartsView T M) (found : Bool)
      → Reclaims room old new found → ∥ legal old.items ∥₁
      → ∥ legal new.items ∥₁
  reclaimed_legal Spare old new found r l = same legal (ap (λ w. w.items) r.1) l
  reclaimed_legal Behind old new found r l = same legal (ap (λ w. w.items) r.1) l
  reclaimed_legal Front old new found r l = same legal (ap (λ w. w.items) r.1) l
  reclaimed_legal (Fresh places) old new found r l = same legal (ap (λ w. w.items) r.1) l
  reclaimed_legal (Growth places) old new found r l = same legal (ap (λ w. w.items) r.1) l
  reclaimed_legal (Own additional) old new found r l = same legal (ap (λ w. w.items) r.1) l
  reclaimed_legal (Refused e) old new found r l = same legal (ap (λ w. w.items) r.1) l

  -- the first items of a legal list, and those behind them, where it may be cut there
  pub advanced_legal : (boundary : List T → ℕ → Bool)
      → ((xs : List T) (s e : ℕ) → legal xs → IsRange boundary xs s e → legal (sub xs s e))
      → ((xs : List T) → legal xs → IsEdge boundary xs 0 × IsEdge boundary xs (length xs))
      → (n : ℕ) (old new : PartsView T M) → new ≡ after_advance n old → IsEdge boundary old.items n
      → ∥ legal old.items ∥₁ → ∥ legal new.items ∥₁
  advanced_legal boundary part ends n old new is edge l =
      subst (λ zs. ∥ legal zs ∥₁) (sym (ap (λ w. w.items) is))
      (back-legal legal boundary part ends old.items n edge l)

  items_of : (drops : Bool) (n : ℕ) (w : PartsView T M) (b : Bool)
      → (if b then record w {
        items = take n w.items;
        role = if drops then with_capacity w.role n
            else w.role;
      } else w).items
      ≡ (if b then take n w.items else w.items)
  items_of drops n w true = refl
  items_of drops n w false = refl

  pub truncated_legal : (boundary : List T → ℕ → Bool)
      → ((xs : List T) (s e : ℕ) → legal xs → IsRange boundary xs s e → legal (sub xs s e))
      → ((xs : List T) → legal xs → IsEdge boundary xs 0 × IsEdge boundary xs (length xs))
      → (drops : Bool) (n : ℕ) (old new : PartsView T M) → new ≡ after_truncate drops n old
      → (n < length old.items → IsEdge boundary old.items n)
      → ∥ legal old.items ∥₁ → ∥ legal new.items ∥₁
  truncated_legal boundary part ends drops n old new is edge l =
      let shorter : List T = take n old.items in
      let first : (b : Bool) → nat_lt n (length old.items) ≡ b
      → ∥ legal (if b then shorter else old.items) ∥₁ =
      λ b e. by_test legal boundary part ends old.items n edge l b e in
      subst (λ zs. ∥ legal zs ∥₁)
      (sym (ap (λ w. w.items) is ∙ items_of drops n old (nat_lt n (length old.items))))
      (first (nat_lt n (length old.items)) refl)

  sole-at-legal : {H : Type 0} (has_any drops : Bool) (xs : List T) (place : Place (Option Owner) M)
      (v : PartsView T M) (before after : Pass H) → v ≡ sole_at drops xs place
      → BecomesSoleAt has_any place (length xs) before after → ∥ legal xs ∥₁ → ∥ legal v.items ∥₁
  sole-at-legal has_any drops xs nowhere v before after is none l =
      subst (λ zs. ∥ legal zs ∥₁) (no-items xs none.0 ∙ sym (ap (λ w. w.items) is)) l
  sole-at-legal has_any drops xs static_data v before after is none l =
      subst (λ zs. ∥ legal zs ∥₁) (no-items xs none.0 ∙ sym (ap (λ w. w.items) is)) l
  sole-at-legal has_any drops xs (on_block owner offset info) v before after is asked l =
      subst (λ zs. ∥ legal zs ∥₁) (sym (ap (λ w. w.items) is)) l

  -- what becomes a sole writer's
  pub sole_legal : {H : Type 0} (has_any drops : Bool) (w v : PartsView T M) (before after : Pass H)
      → v ≡ as_sole drops w → BecomesSole has_any w before after
      → ∥ legal w.items ∥₁ → ∥ legal v.items ∥₁
  sole_legal has_any drops w v before after is asked l =
      sole-at-legal has_any drops w.items w.place v before after is asked l

module _ {T B M : Type 0} (legal : List T → Type 0) where
  -- where a writer of either role is refused room, his items stay
  pub refused_items : {H : Type 0} → (several drops one_pass : Bool) (item_size additional : ℕ)
      (old new : PartsView T (Given B M)) (before after : Pass H) (e : TryReserveError)
      → AsksRoom several drops one_pass item_size additional old new before after (Err e)
      → new.items ≡ old.items
  refused_items false drops one_pass item_size additional old new before after e r =
      sole-refused legal drops one_pass (room_for drops item_size (bare old) additional)
      (bare old) (bare new) before after e r
  refused_items true drops one_pass item_size additional old new before after e r =
      shared-refused legal (asks_alone (bare old) additional) one_pass
      (room_for false item_size (bare old) additional) (bare old) (bare new) before after e r

  -- whether a list was pushed or refused, what is there is legal
  pub extend_legal : {E H : Type 0} → (several drops one_pass : Bool) (item_size additional : ℕ)
      (xs : List T) (old new : PartsView T (Given B M)) (before after : Pass H)
      (why : E → TryReserveError)
      → ((ys : List T) → legal ys → legal (ys ++ xs)) → (reply : Result (Unit {0}) E)
      → OnOk reply (new.items ≡ old.items ++ xs)
      → IfErr reply (λ e. AsksRoom several drops one_pass item_size additional
      old new before after (Err (why e)))
      → ∥ legal old.items ∥₁ → ∥ legal new.items ∥₁
  extend_legal several drops one_pass item_size n xs old new before after why more (Ok u) pushed
      refused l =
      same legal pushed (∥∥₁_map l (λ h. more old.items h))
  extend_legal several drops one_pass item_size n xs old new before after why more (Err e) pushed
      refused l =
      same legal (refused_items several drops one_pass item_size n old new before after (why e)
      refused) l

  -- and whether an item was, or handed back
  pub push_legal : {H : Type 0} → (several drops one_pass : Bool) (item_size additional : ℕ) (x : T)
      (old new : PartsView T (Given B M)) (before after : Pass H)
      → ((ys : List T) → legal ys → legal (ys ++ x ∷ []))
      → (reply : Result (Unit {0}) (TryReserveError × T))
      → OnOk reply (new.items ≡ old.items ++ x ∷ [])
      → IfErr reply (λ r. (r.1 ≡ x) × AsksRoom several drops one_pass item_size additional
      old new before after (Err r.0))
      → ∥ legal old.items ∥₁ → ∥ legal new.items ∥₁
  push_legal several drops one_pass item_size n x old new before after more (Ok u) pushed refused
      l =
      extend_legal several drops one_pass item_size n (x ∷ []) old new before after
      (λ (r : TryReserveError × T). r.0) more (Ok u) pushed tt l
  push_legal several drops one_pass item_size n x old new before after more (Err r) pushed refused
      l =
      extend_legal several drops one_pass item_size n (x ∷ []) old new before after
      (λ (r : TryReserveError × T). r.0) more (Err r) tt refused.1 l

module _ {T : Type 0} (legal : List T → Type 0) where
  -- no items of a legal list are legal
  none-legal : (boundary : List T → ℕ → Bool)
      → ((xs : List T) (s e : ℕ) → legal xs → IsRange boundary xs s e → legal (sub xs s e))
      → ((xs : List T) → legal xs → IsEdge boundary xs 0 × IsEdge boundary xs (length xs))
      → (xs : List T) → ∥ legal xs ∥₁ → ∥ legal [] ∥₁
  none-legal boundary part ends xs l = ∥∥₁_map l (λ h. part xs 0 0 h (record {
    ordered = omega arith;
    within = omega arith;
    from = (ends xs h).0.cuts;
    to = (ends xs h).0.cuts;
  }))

  front-by : (boundary : List T → ℕ → Bool)
      → ((xs : List T) (s e : ℕ) → legal xs → IsRange boundary xs s e → legal (sub xs s e))
      → ((xs : List T) → legal xs → IsEdge boundary xs 0 × IsEdge boundary xs (length xs))
      → (xs : List T) (at : ℕ) → (at < length xs → IsEdge boundary xs at) → ∥ legal xs ∥₁
      → (b : Bool) → nat_lt at (length xs) ≡ b
      → ∥ legal (take at xs) ∥₁ × ∥ legal (drop at xs) ∥₁
  front-by boundary part ends xs at edge l true short =
      let here = edge (ltb_yes (yes (nat_lt at (length xs)) short)) in (
        cut-legal legal boundary part ends xs at here l,
        back-legal legal boundary part ends xs at here l,
      )
  front-by boundary part ends xs at edge l false long =
      let all : length xs ≤ at = ltb_no (no (nat_lt at (length xs)) long) in (
        same legal (take_all at xs all) l,
        same legal (drop_all at xs all) (none-legal boundary part ends xs l),
      )

  -- both parts of a legal list that is split where that may be done
  pub split_legal : (boundary : List T → ℕ → Bool)
      → ((xs : List T) (s e : ℕ) → legal xs → IsRange boundary xs s e → legal (sub xs s e))
      → ((xs : List T) → legal xs → IsEdge boundary xs 0 × IsEdge boundary xs (length xs))
      → (xs : List T) (at : ℕ) → (at < length xs → IsEdge boundary xs at) → ∥ legal xs ∥₁
      → ∥ legal (take at xs) ∥₁ × ∥ legal (drop at xs) ∥₁
  split_legal boundary part ends xs at edge l =
      front-by boundary part ends xs at edge l (nat_lt at (length xs)) refl
