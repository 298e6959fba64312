-- A writer's window that reads from now on: what becomes of its row, of where it stands, and of the
-- passes of the blocks.
use Rattle.std.proofs.Common.{◌≡◌, ℕ, ◌&&◌, not, Bool, true, false}
use Rattle.std.proofs.Common.{if◌then◌else◌, List, [], ◌∷◌, ◌++◌, length, Option, Some, None}
use Rattle.std.proofs.Common.{is_some, refl, sym, ap, ◌∙◌, subst}
use Rattle.std.specs.Prelude.{◌+◌}
use Rattle.std.proofs.lemmas.Bool.{false≢true}
use Rattle.arc_owners.specs.history.Histories.{Counted}
use Rattle.arc_owners.specs.declared.mark.Whole.{Whole}
use Rattle.arc_owners.specs.declared.count.tokens.Pass.{Pass}
use Rattle.arc_owners.specs.count.Calls.{Owner, IsFirst, IsFreshPass}
use Rattle.arc_block.specs.declared.block.TheConstants.{MAX_OWNERS}
use Rattle.arc_block.specs.Block.{Sort, native, vector, buffer, raw, native_facts}
use Rattle.arc_block.specs.Block.{IsWritable}
use Rattle.arc_block.specs.Layouts.{LayoutFacts}
use Rattle.arc_block.specs.Place.{nowhere, static_data, on_block}
use Rattle.arc_block.specs.Place.{at_owner}
use Rattle.arc_parts.specs.Moves.{Moves}
use Rattle.arc_block.specs.Moves.{counted_move, layout_move}
use Rattle.arc_block.specs.declared.layout.Move.{Move}
use Rattle.arc_block.specs.declared.layout.Move.TheVariants as to
use Rattle.arc_block.specs.Table.{Role, reader}
use Rattle.arc_parts.specs.Window.{Window, PartsView, window_of, parts_of}
use Rattle.arc_parts.specs.Writers.{as_reader}
use Rattle.arc_parts.specs.Writers.{Freezes, IsWriterPlace}
use Rattle.arc_commands.specs.Additions.{Founds}
use Rattle.arc_slots.specs.Slots.{SlotView, row_of, stand_of}
use Rattle.arc_slots.specs.Slots.{writer_slot}
use Rattle.arc_slots.specs.Stands.{numbered, is_numbered, stand_at, TakenOut, put_back}
use Rattle.arc_commands.specs.Changes.{made_row}
use Rattle.arc_slots.specs.Writing.{is_new, FreezesBy}
use Rattle.arc_slots.proofs.Taken.{back-same}
use Rattle.arc_slots.proofs.Filled.{At}

abbrev read_slot : {T M : Type 0} → Window T M → Option ℕ → SlotView T M
read_slot v n = record { window = v; role = reader; block = n }

new-if : (holds : Bool) → is_new (if holds then to.Stays else to.HandedBack) ≡ false
new-if true = refl
new-if false = refl

new-leaves : (by_itself holds : Bool)
    → is_new (if by_itself then to.LeavesCount else if holds then to.Stays
    else to.HandedBack) ≡ false
new-leaves true holds = refl
new-leaves false holds = new-if holds

-- no first block is made for who stands on one
pub new-moved : (layout : LayoutFacts) (sort : Sort) → is_new (counted_move layout sort) ≡ false
new-moved layout native = refl
new-moved layout vector = new-if layout.has_any
new-moved layout (buffer writable) = new-if layout.has_any
new-moved layout raw = new-leaves layout.by_itself layout.has_any

module _ {M : Type 0} (layout : LayoutFacts) where
  -- a first block is made for a writer on none, where the layout has no static data
  pub new_is : (b : Option ℕ) (place : At M) → is_numbered b place ≡ true → IsWriterPlace place
      → is_new (layout_move layout (numbered b place))
      ≡ (not (is_some b) && not layout.has_static)
  new_is None nowhere fits writes = by layout.has_static
    where
      by : (x : Bool) → is_new (if x then to.Stays else to.NewEmpty) ≡ (true && not x)
      by true = refl
      by false = refl
  new_is None static_data fits writes = absurd writes
  new_is None (on_block None offset info) fits writes = absurd writes
  new_is None (on_block (Some o) offset info) fits writes = absurd (false≢true fits)
  new_is (Some n) nowhere fits writes = absurd (false≢true fits)
  new_is (Some n) static_data fits writes = absurd (false≢true fits)
  new_is (Some n) (on_block None offset info) fits writes = absurd writes
  new_is (Some n) (on_block (Some o) offset info) fits writes = new-moved layout info.sort

module _ {T M : Type 0} (layout : LayoutFacts) (drops : Bool) (items : List T) (role : Role)
    (passes left : List (Pass Whole)) (p q : Pass Whole) (v : Window T M) (n : Option ℕ)
    (passes' : List (Pass Whole)) where
  abbrev writer_at : At M → PartsView T M
  writer_at place = record { items = items; place = place; role = role }

  -- it stays where it stood
  stayed-there : (b : Option ℕ) (place : At M) → TakenOut passes b p left
      → (parts_of v ≡ as_reader (writer_at place)) × (q ≡ p)
      → (n ≡ b) × (passes' ≡ put_back left b q)
      → FreezesBy to.Stays drops (writer_slot (writer_at place) b) (read_slot v n) passes passes'
  stayed-there b place took did kept = (
    ap (λ m. row_of (read_slot v m)) kept.0
        ∙ ap (λ (x : PartsView T M). row_of (read_slot (window_of x) b)) did.0,
    ap (λ m. stand_of (Some (read_slot v m))) kept.0
        ∙ ap (λ (x : PartsView T M). stand_at b x.place) did.0,
    kept.1 ∙ back-same passes left p b took q did.1,
  )

  abbrev made_by : Owner → Window T M
  made_by o = record {
    items = items;
    place = on_block (Some o) (0 + 0) (native_facts drops (length items));
  }

  -- or is what is made of its items, on a block more
  founded : left ≡ passes → (o : Owner) → v ≡ made_by o → IsFirst MAX_OWNERS true Counted o
      → IsFreshPass o q → (n ≡ Some (length left)) × (passes' ≡ left ++ q ∷ [])
      → (row_of (read_slot v n) ≡ made_row false drops (length passes) items)
      × Founds (stand_of (Some (read_slot v n))) passes passes'
  founded all o made first fresh new =
      let number : n ≡ Some (length passes) =
      new.0 ∙ ap (λ (ps : List (Pass Whole)). Some (length ps)) all in
      let after : passes' ≡ passes ++ q ∷ [] = new.1 ∙ ap (λ ps. ps ++ q ∷ []) all in (
        ap (λ x. row_of (read_slot x n)) made ∙ ap (λ m. row_of (read_slot (made_by o) m)) number,
        subst (λ x. Founds (stand_of (Some (read_slot x n))) passes passes') (sym made)
            (subst (λ m. Founds (stand_of (Some (read_slot (made_by o) m))) passes passes')
            (sym number) (refl, first, q, fresh, after)),
      )

  -- by where its window went
  module _ (begins : Bool) where
    abbrev Frozen : Option ℕ → At M → Move → Type 0
    Frozen b place move = TakenOut passes b p left
        → Moves move drops true (as_reader (writer_at place)) (parts_of v) p q
        → begins ≡ is_new move
        → (begins ≡ false → (n ≡ b) × (passes' ≡ put_back left b q))
        → (begins ≡ true → (n ≡ Some (length left)) × (passes' ≡ left ++ q ∷ []))
        → FreezesBy move drops (writer_slot (writer_at place) b) (read_slot v n) passes passes'

    from-nowhere : (x : Bool) → Frozen None nowhere (if x then to.Stays else to.NewEmpty)
    from-nowhere true took moved begun same new =
        stayed-there None nowhere took moved (same begun)
    from-nowhere false took moved begun same new =
        let made = moved.0 in
        founded took.1 made.owner made.made
        (subst (λ (x : Window T M). at_owner x.place (Unit {0})
        (λ y. IsFirst MAX_OWNERS true Counted y))
        made.made made.first)
        (subst (λ (x : Window T M). at_owner x.place (q ≡ p) (λ y. IsFreshPass y q)) made.made
        moved.1) (new begun)

    from-if : (holds : Bool) (b : Option ℕ) (place : At M)
        → Frozen b place (if holds then to.Stays else to.HandedBack)
    from-if true b place took moved begun same new =
        stayed-there b place took moved (same begun)
    from-if false b place took moved begun same new = absurd moved

    -- a writer stands on no `Arc`
    from-block : (sort : Sort) → IsWritable sort → (b : Option ℕ) (place : At M)
        → Frozen b place (counted_move layout sort)
    from-block native writes b place = from-if true b place
    from-block vector writes b place = from-if layout.has_any b place
    from-block (buffer writable) writes b place = from-if layout.has_any b place
    from-block raw writes b place = absurd writes

    frozen_each : (b : Option ℕ) (place : At M) → is_numbered b place ≡ true
        → IsWriterPlace place → TakenOut passes b p left
        → Moves (layout_move layout place) drops true (as_reader (writer_at place))
        (parts_of v) p q
        → begins ≡ is_new (layout_move layout (numbered b place))
        → (begins ≡ false → (n ≡ b) × (passes' ≡ put_back left b q))
        → (begins ≡ true → (n ≡ Some (length left)) × (passes' ≡ left ++ q ∷ []))
        → FreezesBy (layout_move layout (numbered b place)) drops
        (writer_slot (writer_at place) b) (read_slot v n) passes passes'
    frozen_each None nowhere fits writes = from-nowhere layout.has_static
    frozen_each None static_data fits writes = absurd writes
    frozen_each None (on_block None offset info) fits writes = absurd writes
    frozen_each None (on_block (Some o) offset info) fits writes = absurd (false≢true fits)
    frozen_each (Some k) nowhere fits writes = absurd (false≢true fits)
    frozen_each (Some k) static_data fits writes = absurd (false≢true fits)
    frozen_each (Some k) (on_block None offset info) fits writes = absurd writes
    frozen_each (Some k) (on_block (Some o) offset info) fits writes =
        from-block info.sort writes (Some k) (on_block (Some o) offset info)

module _ {T M : Type 0} (layout : LayoutFacts) (drops : Bool) (items : List T) (role : Role)
    (left : List (Pass Whole)) (p q : Pass Whole) (v : Window T M) (n : Option ℕ)
    (passes' : List (Pass Whole)) (begins : Bool) where
  abbrev frozen_at : At M → PartsView T M
  frozen_at place = record { items = items; place = place; role = role }

  -- a window that a writer became, by where his went, has the number of its block
  abbrev Numbered : Option ℕ → At M → Move → Type 0
  Numbered b place move =
      Moves move drops true (as_reader (frozen_at place)) (parts_of v) p q
      → begins ≡ is_new move
      → (begins ≡ false → (n ≡ b) × (passes' ≡ put_back left b q))
      → (begins ≡ true → (n ≡ Some (length left)) × (passes' ≡ left ++ q ∷ []))
      → is_numbered n v.place ≡ true

  numbered-there : (b : Option ℕ) (place : At M) → is_numbered b place ≡ true
      → (parts_of v ≡ as_reader (frozen_at place)) × (q ≡ p)
      → (n ≡ b) × (passes' ≡ put_back left b q) → is_numbered n v.place ≡ true
  numbered-there b place fits did kept =
      ap (λ m. is_numbered m v.place) kept.0
      ∙ ap (λ (x : PartsView T M). is_numbered b x.place) did.0 ∙ fits

  numbered-nowhere : (x : Bool)
      → Numbered None nowhere (if x then to.Stays else to.NewEmpty)
  numbered-nowhere true moved begun same new =
      numbered-there None nowhere refl moved (same begun)
  numbered-nowhere false moved begun same new =
      ap (λ m. is_numbered m v.place) (new begun).0
      ∙ ap (λ (x : Window T M). is_numbered (Some (length left)) x.place) moved.0.made

  numbered-if : (holds : Bool) (b : Option ℕ) (place : At M) → is_numbered b place ≡ true
      → Numbered b place (if holds then to.Stays else to.HandedBack)
  numbered-if true b place fits moved begun same new =
      numbered-there b place fits moved (same begun)
  numbered-if false b place fits moved begun same new = absurd moved

  numbered-block : (sort : Sort) → IsWritable sort → (b : Option ℕ) (place : At M)
      → is_numbered b place ≡ true → Numbered b place (counted_move layout sort)
  numbered-block native writes b place fits = numbered-if true b place fits
  numbered-block vector writes b place fits = numbered-if layout.has_any b place fits
  numbered-block (buffer writable) writes b place fits = numbered-if layout.has_any b place fits
  numbered-block raw writes b place fits = absurd writes

  frozen-numbered : (b : Option ℕ) (place : At M) → is_numbered b place ≡ true
      → IsWriterPlace place
      → Moves (layout_move layout place) drops true (as_reader (frozen_at place)) (parts_of v) p q
      → begins ≡ is_new (layout_move layout (numbered b place))
      → (begins ≡ false → (n ≡ b) × (passes' ≡ put_back left b q))
      → (begins ≡ true → (n ≡ Some (length left)) × (passes' ≡ left ++ q ∷ []))
      → is_numbered n v.place ≡ true
  frozen-numbered None nowhere fits writes = numbered-nowhere layout.has_static
  frozen-numbered None static_data fits writes = absurd writes
  frozen-numbered None (on_block None offset info) fits writes = absurd writes
  frozen-numbered None (on_block (Some o) offset info) fits writes = absurd (false≢true fits)
  frozen-numbered (Some k) nowhere fits writes = absurd (false≢true fits)
  frozen-numbered (Some k) static_data fits writes = absurd (false≢true fits)
  frozen-numbered (Some k) (on_block None offset info) fits writes = absurd writes
  frozen-numbered (Some k) (on_block (Some o) offset info) fits writes =
      numbered-block info.sort writes (Some k) (on_block (Some o) offset info) refl

module _ {T M : Type 0} (w : PartsView T M) (b : Option ℕ) (s : SlotView T M)
    (seen-slot : writer_slot w b ≡ s) (fits : is_numbered b w.place ≡ true)
    (layout : LayoutFacts) where
  pub slot-frozen : IsWriterPlace w.place → (drops : Bool) (passes left : List (Pass Whole))
      (p q : Pass Whole) (v : Window T M) (n : Option ℕ) (passes' : List (Pass Whole))
      (begins : Bool) → TakenOut passes b p left
      → Freezes layout drops true w (parts_of v) p q
      → begins ≡ is_new (layout_move layout (row_of s).place)
      → (begins ≡ false → (n ≡ b) × (passes' ≡ put_back left b q))
      → (begins ≡ true → (n ≡ Some (length left)) × (passes' ≡ left ++ q ∷ []))
      → FreezesBy (layout_move layout (row_of s).place) drops s (read_slot v n) passes
      passes'
  slot-frozen writes drops passes left p q v n passes' begins took frozen begun same new =
      subst (λ (t : SlotView T M). FreezesBy (layout_move layout (row_of t).place) drops t
      (read_slot v n) passes passes') seen-slot
      (frozen_each layout drops w.items w.role passes left p q v n passes' begins b
      w.place fits writes took frozen
      (begun ∙ ap (λ (t : SlotView T M). is_new (layout_move layout (row_of t).place))
      (sym seen-slot)) same new)

  -- and it has the number of its block
  pub slot-numbered : IsWriterPlace w.place → (drops : Bool) (left : List (Pass Whole))
      (p q : Pass Whole) (v : Window T M) (n : Option ℕ) (passes' : List (Pass Whole))
      (begins : Bool) → Freezes layout drops true w (parts_of v) p q
      → begins ≡ is_new (layout_move layout (row_of s).place)
      → (begins ≡ false → (n ≡ b) × (passes' ≡ put_back left b q))
      → (begins ≡ true → (n ≡ Some (length left)) × (passes' ≡ left ++ q ∷ []))
      → is_numbered n v.place ≡ true
  slot-numbered writes drops left p q v n passes' begins frozen begun same new =
      frozen-numbered layout drops w.items w.role left p q v n passes' begins b w.place
      fits writes frozen
      (begun ∙ ap (λ (t : SlotView T M). is_new (layout_move layout (row_of t).place))
      (sym seen-slot)) same new
