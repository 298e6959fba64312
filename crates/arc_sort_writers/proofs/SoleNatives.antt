-- Sole writers of native blocks: what is taken back, and what is refused.
use Rattle.std.proofs.Common.{◌≡◌, ℕ, ◌+◌, ◌-◌, ◌≤◌, Bool, true, false, List, length, Some, refl}
use Rattle.std.proofs.Common.{sym, ap, ◌∙◌, subst, arith}
use Rattle.arc_owners.specs.count.Calls.{Owner, Asks}
use Rattle.arc_owners.specs.declared.count.tokens.Pass.{Pass}
use Rattle.arc_memory.specs.declared.writer_memory.WriterMemory.{WriterMemory}
use Rattle.arc_buffer.specs.Slice.{sub}
use Rattle.arc_buffer.proofs.Sub.{length-sub, sub-whole}
use Rattle.arc_parts.specs.declared.storage.Storage.TheVariants.{Native}
use Rattle.arc_block.specs.Natives.{NativeView, native_info, native_over, native_taken, IsAmong}
use Rattle.arc_block.specs.Place.{on_block}
use Rattle.arc_block.specs.Table.{sole_writer}
use Rattle.arc_parts.specs.Window.{PartsView, parts_of, window_seen}
use Rattle.arc_parts.specs.Writers.{writer_capacity, as_sole, RefusesSole}
use Rattle.arc_sort_writers.specs.SortParts.{sole_native_part}

module _ {T A : Type 0} where
  -- the items of a memory, and the number of the first place
  abbrev xs : WriterMemory T A → List T
  xs m = m.places.vec.items

  abbrev first : WriterMemory T A → ℕ
  first m = m.places.under.start

-- what the only owner took of a block has the places that were asked for
pub taken_within : {T A : Type 0} (drops : Bool) (o : Owner) (m : WriterMemory T A)
    (b : NativeView T) (start end : ℕ)
    → native_over drops o m ≡ native_taken drops b start end → IsAmong b start end
    → (first m ≤ start) × (start - first m ≤ end - first m) × (end - first m ≤ length (xs m))
taken_within true o m b start end is among =
    let begins : first m ≡ b.first = ap (λ n. n.first) is in
    let long : length (xs m) ≡ length b.items = ap (λ n. length n.items) is in (
      omega (arith, begins, among.from),
      omega (arith, begins, among.ordered),
      omega (arith, begins, long, among.to),
    )
taken_within false o m b start end is among =
    let begins : first m ≡ start = ap (λ n. n.first) is in
    let there = length-sub b.items (start - b.first) (end - b.first) (omega (arith, among.ordered))
    (omega (arith, among.to)) in
    let long : length (xs m) ≡ length (sub b.items (start - b.first) (end - b.first)) = ap
    (λ n. length n.items) is in (
      omega (arith, begins),
      omega (arith, begins, among.ordered),
      omega (arith, begins, long, there, among.from, among.ordered),
    )

module _ {T M : Type 0} where
  -- the part from start to end of a native block's places, as its only owner's
  abbrev taken-part : (drops : Bool) → NativeView T → (start end : ℕ) → PartsView T M
  taken-part drops n start end = record {
    items = sub n.items (start - n.first) (end - n.first);
    place = on_block (Some n.owner) (n.first + (start - n.first)) (native_info n);
    role = sole_writer (writer_capacity {M = M} drops (native_info n) (n.first + (start - n.first))
        ((end - n.first) - (start - n.first)));
  }

  -- the block's count was asked, and said no
  pub refused_native : {H : Type 0} (has_any : Bool) (b back : NativeView T) (start end : ℕ)
      (p : PartsView T M) (before after : Pass H)
      → parts_of (window_seen {M = M} (Native b) start end) ≡ p → back ≡ b
      → Asks b.owner before after false
      → (parts_of (window_seen {M = M} (Native back) start end) ≡ p)
      × RefusesSole has_any p before after
  refused_native has_any b back start end p before after view is said = (
    (λ i. parts_of (window_seen {M = M} (Native (is i)) start end)) ∙ view,
    subst (λ w. RefusesSole has_any w before after) view (
      (λ may. said),
      λ never. absurd (never (tt, refl)),
    ),
  )

module _ {T M A : Type 0} where
  -- the places that were taken are the writer's
  pub taken_native : (drops : Bool) (o : Owner) (m : WriterMemory T A) (b : NativeView T)
      (start end at : ℕ) (part : PartsView T M)
      → native_over drops o m ≡ native_taken drops b start end → IsAmong b start end → at ≡ first m
      → part ≡ sole_native_part {M = M} drops o m (start - at) (end - at)
      → part ≡ as_sole drops (parts_of (window_seen {M = M} (Native b) start end))
  taken_native true o m b start end at part is among begins of =
      let here : b.first + (start - b.first) ≡ start = omega (arith, among.from) in
      let long : (end - b.first) - (start - b.first) ≡ length
      (sub b.items (start - b.first) (end - b.first)) =
      sym (length-sub b.items (start - b.first) (end - b.first) (omega (arith, among.ordered))
      (omega (arith, among.to))) in
      of
      ∙ ap (λ n. sole_native_part {M = M} true o m (start - n) (end - n)) begins
      ∙ ap (λ n. taken-part true n start end) is
      ∙ (λ i. record {
        items = sub b.items (start - b.first) (end - b.first);
        place = on_block (Some b.owner) (here i) (native_info b);
        role = sole_writer (writer_capacity {M = M} true (native_info b) (here i) (long i));
      })
  taken_native false o m b start end at part is among begins of =
      let ys : List T = sub b.items (start - b.first) (end - b.first) in
      let long : length ys ≡ (end - b.first) - (start - b.first) =
      length-sub b.items (start - b.first) (end - b.first) (omega (arith, among.ordered))
      (omega (arith, among.to)) in
      let here : start + (start - start) ≡ start = omega arith in
      let none : start - start ≡ 0 = omega arith in
      let all : end - start ≡ length ys = omega (arith, long, among.from, among.ordered) in
      let items : sub ys (start - start) (end - start) ≡ ys = (λ i. sub ys (none i) (all i))
      ∙ sub-whole ys in
      of
      ∙ ap (λ n. sole_native_part {M = M} false o m (start - n) (end - n)) begins
      ∙ ap (λ n. taken-part false n start end) is
      ∙ (λ i. record {
        items = items i;
        place = on_block (Some b.owner) (here i) (native_info b);
        role = sole_writer (b.size - here i);
      })
