-- Both windows are found under their numbers; the joined one is put back, and the other one's place
-- is settled.
use Rattle.arc_block.specs.LayoutFacts.{layout_facts}
use Rattle.std.specs.Mem.{type_size}
use Rattle.std.proofs.Common.{◌≡◌, ◌<◌, ℕ, true, false, ◌==◌, List, Option, Some}
use Rattle.std.proofs.Common.{is_some, length, slice_index_or}
use Rattle.std.proofs.Common.{slice_get, slice_set, inl, inr, sym, ap, ◌∙◌, subst, arith}
use Rattle.std.proofs.lemmas.List.{length-set}
use Rattle.std.proofs.lemmas.Option.{same_Some}
use Rattle.std.specs.Prelude.{IfSome}
use Rattle.std.specs.Option.{option_flatten}
use Rattle.arc_block.proofs.Lists.{get-set, get-set_other}
use Rattle.arc_commands.specs.Changes.{Setting, setting_of}
use Rattle.arc_commands.specs.Seen.{seen_reply}
use Rattle.arc_commands.specs.State.{State}
use Rattle.arc_commands.specs.declared.command.Cmd.TheVariants as command
use Rattle.arc_commands.specs.declared.command.Reply.TheVariants as reply
use Rattle.arc_slots.specs.Answers.{JoinAnswers}
use Rattle.arc_slots.specs.Index.{IsIndexed, windows_of}
use Rattle.arc_slots.specs.Slots.{SlotView, stand_of, state_of}
use Rattle.arc_slots.specs.Stands.{HasPassFor}
use Rattle.arc_slots.proofs.Index.{same-indexed, same-parts, set-indexed, set-window, window-there}
use Rattle.arc_table.proofs.Done.{Done, still-rows}
use Rattle.arc_table.proofs.Stepped.{apart-test, at-place, joined-itself, known, paired-at}
use Rattle.arc_table.proofs.Stepped.{set-swap, stands-there, unjoined}
use Rattle.arc_table.proofs.table.Table.join.Given.{Over}
use Rattle.arc_table.proofs.table.Table.join.Goals.{After-index_mut-2, After-index_mut-window}
use Rattle.arc_table.proofs.table.Table.join.Goals.{After-settle}
use Rattle.arc_table.proofs.table.Table.join.Goals as goal

abbrev setting : (g : Over) → Setting g.row.S-Item.Denot
setting g =
    setting_of (layout_facts g.L.Layout) g.L.Writable.Layout.ANY g.L.Layout.clone_wants
    g.S.Slice.DROPS g.S.Subsliceable.boundary
    (type_size g.row.S-Item) g.S.Zero.ZeroOf.zero g.S.Calls.CallsOf.calls

-- ---- one of the two isn't there, or both are one

pub returns-in_default-clause-rows : goal.returns-in_default-clause-rows
returns-in_default-clause-rows g c =
    let s = c.self.inside.slots in
    still-rows
    (unjoined (setting g) (windows_of s.index.items s.numbers.items s.places.items)
    c.self.inside.passes.of_blocks.items c.self.invariant.0 c.args.i c.args.j
    (inl (c.place_of.ensures.none c.in_default.is))) c.self.view_is

pub returns-in_default-place_of-clause-rows : goal.returns-in_default-place_of-clause-rows
returns-in_default-place_of-clause-rows g c =
    let s = c.self.inside.slots in
    still-rows
    (unjoined (setting g) (windows_of s.index.items s.numbers.items s.places.items)
    c.self.inside.passes.of_blocks.items c.self.invariant.0 c.args.i c.args.j
    (inr (c.place_of-2.ensures.none c.in_default-place_of.is))) c.self.view_is

pub returns-then-i-j-clause-rows : goal.returns-then-i-j-clause-rows
returns-then-i-j-clause-rows g c =
    let s = c.self.inside.slots in
    let ws = windows_of s.index.items s.numbers.items s.places.items in
    let one =
    stands-there (slice_get s.places.items c.in-Some.here) c.in-Some.ensures.there in
    let other =
    stands-there (slice_get s.places.items c.in-Some-place_of.there)
    c.in-Some-place_of.ensures.there in
    still-rows
    (joined-itself (setting g) ws c.self.inside.passes.of_blocks.items c.self.invariant.0 c.args.i
    c.args.j one.0 other.0
    (window-there s.index.items s.numbers.items s.places.items c.args.i c.in-Some.here
    c.in-Some.ensures.told c.in-Some.ensures.whose (Some one.0) one.1)
    (window-there s.index.items s.numbers.items s.places.items c.args.j c.in-Some-place_of.there
    c.in-Some-place_of.ensures.told c.in-Some-place_of.ensures.whose (Some other.0) other.1)
    c.if-i-j.true) c.self.view_is

-- ---- the lists of places

-- two places of a list of windows, whose numbers are two: the other one is emptied before the
-- window at the first is looked at
record Found {X : Type 0} (index numbers : List ℕ) (places : List (Option X))
    (i j here there : ℕ) (empty o w : Option X) : Type 0 where
  told : slice_get index i ≡ Some here
  whose : slice_get numbers here ≡ Some i
  its : slice_get index j ≡ Some there
  owned : slice_get numbers there ≡ Some j
  two : ¬ (i ≡ j)
  old : slice_get places there ≡ Some o
  kept : slice_get (slice_set places there empty) here ≡ Some w

module _ {X : Type 0} {index numbers : List ℕ} {places : List (Option X)} {i j here there : ℕ}
    {empty o w : Option X} (f : Found index numbers places i j here there empty o w) where
  apart : there ≡ here → ⊥
  apart is = f.two (same_Some i j (sym f.whose ∙ ap (slice_get numbers) (sym is) ∙ f.owned))

  -- what stood there is what stands there
  stood : slice_get places here ≡ Some w
  stood = sym (get-set_other places there here empty apart) ∙ f.kept

  -- the windows under both numbers
  one-there : slice_get (windows_of index numbers places) i ≡ Some w
  one-there = window-there index numbers places i here f.told f.whose w stood

  other-there : slice_get (windows_of index numbers places) j ≡ Some o
  other-there = window-there index numbers places j there f.its f.owned o f.old

  one-is : is_some (option_flatten (slice_get places here)) ≡ true → is_some w ≡ true
  one-is is = ap (λ x. is_some (option_flatten x)) (sym stood) ∙ is

  other-is : is_some (option_flatten (slice_get places there)) ≡ true → is_some o ≡ true
  other-is is = ap (λ x. is_some (option_flatten x)) (sym f.old) ∙ is

  -- the one is put back, and then the other
  module _ (new back : Option X)
      (left : slice_get (slice_set (slice_set places there empty) here new) there ≡ Some back) where
    emptied : back ≡ empty
    emptied =
        same_Some back empty (sym left
        ∙ get-set_other (slice_set places there empty) here there new (λ is. apart (sym is))
        ∙ get-set places there o empty f.old)

    set-both : (put : Option X) → windows_of index numbers
        (slice_set (slice_set (slice_set places there empty) here new) there put)
        ≡ slice_set (slice_set (windows_of index numbers places) j put) i new
    set-both put =
        set-window index numbers (slice_set (slice_set places there empty) here new) j there f.its
        f.owned back left put
        ∙ ap (λ ws. slice_set ws j put)
        (set-window index numbers (slice_set places there empty) i here f.told f.whose w f.kept
        new)
        ∙ ap (λ ws. slice_set (slice_set ws i new) j put)
        (set-window index numbers places j there f.its f.owned o f.old empty)
        ∙ set-swap (windows_of index numbers places) i j empty new put f.two

    both-indexed : (put : Option X) → IsIndexed index numbers places → IsIndexed index numbers
        (slice_set (slice_set (slice_set places there empty) here new) there put)
    both-indexed put is =
        set-indexed index numbers (slice_set (slice_set places there empty) here new) j there f.its
        f.owned back left put
        (set-indexed index numbers (slice_set places there empty) i here f.told f.whose w f.kept new
        (set-indexed index numbers places j there f.its f.owned o f.old empty is))

-- what stands at a place, where another one was emptied
at-kept : {X : Type 0} (places : List (Option X)) (here there : ℕ) (empty w : Option X)
    → here < length places → w ≡ slice_index_or (slice_set places there empty) here w
    → slice_get (slice_set places there empty) here ≡ Some w
at-kept places here there empty w within read =
    at-place (slice_set places there empty) here w
    (omega (arith, within, length-set places there empty)) read

-- ---- both are there

found : (g : Over) (c : After-index_mut-window g)
    → Found c.self.inside.slots.index.items c.self.inside.slots.numbers.items
    c.self.inside.slots.places.items c.args.i c.args.j c.in-Some.here c.in-Some-place_of.there
    c.replace-other.new.dest c.index_mut.result.now c.index_mut-window.result.now
found g c = record {
  told = c.in-Some.ensures.told;
  whose = c.in-Some.ensures.whose;
  its = c.in-Some-place_of.ensures.told;
  owned = c.in-Some-place_of.ensures.whose;
  two = c.if-i-j.false;
  old =
      at-place c.self.inside.slots.places.items c.in-Some-place_of.there c.index_mut.result.now
      c.in-Some-place_of.ensures.within c.index_mut.ensures.value;
  kept =
      at-kept c.self.inside.slots.places.items c.in-Some.here c.in-Some-place_of.there
      c.replace-other.new.dest c.index_mut-window.result.now c.in-Some.ensures.within
      c.index_mut-window.ensures.value;
}

pub join_at-reply-requires-clause-pass : goal.join_at-reply-requires-clause-pass
join_at-reply-requires-clause-pass g c =
    let s = c.self.inside.slots in
    let at = (goal.at.join_at-reply-requires-clause-pass g c).After-index_mut-window in
    known (setting g) (windows_of s.index.items s.numbers.items s.places.items)
    c.self.inside.passes.of_blocks.items c.self.invariant.0 c.args.i
    c.index_mut-window.result.now (one-there (found g at))

pub join_at-reply-requires-clause-other_pass : goal.join_at-reply-requires-clause-other_pass
join_at-reply-requires-clause-other_pass g c =
    let s = c.self.inside.slots in
    let at = (goal.at.join_at-reply-requires-clause-other_pass g c).After-index_mut-window in
    subst (λ (x : Option (SlotView g.row.S-Item.Denot g.row.M.Denot)).
    HasPassFor c.self.inside.passes.of_blocks.items (stand_of x))
    (sym c.replace-other.ensures.value)
    (known (setting g) (windows_of s.index.items s.numbers.items s.places.items)
    c.self.inside.passes.of_blocks.items c.self.invariant.0 c.args.j
    c.index_mut.result.now (other-there (found g at)))

-- ---- both are put back

left-there : (g : Over) (c : After-index_mut-2 g)
    → slice_get (slice_set (slice_set c.self.inside.slots.places.items
    c.in-Some-place_of.there c.replace-other.new.dest) c.in-Some.here
    c.join_at-reply.new.place) c.in-Some-place_of.there ≡ Some c.index_mut-2.result.now
left-there g c =
    at-kept (slice_set c.self.inside.slots.places.items c.in-Some-place_of.there
    c.replace-other.new.dest) c.in-Some-place_of.there c.in-Some.here c.join_at-reply.new.place
    c.index_mut-2.result.now
    (omega (
      arith,
      c.in-Some-place_of.ensures.within,
      length-set c.self.inside.slots.places.items c.in-Some-place_of.there
          c.replace-other.new.dest,
    )) c.index_mut-2.ensures.value

pub set_slot-requires : goal.set_slot-requires
set_slot-requires g c =
    let at = goal.at.set_slot-requires g c in
    emptied (found g at.After-index_mut-window) c.join_at-reply.new.place
    c.index_mut-2.result.now (left-there g at.After-index_mut-2)
    ∙ c.replace-other.ensures.after

module _ (g : Over) (c : After-settle g) where
  abbrev at-one : After-index_mut-window g
  at-one = (goal.at.invariant_of-self g c).After-index_mut-window

  abbrev at-other : After-index_mut-2 g
  at-other = (goal.at.invariant_of-self g c).After-index_mut-2

  put-at : windows_of c.settle.new.self.index.items c.settle.new.self.numbers.items
      c.settle.new.self.places.items
      ≡ slice_set (slice_set (windows_of c.self.inside.slots.index.items
      c.self.inside.slots.numbers.items c.self.inside.slots.places.items) c.args.j
      c.join_at-reply.new.other) c.args.i c.join_at-reply.new.place
  put-at =
      let s = c.self.inside.slots in
      let end = c.settle.new.self in
      same-parts end.index.items s.index.items end.numbers.items s.numbers.items end.places.items
      (slice_set (slice_set (slice_set s.places.items c.in-Some-place_of.there
      c.replace-other.new.dest) c.in-Some.here c.join_at-reply.new.place)
      c.in-Some-place_of.there c.set_slot.new.place) c.settle.ensures.index
      c.settle.ensures.numbers c.settle.ensures.places
      ∙ set-both (found g at-one) c.join_at-reply.new.place c.index_mut-2.result.now
      (left-there g at-other) c.set_slot.new.place
      ∙ ap (λ x. slice_set (slice_set (windows_of s.index.items s.numbers.items s.places.items)
      c.args.j x) c.args.i c.join_at-reply.new.place) c.set_slot.ensures

  indexed-at : IsIndexed c.settle.new.self.index.items c.settle.new.self.numbers.items
      c.settle.new.self.places.items
  indexed-at =
      let s = c.self.inside.slots in
      let end = c.settle.new.self in
      same-indexed end.index.items s.index.items end.numbers.items s.numbers.items
      end.places.items (slice_set (slice_set (slice_set s.places.items c.in-Some-place_of.there
      c.replace-other.new.dest) c.in-Some.here c.join_at-reply.new.place)
      c.in-Some-place_of.there c.set_slot.new.place) c.settle.ensures.index
      c.settle.ensures.numbers c.settle.ensures.places
      (both-indexed (found g at-one) c.join_at-reply.new.place c.index_mut-2.result.now
      (left-there g at-other) c.set_slot.new.place c.self.invariant.1)

  did : Done (setting g) c.args.self.now (command.Join c.args.i c.args.j)
      (seen_reply g.S.Commands.items_in g.S.Commands.items_in_box g.B.Buffer.list
      c.join_at-reply.result) (windows_of c.settle.new.self.index.items
      c.settle.new.self.numbers.items c.settle.new.self.places.items)
      c.join_at-reply.new.passes.of_blocks.items
  did =
      let s = c.self.inside.slots in
      let ws = windows_of s.index.items s.numbers.items s.places.items in
      let passes = c.self.inside.passes.of_blocks.items in
      let after = c.join_at-reply.new.passes.of_blocks.items in
      let told = seen_reply g.S.Commands.items_in g.S.Commands.items_in_box g.B.Buffer.list
      c.join_at-reply.result in
      let o = c.index_mut.result.now in
      let w = c.index_mut-window.result.now in
      let new = c.join_at-reply.new.place in
      let back = c.join_at-reply.new.other in
      let some : is_some w ≡ true = one-is (found g at-one) c.in-Some.ensures.there in
      let its : is_some o ≡ true = other-is (found g at-one) c.in-Some-place_of.ensures.there in
      let two = apart-test c.args.i c.args.j c.if-i-j.false in
      let said = subst (λ (x : Option (SlotView g.row.S-Item.Denot g.row.M.Denot)).
      IfSome w (λ s. IfSome x (λ o. (k l : ℕ) → (k == l) ≡ false
      → JoinAnswers g.S.Calls.CallsOf.calls k l s o passes told new back after)))
      c.replace-other.ensures.value c.join_at-reply.ensures.joined in
      subst (λ (x : State g.row.S-Item.Denot g.row.M.Denot). Done (setting g) x
      (command.Join c.args.i c.args.j) told (windows_of c.settle.new.self.index.items
      c.settle.new.self.numbers.items c.settle.new.self.places.items) after) c.self.view_is
      (subst (λ vs. Done (setting g) (state_of ws passes) (command.Join c.args.i c.args.j) told vs
      after) (sym put-at)
      (paired-at (setting g) ws passes c.self.invariant.0 c.args.i c.args.j two w o
      (one-there (found g at-one)) (other-there (found g at-one)) some its after told new back
      said))

pub invariant_of-self : goal.invariant_of-self
invariant_of-self g c = (
  (did g (goal.at.invariant_of-self g c).After-settle).kept,
  indexed-at g (goal.at.invariant_of-self g c).After-settle,
)

pub returns-clause-rows : goal.returns-clause-rows
returns-clause-rows g c = (did g (goal.at.returns-clause-rows g c).After-settle).rows

pub returns-clause-passes : goal.returns-clause-passes
returns-clause-passes g c = (did g (goal.at.returns-clause-passes g c).After-settle).passes_are
