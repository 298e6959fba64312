-- A number's place is its own while its window is there.
use Rattle.std.proofs.Common.{◌≡◌, ℕ, ◌<◌, List, None, Some, length, slice_get, slice_index_or}
use Rattle.std.proofs.Common.{is_some, true}
use Rattle.std.proofs.Common.{refl, sym, ap, ◌∙◌, arith, rules}
use Rattle.std.proofs.lemmas.Option.{same_Some, slice_get_read, slice_get_within}
use Rattle.std.specs.Option.{option_flatten}
use Rattle.arc_slots.proofs.Index.{window-none}
use Rattle.arc_slots.proofs.list.Slots.place_of.Given.{Over}
use Rattle.arc_slots.proofs.list.Slots.place_of.Goals.{After-index, After-index-2}
use Rattle.arc_slots.proofs.list.Slots.place_of.Goals.{After-index-place}
use Rattle.arc_slots.proofs.list.Slots.place_of.Goals as goal

at : {X : Type 0} (xs : List X) (i : ℕ) (x : X) → i < length xs → x ≡ slice_index_or xs i x
    → slice_get xs i ≡ Some x
at xs i x within read = slice_get_read xs (length xs) i x refl within read

module _ (g : Over) (c : After-index-place g) where
  -- the number's place, which is the only one
  here : slice_get c.args.self.now.index.items c.args.number ≡ Some c.index-place.result.now
  here =
      let s = c.args.self.now in
      at s.index.items c.args.number c.index-place.result.now
      (omega (arith, c.if-number-len.false, c.len.ensures, s.index.ok.0)) c.index-place.ensures

  only : (p : ℕ) → slice_get c.args.self.now.index.items c.args.number ≡ Some p
      → c.index-place.result.now ≡ p
  only p told = same_Some c.index-place.result.now p (sym here ∙ told)

-- whose the place is
its : (g : Over) (c : After-index g)
    → slice_get c.args.self.now.numbers.items c.index-place.result.now ≡ Some c.index.result.now
its g c =
    let s = c.args.self.now in
    at s.numbers.items c.index-place.result.now c.index.result.now
    (omega (arith, c.if-place-len.false, c.len-2.ensures, s.numbers.ok.0)) c.index.ensures

-- what stands there
stands : (g : Over) (c : After-index-2 g)
    → slice_get c.args.self.now.places.items c.index-place.result.now ≡ Some c.index-2.result.now
stands g c =
    let s = c.args.self.now in
    at s.places.items c.index-place.result.now c.index-2.result.now
    (omega (arith, c.if-place-len.false, c.len-2.ensures, s.numbers.ok.0, c.requires.many))
    c.index-2.ensures

pub returns-then-number-len-clause-none : goal.returns-then-number-len-clause-none
returns-then-number-len-clause-none g c is =
    let s = c.args.self.now in
    window-none s.index.items s.numbers.items s.places.items c.args.number (λ p told whose.
    absurd (omega (
      arith,
      c.if-number-len.true,
      c.len.ensures,
      s.index.ok.0,
      slice_get_within s.index.items c.args.number p told,
    )))

pub returns-then-place-len-clause-none : goal.returns-then-place-len-clause-none
returns-then-place-len-clause-none g c is =
    let s = c.args.self.now in
    window-none s.index.items s.numbers.items s.places.items c.args.number (λ p told whose.
    absurd (omega (
      arith,
      only g (goal.at.returns-then-place-len-clause-none g c).After-index-place p told,
      c.if-place-len.true,
      c.len-2.ensures,
      s.numbers.ok.0,
      slice_get_within s.numbers.items p c.args.number whose,
    )))

pub returns-then-index-number-clause-none : goal.returns-then-index-number-clause-none
returns-then-index-number-clause-none g c is =
    let s = c.args.self.now in
    let before = goal.at.returns-then-index-number-clause-none g c in
    window-none s.index.items s.numbers.items s.places.items c.args.number (λ p told whose.
    absurd (c.if-index-number.true (same_Some c.index.result.now c.args.number
    (sym (its g before.After-index)
    ∙ ap (slice_get s.numbers.items) (only g before.After-index-place p told) ∙ whose))))

pub returns-then-is_none-clause-none : goal.returns-then-is_none-clause-none
returns-then-is_none-clause-none g c is =
    let s = c.args.self.now in
    let before = goal.at.returns-then-is_none-clause-none g c in
    let gone : c.index-2.result.now ≡ None = search rules in
    window-none s.index.items s.numbers.items s.places.items c.args.number (λ p told whose.
    ap (λ q. option_flatten (slice_get s.places.items q))
    (sym (only g before.After-index-place p told))
    ∙ ap option_flatten (stands g before.After-index-2) ∙ gone)

pub returns-clause-told : goal.returns-clause-told
returns-clause-told g c = here g (goal.at.returns-clause-told g c).After-index-place

pub returns-clause-whose : goal.returns-clause-whose
returns-clause-whose g c =
    its g (goal.at.returns-clause-whose g c).After-index ∙ ap Some c.if-index-number.false

pub returns-clause-there : goal.returns-clause-there
returns-clause-there g c =
    let held : is_some c.index-2.result.now ≡ true = search rules in
    ap (λ x. is_some (option_flatten x))
    (stands g (goal.at.returns-clause-there g c).After-index-2) ∙ held
