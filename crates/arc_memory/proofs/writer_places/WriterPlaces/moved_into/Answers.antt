-- Where any item is moved, there is one for the places that hold none yet.
use Rattle.std.proofs.Common.{◌≡◌, ℕ, zero, suc, ◌+◌, ◌-◌, ◌<◌, ◌≤◌, List, [], ◌∷◌, ◌++◌, length}
use Rattle.std.proofs.Common.{take, drop, refl, sym, ap, ◌∙◌, arith, append-nil, length-drop}
use Rattle.std.proofs.Common.{drop-drop}
use lib.Seq.{take-add, take_all}
use lib.ListN.{drop_of_length-le}
use Rattle.std.proofs.lemmas.Grind.{common_steps}
use Rattle.arc_memory.proofs.writer_places.WriterPlaces.moved_into.Goals as goal

drop_none : {X : Type 0} (n : ℕ) → ◌≡◌ {A = List X} (drop n []) []
drop_none zero = refl
drop_none (suc n) = refl

one_of : {X : Type 0} (xs : List X) → 0 < length xs → X
one_of [] some = absurd (omega (arith, some))
one_of (x ∷ xs) some = x

-- the first items of a list from a place on, and those behind them, as they lie afterwards
in_order : {X : Type 0} (xs a l o b : List X) (index moved rest : ℕ) → index + rest ≡ length xs
    → moved ≤ rest → a ≡ take moved (drop index xs) → l ≡ []
    → o ≡ take (rest - moved) (drop (index + moved) xs) → b ≡ []
    → ((a ++ l) ++ o) ++ b ≡ drop index xs
in_order {X} xs a l o b index moved rest all few e f g h =
    let ds : List X = drop index xs in let more : ℕ = rest - moved in
    let sum : moved + more ≡ rest = omega (arith, few) in
    let long : length ds ≤ rest = omega (arith, length-drop index xs, all) in
    let behind : take more (drop (index + moved) xs) ≡ take more (drop moved ds) =
    ap (take more) (sym (drop-drop moved index xs)) in
    let first : a ++ l ≡ take moved ds = (λ i. e i ++ f i) ∙ append-nil (take moved ds) in
    (λ i. (first i ++ (g ∙ behind) i) ++ h i)
    ∙ append-nil (take moved ds ++ take more (drop moved ds))
    ∙ sym (take-add moved more ds) ∙ ap (λ (n : ℕ). take n ds) sum ∙ take_all rest ds long

pub into_slots-requires-2-clause-value : goal.into_slots-requires-2-clause-value
into_slots-requires-2-clause-value g c =
    λ fewer. one_of c.args.self.vec.items (omega (
      arith,
      fewer,
      c.split-first.ensures.front.1,
      c.min-moved.ensures,
      c.len-full.ensures,
      c.args.self.vec.ok.0,
      c.requires.index,
    ))

pub returns-clause-items : goal.returns-clause-items
returns-clause-items g c =
    let v = c.args.self.vec in let xs = v.items in let full = c.len-full.result in
    let index = c.args.index in let moved = c.min-moved.result in
    let there = c.into_places.result.items in
    let same : there ≡ xs = sym c.into_places.ensures.items in
    let many : full ≡ length xs = c.len-full.ensures ∙ v.ok.0 in
    let long : length there ≡ full = ap length same ∙ sym many in
    let own = c.split-own.result.0 in let slots = c.into_slots.result.0 in
    let all : own.items ≡ there =
    c.split-own.ensures.front.2 ∙ take_all full there (omega (arith, long)) in
    let wide : length slots.items ≡ full = omega (
      arith,
      slots.ok.0,
      c.into_slots.ensures.slots.1,
      c.split-own.ensures.front.1,
    ) in
    let held : length own.items ≡ full = ap length all ∙ long in
    let lying : slots.items ≡ xs =
    sym (take_all (length own.items) slots.items (omega (arith, wide, held)))
    ∙ c.into_slots.ensures.items.0 ∙ all ∙ same in
    let none : c.into_places-2.result.items ≡ [] =
    sym c.into_places-2.ensures.items ∙ c.requires.empty in
    let down = c.move_down.ensures in
    let front = c.of_slots.ensures.items ∙ down.front.0
    ∙ ap (λ ys. take moved (drop index ys)) lying in
    let behind = c.of_slots-2.ensures.items ∙ down.own.0
    ∙ ap (λ ys. take (full - index - moved) (drop (index + moved) ys)) lying in
    let left = c.split-first.ensures.back.2 ∙ ap (drop moved) none ∙ drop_none moved in
    let back = c.split-own.ensures.back.2 ∙ drop_of_length-le there (omega (arith, long)) in
    c.join-2.ensures.places.1
    ∙ ap (λ ys. ys ++ c.split-own.result.1.items) (c.join.ensures.places.1
    ∙ ap (λ ys. ys ++ c.of_slots-2.result.items) c.join-front.ensures.places.1)
    ∙ in_order xs _ _ _ _ index moved (full - index) (omega (arith, c.requires.index, many))
    (omega (arith, c.min-moved.ensures)) front left behind back

pub join-requires-2-clause-full : goal.join-requires-2-clause-full
join-requires-2-clause-full g c = grind (arith, common_steps)

pub join-requires-clause-full : goal.join-requires-clause-full
join-requires-clause-full g c = grind (arith, common_steps)
