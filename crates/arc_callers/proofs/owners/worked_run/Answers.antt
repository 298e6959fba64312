use Rattle.std.proofs.Common.{◌≡◌, true, false, [], ◌∷◌, ◌∙◌, refl, subst, lit<}
use Rattle.arc_owners.specs.declared.history.entry.Entry.TheVariants.{Up, Full, Down}
use Rattle.arc_owners.specs.declared.count.tokens.Pass.{Pass}
use Rattle.arc_owners.specs.history.Histories.{Counted, owners_ever, owners_ended, live_owners}
use Rattle.arc_owners.specs.count.Invariant.{BlockId}
use Rattle.arc_owners.specs.count.Calls.{Owner, IsFirst, IsFreshPass, IsPassOf, HasCountIn}
use Rattle.arc_owners.specs.count.Calls.{MakesAnother, FindsFull, Leaves, seen}
use Rattle.arc_callers.proofs.Runs.{Ran, ran-none, made-one, ran-up, ran-full, ran-down, no-up}
use Rattle.arc_callers.proofs.Runs.{no-full, not-last}
use Rattle.arc_owners.proofs.Wholes.{same-made, same-left}
use Rattle.arc_callers.proofs.owners.worked_run.Goals as goal

-- the history after each call of the run, all of them through the first owner but for the end
module _ {H : Type 0} {o : Owner} (f : IsFirst 3 true Counted o) where
  one : {p q : Pass H} {a : Owner} → IsFreshPass o p → MakesAnother o p q a
      → Ran o.block q (Up 0 1 ∷ [])
  unfolding owners_ever
  one fresh makes = ran-up f.whole (ran-none f fresh) refl 0 1 f.number refl makes

  two : {p q : Pass H} {b : Owner} → Ran o.block p (Up 0 1 ∷ []) → MakesAnother o p q b
      → Ran o.block q (Up 0 1 ∷ Up 0 2 ∷ [])
  unfolding owners_ever
  two ran makes = ran-up f.whole ran refl 0 2 f.number refl makes

  three : {p q : Pass H} → Ran o.block p (Up 0 1 ∷ Up 0 2 ∷ []) → FindsFull o p q
      → Ran o.block q (Up 0 1 ∷ Up 0 2 ∷ Full 0 ∷ [])
  three ran full = ran-full f.whole ran refl 0 f.number full

  four : {p q r s : Pass H} {b : Owner} → Ran o.block p (Up 0 1 ∷ []) → MakesAnother o p q b
      → Ran o.block r (Up 0 1 ∷ Up 0 2 ∷ Full 0 ∷ []) → Leaves b r s false
      → Ran o.block s (Up 0 1 ∷ Up 0 2 ∷ Full 0 ∷ Down 2 ∷ [])
  unfolding owners_ever
  four before makes ran leaves = let made = made-one f.whole before refl 2 refl makes in
      ran-down f.whole ran made.0 2 made.1 leaves

  five : {p q : Pass H} {d : Owner} → Ran o.block p (Up 0 1 ∷ Up 0 2 ∷ Full 0 ∷ Down 2 ∷ [])
      → MakesAnother o p q d → Ran o.block q (Up 0 1 ∷ Up 0 2 ∷ Full 0 ∷ Down 2 ∷ Up 0 3 ∷ [])
  unfolding owners_ever
  five ran makes = ran-up f.whole ran refl 0 3 f.number refl makes

-- the pass is of the count's block, and knows that it has a count
known : {H : Type 0} (p : Pass H) {t u : BlockId} → IsPassOf t p → t ≡ u → HasCountIn t (seen p)
    → IsPassOf u p × HasCountIn u (seen p)
known p of same counted =
    ((of.0, of.1 ∙ same), subst (λ (b : BlockId). HasCountIn b (seen p)) same counted)

pub up_as-requires-2 : goal.up_as-requires-2
up_as-requires-2 g c =
    let f = c.new-owners.ensures.first in
    let r1 = one f c.new-owners.ensures.pass c.in-Ok.ensures.made in (
      lit< tt,
      (
        c.new-owners.ensures.share,
        known c.up_as.new.pass (same-made c.in-Ok.ensures.made).0
            c.new-owners.ensures.share r1.counted,
      ),
    )

pub up_as-requires-3 : goal.up_as-requires-3
up_as-requires-3 g c =
    let f = c.new-owners.ensures.first in
    let r1 = one f c.new-owners.ensures.pass c.in-Ok.ensures.made in
    let r2 = two f r1 c.in-Ok-up_as.ensures.made in (
      lit< tt,
      (
        c.new-owners.ensures.share,
        known c.up_as-2.new.pass
            (same-made c.in-Ok-up_as.ensures.made).0 c.new-owners.ensures.share r2.counted,
      ),
    )

pub up_as-requires-4 : goal.up_as-requires-4
unfolding owners_ever
up_as-requires-4 g c =
    let f = c.new-owners.ensures.first in
    let r1 = one f c.new-owners.ensures.pass c.in-Ok.ensures.made in
    let r2 = two f r1 c.in-Ok-up_as.ensures.made in
    let r3 = three f r2 c.in-Err.ensures.full in
    let r4 = four f r1 c.in-Ok-up_as.ensures.made r3 c.in-NotLast.ensures.entry in
    let gone = (same-left c.in-NotLast.ensures.entry).0 in
    let made = made-one f.whole r1 refl 2 refl c.in-Ok-up_as.ensures.made in (
      lit< tt,
      (
        c.new-owners.ensures.share,
        known c.down_as.new.pass (gone.0, gone.1 ∙ made.0)
            c.new-owners.ensures.share r4.counted,
      ),
    )

pub unreachable-requires : goal.unreachable-requires
unfolding live_owners owners_ever owners_ended
unreachable-requires g c =
    let f = c.new-owners.ensures.first in
    no-full f.whole (ran-none f c.new-owners.ensures.pass) refl 3 f.most (lit< tt)
    c.in_default.ensures.full

pub unreachable-requires-in_default-up_as : goal.unreachable-requires-in_default-up_as
unfolding live_owners owners_ever owners_ended
unreachable-requires-in_default-up_as g c =
    let f = c.new-owners.ensures.first in
    let r1 = one f c.new-owners.ensures.pass c.in-Ok.ensures.made in
    no-full f.whole r1 refl 3 f.most (lit< tt) c.in_default-up_as.ensures.full

pub unreachable-requires-in_default-up_as-2 : goal.unreachable-requires-in_default-up_as-2
unfolding live_owners owners_ever owners_ended
unreachable-requires-in_default-up_as-2 g c =
    let f = c.new-owners.ensures.first in
    let r1 = one f c.new-owners.ensures.pass c.in-Ok.ensures.made in
    let r2 = two f r1 c.in-Ok-up_as.ensures.made in
    no-up f.whole r2 refl f.most c.in_default-up_as-2.ensures.made

pub unreachable-requires-in_default-down_as : goal.unreachable-requires-in_default-down_as
unfolding live_owners owners_ever owners_ended
unreachable-requires-in_default-down_as g c =
    let f = c.new-owners.ensures.first in
    let r1 = one f c.new-owners.ensures.pass c.in-Ok.ensures.made in
    let r2 = two f r1 c.in-Ok-up_as.ensures.made in
    let r3 = three f r2 c.in-Err.ensures.full in
    not-last f.whole r3 (made-one f.whole r1 refl 2 refl c.in-Ok-up_as.ensures.made).0 (lit< tt)
    c.in_default-down_as.ensures.entry

pub unreachable-requires-in_default-up_as-3 : goal.unreachable-requires-in_default-up_as-3
unfolding live_owners owners_ever owners_ended
unreachable-requires-in_default-up_as-3 g c =
    let f = c.new-owners.ensures.first in
    let r1 = one f c.new-owners.ensures.pass c.in-Ok.ensures.made in
    let r2 = two f r1 c.in-Ok-up_as.ensures.made in
    let r3 = three f r2 c.in-Err.ensures.full in
    let r4 = four f r1 c.in-Ok-up_as.ensures.made r3 c.in-NotLast.ensures.entry in
    no-full f.whole r4 refl 3 f.most (lit< tt) c.in_default-up_as-3.ensures.full

pub returns : goal.returns
returns g c =
    let f = c.new-owners.ensures.first in
    let r1 = one f c.new-owners.ensures.pass c.in-Ok.ensures.made in
    let r2 = two f r1 c.in-Ok-up_as.ensures.made in
    let r3 = three f r2 c.in-Err.ensures.full in
    let r4 = four f r1 c.in-Ok-up_as.ensures.made r3 c.in-NotLast.ensures.entry in
    let r5 = five f r4 c.in-Ok-up_as-2.ensures.made in
    record { seen = r5.entries; made = r5.made }
