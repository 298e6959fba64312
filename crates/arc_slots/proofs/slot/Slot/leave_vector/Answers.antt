-- The pass of the vector comes back to its place, and that of the new block behind the others.
use Rattle.std.proofs.Common.{◌≡◌, ◌∙◌, true, false, refl, sym, ap, subst, Some}
use Rattle.arc_block.specs.Table.{bare}
use Rattle.arc_slots.specs.Slots.{SlotView, bare_held, stand_of, window_in}
use Rattle.arc_slots.specs.Stands.{HasNumber, HasPassFor, IsAttested}
use Rattle.arc_slots.specs.declared.window.Held.TheVariants.{Several}
use Rattle.arc_slots.proofs.Bare.{bare_leaves_vector, bare_vector}
use Rattle.arc_slots.proofs.Parted.{LeftVector, left-vector}
use Rattle.arc_slots.proofs.Parted.{shared-vector}
use Rattle.arc_slots.proofs.Parted.{slot-nothing, still-more}
use Rattle.arc_slots.proofs.Slots.{has-number, role-as, shares-as}
use Rattle.arc_slots.proofs.Taken.{back-same}
use Rattle.arc_slots.proofs.slot.Slot.leave_vector.Given.{Over}
use Rattle.arc_slots.proofs.slot.Slot.leave_vector.Goals.{After-give_back, After-give_back-in-Err}
use Rattle.arc_slots.proofs.slot.Slot.leave_vector.Goals as goal

pub try_leave_vector_as-requires-clause-vector : goal.try_leave_vector_as-requires-clause-vector
try_leave_vector_as-requires-clause-vector g c =
    let w = c.in-Several.window in
    sym (bare_vector w.place)
    ∙ shared-vector g.S.Small.SmallOf.seen (bare_held c.self.inside.window) (bare w)
    c.self.inside.block (ap bare_held c.in-Several.is) c.args.self.now c.self.view_is
    c.self.invariant.0
    ∙ c.requires.vector

pub give_back-requires : goal.give_back-requires
give_back-requires g c =
    subst (λ ps. HasNumber ps c.self.inside.block)
    (sym (c.keep-self-inside.ensures.new refl).1)
    (still-more c.lend-pass.new.self.of_blocks.items c.in-Ok.first c.self.inside.block
    c.lend-pass.ensures.number)

did : (g : Over) (c : After-give_back g)
    → LeftVector c.args.self.now (bare c.try_leave_vector_as.new.window) c.keep-self-inside.result
    c.args.passes.now.of_blocks.items c.give_back.new.self.of_blocks.items
did g c =
    let w = c.in-Several.window in
    let v = c.try_leave_vector_as.new.window in
    let p = c.lend-pass.result in
    let q = c.try_leave_vector_as.new.pass in
    left-vector g.S.Small.SmallOf.seen (bare_held c.self.inside.window) (bare w)
    c.self.inside.block (ap bare_held c.in-Several.is) c.args.self.now c.self.view_is
    c.self.invariant.0
    c.args.passes.now.of_blocks.items c.lend-pass.new.self.of_blocks.items p
    c.requires.pass c.lend-pass.ensures.taken (bare v) q c.in-Ok.first
    (bare_leaves_vector false true w v p q c.in-Ok.first c.in-Ok.ensures.moved)
    c.keep-self-inside.result c.keep-self-inside.new.self.of_blocks.items
    c.give_back.new.self.of_blocks.items (c.keep-self-inside.ensures.new refl).0
    (c.keep-self-inside.ensures.new refl).1 c.give_back.ensures
    (role-as (bare_held c.self.inside.window) (Several (bare w)) (ap bare_held c.in-Several.is)
    c.self.invariant.1)

pub invariant_of-self : goal.invariant_of-self
invariant_of-self g c =
    let d = did g (goal.at.invariant_of-self g c).After-give_back in (
      d.fits,
      d.shares,
      shares-as (bare_held c.self.inside.window) (Several (bare c.in-Several.window))
          (ap bare_held c.in-Several.is) g.S.TableKind.SHARES c.self.invariant.2,
    )

pub returns-in-Ok-clause-row : goal.returns-in-Ok-clause-row
returns-in-Ok-clause-row g c = (did g (goal.at.returns-in-Ok-clause-row g c).After-give_back).row

pub returns-in-Ok-clause-moved : goal.returns-in-Ok-clause-moved
returns-in-Ok-clause-moved g c =
    (did g (goal.at.returns-in-Ok-clause-moved g c).After-give_back).moved

-- the passes are then as before
same-passes : (g : Over) (c : After-give_back-in-Err g)
    → c.give_back-in-Err.new.self.of_blocks.items ≡ c.args.passes.now.of_blocks.items
same-passes g c =
    c.give_back-in-Err.ensures
    ∙ back-same c.args.passes.now.of_blocks.items c.lend-pass.new.self.of_blocks.items
    c.lend-pass.result c.self.inside.block c.lend-pass.ensures.taken
    c.try_leave_vector_as.new.pass c.in-Err.ensures.refused.1

pub attest-requires : goal.attest-requires
attest-requires g c =
    let passes = c.args.passes.now.of_blocks.items in
    subst (λ ps. HasNumber ps c.self.inside.block)
    (sym (same-passes g (goal.at.attest-requires g c).After-give_back-in-Err))
    (has-number passes c.self.inside.block
    (window_in g.S.Small.SmallOf.seen (bare_held c.self.inside.window)).place
    c.self.invariant.0
    (subst (λ s. HasPassFor passes (stand_of (Some s))) (sym c.self.view_is) c.requires.pass))

pub returns-in-Err-clause-passes : goal.returns-in-Err-clause-passes
returns-in-Err-clause-passes g c =
    same-passes g (goal.at.returns-in-Err-clause-passes g c).After-give_back-in-Err

pub returns-in-Err-clause-nothing : goal.returns-in-Err-clause-nothing
returns-in-Err-clause-nothing g c =
    slot-nothing c.args.passes.now.of_blocks.items c.give_back-in-Err.new.self.of_blocks.items
    c.args.self.now c.requires.pass
    (same-passes g (goal.at.returns-in-Err-clause-nothing g c).After-give_back-in-Err)
    (subst (λ (s : SlotView g.row.S-Item.Denot g.row.M.Denot).
    IsAttested c.give_back-in-Err.new.self.of_blocks.items s.block) c.self.view_is
    c.attest.ensures)
