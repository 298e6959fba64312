-- What is taken out by the pass that was lent for it is taken out of the table.
use Rattle.std.proofs.Common.{true, sym, ap, ◌∙◌, subst}
use Rattle.arc_owners.specs.count.Calls.{Leaves}
use Rattle.arc_block.specs.Given.{Given}
use Rattle.arc_block.specs.Table.{bare}
use Rattle.arc_parts.specs.Window.{PartsView}
use Rattle.arc_slots.specs.Slots.{bare_held, writer_slot}
use Rattle.arc_kinds.proofs.Bare.{owner_bare, pass_back}
use Rattle.arc_slots.proofs.Bare.{bare_have, bare_have_not, bare_size}
use Rattle.arc_slots.specs.declared.window.Held.TheVariants.{Write}
use Rattle.arc_slots.proofs.Slots.{fits-as, held-as}
use Rattle.arc_slots.specs.Places.{HandsOutPlaces, WrapsPlaces}
use Rattle.arc_slots.proofs.Takes.{TakenApart, apart-writer, parts-pass, parts-size, sole-back}
use Rattle.arc_slots.proofs.Takes.{sole-leaves, sole-unwanted, sole-wanted}
use Rattle.arc_slots.proofs.slot.Slot.try_take_written.Given.{Over}
use Rattle.arc_slots.proofs.slot.Slot.try_take_written.Goals.{After-into_parts}
use Rattle.arc_slots.proofs.slot.Slot.try_take_written.Goals as goal

apart : (g : Over) (c : After-into_parts g)
    → TakenApart c.self.inside.block c.args.self c.in-Write.window.role
    (bare c.into_parts.result) c.args.passes.now.of_blocks.items
    c.lend-pass.new.self.of_blocks.items c.lend-pass.result
apart g c =
    let small = g.S.Small.SmallOf.seen in
    let h = bare_held c.self.inside.window in
    let w = bare c.in-Write.window in
    let b = c.self.inside.block in
    apart-writer w
    (sym (held-as h (Write w) (ap bare_held c.in-Write.is) small b) ∙ c.self.view_is)
    (fits-as h (Write w) (ap bare_held c.in-Write.is) small b c.self.invariant.0)
    (ap bare c.into_parts.ensures.parts) c.requires.pass c.lend-pass.ensures.taken

pub try_sole_into_reply-taken-requires-clause-pass :
    goal.try_sole_into_reply-taken-requires-clause-pass
try_sole_into_reply-taken-requires-clause-pass g c =
    pass_back c.into_parts.result.place c.lend-pass.result
    (parts-pass
    (apart g (goal.at.try_sole_into_reply-taken-requires-clause-pass g c).After-into_parts))

pub returns-in-Ok-clause-taken : goal.returns-in-Ok-clause-taken
returns-in-Ok-clause-taken g c =
    sole-wanted (apart g (goal.at.returns-in-Ok-clause-taken g c).After-into_parts)
    g.S.Slice.DROPS c.args.what
    (bare_have g.S.Slice.DROPS c.into_parts.result.items c.args.what c.into_parts.result.place
    c.in-Ok.ensures.taken)

pub returns-in-Ok-clause-left : goal.returns-in-Ok-clause-left
returns-in-Ok-clause-left g c =
    sole-leaves (apart g (goal.at.returns-in-Ok-clause-left g c).After-into_parts)
    c.try_sole_into_reply-taken.new.pass c.give_back.new.self.of_blocks.items c.give_back.ensures
    (owner_bare ⊥ (λ o. Leaves o c.lend-pass.result c.try_sole_into_reply-taken.new.pass true)
    c.into_parts.result.place c.in-Ok.ensures.entry)

pub returns-in-Err-clause-back : goal.returns-in-Err-clause-back
returns-in-Err-clause-back g c =
    let b = c.self.inside.block in (
      ap (λ (w : PartsView g.row.S-Item.Denot (Given g.row.B.Denot g.row.M.Denot)).
          writer_slot (bare w) b)
          (c.from_parts.ensures ∙ c.in-Err.ensures.back ∙ c.into_parts.ensures.parts)
          ∙ sym (held-as (bare_held c.self.inside.window) (Write (bare c.in-Write.window))
          (ap bare_held c.in-Write.is) g.S.Small.SmallOf.seen b)
          ∙ c.self.view_is,
      sole-back (apart g (goal.at.returns-in-Err-clause-back g c).After-into_parts)
          c.try_sole_into_reply-taken.new.pass c.give_back.new.self.of_blocks.items
          c.give_back.ensures c.in-Err.ensures.refused.1,
    )

pub returns-in-Err-clause-refused : goal.returns-in-Err-clause-refused
returns-in-Err-clause-refused g c =
    sole-unwanted (apart g (goal.at.returns-in-Err-clause-refused g c).After-into_parts)
    g.S.Slice.DROPS c.args.what
    (bare_have_not g.S.Slice.DROPS c.into_parts.result.items c.args.what
    c.into_parts.result.place c.in-Err.ensures.refused.0)

-- what is taken out has as many places as the block of the row
pub returns-in-Ok-clause-places : goal.returns-in-Ok-clause-places
returns-in-Ok-clause-places g c =
    subst (λ n. HandsOutPlaces (WrapsPlaces g.S.Items.Wraps.wraps) g.B.Buffer.places n
    c.in-Ok.reply)
    (sym (bare_size c.into_parts.result.place)
    ∙ parts-size (apart g (goal.at.returns-in-Ok-clause-places g c).After-into_parts))
    c.in-Ok.ensures.places
