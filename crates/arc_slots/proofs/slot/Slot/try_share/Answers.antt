-- The window stands where it stood, as one of several.
use Rattle.std.proofs.Common.{◌≡◌, Option, true, sym, ap, ◌∙◌, subst}
use Rattle.std.specs.Prelude.{IfNone}
use Rattle.arc_block.specs.Given.{Given}
use Rattle.arc_block.specs.Table.{bare}
use Rattle.arc_parts.specs.Window.{IsOfBuffer, PartsView}
use Rattle.arc_slots.specs.Slots.{bare_held, row_of}
use Rattle.arc_slots.specs.declared.window.Held.TheVariants.{Write}
use Rattle.arc_writer_parts.proofs.Bare.{bare_no_buffer}
use Rattle.arc_slots.proofs.Bare.{bare_of_buffer, bare_writer}
use Rattle.arc_slots.proofs.Slots.{fits-as, held-as}
use Rattle.arc_slots.proofs.Shared.{may-not-share, may-share, shared-row}
use Rattle.arc_slots.proofs.slot.Slot.try_share.Goals as goal

pub returns-in-Some-clause-row : goal.returns-in-Some-clause-row
returns-in-Some-clause-row g c =
    let small = g.S.Small.SmallOf.seen in
    let b = c.self.inside.block in
    let w = bare c.in-Write.window in
    let h = bare_held c.self.inside.window in
    ap row_of c.written_beside.ensures
    ∙ shared-row w b c.args.self
    (sym (held-as h (Write w) (ap bare_held c.in-Write.is) small b) ∙ c.self.view_is)
    (fits-as h (Write w) (ap bare_held c.in-Write.is) small b c.self.invariant.0)
    (bare c.in-Some.window) (ap bare c.in-Some.ensures.shared.0)

pub returns-in-Some-clause-may : goal.returns-in-Some-clause-may
returns-in-Some-clause-may g c =
    let small = g.S.Small.SmallOf.seen in
    let b = c.self.inside.block in
    let place = c.in-Write.window.place in
    let w = bare c.in-Write.window in
    let h = bare_held c.self.inside.window in
    may-share w b c.args.self
    (sym (held-as h (Write w) (ap bare_held c.in-Write.is) small b) ∙ c.self.view_is)
    (fits-as h (Write w) (ap bare_held c.in-Write.is) small b c.self.invariant.0)
    g.S.Slice.DROPS c.known_kind.ensures (bare_writer place c.known_place.ensures.place)
    (bare_no_buffer place c.in-Some.ensures.shared.1)

pub returns-clause-may_not : goal.returns-clause-may_not
returns-clause-may_not g c =
    let small = g.S.Small.SmallOf.seen in
    let b = c.self.inside.block in
    let place = c.in-Write.window.place in
    let w = bare c.in-Write.window in
    let h = bare_held c.self.inside.window in
    may-not-share w b c.args.self
    (sym (held-as h (Write w) (ap bare_held c.in-Write.is) small b) ∙ c.self.view_is)
    (fits-as h (Write w) (ap bare_held c.in-Write.is) small b c.self.invariant.0)
    g.S.Slice.DROPS
    (bare_of_buffer place
    (subst (λ (r : Option (PartsView g.row.S-Item.Denot
    (Given g.row.B.Denot g.row.M.Denot))).
    IfNone r (g.S.Calls.CallsOf.calls.shares ≡ true → IsOfBuffer place))
    c.in_default-into_shared.is c.into_shared.ensures.refused c.requires.shares))
