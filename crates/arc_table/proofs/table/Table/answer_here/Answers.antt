-- These commands on a window bring nothing that has places, and take nothing out.
use Rattle.arc_block.specs.LayoutFacts.{layout_facts}
use Rattle.std.specs.Mem.{type_size}
use Rattle.std.proofs.Common.{ap}
use Rattle.arc_commands.specs.Changes.{Setting, setting_of}
use Rattle.arc_commands.specs.Step.{window_of}
use Rattle.arc_slots.specs.Places.{WrapsPlaces}
use Rattle.arc_table.proofs.Own.{own_on, takes_other, takes_out}
use Rattle.arc_table.proofs.table.Table.answer_here.Given.{Over}
use Rattle.arc_table.proofs.table.Table.answer_here.Goals as goal

abbrev setting : (g : Over) → Setting g.row.S-Item.Denot
setting g =
    setting_of (layout_facts g.L.Layout) g.L.Writable.Layout.ANY g.L.Layout.clone_wants
    g.S.Slice.DROPS g.S.Subsliceable.boundary
    (type_size g.row.S-Item) g.S.Zero.ZeroOf.zero g.S.Calls.CallsOf.calls

pub returns-in-Drop-clause-places : goal.returns-in-Drop-clause-places
returns-in-Drop-clause-places g c =
    own_on (WrapsPlaces g.S.Items.Wraps.wraps) g.S.Commands.items_in g.B.Buffer.list
    g.B.Buffer.places (setting g) _ c.args.command _ _ (ap window_of c.in-Drop.is)

pub returns-in-Clone-clause-places : goal.returns-in-Clone-clause-places
returns-in-Clone-clause-places g c =
    own_on (WrapsPlaces g.S.Items.Wraps.wraps) g.S.Commands.items_in g.B.Buffer.list
    g.B.Buffer.places (setting g) _ c.args.command _ _ (ap window_of c.in-Clone.is)

pub returns-in-Sub-clause-places : goal.returns-in-Sub-clause-places
returns-in-Sub-clause-places g c =
    own_on (WrapsPlaces g.S.Items.Wraps.wraps) g.S.Commands.items_in g.B.Buffer.list
    g.B.Buffer.places (setting g) _ c.args.command _ _ (ap window_of c.in-Sub.is)

pub returns-in-Drop-clause-taken_places : goal.returns-in-Drop-clause-taken_places
returns-in-Drop-clause-taken_places g c =
    takes_other (WrapsPlaces g.S.Items.Wraps.wraps) g.B.Buffer.places _ c.args.command _
    (ap takes_out c.in-Drop.is)

pub returns-in-Clone-clause-taken_places : goal.returns-in-Clone-clause-taken_places
returns-in-Clone-clause-taken_places g c =
    takes_other (WrapsPlaces g.S.Items.Wraps.wraps) g.B.Buffer.places _ c.args.command _
    (ap takes_out c.in-Clone.is)

pub returns-in-Sub-clause-taken_places : goal.returns-in-Sub-clause-taken_places
returns-in-Sub-clause-taken_places g c =
    takes_other (WrapsPlaces g.S.Items.Wraps.wraps) g.B.Buffer.places _ c.args.command _
    (ap takes_out c.in-Sub.is)
