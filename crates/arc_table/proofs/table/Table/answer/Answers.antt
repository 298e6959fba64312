-- These commands on a window bring nothing that has places, and take nothing out.
use Rattle.arc_block.specs.LayoutFacts.{layout_facts}
use Rattle.std.specs.Mem.{type_size}
use Rattle.std.proofs.Common.{ap}
use Rattle.arc_commands.specs.Changes.{Setting, setting_of}
use Rattle.arc_commands.specs.Step.{window_of}
use Rattle.arc_slots.specs.Places.{WrapsPlaces}
use Rattle.arc_table.proofs.Own.{own_on, takes_other, takes_out}
use Rattle.arc_table.proofs.table.Table.answer.Given.{Over}
use Rattle.arc_table.proofs.table.Table.answer.Goals as goal

abbrev setting : (g : Over) → Setting g.row.S-Item.Denot
setting g =
    setting_of (layout_facts g.L.Layout) g.L.Writable.Layout.ANY g.L.Layout.clone_wants
    g.S.Slice.DROPS g.S.Subsliceable.boundary
    (type_size g.row.S-Item) g.S.Zero.ZeroOf.zero g.S.Calls.CallsOf.calls

pub returns-in-Len-clause-places : goal.returns-in-Len-clause-places
returns-in-Len-clause-places g c =
    own_on (WrapsPlaces g.S.Items.Wraps.wraps) g.S.Commands.items_in g.B.Buffer.list
    g.B.Buffer.places (setting g) _ c.args.command _ _ (ap window_of c.in-Len.is)

pub returns-in-Room-clause-places : goal.returns-in-Room-clause-places
returns-in-Room-clause-places g c =
    own_on (WrapsPlaces g.S.Items.Wraps.wraps) g.S.Commands.items_in g.B.Buffer.list
    g.B.Buffer.places (setting g) _ c.args.command _ _ (ap window_of c.in-Room.is)

pub returns-in-Uniq-clause-places : goal.returns-in-Uniq-clause-places
returns-in-Uniq-clause-places g c =
    own_on (WrapsPlaces g.S.Items.Wraps.wraps) g.S.Commands.items_in g.B.Buffer.list
    g.B.Buffer.places (setting g) _ c.args.command _ _ (ap window_of c.in-Uniq.is)

pub returns-in-Push-clause-places : goal.returns-in-Push-clause-places
returns-in-Push-clause-places g c =
    own_on (WrapsPlaces g.S.Items.Wraps.wraps) g.S.Commands.items_in g.B.Buffer.list
    g.B.Buffer.places (setting g) _ c.args.command _ _ (ap window_of c.in-Push.is)

pub returns-in-Ext-clause-places : goal.returns-in-Ext-clause-places
returns-in-Ext-clause-places g c =
    own_on (WrapsPlaces g.S.Items.Wraps.wraps) g.S.Commands.items_in g.B.Buffer.list
    g.B.Buffer.places (setting g) _ c.args.command _ _ (ap window_of c.in-Ext.is)

pub returns-in-Res-clause-places : goal.returns-in-Res-clause-places
returns-in-Res-clause-places g c =
    own_on (WrapsPlaces g.S.Items.Wraps.wraps) g.S.Commands.items_in g.B.Buffer.list
    g.B.Buffer.places (setting g) _ c.args.command _ _ (ap window_of c.in-Res.is)

pub returns-in-Rec-clause-places : goal.returns-in-Rec-clause-places
returns-in-Rec-clause-places g c =
    own_on (WrapsPlaces g.S.Items.Wraps.wraps) g.S.Commands.items_in g.B.Buffer.list
    g.B.Buffer.places (setting g) _ c.args.command _ _ (ap window_of c.in-Rec.is)

pub returns-in-Trunc-clause-places : goal.returns-in-Trunc-clause-places
returns-in-Trunc-clause-places g c =
    own_on (WrapsPlaces g.S.Items.Wraps.wraps) g.S.Commands.items_in g.B.Buffer.list
    g.B.Buffer.places (setting g) _ c.args.command _ _ (ap window_of c.in-Trunc.is)

pub returns-in-Len-clause-taken_places : goal.returns-in-Len-clause-taken_places
returns-in-Len-clause-taken_places g c =
    takes_other (WrapsPlaces g.S.Items.Wraps.wraps) g.B.Buffer.places _ c.args.command _
    (ap takes_out c.in-Len.is)

pub returns-in-Room-clause-taken_places : goal.returns-in-Room-clause-taken_places
returns-in-Room-clause-taken_places g c =
    takes_other (WrapsPlaces g.S.Items.Wraps.wraps) g.B.Buffer.places _ c.args.command _
    (ap takes_out c.in-Room.is)

pub returns-in-Uniq-clause-taken_places : goal.returns-in-Uniq-clause-taken_places
returns-in-Uniq-clause-taken_places g c =
    takes_other (WrapsPlaces g.S.Items.Wraps.wraps) g.B.Buffer.places _ c.args.command _
    (ap takes_out c.in-Uniq.is)

pub returns-in-Push-clause-taken_places : goal.returns-in-Push-clause-taken_places
returns-in-Push-clause-taken_places g c =
    takes_other (WrapsPlaces g.S.Items.Wraps.wraps) g.B.Buffer.places _ c.args.command _
    (ap takes_out c.in-Push.is)

pub returns-in-Ext-clause-taken_places : goal.returns-in-Ext-clause-taken_places
returns-in-Ext-clause-taken_places g c =
    takes_other (WrapsPlaces g.S.Items.Wraps.wraps) g.B.Buffer.places _ c.args.command _
    (ap takes_out c.in-Ext.is)

pub returns-in-Res-clause-taken_places : goal.returns-in-Res-clause-taken_places
returns-in-Res-clause-taken_places g c =
    takes_other (WrapsPlaces g.S.Items.Wraps.wraps) g.B.Buffer.places _ c.args.command _
    (ap takes_out c.in-Res.is)

pub returns-in-Rec-clause-taken_places : goal.returns-in-Rec-clause-taken_places
returns-in-Rec-clause-taken_places g c =
    takes_other (WrapsPlaces g.S.Items.Wraps.wraps) g.B.Buffer.places _ c.args.command _
    (ap takes_out c.in-Rec.is)

pub returns-in-Trunc-clause-taken_places : goal.returns-in-Trunc-clause-taken_places
returns-in-Trunc-clause-taken_places g c =
    takes_other (WrapsPlaces g.S.Items.Wraps.wraps) g.B.Buffer.places _ c.args.command _
    (ap takes_out c.in-Trunc.is)
