-- One command more is carried out, until none is left.
use Rattle.arc_block.specs.LayoutFacts.{layout_facts}
use Rattle.std.specs.Mem.{type_size}
use Rattle.std.proofs.Common.{◌≡◌, [], ◌∷◌, ◌++◌, length, map, sym, ap, subst, ◌∙◌}
use Rattle.std.proofs.Common.{append_assoc, append-nil, arith}
use Rattle.std.proofs.lemmas.List.{nil_from_length}
use Rattle.std.specs.Vec.Iter.{into_iter_items}
use Rattle.arc_commands.specs.RunOf.{RunOf}
use Rattle.arc_commands.specs.Seen.{map_command, seen_reply}
use Rattle.arc_commands.specs.State.{CarriesOut}
use Rattle.arc_commands.specs.Changes.{Setting, setting_of}
use Rattle.arc_commands.proofs.Runs.{run_push, run_push_seen}
use Rattle.arc_slots.specs.Places.{WrapsPlaces}
use Rattle.arc_table.specs.Carries.{CarriesPlaces}
use Rattle.arc_table.proofs.table.Table.run.Given.{Over}
use Rattle.arc_table.proofs.table.Table.run.Goals as goal

abbrev setting : (g : Over) → Setting g.row.S-Item.Denot
setting g =
    setting_of (layout_facts g.L.Layout) g.L.Writable.Layout.ANY g.L.Layout.clone_wants
    g.S.Slice.DROPS g.S.Subsliceable.boundary
    (type_size g.row.S-Item) g.S.Zero.ZeroOf.zero g.S.Calls.CallsOf.calls

pub loop-command-preserved : goal.loop-command-preserved
loop-command-preserved g c =
    let said_by = map_command g.S.Commands.items_in g.S.Commands.static_in g.B.Buffer.list in
    let at = c.loop-command in
    let said = at.invariant in
    let command = c.in-Some.command in
    let next : into_iter_items at.command-iterator ≡ command ∷ into_iter_items c.next.new.self =
    c.in-Some.ensures.steps.0 in
    record {
      commands = append_assoc at.yielded (command ∷ []) _ ∙ rw (← next) said.commands;
      left = omega (arith, said.left, c.in-Some.ensures.steps.1, ap length next);
      run =
          subst (λ rs. RunOf (CarriesOut (setting g)) c.args.self.now
          (map said_by (at.yielded ++ command ∷ []))
          (map (seen_reply g.S.Commands.items_in g.S.Commands.items_in_box g.B.Buffer.list) rs)
          c.step.new.self)
          (sym c.push_reserved.ensures.items)
          (run_push_seen (CarriesOut (setting g)) said_by
          (seen_reply g.S.Commands.items_in g.S.Commands.items_in_box g.B.Buffer.list)
          c.args.self.now at.yielded
          at.replies.items at.self command c.step.result c.step.new.self said.run
          c.step.ensures.carried);
      places =
          subst (λ rs. RunOf (CarriesPlaces (setting g) (WrapsPlaces g.S.Items.Wraps.wraps)
          g.S.Commands.items_in g.S.Commands.items_in_box g.S.Commands.static_in g.B.Buffer.list
          g.B.Buffer.places) c.args.self.now (at.yielded ++ command ∷ []) rs
          c.step.new.self) (sym c.push_reserved.ensures.items)
          (run_push (CarriesPlaces (setting g) (WrapsPlaces g.S.Items.Wraps.wraps)
          g.S.Commands.items_in g.S.Commands.items_in_box g.S.Commands.static_in g.B.Buffer.list
          g.B.Buffer.places) c.args.self.now at.yielded at.replies.items at.self command
          c.step.result c.step.new.self said.places (record {
            carried = c.step.ensures.carried;
            brought = c.step.ensures.places;
            taken = c.step.ensures.taken_places;
          }));
      many =
          omega (arith, said.many, c.in-Some.ensures.steps.1, c.push_reserved.ensures.len);
      room = omega (arith, said.room, c.push_reserved.ensures.capacity);
    }

pub returns-clause-run : goal.returns-clause-run
returns-clause-run g c =
    let said_by = map_command g.S.Commands.items_in g.S.Commands.static_in g.B.Buffer.list in
    let at = c.loop-command in
    let said = at.invariant in
    let none : into_iter_items at.command-iterator ≡ [] =
    nil_from_length (into_iter_items at.command-iterator)
    (sym said.left ∙ c.in-None.ensures.steps.0) in
    let all : at.yielded ≡ c.args.commands.items =
    sym (append-nil at.yielded) ∙ rw none at said.commands in
    subst (λ cs. RunOf (CarriesOut (setting g)) c.args.self.now (map said_by cs)
    (map (seen_reply g.S.Commands.items_in g.S.Commands.items_in_box g.B.Buffer.list)
    at.replies.items) at.self) all said.run

pub returns-clause-places : goal.returns-clause-places
returns-clause-places g c =
    let at = c.loop-command in
    let said = at.invariant in
    let none : into_iter_items at.command-iterator ≡ [] =
    nil_from_length (into_iter_items at.command-iterator)
    (sym said.left ∙ c.in-None.ensures.steps.0) in
    let all : at.yielded ≡ c.args.commands.items =
    sym (append-nil at.yielded) ∙ rw none at said.commands in
    subst (λ cs. RunOf (CarriesPlaces (setting g) (WrapsPlaces g.S.Items.Wraps.wraps)
    g.S.Commands.items_in g.S.Commands.items_in_box g.S.Commands.static_in g.B.Buffer.list
    g.B.Buffer.places) c.args.self.now cs at.replies.items at.self) all said.places
