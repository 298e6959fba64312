-- One window more has ended.
use Rattle.arc_block.specs.LayoutFacts.{layout_facts}
use Rattle.std.specs.Mem.{type_size}
use Rattle.std.proofs.Common.{◌≡◌, ◌++◌, ◌∷◌, [], length, None, refl, sym, ap, ◌∙◌, subst, arith}
use Rattle.std.proofs.lemmas.List.{length-set}
use Rattle.arc_commands.specs.RunOf.{RunOf}
use Rattle.arc_commands.specs.Seen.{seen_reply}
use Rattle.arc_commands.specs.State.{CarriesOut, drops}
use Rattle.arc_commands.specs.Changes.{Setting, setting_of}
use Rattle.arc_commands.proofs.Lists.{gone-below, all-gone}
use Rattle.arc_table.proofs.Places.{rows-many}
use Rattle.arc_table.proofs.States.{dropped_more}
use Rattle.arc_table.proofs.table.Table.release_all.Given.{Over}
use Rattle.arc_table.proofs.table.Table.release_all.Goals as goal

abbrev setting : (g : Over) → Setting g.row.S-Item.Denot
setting g =
    setting_of (layout_facts g.L.Layout) g.L.Writable.Layout.ANY g.L.Layout.clone_wants
    g.S.Slice.DROPS g.S.Subsliceable.boundary
    (type_size g.row.S-Item) g.S.Zero.ZeroOf.zero g.S.Calls.CallsOf.calls

pub loop-i-init : goal.loop-i-init
loop-i-init g c =
    let s = c.self.inside.slots in
    record {
      gone = λ j below. absurd (omega (arith, below));
      rows =
          rows-many s.index.items s.numbers.items s.places.items
          c.self.inside.passes.of_blocks.items c.self.view_is
          ∙ (omega (arith, c.len-i-end.ensures, c.self.inside.slots.index.ok.0));
      blocks = refl;
      passes = ([], refl);
    }

pub loop-i-preserved : goal.loop-i-preserved
loop-i-preserved g c =
    let old = c.loop-i.self in
    let new = c.release.new.self in
    let i = c.loop-i.i in
    let said = c.loop-i.invariant in
    let did = c.release.ensures in
    let reply = seen_reply g.S.Commands.items_in g.S.Commands.items_in_box g.B.Buffer.list
    c.release.result in
    record {
      gone = gone-below old.table.rows new.table.rows i did.gone said.gone;
      rows = ap length did.gone ∙ length-set old.table.rows i None ∙ said.rows;
      blocks = did.blocks ∙ said.blocks;
      passes = (
        said.passes.0 ++ reply ∷ [],
        dropped_more (setting g) c.args.self.now i said.passes.0 old reply new said.passes.1
            (record { rows = did.rows; passes = did.passes; agree = c.agree.ensures.stands }),
      );
    }

pub returns-clause-passes : goal.returns-clause-passes
returns-clause-passes g c =
    let s = c.self.inside.slots in
    let old = c.args.self.now in
    let new = c.loop-i.self in
    let said = c.loop-i.invariant in
    let many : length old.table.rows ≡ c.loop-i.i =
    rows-many s.index.items s.numbers.items s.places.items c.self.inside.passes.of_blocks.items
    c.self.view_is
    ∙ (omega (arith, c.len-i-end.ensures, c.loop-i.auto.i-end, c.loop-i-test.false)) in
    record {
      replies = said.passes.0;
      run =
          subst (λ n. RunOf (CarriesOut (setting g)) old (drops n) said.passes.0 new) (sym many)
          said.passes.1;
      none_left =
          all-gone new.table.rows c.loop-i.i (omega (arith, said.rows, c.loop-i-test.false))
          said.gone;
    }
