-- What a split adds to the pass that was lent for the window, it adds to the passes.
use Rattle.std.proofs.Common.{true, false, ap}
use Rattle.arc_owners.specs.declared.mark.Whole.{Whole}
use Rattle.arc_block.specs.Table.{bare}
use Rattle.arc_parts.specs.Shared.{SplitsWriter}
use Rattle.arc_kinds.specs.Passes.{is_any}
use Rattle.arc_slots.specs.Several.{handed_places, kept_places}
use Rattle.arc_slots.specs.Slots.{bare_held}
use Rattle.arc_slots.specs.declared.window.Held.TheVariants.{Several}
use Rattle.arc_slots.proofs.Bare.{bare_split_refused, bare_splits_places}
use Rattle.arc_slots.proofs.Parted.{kept-fits, made-fits, places-refused, splits-there}
use Rattle.arc_slots.proofs.Slots.{role-as, shares-as}
use Rattle.arc_slots.proofs.slot.Slot.split_places.Given.{Over}
use Rattle.arc_slots.proofs.slot.Slot.split_places.Goals.{In-Ok}
use Rattle.arc_slots.proofs.slot.Slot.split_places.Goals as goal

pub returns-in-Err-clause-refused : goal.returns-in-Err-clause-refused
returns-in-Err-clause-refused g c =
    let w = c.in-Several.window in
    places-refused g.S.Small.SmallOf.seen (bare_held c.self.inside.window) (bare w)
    c.self.inside.block (ap bare_held c.in-Several.is) c.args.self.now c.self.view_is
    c.self.invariant.0
    c.args.passes.now.of_blocks.items c.lend-pass.new.self.of_blocks.items c.lend-pass.result
    c.requires.pass c.lend-pass.ensures.taken c.requires.there c.args.part
    c.split_as-made.new.pass c.give_back.new.self.of_blocks.items c.give_back.ensures c.in-Err.e
    (bare_split_refused w.place c.lend-pass.result c.split_as-made.new.pass c.in-Err.e
    c.in-Err.ensures.refused)

-- the split, without the value of the block's buffer
splits : (g : Over) (c : In-Ok g)
    → SplitsWriter Whole is_any false true (kept_places c.args.part) (handed_places c.args.part)
    (bare c.in-Several.window) (bare c.split_as-made.new.window) (bare c.in-Ok.window)
    c.lend-pass.result c.split_as-made.new.pass
splits g c =
    bare_splits_places Whole is_any false true c.in-Several.window c.args.part
    c.split_as-made.new.window c.in-Ok.window c.lend-pass.result c.split_as-made.new.pass
    c.in-Ok.ensures.made

pub returns-clause-made : goal.returns-clause-made
returns-clause-made g c =
    splits-there g.S.Small.SmallOf.seen (bare_held c.self.inside.window)
    (bare c.in-Several.window) c.self.inside.block (ap bare_held c.in-Several.is)
    c.args.self.now c.self.view_is c.self.invariant.0
    c.args.passes.now.of_blocks.items c.lend-pass.new.self.of_blocks.items c.lend-pass.result
    c.requires.pass c.lend-pass.ensures.taken c.requires.there c.args.part
    c.split_as-made.new.pass c.give_back.new.self.of_blocks.items c.give_back.ensures
    (bare c.split_as-made.new.window) (bare c.in-Ok.window)
    (splits g (goal.at.returns-clause-made g c).In-Ok)

pub invariant_of-self-2 : goal.invariant_of-self-2
invariant_of-self-2 g c =
    let h = bare_held c.self.inside.window in
    let w = bare c.in-Several.window in
    let fits =
    kept-fits g.S.Small.SmallOf.seen h w c.self.inside.block
    (ap bare_held c.in-Several.is) c.args.self.now c.self.view_is c.self.invariant.0
    c.args.passes.now.of_blocks.items c.lend-pass.new.self.of_blocks.items c.lend-pass.result
    c.requires.pass c.lend-pass.ensures.taken c.requires.there c.args.part
    c.split_as-made.new.pass c.give_back.new.self.of_blocks.items c.give_back.ensures
    (bare c.split_as-made.new.window) (bare c.in-Ok.window)
    (splits g (goal.at.invariant_of-self-2 g c).In-Ok)
    (role-as h (Several w) (ap bare_held c.in-Several.is) c.self.invariant.1) in (
      fits.0,
      fits.1,
      shares-as h (Several w) (ap bare_held c.in-Several.is) g.S.TableKind.SHARES
          c.self.invariant.2,
    )

pub invariant_of-result : goal.invariant_of-result
invariant_of-result g c =
    let h = bare_held c.self.inside.window in
    let w = bare c.in-Several.window in
    let fits =
    made-fits g.S.Small.SmallOf.seen h w c.self.inside.block
    (ap bare_held c.in-Several.is) c.args.self.now c.self.view_is c.self.invariant.0
    c.args.passes.now.of_blocks.items c.lend-pass.new.self.of_blocks.items c.lend-pass.result
    c.requires.pass c.lend-pass.ensures.taken c.requires.there c.args.part
    c.split_as-made.new.pass c.give_back.new.self.of_blocks.items c.give_back.ensures
    (bare c.split_as-made.new.window) (bare c.in-Ok.window)
    (splits g (goal.at.invariant_of-result g c).In-Ok)
    (role-as h (Several w) (ap bare_held c.in-Several.is) c.self.invariant.1) in (
      fits.0,
      fits.1,
      shares-as h (Several w) (ap bare_held c.in-Several.is) g.S.TableKind.SHARES
          c.self.invariant.2,
    )
