-- Of the two parts one has the owner, and what the other adds to the pass that was lent for it, it
-- adds to the passes.
use Rattle.std.proofs.Common.{◌≡◌, ◌≤◌, true, false, length, refl, sym, ap, ◌∙◌, subst}
use Rattle.std.proofs.lemmas.Bool.{false≢true}
use Rattle.arc_slots.specs.Parts.{is_end, is_itself, split_at}
use Rattle.arc_slots.specs.Slots.{SlotView, bare_held, bare_window, row_of}
use Rattle.arc_slots.specs.Splits.{SplitsPart}
use Rattle.arc_slots.proofs.Bare.{bare_part_refused, bare_splits}
use Rattle.arc_slots.proofs.Slots.{ReadCall, read-call}
use Rattle.arc_slots.proofs.Splits.{itself_fits, itself_split, part_refused, rest_fits, rest_split}
use Rattle.arc_slots.proofs.slot.Slot.try_part.Given.{Over}
use Rattle.arc_slots.proofs.slot.Slot.try_part.Goals.{After-give_back, In-Ok}
use Rattle.arc_slots.proofs.slot.Slot.try_part.Goals as goal

-- the pass was lent for the reader that the slot holds
reads : (g : Over) (c : After-give_back g)
    → ReadCall (bare_window c.in-Read.window) c.self.inside.block c.args.self.now
    c.args.passes.now.of_blocks.items c.lend-pass.new.self.of_blocks.items c.lend-pass.result
reads g c =
    read-call g.S.Small.SmallOf.seen (bare_held c.self.inside.window)
    (bare_window c.in-Read.window) (ap bare_held c.in-Read.is)
    c.self.view_is c.self.invariant.0 c.requires.pass c.lend-pass.ensures.taken

-- whether the window itself is handed out is what was tested
ends : (g : Over) (c : After-give_back g)
    → is_end (length c.in-Read.window.items) c.args.part ≡ c.is_end-is_end.result
ends g c = ap (λ n. is_end n c.args.part) (sym c.len.ensures) ∙ sym c.is_end-is_end.ensures

-- so it is told of the slot
seen-end : (g : Over) (c : After-give_back g)
    → is_itself (row_of c.args.self.now) c.args.part ≡ c.is_end-is_end.result
seen-end g c =
    subst (λ (x : SlotView g.row.S-Item.Denot g.row.M.Denot).
    is_itself (row_of x) c.args.part ≡ c.is_end-is_end.result) (reads g c).view (ends g c)

within : (g : Over) (c : After-give_back g)
    → split_at c.args.part ≤ length c.in-Read.window.items
within g c =
    subst (λ (x : SlotView g.row.S-Item.Denot g.row.M.Denot).
    split_at c.args.part ≤ length x.window.items) (sym (reads g c).view) c.requires.at.within

pub returns-in-Err-clause-refused : goal.returns-in-Err-clause-refused
returns-in-Err-clause-refused g c =
    part_refused (reads g (goal.at.returns-in-Err-clause-refused g c).After-give_back)
    c.split_window-made.new.pass c.give_back.new.self.of_blocks.items c.give_back.ensures
    g.L.Layout.STATIC g.L.Layout.clone_wants c.in-Err.e c.args.part
    (bare_part_refused g.L.Layout.STATIC c.in-Read.window c.lend-pass.result
    c.split_window-made.new.pass g.L.Layout.clone_wants c.in-Err.e c.args.part
    c.in-Err.ensures.refused)

-- the split, without the value of the block's buffer
splits : (g : Over) (c : In-Ok g)
    → SplitsPart g.L.Layout.STATIC c.args.part (bare_window c.in-Read.window) c.lend-pass.result
    c.split_window-made.new.pass (bare_window c.split_window-made.new.window)
    (bare_window c.in-Ok.handed)
splits g c =
    bare_splits g.L.Layout.STATIC c.in-Read.window c.lend-pass.result c.split_window-made.new.pass
    c.args.part c.split_window-made.new.window c.in-Ok.handed c.in-Ok.ensures.made

pub returns-then-is_end-clause-itself : goal.returns-then-is_end-clause-itself
returns-then-is_end-clause-itself g c =
    let at = (goal.at.returns-then-is_end-clause-itself g c).After-give_back in
    let ok = (goal.at.returns-then-is_end-clause-itself g c).In-Ok in
    itself_split (reads g at) c.split_window-made.new.pass
    c.give_back.new.self.of_blocks.items c.give_back.ensures g.L.Layout.STATIC
    (bare_window c.split_window-made.new.window) (bare_window c.in-Ok.handed)
    c.part_block-self-inside.result c.len-then-is_end.result c.len-then-is_end.ensures
    c.part_block-self-inside.ensures c.args.part (splits g ok)

pub returns-then-is_end-clause-beside : goal.returns-then-is_end-clause-beside
returns-then-is_end-clause-beside g c =
    let at = (goal.at.returns-then-is_end-clause-beside g c).After-give_back in
    λ other. absurd (false≢true (sym other ∙ seen-end g at ∙ c.if-is_end.true))

pub returns-clause-itself : goal.returns-clause-itself
returns-clause-itself g c =
    let at = (goal.at.returns-clause-itself g c).After-give_back in
    λ all. absurd (false≢true (sym c.if-is_end.false ∙ sym (seen-end g at) ∙ all))

pub returns-clause-beside : goal.returns-clause-beside
returns-clause-beside g c =
    let at = (goal.at.returns-clause-beside g c).After-give_back in
    let ok = (goal.at.returns-clause-beside g c).In-Ok in
    rest_split (reads g at) c.split_window-made.new.pass c.give_back.new.self.of_blocks.items
    c.give_back.ensures g.L.Layout.STATIC (bare_window c.split_window-made.new.window)
    (bare_window c.in-Ok.handed)
    c.part_block-block.result c.len-2.result c.len-2.ensures c.part_block-block.ensures
    c.args.part (splits g ok) (within g at)

pub invariant_of-self-then-is_end : goal.invariant_of-self-then-is_end
invariant_of-self-then-is_end g c =
    let at = (goal.at.invariant_of-self-then-is_end g c).After-give_back in
    let ok = (goal.at.invariant_of-self-then-is_end g c).In-Ok in
    let fits =
    itself_fits (reads g at) c.split_window-made.new.pass c.give_back.new.self.of_blocks.items
    c.give_back.ensures g.L.Layout.STATIC (bare_window c.split_window-made.new.window)
    (bare_window c.in-Ok.handed)
    c.part_block-self-inside.result c.len-then-is_end.result c.len-then-is_end.ensures
    c.part_block-self-inside.ensures
    c.args.part (splits g ok)
    (ends g at ∙ c.if-is_end.true) in
    (fits.0, refl, refl)

pub invariant_of-result : goal.invariant_of-result
invariant_of-result g c =
    let at = (goal.at.invariant_of-result g c).After-give_back in
    let ok = (goal.at.invariant_of-result g c).In-Ok in
    let fits =
    itself_fits (reads g at) c.split_window-made.new.pass c.give_back.new.self.of_blocks.items
    c.give_back.ensures g.L.Layout.STATIC (bare_window c.split_window-made.new.window)
    (bare_window c.in-Ok.handed)
    c.part_block-self-inside.result c.len-then-is_end.result c.len-then-is_end.ensures
    c.part_block-self-inside.ensures
    c.args.part (splits g ok)
    (ends g at ∙ c.if-is_end.true) in
    (fits.1, refl, refl)

pub invariant_of-result-2 : goal.invariant_of-result-2
invariant_of-result-2 g c =
    let at = (goal.at.invariant_of-result-2 g c).After-give_back in
    let ok = (goal.at.invariant_of-result-2 g c).In-Ok in
    let fits =
    rest_fits (reads g at) c.split_window-made.new.pass c.give_back.new.self.of_blocks.items
    c.give_back.ensures g.L.Layout.STATIC (bare_window c.split_window-made.new.window)
    (bare_window c.in-Ok.handed)
    c.part_block-block.result c.len-2.result c.len-2.ensures c.part_block-block.ensures
    c.args.part (splits g ok) (within g at) (ends g at ∙ c.if-is_end.false) in
    (fits.1, refl, refl)
