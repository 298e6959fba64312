-- No windows and no blocks.
use Rattle.std.proofs.Common.{[], ap, ◌∙◌}
use Rattle.arc_slots.specs.Index.{windows_of}
use Rattle.arc_slots.specs.Slots.{state_of}
use Rattle.arc_slots.proofs.Index.{empty-indexed}
use Rattle.arc_table.proofs.Done.{empty-fact}
use Rattle.arc_table.proofs.table.Table.new.Goals as goal

pub invariant_of-result : goal.invariant_of-result
invariant_of-result g c = (
  empty-fact g.S.Slice.DROPS
      (ap (λ i. windows_of i c.new-2.result.items c.new-3.result.items) c.new.ensures.items)
      c.new-5.ensures.items,
  empty-indexed c.new-2.ensures.items c.new-3.ensures.items,
)

pub returns : goal.returns
returns g c =
    ap (λ ss. state_of ss c.new-5.result.items)
    (ap (λ i. windows_of i c.new-2.result.items c.new-3.result.items) c.new.ensures.items)
    ∙ ap (state_of []) c.new-5.ensures.items
