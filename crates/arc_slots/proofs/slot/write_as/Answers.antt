-- Room for no items more is made.
use Rattle.std.proofs.Common.{if◌then◌else◌, ◌==◌, true, sym, subst}
use Rattle.std.specs.Mem.{type_size}
use Rattle.std.specs.Result.{OnOk}
use Rattle.std.specs.declared.vec.Vec.{Vec}
use Rattle.arc_block.specs.Table.{bare}
use Rattle.arc_parts.specs.Writers.{room, Pushes}
use Rattle.arc_slots.specs.Writing.{seen_writing, items_of, additional_of}
use Rattle.arc_slots.specs.declared.slot.Writing.{Writing}
use Rattle.arc_slots.proofs.Filled.{nothing-written}
use Rattle.arc_slots.proofs.slot.write_as.Goals as goal

pub returns-in-Nothing-clause-written : goal.returns-in-Nothing-clause-written
returns-in-Nothing-clause-written g c =
    let drops = g.S.Slice.DROPS in
    let size = type_size g.row.S-Item in
    let w = bare c.args.window.now in
    let v = bare c.try_reserve_as.new.self in
    let p = c.args.pass.now in
    let q = c.try_reserve_as.new.pass in
    let reply = c.try_reserve_as.result in
    subst (λ (x : Writing (Vec g.row.S-Item.Denot g.row.A.Denot) g.row.S-Item.Denot).
    OnOk reply (Pushes drops true
    (room drops (if size == 1 then 8 else 4) size w (additional_of (seen_writing x)))
    (items_of (seen_writing x)) w v p q)) (sym c.in-Nothing.is)
    (nothing-written drops
    (room drops (if size == 1 then 8 else 4) size w c.in-Nothing.additional) w v p q reply
    c.try_reserve_as.ensures.room)
