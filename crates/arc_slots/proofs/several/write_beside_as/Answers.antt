-- Room for no items more is made.
use Rattle.std.proofs.Common.{if◌then◌else◌, ◌==◌, true, false, sym, subst}
use Rattle.std.specs.Mem.{type_size}
use Rattle.std.specs.Result.{OnOk}
use Rattle.std.specs.declared.vec.Vec.{Vec}
use Rattle.arc_block.specs.Table.{bare}
use Rattle.arc_parts.specs.Shared.{PushesShared, asks_alone}
use Rattle.arc_parts.specs.Writers.{room}
use Rattle.arc_slots.specs.Writing.{seen_writing, items_of, additional_of}
use Rattle.arc_slots.specs.declared.slot.Writing.{Writing}
use Rattle.arc_slots.proofs.FilledBeside.{nothing-beside}
use Rattle.arc_slots.proofs.several.write_beside_as.Goals as goal

pub returns-in-Nothing-clause-written : goal.returns-in-Nothing-clause-written
returns-in-Nothing-clause-written g c =
    let size = type_size g.row.S-Item in
    let w = bare c.args.window.now in
    let v = bare c.try_reserve_as.new.self in
    let p = c.args.pass.now in
    let q = c.try_reserve_as.new.pass in
    let reply = c.try_reserve_as.result in
    let k = c.in-Nothing.additional in
    subst (λ (x : Writing (Vec g.row.S-Item.Denot g.row.A.Denot) g.row.S-Item.Denot).
    OnOk reply (PushesShared (asks_alone w (additional_of (seen_writing x))) true
    (room false (if size == 1 then 8 else 4) size w (additional_of (seen_writing x)))
    (items_of (seen_writing x)) w v p q)) (sym c.in-Nothing.is)
    (nothing-beside (asks_alone w k) (room false (if size == 1 then 8 else 4) size w k) w v p q
    reply c.try_reserve_as.ensures.room)
