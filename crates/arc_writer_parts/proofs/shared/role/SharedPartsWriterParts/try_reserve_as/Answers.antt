-- Who has the places gets no more.
use Rattle.std.proofs.Common.{◌≤◌, subst, arith}
use Rattle.arc_writer_parts.proofs.Rooms.{shared_asked, spare_shared}
use Rattle.arc_writer_parts.proofs.shared.role.SharedPartsWriterParts.try_reserve_as.Goals as goal

pub returns-then-additional-spare-clause-room : goal.returns-then-additional-spare-clause-room
returns-then-additional-spare-clause-room g c =
    spare_shared g.H.Mark.whole _ c.args.additional c.args.self.now c.args.pass.now
    c.spare.ensures.several
    (subst (λ n. c.args.additional ≤ n) c.spare.ensures.spare c.if-additional-spare.true)

pub returns-then-additional-spare-clause-enough : goal.returns-then-additional-spare-clause-enough
returns-then-additional-spare-clause-enough g c =
    omega (arith, c.spare.ensures.spare, c.spare.ensures.enough, c.if-additional-spare.true)

pub returns-then-additional-spare-clause-own : goal.returns-then-additional-spare-clause-own
returns-then-additional-spare-clause-own g c =
    shared_asked g.S.Slice.DROPS _ c.args.additional c.args.self.now _ c.spare.ensures.place

pub returns-clause-own : goal.returns-clause-own
returns-clause-own g c =
    shared_asked g.S.Slice.DROPS _ c.args.additional c.args.self.now _ c.spare.ensures.place
