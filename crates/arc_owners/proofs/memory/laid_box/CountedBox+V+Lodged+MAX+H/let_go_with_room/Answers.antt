-- Under a mark that steps it ended with a new pass.
use Rattle.std.proofs.Common.{true, false}
use Rattle.arc_owners.specs.memory.Boxes.{owner_in}
use Rattle.arc_owners.proofs.count.Calls.{ended_at}
use Rattle.arc_owners.proofs.memory.laid_box.CountedBox+V+Lodged+MAX+H.let_go_with_room.Goals as goal

pub returns-then-last-clause-ended : goal.returns-then-last-clause-ended
returns-then-last-clause-ended g c many =
    ended_at (owner_in c.args.self) c.parted-share.result.0.right _ _ true
    c.parted-share.ensures.owner c.if-last.true (c.let_go.ensures.ended many)

pub returns-else-last-clause-ended : goal.returns-else-last-clause-ended
returns-else-last-clause-ended g c many =
    ended_at (owner_in c.args.self) c.parted-share.result.0.right _ _ false
    c.parted-share.ensures.owner c.if-last.false (c.let_go.ensures.ended many)
