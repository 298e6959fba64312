use mir.Raw.{raw}
use mir.Syntax.{Ty}
use base.Shift.{Keyless}
use denote.RattleType.{RattleType}
use denote.Param.{layout}
use denote.Param.Send.{IsSend}
use denote.RawPtr.{Ptr, block_ptr, null_ptr, room_for}
use Rattle.arc_owners.specs.contracts.memory.header_room.HeaderRoom.{the_row}

room_keyless : (τ : Ty) (p : Ptr) → Keyless (room_for τ p)
room_keyless τ (block_ptr b o) = tt
room_keyless τ null_ptr = tt

pub send : (X : RattleType) → IsSend (the_row X)
send X = record {
  owned = λ d vs. ((λ vss. (tt, (tt, tt))), room_keyless (raw (layout X)) d.at);
  leaving = λ k e vs. tt;
}
