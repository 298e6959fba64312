use denote.RattleType.{RattleType}
use denote.Param.Send.{IsSend, Frees, struct_send}
use denote.Struct.Declared.{shape}
use Rattle.core.specs.declared.alloc.Allocator.{Ghosts}
use Rattle.std.specs.Vec.{with_items}
use Rattle.std_alloc.proofs.SendSync.{Vec-send}
use Rattle.arc_memory.proofs.Keyless.{places}
use Rattle.arc_memory.specs.contracts.emptied.Emptied.TheInside as Inside
use Rattle.arc_memory.specs.contracts.emptied.Emptied.{the_row}

-- the places that come back, and the whole vector that they make
pub send : (T A : RattleType) (g : Ghosts A.Denot) → IsSend T → IsSend A → Frees g g.dealloc_token
    → IsSend (the_row T A g)
send T A g s sa f =
    let whole : IsSend (denote.Struct.Struct.Struct (shape (Inside.the_type T A g))) = struct_send
    (shape (Inside.the_type T A g)) (Vec-send T A g s sa f, tt) in record {
      owned = λ e vs. (
        (λ _. tt),
        (λ v. (
          tt,
          λ xs. (
            (tt, places T s e.base e.count 0 e.count xs),
            whole.owned
                (with_items v.vec xs, tt) vs,
          ),
        )),
      );
      leaving = λ _ _ _. tt;
    }
