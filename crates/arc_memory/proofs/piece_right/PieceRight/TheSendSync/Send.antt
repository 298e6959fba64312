use Rattle.std.proofs.Common.{ℕ}
use mir.Syntax.{Ty}
use base.Fml.{Fml}
use base.Shift.{Keyless}
use denote.RattleType.{RattleType}
use denote.Param.Send.{IsSend, Frees}
use denote.RawPtr.{Ptr}
use Rattle.core.specs.Allocator.{array_of}
use Rattle.core.specs.declared.alloc.Allocator.{Ghosts}
use Rattle.arc_memory.specs.Pieces.{behind, units_of, piece_bytes, piece_right}
use Rattle.arc_memory.proofs.Keyless.{bare}
use Rattle.arc_memory.specs.contracts.piece_right.PieceRight.{the_row}

module _ (R : RattleType) (holds : Ty → Ptr → Fml) (free : (τ : Ty) (p : Ptr) → Keyless (holds τ p))
  where
    keyless : (head : ℕ × ℕ) (count : ℕ) (p : Ptr) → Keyless (piece_right R holds head count p)
    keyless head count p = let whole : Ty = units_of (piece_bytes R head count) in
        λ _. (
          (λ τ. ((tt, (bare τ p, bare (array_of R count) (behind head p))), bare whole p)),
          free
              whole p,
        )

-- the room for a header and the places that come, and the block that they make
pub send : (T A : RattleType) (g : Ghosts A.Denot) → IsSend A → Frees g g.dealloc_token
    → IsSend (the_row T A g)
send T A g sa f = record {
  owned = λ r vs. (
    (λ vss. (tt, ((λ uss. (tt, tt)), tt))),
    keyless T (g.dealloc_token r.alloc)
        (f.frees r.alloc) r.head r.count r.place,
  );
  leaving = λ _ _ _. tt;
}
