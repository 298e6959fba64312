-- The parts of one piece of memory, as contracts see them.
use Rattle.std.specs.Prelude.{◌≡◌, ℕ, ◌+◌}
use denote.RawPtr.{Ptr}
use Rattle.arc_owners.specs.declared.memory.header_room.HeaderRoom.{HeaderRoom}
use Rattle.arc_memory.specs.Pieces.{behind}
use Rattle.arc_memory.specs.declared.places.Places.{Places}
use Rattle.arc_memory.specs.declared.piece.Piece.{Piece}
use Rattle.arc_memory.specs.declared.lent_places.PlacesInheritance.{PlacesInheritance}

module _ {T A : Type 0} where
  -- where its places begin
  abbrev pub piece_base : Piece T A → Ptr
  piece_base p = behind p.right.head p.right.place

  -- it is the room for this piece's header, which has this size
  abbrev pub IsRoomOf : {X : Type 0} → HeaderRoom X → ℕ × ℕ → Piece T A → Type 0
  IsRoomOf room head p = (room.at ≡ p.right.place) × (head ≡ p.right.head)

  -- all the places that a piece has
  abbrev pub IsAllOfPiece : Places T → Piece T A → Type 0
  IsAllOfPiece q p = (q.base ≡ piece_base p) × (q.whole ≡ p.count) × (q.start ≡ 0)
      × (q.count ≡ p.count)

  -- both together are all the places that a piece has, the first ones and those behind them
  abbrev pub AreAllOfPiece : Places T → Places T → Piece T A → Type 0
  AreAllOfPiece f q p = (f.base ≡ q.base) × (f.whole ≡ q.whole) × (q.base ≡ piece_base p)
      × (q.whole ≡ p.count) × (f.start ≡ 0) × (f.count ≡ q.start)
      × (q.start + q.count ≡ p.count)

  -- what comes back is all the places of this piece
  abbrev pub IsInheritanceOfPiece : PlacesInheritance T → Piece T A → Type 0
  IsInheritanceOfPiece k p = (k.memory.base ≡ piece_base p) × (k.memory.whole ≡ p.count)
      × (k.start ≡ 0) × (k.count ≡ p.count)
