-- A sole box is known by its memory and its owner: two proofs of what else it says are one.
use Rattle.std.proofs.Common.{◌≡◌, ℕ, subst}
use base.Stored.{Coded, Coded-set, coded_ℕ}
use Rattle.arc_owners.specs.declared.mark.Mark.{Ghosts}
use Rattle.arc_owners.specs.declared.memory.box_place.BoxPlace.{BoxPlace}
use Rattle.arc_owners.specs.declared.memory.counted_box.Housed.{Housed}
use Rattle.arc_owners.specs.declared.memory.inner.Inner.{Inner}
use Rattle.arc_owners.specs.declared.memory.sole_box.SoleBox.{SoleBox}
use Rattle.arc_owners.specs.count.Invariant.{block_id_coded}

module _ {V A H : Type 0} {MAX : ℕ} {G : Ghosts H} (b : SoleBox V A MAX H G) where
  -- the box with other memory
  abbrev over : (m : BoxPlace (Inner (Housed V A)) A) → m.value.word.most ≡ MAX
      → b.sole.right.block ≡ m.value.word → m.alloc ≡ m.value.value.alloc → SoleBox V A MAX H G
  over m greatest counted homed = record {
    memory = m;
    sole = b.sole;
    greatest = greatest;
    counted = counted;
    homed = homed;
  }

pub same_box : {V A H : Type 0} {MAX : ℕ} {G : Ghosts H} → Coded A → (b : SoleBox V A MAX H G)
    (m : BoxPlace (Inner (Housed V A)) A) → b.memory ≡ m → (greatest : m.value.word.most ≡ MAX)
    (counted : b.sole.right.block ≡ m.value.word) (homed : m.alloc ≡ m.value.value.alloc)
    → over b m greatest counted homed ≡ b
same_box {V} {A} {H} {MAX} {G} c b m e =
    let Same : BoxPlace (Inner (Housed V A)) A → Type 0 = λ n. (greatest : n.value.word.most ≡ MAX)
    (counted : b.sole.right.block ≡ n.value.word) (homed : n.alloc ≡ n.value.value.alloc)
    → over b n greatest counted homed ≡ b in
    subst Same e (λ x y z i. over b b.memory (Coded-set coded_ℕ _ _ x b.greatest i)
    (Coded-set block_id_coded _ _ y b.counted i) (Coded-set c _ _ z b.homed i))
