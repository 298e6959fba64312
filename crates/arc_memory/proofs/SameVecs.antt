-- A vector is known by its allocation and its items.
use Rattle.std.proofs.Common.{◌≡◌, ◌^◌, ◌<◌, ◌≤◌, length}
use mathlib.Core.HLevel.{is_prop→PathP}
use native.Mathlib.Nat.{ℕ_set}
use Rattle.std.proofs.Math.Bridge.{le_prop}
use Rattle.std.specs.declared.vec.Vec.{Vec}
use Rattle.arc_memory.specs.Memory.{extent_of}

pub same_vec : {T A : Type 0} (v w : Vec T A) → extent_of v ≡ extent_of w → v.items ≡ w.items
    → v ≡ w
same_vec v w extent items = λ i. record {
  ptr = (extent i).base;
  len = (extent i).len;
  cap = (extent i).count;
  alloc = (extent i).allocator;
  items = items i;
  ok = is_prop→PathP (λ j. ((extent j).len ≡ length (items j))
      × ((extent j).len ≤ (extent j).count)) (λ j p q k. (ℕ_set _ _ p.0 q.0 k, le_prop p.1 q.1 k))
      v.ok w.ok i;
  small = is_prop→PathP (λ j. (extent j).count < 2 ^ 63) (λ j. le_prop) v.small w.small i;
}
