-- Who stands on no block has no items and no places.
use Rattle.std.proofs.Common.{◌≡◌, ◌↔◌, Bool, true, false, [], refl, ap}
use Rattle.std.specs.Prelude.{IsTrue}
use Rattle.arc_block.specs.Place.{IsOnBlock}
use Rattle.arc_parts.specs.Window.{PartsView}
use Rattle.arc_parts.specs.Writers.{capacity_of, idle_writer}

module _ {T M : Type 0} where
  is-idle : (b : Bool) (w : PartsView T M) → (IsTrue b ↔ IsOnBlock w.place)
      → (b ≡ false → w ≡ idle_writer) → ¬ IsOnBlock w.place → w ≡ idle_writer
  is-idle true w answer idle off = absurd (off (answer.0 refl))
  is-idle false w answer idle off = idle refl

  pub no_items : (b : Bool) (w : PartsView T M) → (IsTrue b ↔ IsOnBlock w.place)
      → (b ≡ false → w ≡ idle_writer) → ¬ IsOnBlock w.place → w.items ≡ []
  no_items b w answer idle off = ap (λ v. v.items) (is-idle b w answer idle off)

  pub no_places : (b : Bool) (w : PartsView T M) → (IsTrue b ↔ IsOnBlock w.place)
      → (b ≡ false → w ≡ idle_writer) → ¬ IsOnBlock w.place → capacity_of w.role ≡ 0
  no_places b w answer idle off = ap (λ v. capacity_of v.role) (is-idle b w answer idle off)
