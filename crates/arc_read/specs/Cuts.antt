-- Cuts and splits of a read window.
use Rattle.std.specs.Prelude.{◌≡◌, ℕ, ◌<◌, Bool, if◌then◌else◌, ◌==◌, Option, length, take, drop}
use Rattle.arc_owners.specs.declared.count.tokens.Pass.{Pass}
use Rattle.arc_owners.specs.count.Calls.{Owner}
use Rattle.arc_buffer.specs.Slice.{sub}
use Rattle.arc_block.specs.Place.{Place, moved, part_place}
use Rattle.arc_parts.specs.Window.{Window}
use Rattle.arc_parts.specs.Steps.{Shares}

-- the window cut to the part from start to end: the same owner, at the same block also without
-- items
abbrev pub cut_window : {T M : Type 0} → Window T M → ℕ → ℕ → Window T M
cut_window w start end = record { items = sub w.items start end; place = moved start w.place }

-- where a new window over the part from start to end stands: on nothing where it has no items and
-- the layout has static data, else in the block
abbrev pub sub_place : {T M : Type 0} → Bool → Window T M → ℕ → ℕ → Place (Option Owner) M
sub_place has_static w start end = part_place has_static (sub w.items start end) start w.place

module _ {T M H : Type 0} where
  -- beside a window its part from start to end was made, as another owner, or with no items on
  -- nothing
  abbrev pub SharesPart : Bool → Window T M → ℕ → ℕ → Pass H → Pass H → Window T M → Type 0
  SharesPart has_static w start end old new part = (part.items ≡ sub w.items start end)
      × Shares (sub_place has_static w start end) old new part.place

  -- a window was split in two, and the back was handed out. At the front end that is the window
  -- itself, and the front is new; else the front is the window itself, and the back is new
  pub record SplitsOff (has_static : Bool) (w : Window T M) (at : ℕ) (old new : Pass H)
      (front back : Window T M) : Type 0 where
    pub lists : (front.items ≡ take at w.items) × (back.items ≡ drop at w.items)
    pub at_start : at ≡ 0 → (back ≡ w) × SharesPart has_static w 0 0 old new front
    pub later : 0 < at → (front ≡ cut_window w 0 at)
        × SharesPart has_static w at (length w.items) old new back

  -- a window was split in two, and the front was handed out. At the back end that is the window
  -- itself, and the back is new; else the back is the window itself, and the front is new
  pub record SplitsTo (has_static : Bool) (w : Window T M) (at : ℕ) (old new : Pass H)
      (front back : Window T M) : Type 0 where
    pub lists : (front.items ≡ take at w.items) × (back.items ≡ drop at w.items)
    pub at_end : at ≡ length w.items → (front ≡ w) × SharesPart has_static w at at old new back
    pub earlier : at < length w.items → (back ≡ cut_window w at (length w.items))
        × SharesPart has_static w 0 at old new front

-- where the new part of a split stands that hands out the back: it is the back, or at the front end
-- the front, without items
abbrev pub off_place : {T M : Type 0} → Bool → Window T M → ℕ → Place (Option Owner) M
off_place has_static w at = sub_place has_static w at (if at == 0 then 0 else length w.items)

-- where the new part of a split stands that hands out the front: it is the front, or at the back
-- end the back, without items
abbrev pub to_place : {T M : Type 0} → Bool → Window T M → ℕ → Place (Option Owner) M
to_place has_static w at = sub_place has_static w (if at == length w.items then at else 0) at
