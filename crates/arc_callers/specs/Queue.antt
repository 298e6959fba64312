-- Who gets a queue's buffer: the last that ends.
use Rattle.std.specs.Prelude.{◌≡◌, ℕ, Bool, false, length, Option, IfSome, is_some}
use Rattle.arc_owners.specs.declared.mark.Open.{Open}
use Rattle.arc_owners.specs.count.Calls.{Owner}
use Rattle.arc_block.specs.Place.{Place}
use Rattle.arc_parts.specs.Steps.{LeavesLastAt}
use Rattle.arc_parts.specs.Window.{Window, IsVecPart}
use Rattle.arc_read.specs.Steps.{WithNewPass}
use Rattle.arc_callers.specs.declared.queue.Read.{Read}

-- The owner that stands at a place ended by one step, and this says whether it was the last one: it
-- was exactly where no other owner of the block lived.
abbrev pub EndsAs : {M : Type 0} → Place (Option Owner) M → (last : Bool) → Type 0
EndsAs place last = WithNewPass {H = Open} (λ _ _ _. Unit {0}) place (λ before after.
    LeavesLastAt place before after last)

-- A part was read and ended. The vector is had exactly by the last one, with the bytes of its part;
-- of a part on no vector there is none.
pub record Reads {M : Type 0} (part : Window ℕ M) (told : Read) : Type 0 where
  pub len : told.len ≡ length part.items
  pub last : IsVecPart false part.items part.place → EndsAs part.place (is_some told.buffer)
  pub bytes : IfSome told.buffer (λ bytes. bytes.items ≡ part.items)
  pub none : ¬ IsVecPart false part.items part.place → is_some told.buffer ≡ false
