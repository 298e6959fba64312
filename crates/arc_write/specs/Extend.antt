-- Extending a write window by items that come one by one.
use Rattle.std.specs.Prelude.{◌≡◌, ℕ, Bool, List, [], ◌∷◌, Result, Ok, Err}
use Rattle.arc_owners.specs.declared.error.TryReserveError.{TryReserveError}
use Rattle.arc_owners.specs.count.Invariant.{BlockId, Line}
use Rattle.arc_sort_writers.specs.Growth.{AsksForRoom, IfAsked}
use Rattle.arc_block.specs.Given.{Given}
use Rattle.arc_parts.specs.Window.{PartsView}
use Rattle.arc_parts.specs.Writers.{room_for}
use Rattle.arc_writer_parts.specs.Roles.{AsksRoom, PushesItems}
use Rattle.arc_block.specs.Place.{size_at}
use Rattle.arc_read.specs.Steps.{WithNewPass}

-- one step for each of the items, in their order
abbrev pub EachOf : {T W : Type 0} → (T → W → W → Type 0) → List T → (old new : W) → Type 0
EachOf step [] old new = new ≡ old
EachOf {W = W} step (x ∷ xs) old new = (between : W) × step x old between
    × EachOf step xs between new

-- of windows under the mark H, in one role, whose callers' buffers have these lists and places, and
-- this leave to grow and to refuse
module _ {T M B : Type 0} (H : Type 0) (real : BlockId → ℕ → List Line → Type 0)
    (several drops one_pass : Bool) (item_size : ℕ) (list : B → List T) (places : B → ℕ)
    (grows : B → ℕ → ℕ → Type 0) (refuses : B → ℕ → TryReserveError → Type 0) where
  -- a caller's buffer, where one was asked for a place more, answered this
  abbrev AsksForOne : (old new : PartsView T (Given B M)) → Result (Unit {0}) TryReserveError
      → Type 0
  AsksForOne old new reply = IfAsked (room_for drops item_size old 1) (λ additional.
      AsksForRoom list places grows refuses old additional (size_at new.place) reply)

  -- one item was pushed, with a new pass of the window's block
  pub record PushesOne (x : T) (old new : PartsView T (Given B M)) : Type 0 where
    pub pushed : WithNewPass {H = H} real old.place (λ first last.
        PushesItems several drops one_pass item_size 1 (x ∷ []) old new first last)
    pub own : AsksForOne old new (Ok tt)

  -- the items were pushed one by one, in their order, each with a new pass
  abbrev pub PushesEach : List T → (old new : PartsView T (Given B M)) → Type 0
  PushesEach xs old new = EachOf PushesOne xs old new

  -- room for one item more was refused, with a new pass of the window's block
  pub record RefusesOne (e : TryReserveError) (old new : PartsView T (Given B M)) : Type 0 where
    pub refused : WithNewPass {H = H} real old.place (λ first last.
        AsksRoom several drops one_pass item_size 1 old new first last (Err e))
    pub own : AsksForOne old new (Err e)
